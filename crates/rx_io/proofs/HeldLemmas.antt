-- A name's first entry, and what is left after a take.
use Rattle.std.proofs.Common.{◌≡◌, ◌≤◌, ◌++◌, ℕ, List, None, Some, inl, inr, ap, ◌∙◌, cond, length, take, drop, arith, string_bytes, position, nat_lt}
use Rattle.std.proofs.lemmas.Bool.{lt-ltb, le-ltb}
use Rattle.std.proofs.lemmas.Grind.{common_steps}
use Rattle.std.proofs.lemmas.List.Folds.{find_at}
use Rattle.std.proofs.lemmas.Option.{slice_get_cases}
use Rattle.std.specs.List.{slice_get, position_or_len}
use Rattle.std.specs.Option.{option_map}
use Rattle.std.specs.Str.{bytes_eq}
use Rattle.rx_io.specs.declared.memory_files.Opened.{Opened}
use Rattle.rx_io.specs.Held.{Entry, names_of, left_of}

-- the file of an entry, from its beginning
abbrev pub opened_at : ℕ → Opened
opened_at entry = record { entry = entry; taken = 0 }

-- an entry opened at its beginning has its whole content left
content_at : (held : List Entry) (i : ℕ) → option_map (λ (entry : Entry). entry.1.items)
    (slice_get held i) ≡ option_map (λ entry. left_of held (Some (opened_at entry)))
    (cond (nat_lt i (length held)) (Some i) None)
content_at held i =
    elim (slice_get_cases held i).1 [
      | inl x ↦ rw (lt-ltb i (length held) x.1, x.2)
      | inr x ↦ rw (le-ltb i (length held) x.0, x.1)
    ]

-- what a name holds is what is left of its first entry, opened at its beginning
pub named_entry : (held : List Entry) (name : List ℕ) → names_of held name ≡
    option_map (λ entry. left_of held (Some (opened_at entry)))
    (position (λ (entry : Entry). bytes_eq (string_bytes entry.0) name) held)
named_entry held name =
    let test = λ (entry : Entry). bytes_eq (string_bytes entry.0) name in
    ap (option_map (λ (entry : Entry). entry.1.items)) (find_at test held) ∙
    content_at held (position_or_len test held)

-- what was moved into the front of a buffer, before the rest, is the whole
pub moved_front : (rest into : List ℕ) (count : ℕ) → count ≤ length rest → rest ≡
    take count (take count rest ++ drop count into) ++ drop count rest
moved_front rest into count fits = grind (arith, common_steps)
