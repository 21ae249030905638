-- A thing up to the end of a line.
use Rattle.std.proofs.Common.{◌≡◌, ◌∙◌, refl, sym, ap, ℕ, ◌≤◌, eqb, Bool, true, false, cond, Option, Some, None, List, [], ◌++◌, length, drop, length-drop, arith}
use Rattle.std.proofs.lemmas.Bool.{eqb-true, eq-eqb}
use Rattle.std.proofs.lemmas.List.{append-nil, drop_all}
use Rattle.rx_text.specs.Formats.{BeginsWith, IsUnambiguous, Reads, StandsAt}
use Rattle.rx_words.specs.Words.{words}
use Rattle.rx_lines.specs.Texts.{IsText, ReadsAll, up_to_end}

module _ {A : Type 0} (text : A → List ℕ) (in_range : A → Bool) where
  whole_begins : {bytes : List ℕ} {x : A} → IsText (words text in_range) bytes x →
      BeginsWith (words text in_range) bytes x []
  whole_begins {bytes} {x} t =
      record { in_range = t.in_range; text = t.text ∙ sym (append-nil (text x)); over = refl }

  rest_is : {bytes : List ℕ} {at end : ℕ} {x : A} → StandsAt (words text in_range) bytes at x end →
      end ≡ length bytes → IsText (words text in_range) (drop at bytes) x
  rest_is {bytes} {at} {end} {x} s e = record {
    in_range = s.begins.in_range;
    text =
        s.begins.text ∙ ap (λ (r : List ℕ). text x ++ r) (drop_all end bytes (omega arith)) ∙
        append-nil (text x);
  }

  rest_longer : {bytes : List ℕ} {at end : ℕ} {x : A} → IsUnambiguous (words text in_range) →
      StandsAt (words text in_range) bytes at x end → (end ≡ length bytes → ⊥) →
      ReadsAll (words text in_range) (drop at bytes) None
  rest_longer {bytes} {at} {end} {x} once s longer y t =
      let same = once (drop at bytes) x y (drop end bytes) [] s.begins (whole_begins t) in
      let f : length (drop end bytes) ≡ 0 = ap length same.1 in
      let inside : end ≤ length bytes = s.inside in
      longer (omega (arith, length-drop end bytes))

  at_end : (bytes : List ℕ) (at : ℕ) (x : A) (end : ℕ) (b : Bool) → eqb end (length bytes) ≡ b →
      IsUnambiguous (words text in_range) → StandsAt (words text in_range) bytes at x end →
      ReadsAll (words text in_range) (drop at bytes) (cond b (Some x) None)
  at_end bytes at x end true e once s = rest_is s (eqb-true end (length bytes) e)
  at_end bytes at x end false e once s =
      rest_longer once s
      (λ same. let f : true ≡ false = sym (eq-eqb end (length bytes) same) ∙ e in cc)

  -- what was read up to the end of the bytes is all of them
  pub all_read : IsUnambiguous (words text in_range) → (bytes : List ℕ) (at : ℕ)
      (found : Option (A × ℕ)) → Reads (words text in_range) bytes at found →
      ReadsAll (words text in_range) (drop at bytes) (up_to_end bytes found)
  all_read once bytes at None never = λ y t. never y [] (whole_begins t)
  all_read once bytes at (Some read) s =
      at_end bytes at read.0 read.1 (eqb read.1 (length bytes)) refl once s

  -- a whole text is one thing's
  pub whole_once : IsUnambiguous (words text in_range) → (bytes : List ℕ) (x y : A) →
      IsText (words text in_range) bytes x → IsText (words text in_range) bytes y → x ≡ y
  whole_once once bytes x y t u = (once bytes x y [] [] (whole_begins t) (whole_begins u)).0
