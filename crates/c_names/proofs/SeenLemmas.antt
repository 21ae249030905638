-- A table of names that one more word was added to.
use Rattle.std.proofs.Common.{◌≡◌, ◌∙◌, ap, ℕ, Bool, true, false, refl, sym, List, [], ◌∷◌, Option, Some, None, cond, if◌then◌else◌}
use Rattle.std.specs.Borrow.{Bor}
use Rattle.std.specs.Map.{lookup}
use Rattle.std.specs.Option.{option_or}
use Rattle.std.specs.Str.{bytes_eq}
use Rattle.indexmap.specs.IndexMap.{insert_entry}
use Rattle.std.proofs.lemmas.Slice.Eq.{bytes_eq-Decides}
use Rattle.c_names.specs.Seen.{number_in}
use Rattle.c_names.proofs.Places.{turned}

-- how the table compares its words
abbrev pub alike : Bor (List ℕ) → Bor (List ℕ) → Bool
alike v w = bytes_eq v.now w.now

or_none : (o : Option ℕ) → o ≡ option_or o None
or_none None = refl
or_none (Some n) = refl

-- a word that isn't in the table is found after all others
pub entered : (v : Bor (List ℕ)) (n : ℕ) (w : List ℕ) (es : List (Bor (List ℕ) × ℕ)) →
    number_in es v.now ≡ None → number_in (insert_entry alike es v n) w ≡
    option_or (number_in es w) (if bytes_eq v.now w then Some n else None)
entered v n w [] e = ap (λ b. cond b (Some n) None) (turned w v.now)
entered v n w (x ∷ es) e =
    by (bytes_eq v.now (x.0).now) refl (bytes_eq w (x.0).now) refl (entered v n w es)
  where
    by : (a : Bool) → bytes_eq v.now (x.0).now ≡ a → (b : Bool) → bytes_eq w (x.0).now ≡ b →
        (number_in es v.now ≡ None → number_in (insert_entry alike es v n) w ≡
        option_or (number_in es w) (if bytes_eq v.now w then Some n else None))
        → number_in (cond (bytes_eq v.now (x.0).now) ((x.0, n) ∷ es)
        (x ∷ insert_entry alike es v n)) w ≡
        option_or (cond (bytes_eq w (x.0).now) (Some x.1) (number_in es w))
        (if bytes_eq v.now w then Some n else None)
    by true f b g rest =
        let some : Some x.1 ≡ None = sym (ap (λ c. cond c (Some x.1) (number_in es v.now)) f) ∙ e in
        cc
    by false f true g rest =
        ap (λ c. number_in (cond c ((x.0, n) ∷ es) (x ∷ insert_entry alike es v n)) w) f
        ∙ ap (λ c. cond c (Some x.1) (number_in (insert_entry alike es v n) w)) g
        ∙ sym (ap (λ c. option_or (cond c (Some x.1) (number_in es w))
        (if bytes_eq v.now w then Some n else None)) g)
    by false f false g rest =
        ap (λ c. number_in (cond c ((x.0, n) ∷ es) (x ∷ insert_entry alike es v n)) w) f
        ∙ ap (λ c. cond c (Some x.1) (number_in (insert_entry alike es v n) w)) g
        ∙ rest (sym (ap (λ c. cond c (Some x.1) (number_in es v.now)) f) ∙ e)
        ∙ sym (ap (λ c. option_or (cond c (Some x.1) (number_in es w))
        (if bytes_eq v.now w then Some n else None)) g)

-- a word that is in the table stays, and so do all others
pub stands : (v w : List ℕ) (n m : ℕ) (es : List (Bor (List ℕ) × ℕ)) → number_in es v ≡ Some m →
    number_in es w ≡ option_or (number_in es w) (if bytes_eq v w then Some n else None)
stands v w n m es e = by (bytes_eq v w) refl (number_in es w) refl
  where
    by : (b : Bool) → bytes_eq v w ≡ b → (o : Option ℕ) → number_in es w ≡ o → number_in es w ≡
        option_or (number_in es w) (if bytes_eq v w then Some n else None)
    by false f o g =
        or_none (number_in es w) ∙ ap (λ c. option_or (number_in es w) (cond c (Some n) None))
        (sym f)
    by true f None g =
        let some : Some m ≡ None = sym e ∙ ap (number_in es) ((bytes_eq-Decides v w).0 f) ∙ g in cc
    by true f (Some k) g = g ∙ sym (ap (λ o. option_or o (if bytes_eq v w then Some n else None)) g)

pub ruleset tables = (entered, stands)
