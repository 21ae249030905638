-- A value that the elements of a list take on one by one: what it is so far, and what the others
-- still decide.
use Rattle.std.proofs.Common.{◌≡◌, ◌∙◌, ap, subst, true, false, refl, sym, ℕ, suc, ◌+◌, ◌<◌, ◌≤◌, List, ◌∷◌, length, drop, get_or, drop_of_length-le, add-one}
use Rattle.std.proofs.Math.Seq.{drop-cons}
use Rattle.rx_plain.specs.Formed.{Formed, fold_formed}
use Rattle.rx_plain.proofs.Forming.{then_false, then_true}

-- the value so far, taken on by the elements that are left, is the whole
pub record Folding {A B : Type 0} (step : B → A → Formed B) (done : B) (rest : List A)
    (whole : Formed B) : Type 0 where
  pub all : fold_formed step done rest ≡ whole

-- nothing is taken yet
pub begin : {A B : Type 0} (step : B → A → Formed B) (start : B) (xs : List A) →
    Folding step start (drop 0 xs) (fold_formed step start xs)
begin step start xs = record { all = refl }

module _ {A B : Type 0} {step : B → A → Formed B} {done : B} {whole : Formed B} (xs : List A)
    (i : ℕ) {x : A} (h : i < length xs) (is : x ≡ get_or xs i x)
    (m : Folding step done (drop i xs) whole) where
  opened : Folding step done (x ∷ drop (suc i) xs) whole
  opened =
      subst (λ rest. Folding step done rest whole)
      (drop-cons xs i x h ∙ ap (λ y. y ∷ drop (suc i) xs) (sym is)) m

  -- a step beyond the limits decides
  pub no_step : (step done x).within ≡ false → whole.within ≡ false
  no_step g =
      ap (λ (w : Formed B). w.within) (sym opened.all) ∙
      then_false (step done x) (λ next. fold_formed step next (drop (suc i) xs)) g

  -- one within them leaves it to the rest
  pub after_step : {next : B} → next ≡ (step done x).form → (step done x).within ≡ true →
      Folding step next (drop (i + 1) xs) whole
  after_step {next} e g =
      subst (λ n. Folding step next (drop n xs) whole) (sym (add-one i))
      (subst (λ b. Folding step b (drop (suc i) xs) whole) (sym e) (record {
        all =
            sym (then_true (step done x) (λ b. fold_formed step b (drop (suc i) xs)) g) ∙
            opened.all;
      }))

-- nothing is left
pub finished : {A B : Type 0} (step : B → A → Formed B) (done : B) (whole : Formed B) (xs : List A)
    (i : ℕ) → length xs ≤ i → Folding step done (drop i xs) whole → (done ≡ whole.form) ×
    (whole.within ≡ true)
finished {A} {B} step done whole xs i h m =
    let all = (subst (λ rest. Folding step done rest whole) (drop_of_length-le xs h) m).all in
    (ap (λ (w : Formed B). w.form) all, sym (ap (λ (w : Formed B). w.within) all))
