-- A value taken on by each element of a list: what the elements that are left make of it.
use Rattle.std.proofs.Common.{◌≡◌, ◌∙◌, ap, ℕ, suc, ◌+◌, ◌<◌, ◌≤◌, sym, List, ◌∷◌, length, drop, get_or, drop_of_length-le, add-one}
use Rattle.std.proofs.Math.Seq.{drop-cons}
use Rattle.std.specs.List.{fold}

module _ {A B : Type 0} (f : B → A → B) (done : B) (xs : List A) (i : ℕ) where
  pub fold_next : {x : A} {whole : B} → i < length xs → x ≡ get_or xs i x →
      fold f done (drop i xs) ≡ whole → fold f (f done x) (drop (i + 1) xs) ≡ whole
  fold_next {x} h is e =
      ap (λ n. fold f (f done x) (drop n xs)) (add-one i)
      ∙ sym (ap (fold f done) (drop-cons xs i x h ∙ ap (λ y. y ∷ drop (suc i) xs) (sym is)))
      ∙ e

  pub fold_end : {whole : B} → length xs ≤ i → fold f done (drop i xs) ≡ whole → done ≡ whole
  fold_end h e = sym (ap (fold f done) (drop_of_length-le xs h)) ∙ e
