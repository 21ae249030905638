-- A list with an element in a place that it has.
use Rattle.std.proofs.Common.{◌≡◌, ◌∙◌, sym, ap, ℕ, ◌<◌, List, ◌∷◌, ◌++◌, length, take, drop, slice_set, add-one}
use Rattle.std.proofs.lemmas.List.{drop-set, take-append-drop, take-set}
use Rattle.rx_code.specs.Points.{with_element}

pub set_is : {A : Type 0} (xs : List A) (k : ℕ) (x : A) → k < length xs → slice_set xs k x ≡
    with_element k x xs
set_is xs k x h =
    sym (take-append-drop k (slice_set xs k x))
    ∙ ap (λ ys. ys ++ drop k (slice_set xs k x)) (take-set xs k x)
    ∙ ap (λ ys. take k xs ++ ys) (drop-set xs k x h ∙ ap (λ n. x ∷ drop n xs) (add-one k))
