-- Elements of lists by their places.
use Rattle.std.proofs.Common.{◌≡◌, ◌∙◌, ap, sym, subst, refl, arith, ℕ, zero, suc, ◌+◌, ◌<◌, ◌≤◌, Some, None, List, [], ◌∷◌, length, drop, slice_get, Contains, get_or}
use Rattle.std.proofs.lemmas.Option.{none-some, same_Some, slice_get-get_or}
use Rattle.rx_plain.proofs.Kept.{first_one, other_one}

-- the element at a place is one of the list
pub at_place : {A : Type 0} (xs : List A) (i : ℕ) (x : A) → slice_get xs i ≡ Some x → Contains xs x
at_place [] i x there = absurd (none-some x there)
at_place (y ∷ ys) zero x there = subst (Contains (y ∷ ys)) (same_Some y x there) (first_one y ys)
at_place (y ∷ ys) (suc i) x there = other_one y ys x (at_place ys i x there)

from_place_suc : {A : Type 0} (xs : List A) (i : ℕ) (x : A) → slice_get xs i ≡ Some x → drop i xs ≡
    x ∷ drop (suc i) xs
from_place_suc [] i x there = absurd (none-some x there)
from_place_suc (y ∷ ys) zero x there = ap (λ z. z ∷ ys) (same_Some y x there)
from_place_suc (y ∷ ys) (suc i) x there = from_place_suc ys i x there

-- from its place on, the list begins with it
pub from_place : {A : Type 0} (xs : List A) (i : ℕ) (x : A) → slice_get xs i ≡ Some x → drop i xs ≡
    x ∷ drop (i + 1) xs
from_place xs i x there =
    let next : suc i ≡ i + 1 = omega arith in
    from_place_suc xs i x there ∙ ap (λ k. x ∷ drop k xs) next

-- where there is none, nothing is left
pub from_nowhere : {A : Type 0} (xs : List A) (i : ℕ) → slice_get xs i ≡ None → drop i xs ≡ []
from_nowhere [] zero none = refl
from_nowhere [] (suc i) none = refl
from_nowhere (y ∷ ys) zero none = absurd (none-some y (sym none))
from_nowhere (y ∷ ys) (suc i) none = from_nowhere ys i none

-- and the place is no place of the list
pub from_end : {A : Type 0} (xs : List A) (i : ℕ) → slice_get xs i ≡ None → length xs ≤ i
from_end [] i none = omega arith
from_end (y ∷ ys) zero none = absurd (none-some y (sym none))
from_end (y ∷ ys) (suc i) none = let h = from_end ys i none in omega (arith, h)

-- what is read at a place of the list is the element there
pub at_some : {A : Type 0} (xs : List A) (i : ℕ) (x d : A) → i < length xs → x ≡ get_or xs i d →
    slice_get xs i ≡ Some x
at_some xs i x d there is = slice_get-get_or xs i d there ∙ ap Some (sym is)
