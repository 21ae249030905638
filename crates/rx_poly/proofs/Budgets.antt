-- A walk along a list that takes the size of each element from a budget.
use Rattle.std.proofs.Common.{◌≡◌, ap, ℕ, ◌+◌, ◌-◌, ◌<◌, ◌≤◌, List, length, drop, get_or, arith}
use Rattle.std.proofs.lemmas.List.Sums.{sum_by-drop_more}
use Rattle.std.specs.List.{sum_by}

-- once an element's size is taken, what is left and what is after it still come to the same
pub one_taken : {X : Type 0} (f : X → ℕ) (xs : List X) (i : ℕ) (x : X) → i < length xs → x ≡
    get_or xs i x → (before left budget all : ℕ) → before + all ≡ budget + sum_by f (drop i xs) →
    f x ≤ before → left ≡ before - f x → left + all ≡ budget + sum_by f (drop (i + 1) xs)
one_taken f xs i x h is before left budget all e fits l =
    let rest = sum_by-drop_more f xs i x h in
    let same : f x ≡ f (get_or xs i x) = ap f is in
    omega (arith, rest, same, e, fits, l)
