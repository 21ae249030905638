-- What a walk along a list, from the front, says of the greatest depth in it.
use Rattle.std.proofs.Common.{◌≡◌, ◌∙◌, ap, ℕ, suc, ◌<◌, ◌≤◌, max, nat_le, true, false, sym, List, length, drop, get_or, drop_of_length-le, arith}
use Rattle.std.proofs.Math.Seq.{drop-cons}
use Rattle.std.proofs.lemmas.Bool.Decides.{nat_tests}
use Rattle.rx_poly.specs.Limits.{greatest}

first_over : (a b n : ℕ) → nat_le a n ≡ false → nat_le (max a b) n ≡ false
first_over a b n h = grind (arith, nat_tests)

-- where the rest decides and its first part is too deep, the whole is too deep
pub too_deep : {X : Type 0} (f : X → ℕ) (xs : List X) (i n : ℕ) (x : X) → i < length xs → x ≡
    get_or xs i x → nat_le (f x) n ≡ false → nat_le (greatest f (drop i xs)) n ≡
    nat_le (greatest f xs) n → false ≡ nat_le (greatest f xs) n
too_deep f xs i n x h is over decides =
    let one : nat_le (f (get_or xs i x)) n ≡ false = ap (λ y. nat_le (f y) n) (sym is) ∙ over in
    sym (first_over (f (get_or xs i x)) (greatest f (drop (suc i) xs)) n one) ∙
    ap (λ ys. nat_le (greatest f ys) n) (sym (drop-cons xs i x h)) ∙ decides

-- where the rest decides and nothing is left, the whole is not too deep
pub not_deep : {X : Type 0} (f : X → ℕ) (xs : List X) (i n : ℕ) → length xs ≤ i →
    nat_le (greatest f (drop i xs)) n ≡ nat_le (greatest f xs) n → true ≡ nat_le (greatest f xs) n
not_deep f xs i n h decides =
    let none : true ≡ nat_le 0 n = grind (arith, nat_tests) in
    none ∙ ap (λ ys. nat_le (greatest f ys) n) (sym (drop_of_length-le xs h)) ∙ decides
