-- Natural numbers: sums with small numbers, and a limit that a greater number keeps.
use Rattle.std.proofs.Common.{◌≡◌, ℕ, suc, ◌+◌, ◌≤◌, true, nat_le, arith}
use Rattle.std.proofs.lemmas.Bool.Decides.{nat_tests}

pub one_more : (n : ℕ) → 1 + n ≡ suc n
one_more n = omega arith

-- one is counted on the other side
pub one_moved : (n m : ℕ) → (n + 1) + m ≡ n + suc m
one_moved n m = omega arith

pub two_more : (n : ℕ) → n + 1 + 1 ≡ n + 2
two_more n = omega arith

pub three_more : (n : ℕ) → n + 2 + 1 ≡ n + 3
three_more n = omega arith

-- what keeps no limit but that of a greater one
pub limit_kept : (m n limit : ℕ) → m ≤ n → nat_le n limit ≡ true → nat_le m limit ≡ true
limit_kept m n limit h g = grind (arith, nat_tests)
