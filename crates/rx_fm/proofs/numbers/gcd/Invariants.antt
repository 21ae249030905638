use Rattle.std.proofs.Common.{◌≡◌, ◌≤ℤ◌, pos, unsigned_abs}
use Rattle.rx_fm.specs.Numbers.{gcd}
use Rattle.rx_fm.proofs.numbers.gcd.Given as goal

abbrev pub invariant-loop-y : goal.invariant-loop-y
invariant-loop-y l =
    (pos 0 ≤ℤ l.x) × (pos 0 ≤ℤ l.y) × (gcd (unsigned_abs l.x) (unsigned_abs l.y) ≡
    gcd (unsigned_abs l.fn.left) (unsigned_abs l.fn.right))

abbrev pub decreases-loop-y : goal.decreases-loop-y
decreases-loop-y l = unsigned_abs l.y
