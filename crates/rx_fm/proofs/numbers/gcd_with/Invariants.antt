use Rattle.std.proofs.Common.{◌≡◌, ◌≤ℤ◌, pos, drop, unsigned_abs}
use Rattle.rx_fm.specs.Numbers.{gcd_with, sizes_fit}
use Rattle.rx_fm.proofs.numbers.gcd_with.Given as goal

abbrev pub invariant-loop-number : goal.invariant-loop-number
invariant-loop-number l =
    (pos 0 ≤ℤ l.common) × (sizes_fit (drop l.number-index l.others) ≡ sizes_fit l.others)
    × (gcd_with (unsigned_abs l.common) (drop l.number-index l.others) ≡
    gcd_with (unsigned_abs l.first) l.others)
