use Rattle.std.proofs.Common.{◌≡◌, ◌++◌, drop, unsigned_abs}
use Rattle.rx_fm.specs.Numbers.{quotients}
use Rattle.rx_fm.proofs.numbers.quotients.Given as goal

abbrev pub invariant-loop-number : goal.invariant-loop-number
invariant-loop-number l =
    l.made ++ quotients (unsigned_abs l.by) (drop l.number-index l.numbers) ≡
    quotients (unsigned_abs l.by) l.numbers
