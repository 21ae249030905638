use Rattle.std.proofs.Common.{◌≡◌, drop}
use Rattle.rx_poly.specs.Substitution.{replaced}
use Rattle.rx_poly.proofs.substitution.listed_for.Given as goal

abbrev pub invariant-loop-pair : goal.invariant-loop-pair
invariant-loop-pair l = replaced (drop l.pair-index l.with) l.at ≡ replaced l.with l.at
