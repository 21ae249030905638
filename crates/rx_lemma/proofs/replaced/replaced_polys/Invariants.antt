-- What is made so far, and then of those that are left, is all.
use Rattle.std.proofs.Common.{◌≡◌, ◌++◌, drop, map}
use Rattle.rx_lemma.specs.Repeated.{replaced_by}
use Rattle.rx_lemma.proofs.replaced.replaced_polys.Given as goal

abbrev pub invariant-loop-poly : goal.invariant-loop-poly
invariant-loop-poly l =
    l.made ++ map (replaced_by l.with) (drop l.poly-index l.polys) ≡
    map (replaced_by l.with) l.polys
