-- Those so far, and then those for what is left, are all.
use Rattle.std.proofs.Common.{◌≡◌, ◌++◌, ◌+◌, drop}
use Rattle.std.specs.List.{enumerate_from}
use Rattle.rx_lemma.proofs.replaced.new_variables.Given as goal

abbrev pub invariant-loop-poly : goal.invariant-loop-poly
invariant-loop-poly l = record {
  numbered : l.number ≡ l.first + l.poly-index;
  all : l.with ++ enumerate_from l.number (drop l.poly-index l.polys) ≡
      enumerate_from l.first l.polys;
}
