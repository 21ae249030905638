-- None of the first left sides is one.
use Rattle.std.proofs.Common.{All, take}
use Rattle.rx_pairs.specs.Pairs.{HasRoot}
use Rattle.rx_pairs.proofs.pairs.have_roots.Given as goal

abbrev pub invariant-loop-rule : goal.invariant-loop-rule
invariant-loop-rule l = All HasRoot (take l.rule-index l.rules)
