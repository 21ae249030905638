-- The lemmas so far are those of the generalisations so far.
use Rattle.std.proofs.Common.{map}
use Rattle.rx_lemma.specs.Lemmas.{found_as}
use Rattle.rx_solve.specs.Answers.{IsSolver}
use Rattle.rx_find_lemmas.specs.Trials.{AreTried}
use Rattle.rx_find_lemmas.proofs.finding.try_each.Given as goal

abbrev pub invariant-loop-general : goal.invariant-loop-general
invariant-loop-general g l = record {
  solver : IsSolver g.S.FnMut l.solve;
  are : AreTried l.rules l.goal (map found_as l.yielded) l.found;
}
