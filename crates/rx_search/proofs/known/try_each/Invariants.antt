-- What is known is of the choices so far.
use Rattle.std.proofs.Common.{map}
use Rattle.rx_solve.specs.Answers.{IsSolver}
use Rattle.rx_steps.specs.Alone.{alone}
use Rattle.rx_search.specs.Known.{AreOf}
use Rattle.rx_search.specs.Menu.{attempted_by}
use Rattle.rx_search.proofs.known.try_each.Given as goal

abbrev pub invariant-loop-candidate : goal.invariant-loop-candidate
invariant-loop-candidate g l = record {
  solver : IsSolver g.S.FnMut l.solve;
  are : AreOf l.rules l.goal (map (attempted_by l.rules (alone l.goal)) l.yielded) l.known;
}
