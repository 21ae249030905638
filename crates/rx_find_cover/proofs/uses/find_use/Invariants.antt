-- What is left of the rules decides, with what was noted so far.
use Rattle.std.proofs.Common.{◌≡◌, drop}
use Rattle.rx_cover.specs.Covering.{symbol}
use Rattle.rx_solve.specs.Answers.{IsSolver}
use Rattle.rx_term.specs.Paired.{rules_of_shape}
use Rattle.rx_find_cover.specs.Coverable.{using}
use Rattle.rx_find_cover.specs.Coverage.{noting}
use Rattle.rx_cover.specs.Redexes.{shape_at}
use Rattle.rx_find_cover.proofs.uses.find_use.Given as goal

abbrev pub invariant-loop-number : goal.invariant-loop-number
invariant-loop-number g l = record {
  solver : IsSolver g.S.FnMut l.solve;
  decides :
      noting l.noted (using l.path (rules_of_shape (shape_at (symbol l.sym) l.redex)
      (drop l.number l.rules)))
      ≡ using l.path (rules_of_shape (shape_at (symbol l.sym) l.redex) l.rules);
}
