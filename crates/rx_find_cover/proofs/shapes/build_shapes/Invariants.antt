-- What is left of the shapes decides, with what was noted so far; the path is as before, and the
-- trees grow.
use Rattle.std.proofs.Common.{◌≡◌, drop, map}
use Rattle.rx_cover.specs.Covering.{symbol}
use Rattle.rx_solve.specs.Answers.{IsSolver}
use Rattle.rx_find_cover.specs.Coverable.{shapes_coverage}
use Rattle.rx_find_cover.specs.Coverage.{noting}
use Rattle.rx_cover.specs.Redexes.{shape_at}
use Rattle.rx_find_cover.proofs.Growing.{Growing}
use Rattle.rx_find_cover.proofs.shapes.build_shapes.Given as goal

abbrev pub invariant-loop-redex : goal.invariant-loop-redex
invariant-loop-redex g l = record {
  solver : IsSolver g.S.FnMut l.solve;
  decides :
      noting l.noted (shapes_coverage l.rules l.fn.path
      (map (shape_at (symbol l.sym)) (drop l.redex-index l.redexes)))
      ≡ shapes_coverage l.rules l.fn.path (map (shape_at (symbol l.sym)) l.redexes);
  kept : l.path ≡ l.fn.path;
  growing : Growing l.rules l.fn.path (map (shape_at (symbol l.sym)) l.redexes)
      (map (shape_at (symbol l.sym)) (drop l.redex-index l.redexes)) l.trees;
}
