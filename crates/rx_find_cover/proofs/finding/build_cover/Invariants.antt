-- What is left of the symbols decides, with what was noted so far; and the lists grow.
use Rattle.std.proofs.Common.{◌≡◌, drop}
use Rattle.rx_solve.specs.Answers.{IsSolver}
use Rattle.rx_find_cover.specs.Coverable.{coverage, symbols_coverage}
use Rattle.rx_find_cover.specs.Coverage.{noting}
use Rattle.rx_find_cover.proofs.Growing.{Listing}
use Rattle.rx_find_cover.proofs.finding.build_cover.Given as goal

abbrev pub invariant-loop-sym : goal.invariant-loop-sym
invariant-loop-sym g l = record {
  solver : IsSolver g.S.FnMut l.solve;
  decides : noting l.noted (symbols_coverage l.parts l.sym
      (drop l.sym l.parts.symbols)) ≡ coverage l.parts;
  listing : Listing l.parts l.sym (drop l.sym l.parts.symbols) l.lists;
}
