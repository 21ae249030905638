-- The first rules fit.
use Rattle.std.proofs.Common.{All, take}
use Rattle.rx_pairs.specs.Pairs.{SidesFit}
use Rattle.test_search.proofs.search_calls.have_fitting_sides.Given as goal

abbrev pub invariant-loop-rule : goal.invariant-loop-rule
invariant-loop-rule l = All (SidesFit l.set) (take l.rule-index l.rules)
