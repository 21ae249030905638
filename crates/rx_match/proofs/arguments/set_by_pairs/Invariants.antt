-- What is set so far, and then by the pairs that are left, is all.
use Rattle.std.proofs.Common.{◌≡◌, drop}
use Rattle.std.specs.List.{zip}
use Rattle.rx_match.specs.Arguments.{set_by_pairs}
use Rattle.rx_match.proofs.arguments.set_by_pairs.Given as goal

abbrev pub invariant-loop-pattern : goal.invariant-loop-pattern
invariant-loop-pattern l =
    set_by_pairs (zip (drop l.pattern-index l.patterns) l.others) l.settings ≡
    set_by_pairs (zip l.patterns l.polys) l.initial.settings
