-- The pairs so far are those that were there and those of the first rules.
use Rattle.std.proofs.Common.{◌++◌, List, take}
use Rattle.rx_term.specs.declared.rule.Rule.{Rule}
use Rattle.rx_pairs.specs.Pairs.{AreAllPairs}
use Rattle.rx_pairs.proofs.pairs.push_pairs.Given as goal

abbrev pub invariant-loop-rule : goal.invariant-loop-rule
invariant-loop-rule l =
    (before : List Rule) → AreAllPairs before l.initial.pairs.items →
    AreAllPairs (before ++ take l.rule-index l.rules) l.pairs.items
