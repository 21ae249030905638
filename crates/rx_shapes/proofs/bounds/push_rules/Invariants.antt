-- What is added so far, and then for the rules that are left, is all.
use Rattle.std.proofs.Common.{drop}
use Rattle.rx_plain.specs.Formed.{fold_formed}
use Rattle.rx_plain.proofs.FoldedInOrder.{Folding}
use Rattle.rx_term.specs.declared.rule_set.RuleParts.{RuleParts}
use Rattle.rx_lemma.specs.Calls.{applied}
use Rattle.rx_pairs.specs.Loops.{AreLoopsOf}
use Rattle.rx_shapes.specs.Bounds.{with_rule}
use Rattle.rx_shapes.proofs.bounds.push_rules.Given as goal

abbrev pub invariant-loop-rule : goal.invariant-loop-rule
invariant-loop-rule l =
    (parts : RuleParts) → AreLoopsOf parts l.loops →
    Folding (with_rule parts (applied l.call)) l.rows (drop l.rule-index l.rules)
    (fold_formed (with_rule parts (applied l.call)) l.fn.rows l.rules)
