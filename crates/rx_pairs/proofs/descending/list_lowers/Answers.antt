-- One turn of the walk, and its end.
use Rattle.std.proofs.Common.{◌≡◌, Some, slice_get}
use Rattle.std.proofs.lemmas.Result.{err_from_is_err_and}
use Rattle.rx_term.proofs.Places.{at_some}
use Rattle.rx_pairs.proofs.DescendingLaws.{rule_done, rule_refused, rules_done}
use Rattle.rx_pairs.proofs.descending.list_lowers.Goals as goal

pub returns-in_err-next-clause-decides : goal.returns-in_err-next-clause-decides
returns-in_err-next-clause-decides c = λ rest.
    let p = err_from_is_err_and c.from_residual.result c.from_residual.ensures.1 in
    let list = c.args.list.now in
    let i = c.loop-rule.rule-index in
    let rule = c.rule-item.result in
    let there : slice_get list i ≡ Some rule =
    at_some list i rule rule c.loop-rule-test.true c.rule-item.is in
    rw (p.1, p.2)
    (rule_refused c.args.rules.now c.args.witness list i c.args.number c.loop-rule.next rule
    c.in_err-next.field-0.0 there c.in_err-next.ensures.decides c.loop-rule.invariant.decides rest)

pub loop-rule-preserved : goal.loop-rule-preserved
loop-rule-preserved c =
    let list = c.args.list.now in
    let i = c.loop-rule.rule-index in
    let rule = c.rule-item.result in
    let there : slice_get list i ≡ Some rule =
    at_some list i rule rule c.loop-rule-test.true c.rule-item.is in
    record {
      decides =
          rule_done c.args.rules.now c.args.witness list i c.args.number c.loop-rule.next
          c.in_ok-next.next rule there c.in_ok-next.ensures.decides
          c.loop-rule.invariant.decides;
      there = c.in_ok-next.ensures.there;
    }

pub returns-clause-decides : goal.returns-clause-decides
returns-clause-decides c =
    rules_done c.args.rules.now c.args.witness c.args.list.now c.loop-rule.rule-index
    c.args.number c.loop-rule.next c.loop-rule-test.false c.loop-rule.invariant.decides
