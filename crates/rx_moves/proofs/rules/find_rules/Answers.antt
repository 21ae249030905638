-- A rule isn't tried, doesn't apply, or is found.
use Rattle.std.proofs.Common.{◌∙◌, ap, sym}
use Rattle.rx_term.specs.declared.rule_set.RuleParts.{RuleParts}
use Rattle.rx_moves.proofs.RuleWalk.{begin, ended, ends, goes_on, numbered}
use Rattle.rx_moves.proofs.rules.find_rules.Goals as goal

pub loop-at-init : goal.loop-at-init
loop-at-init g c =
    record {
      solver = c.requires.solver;
      trying = λ state first. begin c.args.rules.now state c.args.side c.args.from;
    }

pub loop-at-preserved : goal.loop-at-preserved
loop-at-preserved g c =
    let same = c.as_slice-list.ensures ∙ ap (λ (p : RuleParts). p.rules) c.parts.ensures.parts in
    let so = numbered c.args.rules.now c.args.goal.now c.args.side c.args.from
    c.as_slice-list.result.now same c.loop-at.noted c.loop-at.at c.loop-at.invariant.trying
    c.index-list-at.result c.loop-at-test.true c.index-list-at.is c.in-Ok.number
    c.in_ok-find_rule.field-0 c.in-Ok.ensures.1 c.in_ok-find_rule.ensures.found in
    let trying = goes_on c.args.rules.now c.args.goal.now c.args.side c.args.from
    c.as_slice-list.result.now same c.loop-at.noted c.loop-at.at c.loop-at.invariant.trying c.index-list-at.result
    c.loop-at-test.true c.index-list-at.is
    (sym (c.is_tried.ensures c.args.rules.now c.requires.points) ∙ c.if-not-is_tried.false)
    c.in_ok-find_rule.field-0 c.after-tried.result so c.after-tried.ensures c.in-Ok-unready.noted
    c.in-Ok-unready.ensures in
    record { solver = c.in_ok-find_rule.ensures.solver; trying = trying }

pub returns-in-Err-clause-found : goal.returns-in-Err-clause-found
returns-in-Err-clause-found g c =
    let same = c.as_slice-list.ensures ∙ ap (λ (p : RuleParts). p.rules) c.parts.ensures.parts in
    let so = numbered c.args.rules.now c.args.goal.now c.args.side c.args.from
    c.as_slice-list.result.now same c.loop-at.noted c.loop-at.at c.loop-at.invariant.trying
    c.index-list-at.result c.loop-at-test.true c.index-list-at.is c.in-Ok.number
    c.in_ok-find_rule.field-0 c.in-Ok.ensures.1 c.in_ok-find_rule.ensures.found in
    ends c.args.rules.now c.args.goal.now c.args.side c.args.from c.as_slice-list.result.now
    same c.loop-at.noted c.loop-at.at c.loop-at.invariant.trying c.index-list-at.result
    c.loop-at-test.true c.index-list-at.is
    (sym (c.is_tried.ensures c.args.rules.now c.requires.points) ∙ c.if-not-is_tried.false)
    c.in_ok-find_rule.field-0 c.after-tried.result so c.after-tried.ensures c.in-Err.found
    c.in-Err.ensures

pub returns-clause-found : goal.returns-clause-found
returns-clause-found g c =
    ended c.args.rules.now c.args.goal.now c.args.side c.args.from c.as_slice-list.result.now
    (c.as_slice-list.ensures ∙ ap (λ (p : RuleParts). p.rules) c.parts.ensures.parts)
    c.loop-at.noted c.loop-at.at c.loop-at.invariant.trying c.loop-at-test.false
