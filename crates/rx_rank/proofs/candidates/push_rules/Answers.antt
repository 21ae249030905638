-- The candidates of one rule more.
use Rattle.std.proofs.Common.{◌+◌, subst, drop, drop_of_length-le}
use Rattle.std.specs.List.{flat_map}
use Rattle.rx_term.proofs.Places.{at_some, from_place}
use Rattle.rx_rank.specs.Candidates.{all_candidates, rule_candidates}
use Rattle.rx_rank.proofs.Gathering.{Gathering, after_some, finished}
use Rattle.rx_rank.proofs.candidates.push_rules.Goals as goal

pub loop-rule-preserved : goal.loop-rule-preserved
loop-rule-preserved c =
    let names = c.args.names.now in
    let rules = c.args.rules.now in
    let i = c.loop-rule.rule-index in
    let rule = c.rule-item.result in
    let before = c.args.polys.now.items in
    let whole = all_candidates names c.args.name rules c.args.arity in
    let opened = subst (λ rs. Gathering before c.loop-rule.polys.items c.loop-rule.noted
    (all_candidates names c.args.name rs c.args.arity) whole)
    (from_place rules i rule (at_some rules i rule rule c.loop-rule-test.true c.rule-item.is))
    c.loop-rule.invariant in
    let rest = all_candidates names c.args.name (drop (i + 1) rules) c.args.arity in
    after_some (rule_candidates names c.args.name c.args.arity rule) rest whole opened
    c.in_ok-more.ensures

pub returns : goal.returns
returns c =
    let rules = c.args.rules.now in
    let tries = rule_candidates c.args.names.now c.args.name c.args.arity in
    let whole = flat_map tries rules in
    finished whole
    (subst (λ rs. Gathering c.args.polys.now.items c.loop-rule.polys.items c.loop-rule.noted
    (flat_map tries rs) whole) (drop_of_length-le rules c.loop-rule-test.false)
    c.loop-rule.invariant)
