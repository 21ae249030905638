-- Those of the rules, and then those of the hypotheses.
use Rattle.std.proofs.Common.{◌||◌, subst, sym}
use Rattle.std.proofs.lemmas.List.Concat.{flat_map-append}
use Rattle.rx_rank.specs.Answers.{Gathers}
use Rattle.rx_rank.specs.Candidates.{all_candidates, rule_candidates}
use Rattle.rx_rank.proofs.Gathering.{both_gather}
use Rattle.rx_rank.proofs.candidates.push_stated.Goals as goal

pub returns : goal.returns
returns c =
    let a = c.args in
    let k = a.component.now in
    let names = k.names.now in
    let rules = k.parts.now.rules in
    let tries = rule_candidates names k.name a.arity in
    let first = subst (λ rs. Gathers (all_candidates names k.name rs a.arity) a.polys.now.items
    c.push_rules.new.polys.items c.in_ok-first.first) c.as_slice-rules.ensures
    c.in_ok-first.ensures in
    let both = both_gather (all_candidates names k.name rules a.arity)
    (all_candidates names k.name k.hypotheses.now a.arity) first c.in_ok-second.ensures in
    subst (λ ts. Gathers ts a.polys.now.items c.push_rules-2.new.polys.items
    (c.in_ok-first.first || c.in_ok-second.second))
    (sym (flat_map-append tries rules k.hypotheses.now)) both
