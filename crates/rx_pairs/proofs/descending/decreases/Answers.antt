-- The ranks decide first. Where they are lawful, the rules are well made, and the pairs decide.
use Rattle.std.proofs.Common.{◌∙◌, ◌++◌, ap, refl, subst, sym, Err, List, Result, All}
use Rattle.rx_term.specs.declared.rule.Rule.{Rule}
use Rattle.rx_pairs.specs.Descents.{Tells, TellsRanked}
use Rattle.rx_pairs.specs.Inside.{descends_in}
use Rattle.rx_pairs.specs.Pairs.{HasRoot}
use Rattle.rx_pairs.specs.Ranks.{bad_rank}
use Rattle.rx_pairs.specs.declared.pair_end.PairEnd.{PairEnd}
use Rattle.rx_pairs.specs.declared.pair_end.PairEnd.TheVariants.{BadRanks}
use Rattle.rx_pairs.proofs.DescendingLaws.{lowers_all, told_ranked}
use Rattle.rx_pairs.proofs.PairsLaws.{made_roots}
use Rattle.rx_pairs.proofs.descending.decreases.Goals as goal

pub both_lower-requires-clause-rules : goal.both_lower-requires-clause-rules
both_lower-requires-clause-rules c =
    let parts = c.args.rules.now in
    let rules = c.as_slice.ensures ∙ ap (λ all. all.rules) c.parts-parts.ensures.parts in
    subst (All HasRoot) (sym rules) (made_roots parts parts.rules c.parts-parts.ensures.made)

pub returns-in-Some-clause-exact : goal.returns-in-Some-clause-exact
returns-in-Some-clause-exact c =
    let bad : Result (Unit {0}) PairEnd = Err (BadRanks c.in-Some.sym) in
    subst (λ found. TellsRanked found (descends_in c.args.rules.now
    (c.args.rules.now.rules ++ c.args.hypotheses.now) c.args.table.now c.args.certs.now) bad)
    c.in-Some.ensures refl

pub returns-clause-exact : goal.returns-clause-exact
returns-clause-exact c =
    let parts = c.args.rules.now in
    let rules = c.as_slice.ensures ∙ ap (λ all. all.rules) c.parts-parts.ensures.parts in
    told_ranked (descends_in parts (parts.rules ++ c.args.hypotheses.now) c.args.table.now
    c.args.certs.now) (bad_rank parts c.args.table.now) c.both_lower.result
    (sym c.in_default.ensures)
    (subst (λ (rs : List Rule). Tells (descends_in parts (rs ++ c.args.hypotheses.now)
    c.args.table.now c.args.certs.now) c.both_lower.result) rules c.both_lower.ensures)

pub returns-clause-lowers : goal.returns-clause-lowers
returns-clause-lowers c =
    let parts = c.args.rules.now in
    let rules = c.as_slice.ensures ∙ ap (λ all. all.rules) c.parts-parts.ensures.parts in
    lowers_all parts c.args.hypotheses.now c.args.table.now c.args.certs.now
    c.both_lower.result c.parts-parts.ensures.made c.requires (sym c.in_default.ensures)
    (subst (λ (rs : List Rule). Tells (descends_in parts (rs ++ c.args.hypotheses.now)
    c.args.table.now c.args.certs.now) c.both_lower.result) rules c.both_lower.ensures)
