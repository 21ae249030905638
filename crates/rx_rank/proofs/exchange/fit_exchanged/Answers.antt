-- The symbols are those of the component, parted anew.
use Rattle.std.proofs.Common.{◌∙◌, ap, subst, sym}
use Rattle.rx_rank.specs.Answers.{AreOf, pairs_at}
use Rattle.rx_rank.specs.Ranking.{fit_by, is_exchanged, most_choices_exchanged}
use Rattle.rx_rank.proofs.ComponentLaws.{parted_members}
use Rattle.rx_rank.proofs.exchange.fit_exchanged.Goals as goal

pub fit_by-requires-clause-members : goal.fit_by-requires-clause-members
fit_by-requires-clause-members g c =
    let k = c.args.component.now in
    subst (AreOf k.names.now k.name) (sym c.in_ok-members.ensures)
    (parted_members k.kind k.parts.now k.hypotheses.now k.names.now k.name (pairs_at k.pairs.now)
    (is_exchanged k.parts.now k.hypotheses.now c.args.exchange))

pub returns-clause-tried : goal.returns-clause-tried
returns-clause-tried g c =
    let k = c.args.component.now in
    c.in_ok-fit.ensures.tried
    ∙ ap (fit_by k.kind k.parts.now k.hypotheses.now most_choices_exchanged k.names.now k.name
    (pairs_at k.pairs.now)) c.in_ok-members.ensures
