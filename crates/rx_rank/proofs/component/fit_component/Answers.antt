-- The symbols are those of the component, with the stated anchors.
use Rattle.std.proofs.Common.{◌≡◌, ◌∙◌, ap, map, subst, sym}
use Rattle.std.specs.Result.{IfOk}
use Rattle.rx_anchors.specs.Members.{is_anchor}
use Rattle.rx_solve.specs.Attempts.{first_applying}
use Rattle.rx_rank.specs.Answers.{AreOf, pairs_at, still_open, tried_as}
use Rattle.rx_rank.specs.Ranking.{exchanges, fit_by, fit_exchanged, most_choices, or_exchanged}
use Rattle.rx_rank.proofs.ComponentLaws.{parted_members, stated_is}
use Rattle.rx_rank.proofs.component.fit_component.Goals as goal

pub fit_by-requires-clause-members : goal.fit_by-requires-clause-members
fit_by-requires-clause-members g c =
    let a = c.args in
    subst (AreOf a.names.now a.name)
    (sym (stated_is a.parts.now a.hypotheses.now a.names.now a.name c.in_ok-members.members
    c.as_slice-infos.result.now c.as_slice-infos.ensures c.in_ok-members.ensures.anchors
    c.in_ok-members.ensures.others))
    (parted_members a.kind a.parts.now a.hypotheses.now a.names.now a.name (pairs_at a.pairs.now)
    (is_anchor a.parts.now.symbols a.hypotheses.now))

pub or_exchanged-requires-clause-members : goal.or_exchanged-requires-clause-members
or_exchanged-requires-clause-members g c =
    let a = c.args in
    stated_is a.parts.now a.hypotheses.now a.names.now a.name c.in_ok-members.members
    c.as_slice-infos.result.now c.as_slice-infos.ensures c.in_ok-members.ensures.anchors
    c.in_ok-members.ensures.others

pub returns-clause-tried : goal.returns-clause-tried
returns-clause-tried g c =
    let a = c.args in
    let parts = a.parts.now in
    let hypotheses = a.hypotheses.now in
    let names = a.names.now in
    let pairs = pairs_at a.pairs.now in
    let same = stated_is parts hypotheses names a.name c.in_ok-members.members
    c.as_slice-infos.result.now c.as_slice-infos.ensures c.in_ok-members.ensures.anchors
    c.in_ok-members.ensures.others in
    let later = first_applying (map (fit_exchanged a.kind parts hypotheses names a.name pairs)
    (exchanges parts hypotheses names a.name)) in
    subst (λ r. IfOk c.or_exchanged.result (λ t. tried_as
    (λ fit. still_open pairs fit.falls.items) t ≡ or_exchanged a.kind r later))
    (c.in_ok-first.ensures.tried
    ∙ ap (fit_by a.kind parts hypotheses most_choices names a.name pairs) same)
    c.or_exchanged.ensures.tried
