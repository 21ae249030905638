-- What is handed on makes what comes of these anchors.
use Rattle.std.proofs.Common.{◌≡◌, subst}
use Rattle.std.proofs.lemmas.Result.{IfOk-weaker}
use Rattle.std.specs.Result.{IfOk}
use Rattle.std.specs.Option.{option_map}
use Rattle.rx_anchors.specs.Choices.{lists_in}
use Rattle.rx_rank.specs.Answers.{pairs_at, partition_of, still_open, tried_as}
use Rattle.rx_rank.proofs.ComponentLaws.{Handed, fits_part, part_is}
use Rattle.rx_rank.proofs.partition.fit_by.Goals as goal

pub returns-clause-tried : goal.returns-clause-tried
returns-clause-tried g c =
    let k = c.args.component.now in
    let pairs = pairs_at k.pairs.now in
    let part = partition_of c.args.members.now in
    let h : Handed k.kind k.parts.now k.hypotheses.now k.names.now k.name pairs c.args.most part
    c.requires.members c.as_slice-infos.result.now c.as_slice-anchors.result.now
    c.as_slice-others.result.now c.raisable_of-raisable.result.now
    (lists_in c.in_ok-all.all.lists.items) c.in_ok-all.all.noted
    (option_map (λ v. v.items) c.in_ok-order.order) =
    record {
      infos_are = c.as_slice-infos.ensures;
      anchors_are = c.as_slice-anchors.ensures.value;
      others_are = c.as_slice-others.ensures.value;
      made_symbols = c.raisable_of-raisable.ensures;
      made_lists = c.in_ok-all.ensures.lists;
      made_noted = c.in_ok-all.ensures.noted;
      made_order = c.in_ok-order.ensures;
    } in
    subst (λ r. IfOk c.fit_in_order.result (λ t. tried_as
    (λ fit. still_open pairs fit.falls.items) t ≡ r))
    (part_is k.kind k.parts.now k.hypotheses.now k.names.now k.name pairs c.args.most part
    c.requires.members h) c.fit_in_order.ensures.tried

pub returns-clause-fit : goal.returns-clause-fit
returns-clause-fit g c =
    let k = c.args.component.now in
    let pairs = pairs_at k.pairs.now in
    let part = partition_of c.args.members.now in
    let h : Handed k.kind k.parts.now k.hypotheses.now k.names.now k.name pairs c.args.most part
    c.requires.members c.as_slice-infos.result.now c.as_slice-anchors.result.now
    c.as_slice-others.result.now c.raisable_of-raisable.result.now
    (lists_in c.in_ok-all.all.lists.items) c.in_ok-all.all.noted
    (option_map (λ v. v.items) c.in_ok-order.order) =
    record {
      infos_are = c.as_slice-infos.ensures;
      anchors_are = c.as_slice-anchors.ensures.value;
      others_are = c.as_slice-others.ensures.value;
      made_symbols = c.raisable_of-raisable.ensures;
      made_lists = c.in_ok-all.ensures.lists;
      made_noted = c.in_ok-all.ensures.noted;
      made_order = c.in_ok-order.ensures;
    } in
    IfOk-weaker c.fit_in_order.result _ _
    (λ t first. fits_part k.kind k.parts.now k.hypotheses.now k.names.now k.name pairs c.args.most
    part c.requires.members h t.made first) c.fit_in_order.ensures.fit
