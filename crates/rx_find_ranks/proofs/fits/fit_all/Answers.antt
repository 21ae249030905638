-- What comes of the groups is what comes of the open pairs.
use Rattle.std.proofs.Common.{◌≡◌, ◌∙◌, length}
use Rattle.std.proofs.lemmas.Result.{IfOk-weaker}
use Rattle.rx_rank.specs.Components.{representatives_of}
use Rattle.rx_find_ranks.proofs.FitsLaws.{few_groups, fits_are, fits_tried}
use Rattle.rx_find_ranks.specs.Tables.{pairs_open}
use Rattle.rx_find_ranks.proofs.fits.fit_all.Goals as goal

pub fit_groups-requires-clause-few : goal.fit_groups-requires-clause-few
fit_groups-requires-clause-few g c =
    let entries = c.args.entries.items in
    let names = c.as_slice-names.result.now in
    let groups = c.in_ok-groups.groups.items in
    let found : names ≡ representatives_of (length c.args.problem.now.rules.now.symbols) (pairs_open entries) =
    c.as_slice-names.ensures.value ∙ c.in_ok-components.ensures ∙
    (λ i. representatives_of (c.symbols.ensures i) (pairs_open (c.as_slice.ensures.value i))) in
    few_groups c.args.problem.now.kind c.args.problem.now.rules.now c.args.problem.now.hypotheses.now entries names groups
    c.as_slice-2.result.now
    found c.in_ok-groups.ensures c.as_slice-2.ensures.value c.requires.few

pub returns-clause-tried : goal.returns-clause-tried
returns-clause-tried g c =
    let entries = c.args.entries.items in
    let names = c.as_slice-names.result.now in
    let groups = c.in_ok-groups.groups.items in
    let found : names ≡ representatives_of (length c.args.problem.now.rules.now.symbols) (pairs_open entries) =
    c.as_slice-names.ensures.value ∙ c.in_ok-components.ensures ∙
    (λ i. representatives_of (c.symbols.ensures i) (pairs_open (c.as_slice.ensures.value i))) in
    IfOk-weaker c.with_entries.result _ _
    (λ t are. fits_tried c.args.problem.now.kind c.args.problem.now.rules.now c.args.problem.now.hypotheses.now entries names groups
    c.as_slice-2.result.now found c.in_ok-groups.ensures c.as_slice-2.ensures.value
    c.in_ok-tried.tried t c.in_ok-tried.ensures.tried are) c.with_entries.ensures

pub returns-clause-fits : goal.returns-clause-fits
returns-clause-fits g c =
    let entries = c.args.entries.items in
    let names = c.as_slice-names.result.now in
    let groups = c.in_ok-groups.groups.items in
    let found : names ≡ representatives_of (length c.args.problem.now.rules.now.symbols) (pairs_open entries) =
    c.as_slice-names.ensures.value ∙ c.in_ok-components.ensures ∙
    (λ i. representatives_of (c.symbols.ensures i) (pairs_open (c.as_slice.ensures.value i))) in
    IfOk-weaker c.with_entries.result _ _
    (λ t are. fits_are c.args.problem.now.kind c.args.problem.now.rules.now c.args.problem.now.hypotheses.now entries names groups
    c.as_slice-2.result.now found c.in_ok-groups.ensures c.as_slice-2.ensures.value
    c.requires.over c.in_ok-tried.tried.made t.made are.made c.in_ok-tried.ensures.fit)
    c.with_entries.ensures
