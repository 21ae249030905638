-- The candidates are made by the groups.
use Rattle.std.proofs.Common.{◌∙◌, subst, sym}
use Rattle.rx_term.specs.WellMade.{IsWellMade}
use Rattle.rx_find_domains.proofs.KeepLaws.{candidates_by}
use Rattle.rx_find_domains.proofs.finding.candidate_lists.Goals as goal

pub find_groups-requires-clause-made : goal.find_groups-requires-clause-made
find_groups-requires-clause-made c =
    subst IsWellMade (sym c.parts-parts.ensures.parts) c.parts-parts.ensures.made

pub returns : goal.returns
returns c =
    candidates_by c.args.rules.now c.parts-parts.result.now c.args.goal.now
    c.as_slice.result.now c.in_ok-lists.lists.items c.parts-parts.ensures.parts
    (c.as_slice.ensures.value ∙ c.in_ok-names.ensures) c.in_ok-lists.ensures
