-- A use at the part is the step there.
use Rattle.std.proofs.Common.{rules, ◌≡◌, true, Some}
use Rattle.rx_term.specs.Stacks.{suffix_at}
use Rattle.rx_inference.specs.Pieces.{have_one_shape, side_of}
use Rattle.rx_match.specs.Beside.{matching_beside}
use Rattle.rx_match.specs.Uses.{IsLawful, IsShownAt}
use Rattle.rx_match.proofs.UseLaws.{if_use_both, lawful_at}
use Rattle.rx_match.proofs.finding.find_use_beside.Goals as goal

pub returns-in-Some-clause-lawful : goal.returns-in-Some-clause-lawful
returns-in-Some-clause-lawful g c =
    let a = c.args in
    let part = c.in-Some.part.now in
    let ws =
    (matching_beside a.rules.now.rules a.goal.now a.hypothesis.now a.side a.place part).form in
    let at : suffix_at a.place (side_of a.side a.goal.now) ≡ Some part = search rules in
    if_use_both (IsShownAt a.goal.now a.hypothesis.now part ws)
    (λ u. have_one_shape part a.hypothesis.now.left ≡ true)
    (IsLawful a.goal.now a.hypothesis.now a.side a.place) c.use_beside_at.result
    (lawful_at a.goal.now a.hypothesis.now a.side a.place part ws at)
    c.use_beside_at.ensures.shown c.use_beside_at.ensures.shape
