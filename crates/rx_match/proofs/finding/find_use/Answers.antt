-- A use at the part is the step there, and has no variables but those of the goal and the
-- hypothesis.
use Rattle.std.proofs.Common.{rules, ◌≡◌, true, Some}
use Rattle.rx_term.specs.Stacks.{suffix_at}
use Rattle.rx_inference.specs.Pieces.{have_one_shape, side_of}
use Rattle.rx_match.specs.Matching.{matching}
use Rattle.rx_match.specs.Uses.{HasOwnVariables, IsLawful, IsShownAt}
use Rattle.rx_match.proofs.OwnLaws.{own_use}
use Rattle.rx_match.proofs.UseLaws.{if_use_both, if_use_then, lawful_at}
use Rattle.rx_match.proofs.finding.find_use.Goals as goal

pub returns-in-Some-clause-lawful : goal.returns-in-Some-clause-lawful
returns-in-Some-clause-lawful g c =
    let a = c.args in
    let part = c.in-Some.part.now in
    let ws = (matching a.hypothesis.now part).form in
    let at : suffix_at a.place (side_of a.side a.goal.now) ≡ Some part = search rules in
    if_use_both (IsShownAt a.goal.now a.hypothesis.now part ws)
    (λ u. have_one_shape part a.hypothesis.now.left ≡ true)
    (IsLawful a.goal.now a.hypothesis.now a.side a.place) c.use_at.result
    (lawful_at a.goal.now a.hypothesis.now a.side a.place part ws at) c.use_at.ensures.shown
    c.use_at.ensures.shape

pub returns-in-Some-clause-own_variables : goal.returns-in-Some-clause-own_variables
returns-in-Some-clause-own_variables g c =
    let a = c.args in
    let part = c.in-Some.part.now in
    let ws = (matching a.hypothesis.now part).form in
    let at : suffix_at a.place (side_of a.side a.goal.now) ≡ Some part = search rules in
    if_use_then (IsShownAt a.goal.now a.hypothesis.now part ws)
    (HasOwnVariables a.goal.now a.hypothesis.now) c.use_at.result
    (own_use a.goal.now a.hypothesis.now a.side a.place part at) c.use_at.ensures.shown
