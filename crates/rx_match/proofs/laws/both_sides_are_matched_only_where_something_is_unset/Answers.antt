-- Neither thing that the other side may set is tried.
use Rattle.rx_match.specs.Beside.{by_other_side, by_result}
use Rattle.rx_match.specs.Matching.{matching}
use Rattle.rx_match.proofs.BesideLaws.{nothing_unset}
use Rattle.rx_match.proofs.laws.both_sides_are_matched_only_where_something_is_unset.Goals as goal

pub returns : goal.returns
returns c = λ rules given hypothesis side place part.
    nothing_unset hypothesis (matching hypothesis part)
    (by_other_side given hypothesis side place) (by_result rules given hypothesis side place)
