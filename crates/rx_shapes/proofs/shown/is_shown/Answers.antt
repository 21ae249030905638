use Rattle.std.proofs.Common.{◌∙◌, sym}
use Rattle.rx_shapes.proofs.ShownLaws.{shown_answer}
use Rattle.rx_shapes.proofs.shown.is_shown.Goals as goal

pub returns-in-Some-clause-exact : goal.returns-in-Some-clause-exact
returns-in-Some-clause-exact g c =
    shown_answer c.shows.result c.args.goal.now c.as_slice.result.now c.args.row.now c.in-Some.row
    c.as_slice.ensures (sym c.in-Some.is ∙ c.in_ok-row.ensures) c.shows.ensures.exact
