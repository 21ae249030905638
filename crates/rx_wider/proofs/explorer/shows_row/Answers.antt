-- The row alone is shown.
use Rattle.std.proofs.Common.{◌∙◌, ◌∷◌, [], ap}
use Rattle.rx_wider.proofs.PlanLaws.{one_shown}
use Rattle.rx_wider.proofs.explorer.shows_row.Goals as goal

pub returns-in-Shown-clause-shown : goal.returns-in-Shown-clause-shown
returns-in-Shown-clause-shown g c =
    one_shown c.args.given.now c.as_slice.result.now c.args.row.now c.in_ok-show_all.field-0
    c.in-Shown.field-0 (c.as_slice.ensures ∙ ap (λ r. r ∷ []) c.in_ok-try_clone.ensures)
    c.in-Shown.is c.in_ok-show_all.ensures.answer
