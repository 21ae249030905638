-- A negated inequality holds exactly where the inequality doesn't.
use Rattle.rx_row.specs.declared.row.Row.TheVariants.{Ge}
use Rattle.rx_row.proofs.RowLaws.{negation-holds}
use Rattle.rx_row.proofs.row.Row.negate.Goals as goal

pub returns-in_ok-below_zero-in-Ge-clause-holds : goal.returns-in_ok-below_zero-in-Ge-clause-holds
returns-in_ok-below_zero-in-Ge-clause-holds c =
    λ a. rw (c.in_ok-below_zero-in-Ge.ensures.forms.0, c.in-Ge.is)
    (negation-holds a (Ge c.in-Ge.poly))
