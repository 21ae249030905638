-- A row that is there is not added, and another one is.
use Rattle.rx_row.proofs.Membership.{pushed_known, pushed_new}
use Rattle.rx_row.proofs.RowLaws.{all_hold-push}
use Rattle.rx_row.proofs.constraint.Constraint.push.Goals as goal

pub returns-then-contains-clause-pushed : goal.returns-then-contains-clause-pushed
returns-then-contains-clause-pushed c =
    pushed_known c.args.self.now c.args.row c.contains.ensures c.if-contains.true

pub returns-clause-holds : goal.returns-clause-holds
returns-clause-holds c =
    λ a. rw (c.in_ok-push.ensures.ok, c.self.view_is) (all_hold-push a c.args.self.now c.args.row)

pub returns-clause-pushed : goal.returns-clause-pushed
returns-clause-pushed c =
    rw (c.in_ok-push.ensures.ok, c.self.view_is)
    (pushed_new c.args.self.now c.args.row c.contains.ensures c.if-contains.false)
