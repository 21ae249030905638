-- A row whose negation is refuted holds wherever the rows do.
use Rattle.rx_solve.proofs.Phases.{negation_shows}
use Rattle.rx_solve.proofs.refuter.entails.Goals as goal

pub returns-in-Some-clause-holds : goal.returns-in-Some-clause-holds
returns-in-Some-clause-holds c =
    λ some a holds. negation_shows c.args.rows.now c.args.row.now c.in_ok-cert.field-0
    c.in-Some.cert c.in-Some.is c.in_ok-cert.ensures a holds
