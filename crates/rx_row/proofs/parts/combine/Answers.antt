-- The rows that are borrowed are those of the constraint.
use Rattle.rx_row.proofs.parts.combine.Goals as goal

pub returns-clause-holds : goal.returns-clause-holds
returns-clause-holds c = rw c.rows.ensures at c.combine_rows.ensures.holds
