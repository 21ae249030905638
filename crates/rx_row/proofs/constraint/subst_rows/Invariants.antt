use Rattle.std.proofs.Common.{drop}
use Rattle.rx_row.proofs.Substituting.{Substituting}
use Rattle.rx_row.proofs.constraint.subst_rows.Given as goal

abbrev pub invariant-loop-row : goal.invariant-loop-row
invariant-loop-row l = Substituting l.with l.changed.items (drop l.row-index l.rows) l.rows
