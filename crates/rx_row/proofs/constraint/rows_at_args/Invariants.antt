use Rattle.std.proofs.Common.{drop}
use Rattle.rx_poly.specs.Substitution.{numbered}
use Rattle.rx_row.proofs.Substituting.{Substituting}
use Rattle.rx_row.proofs.constraint.rows_at_args.Given as goal

abbrev pub invariant-loop-row : goal.invariant-loop-row
invariant-loop-row l =
    Substituting (numbered l.args) l.instances.items (drop l.row-index l.rows) l.rows
