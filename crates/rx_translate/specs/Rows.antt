-- The rows of a precondition after others.
use Rattle.std.specs.Prelude.{List, ◌++◌}
use Rattle.rx_plain.specs.Formed.{Formed, ◌<$>◌}
use Rattle.c_ast.specs.declared.expr.Expr.{Expr}
use Rattle.rx_row.specs.declared.row.Row.{Row}
use Rattle.rx_code.specs.Preconditions.{pre_rows}

abbrev pub rows_after : List Row → Expr → Formed (List Row)
rows_after rows e = (λ more. rows ++ more) <$> pre_rows e
