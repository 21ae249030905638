-- What `==` says of two lists of rows is that they are one.
use Rattle.std.proofs.Common.{sym, ◌∙◌, ap}
use Rattle.std.specs.Cmp.Lexicographic.{pointwise}
use Rattle.rx_row.proofs.Same.{row_eq, known_same_rows, known_themselves}
use Rattle.rx_row.proofs.constraint.Constraint.is_same.Goals as goal

pub returns : goal.returns
returns c = rw (← c.self.view_is, ← c.other.view_is) (
  λ e. known_same_rows c.self.inside.rows c.other.inside.rows (sym c.eq.ensures ∙ e),
  λ e. c.eq.ensures ∙ ap (pointwise row_eq c.self.inside.rows) (sym e) ∙
      known_themselves c.self.inside.rows,
)
