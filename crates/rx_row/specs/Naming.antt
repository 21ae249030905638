-- The row that says that a variable is a number.
use Rattle.std.specs.Prelude.{ℕ, ℤ}
use Rattle.rx_plain.specs.Formed.{Formed, kept, ◌<$>◌}
use Rattle.rx_poly.specs.Constants.{number, variable}
use Rattle.rx_poly.specs.Limits.{is_within, body_difference}
use Rattle.rx_row.specs.declared.row.Row.{Row}
use Rattle.rx_row.specs.declared.row.Row.TheVariants.{Eq}

-- the variable minus the number is 0
abbrev pub named : ℕ → ℤ → Formed Row
named v k = Eq <$> kept is_within (body_difference (variable v) (number k))
