-- When a row holds, and when all of a list do, where an assignment gives each variable an integer.
use Rattle.std.specs.Prelude.{◌≡◌, ◌≢◌, ℕ, List, All, ℤ, pos, ◌≤ℤ◌}
use Rattle.rx_poly.specs.Value.{value}
use Rattle.rx_row.specs.declared.row.Row.{Row}
use Rattle.rx_row.specs.declared.row.Row.TheVariants.{Ge, Eq, Ne}

-- the polynomial of the row is at least 0, is 0, or is not 0
abbrev pub RowHolds : (ℕ → ℤ) → Row → Type 0
RowHolds a (Ge p) = pos 0 ≤ℤ value a p
RowHolds a (Eq p) = value a p ≡ pos 0
RowHolds a (Ne p) = value a p ≢ pos 0

-- each of the rows holds
abbrev pub AllHold : (ℕ → ℤ) → List Row → Type 0
AllHold a rows = All (RowHolds a) rows
