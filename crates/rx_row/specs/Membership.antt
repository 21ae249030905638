-- Whether a row is one of a list, and a list with one more.
use Rattle.std.specs.Prelude.{Bool, if◌then◌else◌, List, [], ◌∷◌, ◌++◌}
use Rattle.std.specs.List.{list_any}
use Rattle.rx_row.specs.contracts.row.RowPartialEq.TheImpl as row_equal
use Rattle.rx_row.specs.declared.row.Row.{Row}

-- the row is one of the rows
abbrev pub stands_among : List Row → Row → Bool
stands_among rows row = list_any (λ other. (row_equal.ghosts).eq other row) rows

-- the rows, with the row after them unless it is one of them
abbrev pub pushed : List Row → Row → List Row
pushed rows row = if stands_among rows row then rows else rows ++ row ∷ []
