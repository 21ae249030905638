-- The rows of a goal, by the kind of integers: over 32-bit integers each variable is one.
use Rattle.std.specs.Prelude.{ℕ, List, [], ◌∷◌, pos, negsuc}
use Rattle.std.specs.List.{flat_map, range_with_len}
use Rattle.c_ast.specs.declared.integers.Integers.{Integers}
use Rattle.c_ast.specs.declared.integers.Integers.TheVariants.{Unbounded, Bits32}
use Rattle.rx_poly.specs.Constants.{number, variable}
use Rattle.rx_poly.specs.Limits.{body_sum, scaled_by}
use Rattle.rx_row.specs.Membership.{pushed}
use Rattle.rx_row.specs.declared.row.Row.{Row}
use Rattle.rx_row.specs.declared.row.Row.TheVariants.{Ge}

-- v + 2147483648 >= 0 and -v + 2147483647 >= 0: the variable is a 32-bit integer
abbrev pub int_rows : ℕ → List Row
int_rows v =
    Ge (body_sum (variable v) (number (pos 2147483648)))
    ∷ Ge (body_sum (scaled_by (negsuc 0) (variable v)) (number (pos 2147483647))) ∷ []

-- rows, and behind them each of the others that isn't there yet
abbrev pub joined_rows : List Row → List Row → List Row
joined_rows rows [] = rows
joined_rows rows (row ∷ more) = joined_rows (pushed rows row) more

-- the rows of a goal on the first n variables, from those of its precondition
abbrev pub rows_in : Integers → ℕ → List Row → List Row
rows_in Unbounded n rows = rows
rows_in Bits32 n rows = joined_rows rows (flat_map int_rows (range_with_len 0 n))
