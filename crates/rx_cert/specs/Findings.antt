-- What is found of rows. An examination goes from left to right and ends at the first thing that
-- decides.
use Rattle.std.specs.Prelude.{Bool, true, false, Option, Some, None, List, [], ◌∷◌, ◌++◌}
use Rattle.rx_row.specs.declared.row.Row.{Row}

-- the rows are refuted, they aren't, or a polynomial passes the limits before either is seen
pub data Said : Type 0 where
  Yes : Said
  No : Said
  Beyond : Said

-- what a test says
abbrev pub said : Bool → Said
said true = Yes
said false = No

-- what is formed first keeps the limits, or nothing after it is seen
abbrev pub guard : Bool → Said → Said
guard true later = later
guard false later = Beyond

-- two parts, from left to right: the first that fails or passes the limits ends the examination
abbrev pub and_also : Said → Said → Said
and_also Yes later = later
and_also No later = No
and_also Beyond later = Beyond

-- what is found with one more row after the others; without that row the part fails
abbrev pub with_row : List Row → Option Row → (List Row → Said) → Said
with_row rows None rest = No
with_row rows (Some row) rest = rest (rows ++ row ∷ [])
