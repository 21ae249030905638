-- The rows that are offered at an occurrence of a symbol, said of the symbol's own arguments x_0,
-- x_1 and so on.
use Rattle.std.specs.Prelude.{ℕ, ◌+◌, is_some, Bool, not, ◌&&◌, if◌then◌else◌, List, [], ◌∷◌, ◌++◌}
use Rattle.std.specs.List.{flat_map}
use Rattle.rx_plain.specs.Formed.{Formed, kept, ◌>>=◌, ◌<$>◌}
use Rattle.rx_poly.specs.Constants.{variable}
use Rattle.rx_poly.specs.Limits.{body_difference, is_within}
use Rattle.rx_poly.specs.Reading.{constant_of}
use Rattle.rx_poly.specs.Substitution.{subst_body}
use Rattle.rx_poly.specs.declared.body.Body.{Body, out-Body}
use Rattle.rx_row.specs.Parts.{poly_of}
use Rattle.rx_row.specs.Substitution.{row_with}
use Rattle.rx_row.specs.declared.row.Row.{Row}
use Rattle.rx_row.specs.declared.row.Row.TheVariants.{Ge, Eq}
use Rattle.rx_pairs.specs.Pairs.{Part}
use Rattle.rx_find_domains.specs.Groups.{in_one_group}
use Rattle.rx_wider_domains.specs.Places.{is_placed, places}
use Rattle.rx_wider_domains.specs.declared.offering.Offering.{Offering}

abbrev pub difference : Body → Body → Formed Body
difference p q = kept is_within (body_difference p q)

abbrev pub is_number : Body → Bool
is_number p = is_some (constant_of (out-Body p).terms)

-- ---- numbers

-- x_i - c >= 0
abbrev pub at_least : ℕ → Body → Formed Row
at_least i c = Ge <$> difference (variable i) c

-- c - x_i >= 0
abbrev pub at_most : ℕ → Body → Formed Row
at_most i c = Ge <$> difference c (variable i)

-- where argument i is a number, both
abbrev pub number_rows : ℕ → Body → List (Formed Row)
number_rows i p = if is_number p then at_least i p ∷ at_most i p ∷ [] else []

abbrev pub numbers_from : ℕ → List Body → List (Formed Row)
numbers_from i [] = []
numbers_from i (p ∷ ps) = number_rows i p ++ numbers_from (i + 1) ps

-- ---- equations

-- x_i - q = 0, where q is the polynomial said of the places
abbrev pub equation : List (ℕ × Body) → ℕ → Body → Formed Row
equation ws i p = Eq <$> (subst_body ws p >>= difference (variable i))

-- where argument i is no number, and each of its variables has a place; where it is the variable
-- whose first place this is, the equation has no variable
abbrev pub equation_rows : List (ℕ × Body) → ℕ → Body → List (Formed Row)
equation_rows ws i p =
    if not (is_number p) && is_placed ws p then equation ws i p ∷ [] else []

abbrev pub equations_from : List (ℕ × Body) → ℕ → List Body → List (Formed Row)
equations_from ws i [] = []
equations_from ws i (p ∷ ps) = equation_rows ws i p ++ equations_from ws (i + 1) ps

-- ---- rows that are handed

-- the row said of the places, where each of its variables has one
abbrev pub handed_row : List (ℕ × Body) → Row → List (Formed Row)
handed_row ws row = if is_placed ws (poly_of row) then row_with ws row ∷ [] else []

-- ---- all of a kind

-- a symbol hands its rows on to other groups alone
abbrev pub offers : List ℕ → Offering → Part → List (Formed Row)
offers names Offering.Numbers at = numbers_from 0 at.arguments
offers names Offering.Equations at = equations_from (places at.arguments) 0 at.arguments
offers names (Offering.Handed f rows) at =
    if in_one_group names f.0 at.symbol.0 then []
    else flat_map (handed_row (places at.arguments)) rows
