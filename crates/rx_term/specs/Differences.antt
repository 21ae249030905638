-- Differences of polynomials, one by one: two lists have equal values, one by one, where all these
-- are 0.
use Rattle.std.specs.Prelude.{List}
use Rattle.std.specs.List.{zip}
use Rattle.rx_plain.specs.Formed.{Formed, kept, map_formed}
use Rattle.rx_poly.specs.Limits.{is_within, body_difference}
use Rattle.rx_poly.specs.declared.body.Body.{Body}
use Rattle.rx_term.specs.Variables.{arguments_of}
use Rattle.rx_term.specs.declared.term.Term.{Term}

-- the first minus the second
abbrev pub difference : Body × Body → Formed Body
difference pair = kept is_within (body_difference pair.0 pair.1)

-- of two lists, in order, as far as both go
abbrev pub differences : List Body → List Body → Formed (List Body)
differences ps qs = map_formed difference (zip ps qs)

-- of the polynomials of two terms
abbrev pub term_differences : Term → Term → Formed (List Body)
term_differences s t = differences (arguments_of s) (arguments_of t)
