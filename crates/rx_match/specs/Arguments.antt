-- Variables that are set by the arguments of a part, where a pattern has a variable in the same
-- place.
use Rattle.std.specs.Prelude.{ℕ, Option, Some, None, List, [], ◌∷◌}
use Rattle.std.specs.List.{zip}
use Rattle.rx_poly.specs.Reading.{variable_of}
use Rattle.rx_poly.specs.declared.body.Body.{Body, out-Body}
use Rattle.rx_term.specs.Variables.{arguments_of}
use Rattle.rx_term.specs.declared.term.Term.{Term}
use Rattle.rx_match.specs.Settings.{set_once}

-- a polynomial that is a variable sets it to the polynomial in the same place, unless it is set
abbrev pub set_lone : Option ℕ → Body → List (ℕ × Body) → List (ℕ × Body)
set_lone None p ws = ws
set_lone (Some x) p ws = set_once x p ws

-- so of pairs of polynomials in order
abbrev pub set_by_pairs : List (Body × Body) → List (ℕ × Body) → List (ℕ × Body)
set_by_pairs [] ws = ws
set_by_pairs (pair ∷ pairs) ws =
    set_by_pairs pairs (set_lone (variable_of (out-Body pair.0).terms) pair.1 ws)

-- of the polynomials of two terms
abbrev pub set_by_arguments : Term → Term → List (ℕ × Body)
set_by_arguments pattern part = set_by_pairs (zip (arguments_of pattern) (arguments_of part)) []
