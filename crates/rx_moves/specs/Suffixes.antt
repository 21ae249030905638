-- The longest common suffix of two terms whose polynomials are shown equal, found from the
-- innermost part outwards.
use Rattle.std.specs.Prelude.{ℕ, ◌+◌, ◌==◌, ◌&&◌, true, false, if◌then◌else◌, List, [], ◌∷◌, reverse}
use Rattle.std.specs.List.{zip}
use Rattle.rx_cert.specs.Findings.{Said, Yes, No, Beyond, and_also, guard}
use Rattle.rx_cert.specs.Showing.{shown}
use Rattle.rx_poly.specs.declared.body.Body.{Body}
use Rattle.rx_row.specs.declared.row.Row.{Row}
use Rattle.rx_row.specs.declared.row.Row.TheVariants as row
use Rattle.rx_solve.specs.Refuter.{refuted}
use Rattle.rx_term.specs.Differences.{difference}
use Rattle.rx_term.specs.Stacks.{ends_in_call}
use Rattle.rx_term.specs.declared.term.Term.{Term, Term-F, fold-Term}
use Rattle.rx_moves.specs.declared.finding.Common.{Common}

-- a call or a frame: its symbol and its polynomials
pub record Part : Type 0 where
  pub symbol : ℕ
  pub arguments : List Body

abbrev pub inwards_level : Term-F (List Part) → List Part
inwards_level (Term-F.Return p) = []
inwards_level (Term-F.Fail c) = []
inwards_level (Term-F.Call f ps) = record { symbol = f.0; arguments = ps } ∷ []
inwards_level (Term-F.Frame f ps inner) = record { symbol = f.0; arguments = ps } ∷ inner

-- the frames and the call of a term, from outside in
abbrev pub inwards : Term → List Part
inwards = fold-Term (List Part) inwards_level

-- the two polynomials are shown equal
abbrev pub equal_shown : List Row → Body × Body → Said
equal_shown given pair =
    guard (difference pair).within (shown refuted given (row.Eq (difference pair).form))

-- pair by pair, each difference being formed when it is asked
abbrev pub equals_shown : List Row → List (Body × Body) → Said
equals_shown given [] = Yes
equals_shown given (pair ∷ pairs) = and_also (equal_shown given pair) (equals_shown given pairs)

-- no more parts are common
abbrev pub ended : Common
ended = record { parts = 0; noted = false }

-- a part is common where its polynomials are shown equal
abbrev pub common_if : Said → Common → Common
common_if Yes further = record { parts = 1 + further.parts; noted = further.noted }
common_if No further = ended
common_if Beyond further = record { parts = 0; noted = true }

-- how many parts are common, up to the first that differs, and whether that passes the limits
abbrev pub common : List Row → List Part → List Part → Common
common given [] others = ended
common given (part ∷ parts) [] = ended
common given (part ∷ parts) (other ∷ others) =
    if part.symbol == other.symbol
    then common_if (equals_shown given (zip part.arguments other.arguments))
    (common given parts others)
    else ended

-- of two terms that end in calls, from the calls outwards; of others there is none
abbrev pub common_suffix : List Row → Term → Term → Common
common_suffix given s t =
    if ends_in_call s && ends_in_call t then common given (reverse (inwards s))
    (reverse (inwards t)) else ended
