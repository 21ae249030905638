-- Divisions by numbers that occur in polynomials, and what is 0 of each of them, whatever the
-- variables are: the divisor times the quotient, and the remainder, less the dividend.
use Rattle.std.specs.Prelude.{Bool, if◌then◌else◌, Option, Some, None, List, [], ◌∷◌, ◌++◌, ℤ}
use Rattle.std.specs.List.{flat_map, fold, list_any}
use Rattle.rx_plain.specs.Formed.{Formed, kept, ◌>>=◌, map_formed}
use Rattle.rx_poly.specs.Division.{atom_alone}
use Rattle.rx_poly.specs.Limits.{body_difference, body_sum, is_within, scaled_by}
use Rattle.rx_poly.specs.Reading.{constant_of}
use Rattle.rx_poly.specs.Terms.{is_zero}
use Rattle.rx_poly.specs.contracts.body.BodyPartialEq.TheImpl as body_equal
use Rattle.rx_poly.specs.declared.body.Atom.{Atom, Atom-F, out-Atom}
use Rattle.rx_poly.specs.declared.body.Atom.TheVariants.{Div, Mod}
use Rattle.rx_poly.specs.declared.body.Body.{Body, out-Body}
use Rattle.rx_poly.specs.declared.body.Mono.{Mono, out-Mono}
use Rattle.rx_relations.specs.declared.divisions.Division.{Division}

-- ---- the divisions

-- of p by q, where q is the number
abbrev pub division_by : Body → Body → ℤ → Division
division_by p q k = record {
  dividend = p;
  divisor = k;
  quotient = atom_alone (Div p q);
  remainder = atom_alone (Mod p q);
}

-- that one, where q is a number other than 0
abbrev pub by_divisor : Body → Body → Option ℤ → List Division
by_divisor p q None = []
by_divisor p q (Some k) = if is_zero k then [] else division_by p q k ∷ []

-- a quotient that is an atom has one
abbrev pub division_of : Atom-F Atom Body Mono → List Division
division_of (Atom-F.Var n) = []
division_of (Atom-F.Div p q) = by_divisor p q (constant_of (out-Body q).terms)
division_of (Atom-F.Mod p q) = []

-- those of the atoms of a monomial, in order
abbrev pub term_divisions : Mono × ℤ → List Division
term_divisions t = flat_map (λ x. division_of (out-Atom x)) (out-Mono t.0).atoms

-- those of the monomials of a polynomial
abbrev pub divisions_in : Body → List Division
divisions_in p = flat_map term_divisions (out-Body p).terms

-- one of them has that quotient
abbrev pub is_among : List Division → Body → Bool
is_among ds q = list_any (λ (d : Division). (body_equal.ghosts).eq d.quotient q) ds

-- one more, unless its quotient is that of one of them
abbrev pub with_division : List Division → Division → List Division
with_division ds d = if is_among ds d.quotient then ds else ds ++ d ∷ []

-- those of the polynomials, in order, each once
abbrev pub divisions : List Body → List Division
divisions ps = fold with_division [] (flat_map divisions_in ps)

-- ---- what is 0 of them

abbrev pub fact_formed : Division → Formed Body
fact_formed d = do
  multiple ← kept is_within (scaled_by d.divisor d.quotient)
  without ← kept is_within (body_difference multiple d.dividend)
  kept is_within (body_sum without d.remainder)

-- so of each division in the polynomials
abbrev pub facts_formed : List Body → Formed (List Body)
facts_formed ps = map_formed fact_formed (divisions ps)
