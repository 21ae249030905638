-- What comes of a choice of candidates for the anchors of a component: the other symbols get their
-- polynomials from those that their pairs lead to, one of them with 1 added if it is raised. The
-- choice is fit where all pairs hold and one falls; those that don't fall stay open.
use Rattle.std.specs.Prelude.{ℕ, zero, suc, ◌==◌, Bool, true, false, not, pos, if◌then◌else◌, Option, Some, None, List, [], ◌∷◌, ◌++◌, length, map}
use Rattle.std.specs.List.{filter, find, flat_map, list_all, list_any}
use Rattle.std.specs.Option.{option_map, option_map_or}
use Rattle.rx_plain.specs.Formed.{kept}
use Rattle.rx_poly.specs.Constants.{number}
use Rattle.rx_poly.specs.Limits.{body_sum, is_within}
use Rattle.rx_poly.specs.Variables.{uses_below}
use Rattle.rx_poly.specs.declared.body.Body.{Body}
use Rattle.rx_cert.specs.Findings.{Said, Yes, No, Beyond, and_also}
use Rattle.rx_solve.specs.Attempts.{Tried, applies, fails, first_applying, where_shown}
use Rattle.rx_term.specs.declared.rule_set.SymInfo.{SymInfo}
use Rattle.rx_pairs.specs.Columns.{at_right}
use Rattle.rx_pairs.specs.declared.pair.Pair.{Pair}
use Rattle.rx_anchors.specs.Members.{arity_of}
use Rattle.rx_anchors.specs.Values.{polynomial_of, with_choice, with_polynomial, without_polynomials}
use Rattle.rx_rank.specs.PairTests.{falls, holds}
use Rattle.rx_rank.specs.Tries.{and_then, formed_tried, if_shown}

-- a test of a pair by the polynomials of its symbols; it fails where one has none
abbrev pub tested : (Body → Body → Said) → Option Body → Option Body → Said
tested test None right = No
tested test (Some p) None = No
tested test (Some p) (Some q) = test p q

-- a column of these holds at the pair, or falls there
abbrev pub holds_by : List (Option Body) → Pair → Said
holds_by values pair =
    tested (holds pair) (polynomial_of values pair.left.0) (polynomial_of values pair.right.0)

abbrev pub falls_by : List (Option Body) → Pair → Said
falls_by values pair =
    tested (falls pair) (polynomial_of values pair.left.0) (polynomial_of values pair.right.0)

-- ---- the order of the symbols that are no anchors

-- the pairs of a symbol
abbrev pub pairs_from : ℕ → List Pair → List Pair
pairs_from f pairs = filter (λ pair. pair.left.0 == f) pairs

-- none of its pairs leads to one of those
abbrev pub is_ready : List Pair → List ℕ → ℕ → Bool
is_ready pairs waiting f =
    list_all (λ pair. not (list_any (λ g. g == pair.right.0) waiting)) (pairs_from f pairs)

-- the others
abbrev pub without : ℕ → List ℕ → List ℕ
without f fs = filter (λ g. not (g == f)) fs

-- each symbol after those that its pairs lead to, otherwise by number; there is no such order where
-- one reaches itself
abbrev pub next_first : Option ℕ → (ℕ → Option (List ℕ)) → Option (List ℕ)
next_first None rest = None
next_first (Some f) rest = option_map (λ fs. f ∷ fs) (rest f)

abbrev pub order_by : ℕ → List Pair → List ℕ → Option (List ℕ)
order_by zero pairs waiting = Some []
order_by (suc n) pairs waiting =
    next_first (find (is_ready pairs waiting) waiting) (λ f. order_by n pairs (without f waiting))

abbrev pub order_of : List Pair → List ℕ → Option (List ℕ)
order_of pairs others = order_by (length others) pairs others

-- ---- their polynomials

-- a column holds at these pairs of one symbol with p for it
abbrev pub hold_with : List (Option Body) → Body → List Pair → Said
hold_with values p [] = Yes
hold_with values p (pair ∷ pairs) =
    and_also (tested (holds pair) (Some p) (polynomial_of values pair.right.0))
    (hold_with values p pairs)

-- p serves where it is over n arguments and all of them hold with it
abbrev pub serving : ℕ → List (Option Body) → List Pair → Body → Tried Body
serving arity values mine p =
    if uses_below arity p then where_shown (hold_with values p mine) p else fails

-- the instance of the polynomial that a pair leads to
abbrev pub instance_on : Pair → Option Body → Tried Body
instance_on pair None = fails
instance_on pair (Some q) = formed_tried (at_right pair q)

-- a polynomial, and 1 more where its symbol is raised
abbrev pub raised_by : Bool → Body → Tried Body
raised_by false p = applies p
raised_by true p = formed_tried (kept is_within (body_sum p (number (pos 1))))

abbrev pub from_target : Bool → ℕ → List (Option Body) → List Pair → Pair → Tried Body
from_target raised arity values mine pair =
    and_then (and_then (instance_on pair (polynomial_of values pair.right.0)) (raised_by raised))
    (serving arity values mine)

-- the first that serves, in the order of the symbol's pairs
abbrev pub first_serving : Bool → ℕ → List (Option Body) → List Pair → Tried Body
first_serving raised arity values mine =
    first_applying (map (from_target raised arity values mine) mine)

-- the symbol is the one that is raised, if one is
abbrev pub is_raised : Option ℕ → ℕ → Bool
is_raised raised f = option_map_or (λ g. g == f) raised false

-- the polynomials with those of the symbols in order
abbrev pub filled : List SymInfo → List Pair → Option ℕ → List (Option Body) → List ℕ →
    Tried (List (Option Body))
filled infos pairs raised values [] = applies values
filled infos pairs raised values (f ∷ fs) =
    and_then
    (first_serving (is_raised raised f) (arity_of infos f) values (pairs_from f pairs))
    (λ p. filled infos pairs raised (with_polynomial values f p) fs)

-- ---- a choice

-- all pairs hold
abbrev pub all_hold : List (Option Body) → List Pair → Said
all_hold values [] = Yes
all_hold values (pair ∷ pairs) = and_also (holds_by values pair) (all_hold values pairs)

-- what is said is yes, or beyond the limits
abbrev pub is_yes : Said → Bool
is_yes Yes = true
is_yes No = false
is_yes Beyond = false

abbrev pub is_beyond : Said → Bool
is_beyond Yes = false
is_beyond No = false
is_beyond Beyond = true

-- the pairs that stay open, where one falls; all are tried
abbrev pub not_falling : List (Option Body) → List Pair → List Pair
not_falling values pairs = filter (λ pair. not (is_yes (falls_by values pair))) pairs

abbrev pub falling : List (Option Body) → List Pair → Tried (List Pair)
falling values pairs = record {
  made =
      if list_any (λ pair. is_yes (falls_by values pair)) pairs then
      Some (not_falling values pairs) else None;
  noted = list_any (λ pair. is_beyond (falls_by values pair)) pairs;
}

-- what comes of polynomials for all symbols
abbrev pub fitting : List Pair → List (Option Body) → Tried (List Pair)
fitting pairs values = if_shown (all_hold values pairs) (falling values pairs)

-- the candidates for the anchors, and which other symbol is raised, if one is
pub record RankChoice : Type 0 where
  pub raised : Option ℕ
  pub polys : List Body

-- what comes of a choice
abbrev pub choosing : List SymInfo → List Pair → List ℕ → List ℕ → RankChoice → Tried (List Pair)
choosing infos pairs anchors order choice =
    and_then (filled infos pairs choice.raised
    (with_choice (without_polynomials (length infos)) anchors choice.polys) order) (fitting pairs)

-- the choices of these candidates: first as they are, and then each with one of those symbols raised
abbrev pub plain_choice : List Body → RankChoice
plain_choice polys = record { raised = None; polys = polys }

abbrev pub raised_choices : List ℕ → List Body → List RankChoice
raised_choices symbols polys = map (λ f. record { raised = Some f; polys = polys }) symbols

abbrev pub all_choices : List ℕ → List (List Body) → List RankChoice
all_choices symbols lists =
    map plain_choice lists ++ flat_map (raised_choices symbols) lists
