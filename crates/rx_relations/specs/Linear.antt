-- Linear relations, solved for places. The polynomial at place i of a goal is x_i here.
use Rattle.std.specs.Prelude.{ℕ, ◌||◌, Option, Some, None, if◌then◌else◌, List, [], ◌∷◌, ◌++◌, map, ℤ, pos, negsuc}
use Rattle.std.specs.List.{filter_map, last_or, range_with_len}
use Rattle.std.specs.Ordering.{int_eq}
use Rattle.rx_plain.specs.Formed.{Formed, pure, ◌>>=◌, ◌<$>◌, fold_formed, map_formed}
use Rattle.rx_poly.specs.Constants.{number, variable}
use Rattle.rx_poly.specs.Reading.{variable_of_atoms}
use Rattle.rx_poly.specs.Substitution.{subst_body}
use Rattle.rx_poly.specs.declared.body.Body.{Body, out-Body}
use Rattle.rx_poly.specs.declared.body.Mono.{Mono, out-Mono}
use Rattle.rx_cert.specs.Elimination.{solution_formed}
use Rattle.rx_relations.specs.Common.{common}
use Rattle.rx_relations.specs.Content.{primitive}
use Rattle.rx_relations.specs.declared.instance.Instance.{Instance}
use Rattle.rx_relations.specs.declared.linear.Solved.{Solved}

-- 1, x_0, x_1, and so on, for as many places
abbrev pub linear_basis : ℕ → List Body
linear_basis count = number (pos 1) ∷ map variable (range_with_len 0 count)

-- ---- the place that a relation says

-- the place that the term's monomial is, where it is one
abbrev pub place_of : Mono × ℤ → Option ℕ
place_of t = variable_of_atoms (out-Mono t.0).atoms

-- that place, where its coefficient is 1 or -1
abbrev pub unit_of : Mono × ℤ → Option ℕ
unit_of t = if int_eq t.1 (pos 1) || int_eq t.1 (negsuc 0) then place_of t else None

-- the last place of the relation
abbrev pub last_place : Body → Option ℕ
last_place p = last_or None (filter_map place_of (out-Body p).terms)

-- the last of coefficient 1 or -1
abbrev pub last_unit : Body → Option ℕ
last_unit p = last_or None (filter_map unit_of (out-Body p).terms)

-- ---- relation by relation

-- one place, or none
abbrev pub listed : Option ℕ → List ℕ
listed None = []
listed (Some x) = x ∷ []

-- a relation with a polynomial in place of a place, divided by the greatest common divisor of its
-- coefficients
abbrev pub replaced_in : Body → ℕ × Body → Formed Body
replaced_in p w = primitive <$> subst_body (w ∷ []) p

-- a relation that no other is changed by; it gives its last place
abbrev pub unsolved : Solved → Body → Solved
unsolved done p =
    record done {
      relations = done.relations ++ p ∷ [];
      given = done.given ++ listed (last_place p);
    }

-- a relation that says the value of the place, which is replaced in the relations before it, and
-- will be in those after it
abbrev pub solved_with : Solved → Body → ℕ → Option Body → Formed Solved
solved_with done p x None = pure (unsolved done p)
solved_with done p x (Some e) =
    (λ others. record {
      relations = others ++ p ∷ [];
      given = done.given ++ x ∷ [];
      values = done.values ++ (x, e) ∷ [];
    }) <$> map_formed (λ q. replaced_in q (x, e)) done.relations

-- a relation, by its last place of coefficient 1 or -1
abbrev pub solved_for : Solved → Body → Option ℕ → Formed Solved
solved_for done p None = pure (unsolved done p)
solved_for done p (Some x) = do
  e ← solution_formed x p
  solved_with done p x e

-- the next relation, in which the places of those before it are replaced
abbrev pub solved_next : Solved → Body → Formed Solved
solved_next done p = do
  q ← fold_formed replaced_in p done.values
  solved_for done q (last_unit q)

-- none is solved yet
abbrev pub none_solved : Solved
none_solved = record { relations = []; given = []; values = [] }

-- relations solved for places, one after the other
abbrev pub solved : List Body → Formed Solved
solved ps = fold_formed solved_next none_solved ps

-- the linear relations of as many places that hold at all the goals, solved
abbrev pub linear : ℕ → List Instance → Formed Solved
linear count goals = do
  ps ← common (linear_basis count) goals
  solved ps
