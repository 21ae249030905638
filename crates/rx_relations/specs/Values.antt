-- What the rows of a goal leave of the polynomials at its places: a disequality of each of them is
-- put after the rows, and then each variable that the rows say the value of is replaced, as in the
-- first phase of the refuter. What is 0 of the divisions in the values is an equation, too.
use Rattle.std.specs.Prelude.{ℕ, zero, suc, Option, Some, None, if◌then◌else◌, List, [], ◌∷◌, ◌++◌, length, map, take, drop}
use Rattle.std.specs.List.{filter_map}
use Rattle.rx_plain.specs.Formed.{Formed, pure, ◌>>=◌, ◌<$>◌}
use Rattle.rx_poly.specs.Normal.{is_empty}
use Rattle.rx_poly.specs.declared.body.Body.{Body, out-Body}
use Rattle.rx_row.specs.Parts.{poly_of}
use Rattle.rx_row.specs.Substitution.{rows_with}
use Rattle.rx_row.specs.declared.row.Row.{Row}
use Rattle.rx_row.specs.declared.row.Row.TheVariants.{Ge, Eq, Ne}
use Rattle.rx_cert.specs.Elimination.{solution_formed, zero_polynomial}
use Rattle.rx_solve.specs.Bounds.{most_solved}
use Rattle.rx_solve.specs.Pivots.{first_pivot}
use Rattle.rx_solve.specs.declared.pivots.Pivot.{Pivot}
use Rattle.rx_relations.specs.Divisions.{facts_formed}
use Rattle.rx_relations.specs.declared.instance.Instance.{Instance}

-- ---- the rows, with variables replaced

-- the rows with this value in place of the variable
abbrev pub with_value : ℕ → List Row → Option Body → Formed (List Row)
with_value x rows None = pure rows
with_value x rows (Some e) = rows_with ((x, e) ∷ []) rows

-- with what the polynomial, where it is 0, says of the variable
abbrev pub with_solution : ℕ → List Row → Option Body → Formed (List Row)
with_solution x rows None = pure rows
with_solution x rows (Some p) = do
  e ← solution_formed x p
  with_value x rows e

-- with the value that the rows of the pivot say
abbrev pub with_pivot : List Row → Pivot → Formed (List Row)
with_pivot rows p = with_solution p.variable rows (zero_polynomial rows p.first p.second)

-- once this variable is replaced, where there is one, the rest is done
abbrev pub replaced_first : Option Pivot → (List Row → Formed (List Row)) → List Row →
    Formed (List Row)
replaced_first None rest rows = pure rows
replaced_first (Some p) rest rows = do
  next ← with_pivot rows p
  rest next

-- variables that the rows say the value of are replaced, at most n times
unfoldable pub replaced : ℕ → List Row → Formed (List Row)
replaced zero rows = pure rows
replaced (suc n) rows = replaced_first (first_pivot rows) (replaced n) rows

-- ---- values and equations

-- the polynomial that the row says to be 0, unless it is 0
abbrev pub equation_of : Row → Option Body
equation_of (Ge p) = None
equation_of (Eq p) = if is_empty (out-Body p).terms then None else Some p
equation_of (Ne p) = None

-- the first n rows are those of the goal, the others have the values
abbrev pub instance_of : ℕ → List Row → Instance
instance_of n rows =
    record {
      values = map poly_of (drop n rows);
      equations =
          filter_map equation_of (take n rows);
    }

-- the rows of a goal, and a disequality for each place
abbrev pub with_places : List Row → List Body → List Row
with_places rows places = rows ++ map Ne places

-- the equations, and after them those that the divisions in the values give
abbrev pub with_facts : Instance → Formed Instance
with_facts goal =
    (λ facts. record goal { equations = goal.equations ++ facts }) <$> facts_formed goal.values

-- the values at the places, the equations that are left, and those of divisions
abbrev pub values_formed : List Row → List Body → Formed Instance
values_formed rows places = do
  left ← replaced most_solved (with_places rows places)
  with_facts (instance_of (length rows) left)
