-- Goals of followed shapes, with the polynomials at all places of their shapes and the values there.
use Rattle.std.specs.Prelude.{Bool, true, false, Option, Some, None, if◌then◌else◌, List, [], ◌∷◌, ◌++◌, map}
use Rattle.std.specs.List.{find}
use Rattle.rx_poly.specs.declared.body.Body.{Body}
use Rattle.rx_term.specs.declared.rule.Equation.{Equation}
use Rattle.rx_relations.specs.Applying.{form_within}
use Rattle.rx_relations.specs.Values.{values_formed}
use Rattle.rx_relations.specs.declared.instance.Instance.{Instance}
use Rattle.rx_shapes.specs.Following.{is_of}
use Rattle.rx_shapes.specs.Options.{◌>>=◌, try_fold}
use Rattle.rx_shapes.specs.Places.{places_of}
use Rattle.rx_shapes.specs.declared.followed.Followed.{Followed}
use Rattle.rx_shapes.specs.declared.followed.KnownGoal.{KnownGoal}
use Rattle.rx_shapes.specs.declared.followed.PlacedGoal.{PlacedGoal}

-- there is none
abbrev pub is_empty : {A : Type 0} → List A → Bool
is_empty [] = true
is_empty (x ∷ xs) = false

-- ---- all places

-- the equation, where these stand at the remainder places
abbrev pub with_rest : Equation → List Body → PlacedGoal
with_rest e rest = record { equation = e; places = places_of e ++ rest }

-- what stands there at first; an equation of no shape has no such places
abbrev pub remainders_in : Option Followed → List Body
remainders_in None = []
remainders_in (Some f) = f.remainders

-- what stands there later
abbrev pub variables_in : Option Followed → List Body
variables_in None = []
variables_in (Some f) = f.variables

-- as one of the first goals: the remainders of the goal from which its shape is followed
abbrev pub placed_first : List Followed → Equation → PlacedGoal
placed_first fs e = with_rest e (remainders_in (find (is_of e) fs))

-- where it comes of a general equation: the variables
abbrev pub placed_later : List Followed → Equation → PlacedGoal
placed_later fs e = with_rest e (variables_in (find (is_of e) fs))

-- ---- values

-- the goal with its values
abbrev pub with_values : PlacedGoal → Instance → KnownGoal
with_values goal values = record { goal = goal; values = values }

abbrev pub known_goal : PlacedGoal → Option KnownGoal
known_goal goal = do
  values ← form_within (values_formed goal.equation.rows goal.places)
  Some (with_values goal values)

-- the shape with one goal more
abbrev pub with_goal : KnownGoal → Followed → Followed
with_goal known f =
    record f {
      goals = f.goals ++ known.goal ∷ [];
      values = f.values ++ known.values ∷ [];
    }

-- where the goal is of the shape
abbrev pub put_to : KnownGoal → Followed → Followed
put_to known f = if is_of known.goal.equation f then with_goal known f else f

-- the shapes with the goal, which is put to its own
abbrev pub put : List Followed → Equation → Option (List Followed)
put fs e = do
  known ← known_goal (placed_first fs e)
  Some (map (put_to known) fs)

abbrev pub put_all : List Followed → List Equation → Option (List Followed)
put_all fs es = try_fold put fs es
