-- Shapes that are followed while sides of a goal are unfolded, and the goals that come up.
use Rattle.std.specs.Prelude.{ℕ, Bool, not, ◌&&◌, nat_le, nat_lt, true, false, Option, Some, if◌then◌else◌, List, [], ◌∷◌, ◌++◌, filter, length}
use Rattle.std.specs.List.{list_all, list_any}
use Rattle.rx_row.specs.declared.row.Row.{Row}
use Rattle.rx_term.specs.Stacks.{depth_of, is_result}
use Rattle.rx_term.specs.declared.rule.Equation.{Equation}
use Rattle.rx_term.specs.declared.rule_set.RuleParts.{RuleParts}
use Rattle.rx_inference.specs.Pieces.{have_one_shape, side_of}
use Rattle.rx_inference.specs.declared.step.Side.{Side}
use Rattle.rx_relations.specs.Applying.{form_within}
use Rattle.rx_shapes.specs.Candidates.{candidate_rows}
use Rattle.rx_shapes.specs.General.{general_of}
use Rattle.rx_shapes.specs.Inside.{with_inside}
use Rattle.rx_shapes.specs.Options.{◌>>=◌, try_fold}
use Rattle.rx_shapes.specs.declared.followed.Followed.{Followed}

-- ---- which shapes are followed

-- the equation is of the shape: both sides have the shapes of the general ones
abbrev pub is_of : Equation → Followed → Bool
is_of e f = have_one_shape f.general.left e.left && have_one_shape f.general.right e.right

-- it is of one of these
abbrev pub is_followed : List Followed → Equation → Bool
is_followed fs e = list_any (is_of e) fs

-- those of the equations whose shapes are followed
abbrev pub followed_of : List Followed → List Equation → List Equation
followed_of fs es = filter (is_followed fs) es

-- ---- a further shape

-- not more shapes are followed together
abbrev pub most_shapes : ℕ
most_shapes = 4

-- the side has another shape than that of the goal
abbrev pub has_left : Equation → Equation → Side → Bool
has_left goal e side = not (have_one_shape (side_of side goal) (side_of side e))

-- the sides of the plan that are to be unfolded in such an equation: one that has the shape of the
-- goal's again is back where it began, and waits for the other
abbrev pub task_in : List Side → Equation → Equation → List Side
task_in plan goal e = filter (has_left goal e) plan

-- the side has a redex
abbrev pub has_redex : Equation → Side → Bool
has_redex e side = not (is_result (side_of side e))

-- neither side has more frames than that of the goal
abbrev pub is_as_shallow : Equation → Equation → Bool
is_as_shallow goal e =
    nat_le (depth_of e.left) (depth_of goal.left) && nat_le (depth_of e.right) (depth_of goal.right)

-- there is no side
abbrev pub is_idle : List Side → Bool
is_idle [] = true
is_idle (side ∷ sides) = false

-- its shape may be followed with this task
abbrev pub may_follow : List Side → Equation → Equation → Bool
may_follow task goal e =
    (not (is_idle task) && list_all (has_redex e) task) && is_as_shallow goal e

-- the shape of an equation from which on it is followed: the candidates may hold; it has no goal, no
-- remainder places and no rows of domains yet
abbrev pub shape_with : Equation → List Side → List Row → Followed
shape_with e task rows =
    let sides = general_of e in
    record {
      general = record { left = sides.left; right = sides.right; rows = [] };
      task = task;
      remainders = [];
      variables = [];
      inside = [];
      bounds = rows;
      goals = [];
      values = [];
    }

abbrev pub followed_from : RuleParts → List Side → Equation → Option Followed
followed_from parts task e = do
  rows ← form_within (candidate_rows parts e)
  Some (shape_with e task rows)

-- with the rows of domains
abbrev pub followed_inside : RuleParts → List Side → Equation → Option Followed
followed_inside parts task e = do
  f ← followed_from parts task e
  with_inside parts f

module _ (parts : RuleParts) (plan : List Side) (goal : Equation) where
  -- one shape more
  abbrev pub follow_further : List Followed → Equation → Option (List Followed)
  follow_further fs e = do
    f ← followed_inside parts (task_in plan goal e) e
    Some (fs ++ f ∷ [])

  -- it is new, and may be followed
  abbrev pub is_further : List Followed → Equation → Bool
  is_further fs e =
      (not (is_followed fs e) && nat_lt (length fs) most_shapes) &&
      may_follow (task_in plan goal e) goal e

  -- the shapes with that of the equation, where it is new and may be followed
  abbrev pub follow : List Followed → Equation → Option (List Followed)
  follow fs e = if is_further fs e then follow_further fs e else Some fs

  -- so with those of the equations in order
  abbrev pub follow_all : List Followed → List Equation → Option (List Followed)
  follow_all fs es = try_fold follow fs es
