-- The general equation of a shape with some goals: the general sides, under the relations between
-- their places that hold at each of the goals, and those bounds that each of them shows; where one
-- of them doesn't show that the general sides are inside the domains, there is none.
use Rattle.std.specs.Prelude.{Option, Some, None, if◌then◌else◌, List, [], ◌++◌, length}
use Rattle.rx_poly.specs.declared.body.Body.{Body}
use Rattle.rx_row.specs.declared.row.Row.{Row}
use Rattle.rx_inference.specs.Pieces.{all_pushed}
use Rattle.rx_relations.specs.Applying.{form_within}
use Rattle.rx_relations.specs.Relations.{relations_formed}
use Rattle.rx_shapes.specs.Goals.{is_empty, with_goal}
use Rattle.rx_shapes.specs.Inside.{stays_inside}
use Rattle.rx_shapes.specs.Numbers.{number_bounds}
use Rattle.rx_shapes.specs.Options.{◌>>=◌}
use Rattle.rx_shapes.specs.Places.{places_of}
use Rattle.rx_shapes.specs.Shown.{shown_at, shown_at_all}
use Rattle.rx_shapes.specs.declared.followed.Followed.{Followed}
use Rattle.rx_shapes.specs.declared.followed.KnownGoal.{KnownGoal}

-- the shape, its general equation under these relations and its bounds, each row once
abbrev pub under_relations : Followed → List Row → Followed
under_relations f relations =
    record f {
      general =
          record f.general { rows = all_pushed [] (relations ++ f.bounds) };
    }

-- the variables at all places, those of remainders last
abbrev pub all_places : Followed → List Body
all_places f = places_of f.general ++ f.variables

-- the shape with its general equation, where each goal shows all its bounds
abbrev pub with_relations : Followed → Option Followed
with_relations f = do
  relations ← form_within (relations_formed (length (all_places f)) f.values)
  Some (under_relations f relations)

-- where these have the rows of the domains among them
abbrev pub generalised : Followed → Option Followed
generalised f = if stays_inside f then with_relations f else None

-- ---- one goal more

-- the shape with one goal more: bounds that this doesn't show are gone
abbrev pub narrowed : KnownGoal → Followed → Followed
narrowed known f =
    record (with_goal known f) { bounds = shown_at known.goal f.bounds }

abbrev pub taken : KnownGoal → Followed → Option Followed
taken known f = generalised (narrowed known f)

-- ---- the goals at first

-- the shape whose bounds are those of the rows that each of its goals shows
abbrev pub bounded : Followed → List Row → Followed
bounded f rows = record f { bounds = shown_at_all rows f.goals }

-- the shape with its general equation: the numbers at places of its goals are bounds that may hold,
-- too
abbrev pub with_all_bounds : Followed → Option Followed
with_all_bounds f = do
  rows ← form_within (number_bounds (length (places_of f.general)) f.bounds f.values)
  generalised (bounded f rows)

-- a shape without a goal stays as it is
abbrev pub first_generalised : Followed → Option Followed
first_generalised f = if is_empty f.goals then Some f else with_all_bounds f
