-- Remainder places: what the divisions at the places of a goal leave stands at further places of its
-- shape. The general sides don't have them; their variables stand in rows alone.
use Rattle.std.specs.Prelude.{ℕ, Option, Some, List, length, map, take}
use Rattle.rx_poly.specs.declared.body.Body.{Body}
use Rattle.rx_row.specs.declared.row.Row.{Row}
use Rattle.rx_term.specs.declared.rule.Equation.{Equation}
use Rattle.rx_relations.specs.Applying.{form_within}
use Rattle.rx_relations.specs.Divisions.{divisions}
use Rattle.rx_relations.specs.declared.divisions.Division.{Division}
use Rattle.rx_shapes.specs.General.{variables_from}
use Rattle.rx_shapes.specs.Options.{◌>>=◌}
use Rattle.rx_shapes.specs.Places.{places_of}
use Rattle.rx_shapes.specs.RemainderRows.{with_remainders}
use Rattle.rx_shapes.specs.declared.followed.Followed.{Followed}

-- not more places are added
abbrev pub most_remainders : ℕ
most_remainders = 2

-- the divisions by numbers at the places of a goal, in order, as many as places are added
abbrev pub place_divisions : Equation → List Division
place_divisions goal = take most_remainders (divisions (places_of goal))

-- what divisions leave
abbrev pub all_remainders : List Division → List Body
all_remainders ds = map (λ (d : Division). d.remainder) ds

-- what stands at the remainder places of a goal
abbrev pub remainders_of : Equation → List Body
remainders_of goal = all_remainders (place_divisions goal)

-- ---- the shape of a goal

-- the shape with places for what these divisions leave, from place x on, and the rows
abbrev pub with_places_from : ℕ → List Division → Followed → List Row → Followed
with_places_from x ds f rows =
    record f {
      remainders = all_remainders ds;
      variables = variables_from x (all_remainders ds);
      bounds = rows;
    }

-- the rows are its own, and those that may hold of what divisions leave
abbrev pub opened_at : ℕ → Followed → List Division → Option Followed
opened_at x f ds = do
  rows ← form_within (with_remainders x f.bounds ds)
  Some (with_places_from x ds f rows)

-- the shape of the goal, from which it is followed, with its remainder places behind all others; rows
-- that may hold there come after those of rules and goals
abbrev pub with_remainder_places : Equation → Followed → Option Followed
with_remainder_places goal f = opened_at (length (places_of goal)) f (place_divisions goal)
