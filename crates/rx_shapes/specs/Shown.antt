-- Which rows a goal shows.
use Rattle.std.specs.Prelude.{Bool, true, false, ◌&&◌, List, filter}
use Rattle.std.specs.List.{fold}
use Rattle.rx_plain.specs.Formed.{Formed}
use Rattle.rx_poly.specs.Substitution.{numbered}
use Rattle.rx_row.specs.Substitution.{row_with}
use Rattle.rx_row.specs.declared.row.Row.{Row}
use Rattle.rx_cert.specs.Findings.{Said, Yes, No, Beyond}
use Rattle.rx_cert.specs.Showing.{shown}
use Rattle.rx_solve.specs.Refuter.{refuted}
use Rattle.rx_shapes.specs.declared.followed.PlacedGoal.{PlacedGoal}

-- it is found, and nothing passes the limits on the way
abbrev pub is_yes : Said → Bool
is_yes Yes = true
is_yes No = false
is_yes Beyond = false

-- the refuter shows the row under the given ones
abbrev pub is_shown : List Row → Row → Bool
is_shown given row = is_yes (shown refuted given row)

-- so of a row that is formed
abbrev pub is_formed_shown : List Row → Formed Row → Bool
is_formed_shown given row = row.within && is_shown given row.form

-- the goal shows the row: under its rows the row is shown with the polynomial at place i in place of
-- variable i
abbrev pub shows : PlacedGoal → Row → Bool
shows goal row = is_formed_shown goal.equation.rows (row_with (numbered goal.places) row)

-- those of the rows that the goal shows
abbrev pub shown_at : PlacedGoal → List Row → List Row
shown_at goal rows = filter (shows goal) rows

-- those that each of the goals shows
abbrev pub shown_by_each : List Row → PlacedGoal → List Row
shown_by_each rows goal = shown_at goal rows

abbrev pub shown_at_all : List Row → List PlacedGoal → List Row
shown_at_all rows goals = fold shown_by_each rows goals
