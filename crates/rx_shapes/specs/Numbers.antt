-- Rows that may hold at all goals of a shape, since a place that is a number at one of them is at
-- least that number there.
use Rattle.std.specs.Prelude.{ℕ, suc, Option, Some, None, List, [], ◌∷◌, take, ℤ}
use Rattle.rx_plain.specs.Formed.{Formed, pure, kept, ◌>>=◌, ◌<$>◌, fold_formed}
use Rattle.rx_poly.specs.Constants.{number, variable}
use Rattle.rx_poly.specs.Limits.{body_difference, is_within}
use Rattle.rx_poly.specs.Reading.{constant_of}
use Rattle.rx_poly.specs.declared.body.Body.{Body, out-Body}
use Rattle.rx_row.specs.Membership.{pushed}
use Rattle.rx_row.specs.declared.row.Row.{Row}
use Rattle.rx_row.specs.declared.row.Row.TheVariants.{Ge}
use Rattle.rx_relations.specs.declared.instance.Instance.{Instance}

-- the rows, with x_i - c >= 0 unless it stands among them
abbrev pub with_number : ℕ → List Row → Option ℤ → Formed (List Row)
with_number i rows None = pure rows
with_number i rows (Some c) =
    (λ p. pushed rows (Ge p)) <$> kept is_within (body_difference (variable i) (number c))

-- so for those of the values that are numbers, at places numbered on from i
abbrev pub with_numbers : ℕ → List Row → List Body → Formed (List Row)
with_numbers i rows [] = pure rows
with_numbers i rows (v ∷ vs) = do
  more ← with_number i rows (constant_of (out-Body v).terms)
  with_numbers (suc i) more vs

-- so for the first values of a goal, as many as the sides have places
abbrev pub with_goal_numbers : ℕ → List Row → Instance → Formed (List Row)
with_goal_numbers count rows goal = with_numbers 0 rows (take count goal.values)

-- so for each of the goals
abbrev pub number_bounds : ℕ → List Row → List Instance → Formed (List Row)
number_bounds count rows goals = fold_formed (with_goal_numbers count) rows goals
