-- When a hypothesis is used at a part of a side of the goal where the other side may set its
-- variables too: those that neither the part nor the hypothesis's equations set.
use Rattle.std.specs.Prelude.{ℕ, nat_lt, if◌then◌else◌, Option, Some, None, List, length, option_and_then}
use Rattle.std.specs.List.{zip}
use Rattle.std.specs.Option.{option_map_or}
use Rattle.rx_plain.specs.Formed.{Formed, pure, ◌>>=◌}
use Rattle.rx_poly.specs.Constants.{variable}
use Rattle.rx_poly.specs.Reading.{variable_of}
use Rattle.rx_poly.specs.declared.body.Body.{Body, out-Body}
use Rattle.rx_cert.specs.Elimination.{solution_formed}
use Rattle.rx_term.specs.Bounds.{equation_bound}
use Rattle.rx_term.specs.Differences.{difference}
use Rattle.rx_term.specs.Stacks.{replace_at, suffix_at}
use Rattle.rx_term.specs.Variables.{arguments_of}
use Rattle.rx_term.specs.declared.rule.Equation.{Equation}
use Rattle.rx_term.specs.declared.rule.Rule.{Rule}
use Rattle.rx_term.specs.declared.rule_set.RuleParts.{RuleParts}
use Rattle.rx_term.specs.declared.term.Term.{Term}
use Rattle.rx_term.specs.declared.term.Term.TheVariants.{Return}
use Rattle.rx_solve.specs.Attempts.{Tried, fails}
use Rattle.rx_inference.specs.Pieces.{have_one_shape, other_side, side_of, variable_limit}
use Rattle.rx_inference.specs.declared.step.Side.{Side}
use Rattle.rx_match.specs.Arguments.{set_by_pairs}
use Rattle.rx_match.specs.Equations.{pass_times}
use Rattle.rx_match.specs.Matching.{matching, use_matched}
use Rattle.rx_match.specs.Settings.{is_set, set_to}
use Rattle.rx_match.specs.Simplification.{returned, simplified_often}
use Rattle.rx_match.specs.Variables.{rule_passes}

-- ---- the part beside it

-- the hypothesis's equations set what they can, in as many passes as it has rows
abbrev pub by_equations : Rule → List (ℕ × Body) → Formed (List (ℕ × Body))
by_equations hypothesis ws = pass_times (length hypothesis.rows) hypothesis.rows ws

-- where a part has the shape of the hypothesis's right side: variables that stand alone there and
-- aren't set take what stands in the same place of the part, and the equations set what they can
abbrev pub by_part : Rule → List (ℕ × Body) → Option Term → Formed (List (ℕ × Body))
by_part hypothesis ws None = pure ws
by_part hypothesis ws (Some part) =
    if have_one_shape part hypothesis.right
    then by_equations hypothesis
    (set_by_pairs (zip (arguments_of hypothesis.right) (arguments_of part)) ws)
    else pure ws

-- ---- the value that the other side wants

-- what p - q = 0 says of the variable, where it says a value
abbrev pub solved_for : ℕ → Body → Option Body → Formed (Option Body)
solved_for z q None = pure None
solved_for z q (Some p) = do
  gap ← difference (p, q)
  solution_formed z gap

-- how often a side is simplified at most
abbrev pub most_simplifications : ℕ
most_simplifications = 50

-- what the variable must be for the term to come to q, simplified without a choice
abbrev pub wanted : List Rule → ℕ → Term → Body → Formed (Option Body)
wanted rules z t q = do
  end ← simplified_often rules most_simplifications t
  solved_for z q (returned end)

-- so of the side with that variable in place of the part
abbrev pub with_unknown : Equation → Side → ℕ → ℕ → Term
with_unknown goal side place z = replace_at place (side_of side goal) (Return (variable z))

-- the variable is the least above all of the goal, where this is below the limit
abbrev pub wanted_in : List Rule → Equation → Side → ℕ → Body → Formed (Option Body)
wanted_in rules goal side place q =
    if nat_lt (equation_bound goal) variable_limit
    then wanted rules (equation_bound goal)
    (with_unknown goal side place (equation_bound goal)) q
    else pure None

-- the variable that the hypothesis returns
abbrev pub returned_variable : Rule → Option ℕ
returned_variable hypothesis =
    option_and_then (λ p. variable_of (out-Body p).terms) (returned hypothesis.right)

-- unless it is set
abbrev pub if_unset : List (ℕ × Body) → ℕ → Option ℕ
if_unset ws x = if is_set ws x then None else Some x

-- a variable is set to a value, and others by equations then
abbrev pub with_value : Rule → List (ℕ × Body) → ℕ → Option Body → Formed (List (ℕ × Body))
with_value hypothesis ws x None = pure ws
with_value hypothesis ws x (Some p) = by_equations hypothesis (set_to x p ws)

-- a value of that variable is wanted for the result on the other side, where there are both
abbrev pub by_wanted : Rule → List (ℕ × Body) → Option ℕ → (Body → Formed (Option Body)) →
    Option Body → Formed (List (ℕ × Body))
by_wanted hypothesis ws None find q = pure ws
by_wanted hypothesis ws (Some x) find None = pure ws
by_wanted hypothesis ws (Some x) find (Some q) = do
  value ← find q
  with_value hypothesis ws x value

-- ---- the match

-- where a variable of the hypothesis isn't set
abbrev pub where_unset : Rule → (List (ℕ × Body) → Formed (List (ℕ × Body))) → List (ℕ × Body) →
    Formed (List (ℕ × Body))
where_unset hypothesis set ws =
    if rule_passes (is_set ws) hypothesis then pure ws else set ws

-- by the part under equally many frames of the other side
abbrev pub by_other_side : Equation → Rule → Side → ℕ → List (ℕ × Body) →
    Formed (List (ℕ × Body))
by_other_side goal hypothesis side place ws =
    by_part hypothesis ws (suffix_at place (other_side side goal))

module _ (rules : List Rule) (goal : Equation) (hypothesis : Rule) (side : Side) (place : ℕ) where
  -- the variable that the hypothesis returns is set to what makes this side come to the result on
  -- the other one
  abbrev pub by_result : List (ℕ × Body) → Formed (List (ℕ × Body))
  by_result ws =
      by_wanted hypothesis ws (option_and_then (if_unset ws) (returned_variable hypothesis))
      (wanted_in rules goal side place) (returned (other_side side goal))

  -- first as without the other side, then by the part beside, then by the result that is wanted
  abbrev pub matching_beside : Term → Formed (List (ℕ × Body))
  matching_beside part = do
    ws ← matching hypothesis part
    vs ← where_unset hypothesis (by_other_side goal hypothesis side place) ws
    where_unset hypothesis by_result vs

-- ---- the use

-- at a part of the shape of the hypothesis's left side
abbrev pub use_beside_at : RuleParts → Equation → Rule → Side → ℕ → Term →
    Tried (List (ℕ × Body))
use_beside_at parts goal hypothesis side place part =
    use_matched goal hypothesis part
    (matching_beside parts.rules goal hypothesis side place part)

-- at the part under n frames of a side, if there is one
abbrev pub use_beside : RuleParts → Equation → Rule → Side → ℕ → Tried (List (ℕ × Body))
use_beside parts goal hypothesis side place =
    option_map_or (use_beside_at parts goal hypothesis side place)
    (suffix_at place (side_of side goal)) fails
