-- What each kind of step makes of the goal: the rows that are asked, the new goals, and the
-- hypothesis that is kept.
use Rattle.std.specs.Prelude.{ℕ, zero, suc, Bool, if◌then◌else◌, List, [], ◌∷◌, ◌++◌, map}
use Rattle.rx_plain.specs.Formed.{Formed, map_formed, ◌>>=◌, ◌<$>◌}
use Rattle.rx_poly.specs.Constants.{variable}
use Rattle.rx_poly.specs.declared.body.Body.{Body}
use Rattle.rx_row.specs.Negation.{negated}
use Rattle.rx_row.specs.Substitution.{rows_with}
use Rattle.rx_row.specs.declared.row.Row.{Row}
use Rattle.rx_row.specs.declared.row.Row.TheVariants as row
use Rattle.rx_term.specs.Bounds.{equation_bound}
use Rattle.rx_term.specs.Differences.{term_differences}
use Rattle.rx_term.specs.Domains.{inside_of}
use Rattle.rx_term.specs.Meaning.{matched}
use Rattle.rx_term.specs.Paired.{rules_of_shape}
use Rattle.rx_term.specs.Shapes.{shape_of}
use Rattle.rx_term.specs.Stacks.{replace_redex, replace_at}
use Rattle.rx_term.specs.Substitution.{term_with}
use Rattle.rx_term.specs.declared.rule.Equation.{Equation}
use Rattle.rx_term.specs.declared.rule.Rule.{Rule}
use Rattle.rx_term.specs.declared.rule_set.RuleParts.{RuleParts}
use Rattle.rx_term.specs.declared.term.Term.{Term}
use Rattle.rx_term.specs.declared.term.Term.TheVariants.{Return, Fail}
use Rattle.rx_inference.specs.Pieces.{asking, asking_nothing, equal_arguments, equal_lists, other_side, rule_with, side_of, with_rows, with_side}
use Rattle.rx_inference.specs.declared.formed_step.Asked.TheVariants as asked
use Rattle.rx_inference.specs.declared.formed_step.FormedStep.{FormedStep}
use Rattle.rx_inference.specs.declared.formed_step.Under.TheVariants as under
use Rattle.rx_inference.specs.declared.pieces.RuleInstance.{RuleInstance}
use Rattle.rx_inference.specs.declared.step.Side.{Side}

-- ---- rules and hypotheses

-- a rule: its rows, and its right side in place of the redex
abbrev pub simplified_by : Equation → Side → Term → Rule → Formed FormedStep
simplified_by goal side redex rule =
    (λ (i : RuleInstance). asking i.rows (with_side side goal
    (replace_redex (side_of side goal) i.right) ∷ []))
    <$> rule_with (matched redex) rule

-- a hypothesis: the polynomials of the part equal those of its left side, and its rows hold
abbrev pub hypothesis_with : List (ℕ × Body) → Term → Rule → Formed RuleInstance
hypothesis_with ws part hypothesis = do
  left ← term_with ws hypothesis.left
  equal ← equal_arguments part left
  (λ (i : RuleInstance). record { rows = equal ++ i.rows; right = i.right }) <$> rule_with ws
      hypothesis

-- the hypothesis's right side in place of the part, under the rows that it asks
abbrev pub used_by : Equation → Side → ℕ → Formed RuleInstance → Formed FormedStep
used_by goal side place instance =
    (λ (i : RuleInstance). asking i.rows (with_side side goal
    (replace_at place (side_of side goal) i.right) ∷ [])) <$> instance

-- one rule of the redex's shape: its rows added to the goal's, and its right side in place of the
-- redex
abbrev pub expanded_by : Equation → Side → Term → Rule → Formed Equation
expanded_by goal side redex rule =
    (λ (i : RuleInstance). with_rows (with_side side goal
    (replace_redex (side_of side goal) i.right)) i.rows)
    <$> rule_with (matched redex) rule

-- the goal as a rule, from this side to the other
abbrev pub from_side : Side → Equation → Rule
from_side side goal =
    record { left = side_of side goal; right = other_side side goal; rows = goal.rows }

-- the goal as a hypothesis, where it is kept
abbrev pub kept_if : Bool → Side → Equation → List Rule
kept_if keep side goal = if keep then from_side side goal ∷ [] else []

-- one new goal for each rule of the redex's shape, in order
abbrev pub expanded_by_all : List Rule → Equation → Side → Bool → Term → Formed FormedStep
expanded_by_all rules goal side keep redex =
    (λ goals. asking_nothing goals (kept_if keep side goal))
    <$> map_formed (expanded_by goal side redex) (rules_of_shape (shape_of redex) rules)

-- ---- both sides of one shape

-- their polynomials are equal, one by one, and nothing is left to show
abbrev pub equal_by : Equation → Formed FormedStep
equal_by goal = (λ rows. asking rows []) <$> equal_arguments goal.left goal.right

-- the goal with the row that this difference isn't 0
abbrev pub differing : Equation → Body → Equation
differing goal p = with_rows goal (row.Ne p ∷ [])

-- one such goal for each pair of polynomials
abbrev pub different_by : Equation → Formed FormedStep
different_by goal =
    (λ ps. asking_nothing (map (differing goal) ps) []) <$> term_differences goal.left goal.right

-- ---- other goals

-- the polynomials of a term, with others in place of variables, equal those of another term
abbrev pub instance_equals : List (ℕ × Body) → Term → Term → Formed (List Row)
instance_equals ws s t = do
  instance ← term_with ws s
  equal_arguments instance t

-- what makes the goal an instance of the new one: equal polynomials on both sides
abbrev pub side_rows : List (ℕ × Body) → Equation → Equation → Formed (List Row)
side_rows ws new goal = do
  lefts ← instance_equals ws new.left goal.left
  (λ rights. lefts ++ rights) <$> instance_equals ws new.right goal.right

-- and the new rows
abbrev pub instance_rows : List (ℕ × Body) → Equation → Equation → Formed (List Row)
instance_rows ws new goal = do
  sides ← side_rows ws new goal
  (λ rows. sides ++ rows) <$> rows_with ws new.rows

-- rows under those of the goal, others under those of the new goal, and it in place of the goal
abbrev pub asking_inside : List Row → List Row → Equation → FormedStep
asking_inside rows inside new =
    record {
      asked = asked.Rows (record { under = under.Goal; rows = rows } ∷
          record { under = under.New; rows = inside } ∷ []);
      goals = new ∷ [];
      kept = [];
    }

-- the new goal, inside the domains, in place of this one, which is its instance
abbrev pub generalised_by : RuleParts → Equation → Equation → List (ℕ × Body) → Formed FormedStep
generalised_by parts goal new ws = do
  rows ← instance_rows ws new goal
  (λ inside. asking_inside rows inside new) <$> inside_of parts new

-- rows under those of the new goal, and it before the old one
abbrev pub asking_before : List Row → Equation → Equation → FormedStep
asking_before inside new goal =
    record {
      asked = asked.Rows (record { under = under.New; rows = inside } ∷ []);
      goals = new ∷ goal ∷ [];
      kept = [];
    }

-- the new goal, inside the domains, before the old one
abbrev pub postulated_by : RuleParts → Equation → Equation → Formed FormedStep
postulated_by parts goal new = (λ inside. asking_before inside new goal) <$> inside_of parts new

-- the goal with the row, and then with its negation
abbrev pub split_by : Equation → Row → Formed FormedStep
split_by goal r =
    (λ negation. asking_nothing (with_rows goal (r ∷ []) ∷ with_rows goal (negation ∷ []) ∷ []) [])
    <$> negated r

-- ---- frames and results

-- two terms under the rows of the goal
abbrev pub with_sides : Equation → Term → Term → Equation
with_sides goal s t = record { left = s; right = t; rows = goal.rows }

-- two frames have equal polynomials, and the terms that they are over make the new goal
abbrev pub decomposed_by : Equation → List Body → List Body → Term → Term → Formed FormedStep
decomposed_by goal ps qs one other =
    (λ rows. asking rows (with_sides goal one other ∷ [])) <$> equal_lists ps qs

-- n failures, with codes from 1 on
abbrev pub failures : ℕ → List Term
failures zero = []
failures (suc n) = failures n ++ Fail (suc n) ∷ []

-- what two equal terms may come to: an integer, which a variable represents, or a failure
abbrev pub results_of : ℕ → ℕ → List Term
results_of fails fresh = Return (variable fresh) ∷ failures fails

-- the goal with one of them in place of both parts
abbrev pub with_result : Equation → ℕ → ℕ → Term → Equation
with_result goal left right end =
    with_sides goal (replace_at left goal.left end) (replace_at right goal.right end)

-- new goals, where rows that are formed are asked
abbrev pub asking_formed : Formed (List Row) → List Equation → Formed FormedStep
asking_formed rows goals = (λ rs. asking rs goals) <$> rows

-- the polynomials of both parts are equal; a goal for each result, with the least number above all
-- variables of the goal as the new variable
abbrev pub resulting_by : ℕ → Equation → ℕ → ℕ → Term → Term → Formed FormedStep
resulting_by fails goal left right one other =
    asking_formed (equal_arguments one other)
    (map (with_result goal left right) (results_of fails (equation_bound goal)))
