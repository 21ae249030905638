-- What each kind of step asks of the form of the goal, of rules and of hypotheses, in order, before
-- anything is made of them.
use Rattle.std.specs.Prelude.{ℕ, nat_eq, nat_le, nat_lt, Bool, not, ◌&&◌, Option, Some, None, Ok, Err, List, [], slice_get}
use Rattle.rx_poly.specs.declared.body.Body.{Body}
use Rattle.rx_row.specs.Variables.{row_bound}
use Rattle.rx_row.specs.declared.row.Row.{Row}
use Rattle.rx_term.specs.Bounds.{equation_bound}
use Rattle.rx_term.specs.Meaning.{redex_of}
use Rattle.rx_term.specs.Stacks.{suffix_at, ends_in_call}
use Rattle.rx_term.specs.declared.rule.Equation.{Equation}
use Rattle.rx_term.specs.declared.rule.Rule.{Rule}
use Rattle.rx_term.specs.declared.rule_set.RuleParts.{RuleParts}
use Rattle.rx_term.specs.declared.term.Term.{Term}
use Rattle.rx_inference.specs.Forming.{Forming, found_or, limited, provided, ◌>>=◌}
use Rattle.rx_inference.specs.Making.{decomposed_by, different_by, equal_by, expanded_by_all, generalised_by, hypothesis_with, postulated_by, resulting_by, simplified_by, split_by, used_by}
use Rattle.rx_inference.specs.Pieces.{have_one_shape, is_equation, is_substitution, side_of, top_frame, variable_limit}
use Rattle.rx_inference.specs.declared.form_end.FormEnd.TheVariants.{NoGoal, NoSuchRule, WrongShape}
use Rattle.rx_inference.specs.declared.formed_step.Asked.TheVariants as asked
use Rattle.rx_inference.specs.declared.formed_step.FormedStep.{FormedStep}
use Rattle.rx_inference.specs.declared.step.Delete.{Delete}
use Rattle.rx_inference.specs.declared.step.Delete.TheVariants.{Absurd, Equal}
use Rattle.rx_inference.specs.declared.step.Side.{Side}
use Rattle.rx_inference.specs.declared.step.Step.{Step}
use Rattle.rx_inference.specs.declared.step.Step.TheVariants as step

-- ---- one side

-- Simplify: the side has a redex, there is the rule, and its left side has the redex's shape
abbrev pub simplified : List Rule → Equation → Side → ℕ → Forming FormedStep
simplified rules goal side number = do
  redex ← found_or WrongShape (redex_of (side_of side goal))
  rule ← found_or NoSuchRule (slice_get rules number)
  provided (have_one_shape rule.left redex) (limited (simplified_by goal side redex rule))

-- Hyp: there is the part, the list is a substitution, there is the hypothesis, and its left side
-- has the part's shape
abbrev pub used : List Rule → Equation → Side → ℕ → ℕ → List (ℕ × Body) → Forming FormedStep
used hypotheses goal side place number ws = do
  part ← found_or WrongShape (suffix_at place (side_of side goal))
  hypothesis ← provided (is_substitution ws) (found_or NoSuchRule (slice_get hypotheses number))
  provided (have_one_shape part hypothesis.left)
      (limited (used_by goal side place (hypothesis_with ws part hypothesis)))

-- Expand: the side has a redex
abbrev pub expanded : List Rule → Equation → Side → Bool → Forming FormedStep
expanded rules goal side keep = do
  redex ← found_or WrongShape (redex_of (side_of side goal))
  limited (expanded_by_all rules goal side keep redex)

-- ---- both sides

-- Delete by equal sides: they have one shape
abbrev pub equated : Equation → Forming FormedStep
equated goal = provided (have_one_shape goal.left goal.right) (limited (equal_by goal))

-- Delete: the rows of the goal are to be refuted, or both sides are equal
abbrev pub deleted : Equation → Delete → Forming FormedStep
deleted goal (Absurd cert) = Ok (record { asked = asked.Refuted; goals = []; kept = [] })
deleted goal (Equal certs) = equated goal

-- EqDelete: both sides have one shape
abbrev pub different : Equation → Forming FormedStep
different goal = provided (have_one_shape goal.left goal.right) (limited (different_by goal))

-- ---- other goals

-- Generalise: the new goal is an equation, the list a substitution, and each new side has the shape
-- of the old one
abbrev pub generalised : RuleParts → Equation → Equation → List (ℕ × Body) → Forming FormedStep
generalised parts goal new ws =
    provided (is_equation parts new && (is_substitution ws &&
    (have_one_shape new.left goal.left && have_one_shape new.right goal.right)))
    (limited (generalised_by parts goal new ws))

-- Postulate: the new goal is an equation
abbrev pub postulated : RuleParts → Equation → Equation → Forming FormedStep
postulated parts goal new = provided (is_equation parts new) (limited (postulated_by parts goal new))

-- Split: all variables of the row are below the limit
abbrev pub split : Equation → Row → Forming FormedStep
split goal r = provided (nat_le (row_bound r) variable_limit) (limited (split_by goal r))

-- ---- frames and results

-- Decompose: both sides are frames of one symbol
abbrev pub decomposed : Equation → Forming FormedStep
decomposed goal = do
  one ← found_or WrongShape (top_frame goal.left)
  other ← found_or WrongShape (top_frame goal.right)
  provided (nat_eq one.symbol other.symbol) (limited
      (decomposed_by goal one.arguments other.arguments one.inner other.inner))

-- two parts at these places have one shape, which ends in a call, and they aren't both whole sides
abbrev pub are_common : Term → Term → ℕ → ℕ → Bool
are_common one other left right =
    have_one_shape one other && (ends_in_call one && not (nat_eq left 0 && nat_eq right 0))

-- Results: both parts are there and are so, and the least number above all variables of the goal is
-- below the limit
abbrev pub resulting : ℕ → Equation → ℕ → ℕ → Forming FormedStep
resulting fails goal left right = do
  one ← found_or WrongShape (suffix_at left goal.left)
  other ← found_or WrongShape (suffix_at right goal.right)
  provided (are_common one other left right && nat_lt (equation_bound goal) variable_limit)
      (limited (resulting_by fails goal left right one other))

-- ---- all kinds

-- a step on a goal, by its kind
abbrev pub formed_on : RuleParts → Equation → List Rule → Step → Forming FormedStep
formed_on parts goal hypotheses (step.Simplify side rule certs) =
    simplified parts.rules goal side rule
formed_on parts goal hypotheses (step.Hyp side place hyp subst certs) =
    used hypotheses goal side place hyp subst
formed_on parts goal hypotheses (step.Expand side keep) = expanded parts.rules goal side keep
formed_on parts goal hypotheses (step.Delete by) = deleted goal by
formed_on parts goal hypotheses step.EqDelete = different goal
formed_on parts goal hypotheses (step.Generalise left right rows subst certs) =
    generalised parts goal (record { left = left; right = right; rows = rows }) subst
formed_on parts goal hypotheses (step.Postulate left right rows certs) =
    postulated parts goal (record { left = left; right = right; rows = rows })
formed_on parts goal hypotheses (step.Split r) = split goal r
formed_on parts goal hypotheses (step.Decompose certs) = decomposed goal
formed_on parts goal hypotheses (step.Results left right certs) =
    resulting parts.fails goal left right

-- a step on the first goal, where there is one
abbrev pub formed : RuleParts → Option Equation → List Rule → Step → Forming FormedStep
formed parts None hypotheses step = Err NoGoal
formed parts (Some goal) hypotheses step = formed_on parts goal hypotheses step
