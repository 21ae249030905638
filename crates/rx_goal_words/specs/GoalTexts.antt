-- The first goal of a state, with what a step may use for it.
use Rattle.std.specs.Prelude.{ℕ, Option, Some, None, List, [], ◌∷◌, ◌++◌, codes, slice_get}
use Rattle.rx_inference.specs.States.{State}
use Rattle.rx_term.specs.Meaning.{redex_of}
use Rattle.rx_term.specs.declared.rule.Equation.{Equation}
use Rattle.rx_term.specs.declared.rule.Rule.{Rule}
use Rattle.rx_term.specs.declared.rule_set.RuleParts.{RuleParts}
use Rattle.rx_term.specs.declared.term.Term.{Term}
use Rattle.rx_term_words.specs.Terms.{term_text}
use Rattle.rx_goal_words.specs.RuleTexts.{any_rule, is_of_shape, rows_text, rules_text}

-- both sides, and the rows under which they are to be equal
abbrev pub goal_text : Equation → List ℕ
goal_text goal =
    codes "  goal: " ++ (term_text goal.left ++ (codes " = " ++ (term_text goal.right
    ++ (rows_text goal.rows ++ codes "\n"))))

-- what the rules at a redex begin with, for the side with this name
abbrev pub side_text : List ℕ → List ℕ
side_text side = codes "  rules at the redex of " ++ (side ++ codes ":\n")

-- the rules of the redex's shape, for that side
abbrev pub at_redex : List ℕ → Term → List Rule → List ℕ
at_redex side redex rules = side_text side ++ rules_text (is_of_shape redex) 0 rules

-- nothing where there is no redex
abbrev pub redex_text : List ℕ → Option Term → List Rule → List ℕ
redex_text side None rules = []
redex_text side (Some redex) rules = at_redex side redex rules

-- the hypotheses; nothing where there are none
abbrev pub hypotheses_text : List Rule → List ℕ
hypotheses_text [] = []
hypotheses_text (first ∷ more) =
    codes "  hypotheses:\n" ++ rules_text any_rule 0 (first ∷ more)

-- a goal, the rules at the redexes of its sides, and the hypotheses
abbrev pub on_goal : List Rule → List Rule → Option Equation → List ℕ
on_goal rules hypotheses None = codes "  no goal is left\n"
on_goal rules hypotheses (Some goal) =
    goal_text goal ++ (redex_text (codes "l") (redex_of goal.left) rules
    ++ (redex_text (codes "r") (redex_of goal.right) rules ++ hypotheses_text hypotheses))

-- the same of the first goal of a state
abbrev pub state_text : RuleParts → State → List ℕ
state_text parts state = on_goal parts.rules state.hypotheses (slice_get state.goals 0)
