-- The parts that domains are to be kept at: the goal, and each rule. At each some rows are given,
-- and some symbols stand with their arguments, which are to be inside.
use Rattle.std.specs.Prelude.{None, List, [], ◌∷◌, ◌++◌, map}
use Rattle.rx_pairs.specs.Pairs.{Part, part}
use Rattle.rx_term.specs.Stacks.{root_of}
use Rattle.rx_term.specs.declared.rule.Equation.{Equation}
use Rattle.rx_term.specs.declared.rule.Rule.{Rule}
use Rattle.rx_term.specs.declared.rule_set.RuleParts.{RuleParts}
use Rattle.rx_term.specs.declared.term.Term.{Term, Term-F, fold-Term}
use Rattle.rx_find_domains.specs.declared.given.Given.{Given}

-- what is given there, and which symbols stand there with which arguments
pub record Asking : Type 0 where
  pub given : Given
  pub occurrences : List Part

-- the frames from outside in, and then the call
abbrev pub occurrences_level : Term-F (List Part) → List Part
occurrences_level (Term-F.Return p) = []
occurrences_level (Term-F.Fail c) = []
occurrences_level (Term-F.Call f ps) = part f ps ∷ []
occurrences_level (Term-F.Frame f ps inner) = part f ps ∷ inner

abbrev pub occurrences_of : Term → List Part
occurrences_of = fold-Term (List Part) occurrences_level

-- both sides of the goal, under its rows
abbrev pub goal_given : Equation → Given
goal_given goal = record { rows = goal.rows; root = None }

abbrev pub goal_asking : Equation → Asking
goal_asking goal = record {
  given = goal_given goal;
  occurrences = occurrences_of goal.left ++ occurrences_of goal.right;
}

-- the rule's right side, under its rows and the domain of its left root
abbrev pub rule_given : Rule → Given
rule_given rule = record { rows = rule.rows; root = root_of rule.left }

abbrev pub rule_asking : Rule → Asking
rule_asking rule =
    record { given = rule_given rule; occurrences = occurrences_of rule.right }

-- the goal comes first, and then the rules in order
abbrev pub all_askings : RuleParts → Equation → List Asking
all_askings parts goal = goal_asking goal ∷ map rule_asking parts.rules
