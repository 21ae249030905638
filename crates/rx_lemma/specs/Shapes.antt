-- What naming keeps of a goal.
use Rattle.std.specs.Prelude.{◌≡◌, true, IfSome}
use Rattle.rx_term.specs.Shapes.{shape_of}
use Rattle.rx_term.specs.declared.rule.Equation.{Equation}
use Rattle.rx_term.specs.declared.rule_set.RuleParts.{RuleParts}
use Rattle.rx_inference.specs.Pieces.{is_substitution}
use Rattle.rx_lemma.specs.Naming.{naming_of}
use Rattle.rx_lemma.specs.Lemmas.{Generalisation}

-- both sides have the same shapes
pub record HasShapesOf (goal new : Equation) : Type 0 where
  pub left : shape_of new.left ≡ shape_of goal.left
  pub right : shape_of new.right ≡ shape_of goal.right

-- so after naming
abbrev pub NamingKeepsShapes : Type 0
NamingKeepsShapes =
    (parts : RuleParts) (goal : Equation) → IfSome (naming_of parts goal).made
    (λ (found : Generalisation). HasShapesOf goal found.goal)

-- what its new variables are replaced by is a substitution, as a step asks
abbrev pub NamingSubstitutes : Type 0
NamingSubstitutes =
    (parts : RuleParts) (goal : Equation) → IfSome (naming_of parts goal).made
    (λ (found : Generalisation). is_substitution found.subst ≡ true)
