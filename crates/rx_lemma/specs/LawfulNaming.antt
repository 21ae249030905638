-- Naming is lawful.
use Rattle.std.specs.Prelude.{IfSome}
use Rattle.rx_term.specs.declared.rule.Equation.{Equation}
use Rattle.rx_term.specs.declared.rule_set.RuleParts.{RuleParts}
use Rattle.rx_lemma.specs.Naming.{naming_of}
use Rattle.rx_lemma.specs.Lawful.{IsGoal, IsLawfulInside}

-- what naming makes of a goal, where it applies and stays inside the domains, is a lawful step
abbrev pub NamingIsLawful : Type 0
NamingIsLawful =
    (parts : RuleParts) (goal : Equation) → IsGoal parts goal →
    IfSome (naming_of parts goal).made (IsLawfulInside parts goal)
