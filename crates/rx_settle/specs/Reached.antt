-- States that steps reach from a goal.
use Rattle.std.specs.Prelude.{◌≡◌, Ok, List}
use Rattle.rx_term.specs.WellMade.{IsWellMade}
use Rattle.rx_term.specs.declared.rule.Equation.{Equation}
use Rattle.rx_term.specs.declared.rule_set.RuleParts.{RuleParts}
use Rattle.rx_inference.specs.States.{State}
use Rattle.rx_inference.specs.declared.step.Step.{Step}
use Rattle.rx_proofs.specs.Goals.{IsFitting}
use Rattle.rx_proofs.specs.Runs as runs
use Rattle.rx_settle.specs.Answers.{AreDeep, after_all}

-- the rules are well made and the goal fits them; the steps lead from it to the state, and no
-- certificate is deep
pub record IsReachedBy (parts : RuleParts) (goal : Equation) (steps : List Step) (state : State) :
    Type 0 where
  pub made : IsWellMade parts
  pub fits : IsFitting parts goal
  pub applies : after_all parts (runs.start goal) steps ≡ Ok state
  pub deep : AreDeep steps
