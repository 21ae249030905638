-- What the answers of calls that try the steps to generalisations say.
use Rattle.std.specs.Prelude.{◌≡◌, All, List, map}
use Rattle.rx_solve.specs.Attempts.{applying, is_noted}
use Rattle.rx_term.specs.declared.rule.Equation.{Equation}
use Rattle.rx_term.specs.declared.rule_set.RuleParts.{RuleParts}
use Rattle.rx_inference.specs.States.{State}
use Rattle.rx_steps.specs.Alone.{alone}
use Rattle.rx_lemma.specs.Lemmas.{Generalisation}
use Rattle.rx_settle.specs.Answers.{IsTrial}
use Rattle.rx_settle.specs.declared.trial.Trial.{Trial}
use Rattle.rx_find_lemmas.specs.Finders.{IsShown}
use Rattle.rx_find_lemmas.specs.Finding.{attempted, tried}
use Rattle.rx_find_lemmas.specs.Lemmas.{general}
use Rattle.rx_find_lemmas.specs.declared.lemma.Found.{Found}

module _ (parts : RuleParts) (goal : Equation) where
  -- the step was tried where the goal is alone, and came to some state
  pub record IsTriedAlone (g : Generalisation) (trial : Trial) : Type 0 where
    pub after : State
    pub is : IsTrial parts (alone goal) after (attempted parts goal g) trial

  -- the steps to these were tried: the lemmas are those whose steps apply, with their certificates
  pub record AreTried (gs : List Generalisation) (found : Found) : Type 0 where
    pub lemmas : map general found.lemmas ≡ applying (map (tried parts goal) gs)
    pub noted : found.noted ≡ is_noted (map (tried parts goal) gs)
    pub shown : All (IsShown parts goal) found.lemmas
