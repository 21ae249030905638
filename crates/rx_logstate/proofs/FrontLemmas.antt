-- Where the lines before the steps begin, by a look at the first step.
use Rattle.std.specs.Prelude.{◌≡◌, ℕ, List, [], ◌∷◌, Option, Ok, Err, take}
use Rattle.std.proofs.Common.{inl, inr, refl, subst}
use Rattle.rx_io.specs.Outside.{Names}
use Rattle.rx_inference.specs.declared.step.Step.{Step}
use Rattle.rx_log.specs.Acceptance.{after_steps, start, used}
use Rattle.rx_logstate.specs.AtSteps.{FindsFronts, FindsStep, HasNoPlace, IsNoLog}
use Rattle.rx_logstate.specs.declared.at_step.AtStep.{AtStep}
use Rattle.rx_logstate.specs.declared.look_end.LookEnd.{LookEnd}
use Rattle.rx_logstate.specs.declared.look_end.LookEnd.TheVariants as look_end
use Rattle.rx_term.specs.declared.rule.Equation.{Equation}
use Rattle.rx_term.specs.declared.rule_set.RuleParts.{RuleParts}

-- no step comes before the first
none_before : (steps : List Step) → take 0 steps ≡ []
none_before [] = refl
none_before (step ∷ steps) = refl

module _ (held : Option Names) (fault : Type 0) (name : List ℕ) (limit : ℕ) (parts : RuleParts)
    (goal : Equation)
  where
    pub fronts_found : (found : AtStep) →
        FindsStep held fault name limit parts goal 0 (Ok found) →
        FindsFronts held fault name limit (Ok found.fronts)
    fronts_found found h = record {
      bytes = h.bytes;
      holds = h.holds;
      said = (h.said.0, (h.said.1.0, h.said.1.1.fronts));
    }

    no_log : (bytes : List ℕ) → HasNoPlace parts goal 0 bytes → IsNoLog bytes
    no_log bytes (inl none) = none
    no_log bytes (inr (log, (is, inl unlawful))) = absurd (unlawful.0 (none_before log.steps))
    no_log bytes (inr (log, (is, inr refused))) =
        let no : after_steps (used parts log.domains) 0 (start goal) [] ≡ Err refused.fault =
        subst (λ (l : List Step).
        after_steps (used parts log.domains) 0 (start goal) l ≡ Err refused.fault)
        (none_before log.steps) refused.is in
        absurd (cc)

    pub fronts_missed : (end : LookEnd) →
        FindsStep held fault name limit parts goal 0 (Err end) →
        FindsFronts held fault name limit (Err end)
    fronts_missed look_end.Unread h = h
    fronts_missed look_end.NoPlace h = record {
      bytes = h.bytes;
      holds = h.holds;
      said = no_log h.bytes h.said;
    }
    fronts_missed look_end.NoMemory h = tt
