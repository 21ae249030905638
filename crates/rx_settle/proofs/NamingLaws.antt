-- What comes of naming the constants of the first goal.
use Rattle.std.proofs.Common.{◌≡◌, ◌∙◌, ap, subst, sym, false, true, Option, Some, None, Ok, Err}
use Rattle.std.specs.Prelude.{IfOk, Result, slice_get}
use Rattle.rx_poly.specs.declared.poly_end.PolyEnd.{PolyEnd}
use Rattle.rx_poly.specs.declared.poly_end.PolyEnd.TheVariants as poly_end
use Rattle.rx_solve.specs.Attempts.{Tried, applies, beyond, fails}
use Rattle.rx_term.specs.declared.rule.Equation.{Equation}
use Rattle.rx_term.specs.declared.rule_set.RuleParts.{RuleParts}
use Rattle.rx_inference.specs.States.{State}
use Rattle.rx_inference.specs.declared.step.Step.{Step}
use Rattle.rx_lemma.specs.Answers.{Finds}
use Rattle.rx_lemma.specs.Lemmas.{found_as}
use Rattle.rx_lemma.specs.Naming.{naming_of}
use Rattle.rx_lemma.specs.declared.generalised.Generalised.{Generalised}
use Rattle.rx_lemma.specs.Lemmas.{Generalisation}
use Rattle.rx_settle.specs.Answers.{IsTrial}
use Rattle.rx_settle.specs.AtFirst.{at_first}
use Rattle.rx_moves.specs.Moves.{Generalise, move_of}
use Rattle.rx_settle.specs.Settling.{named}
use Rattle.rx_moves.specs.Trying.{Next, attempt, then_try}
use Rattle.rx_settle.specs.declared.trial.Trial.{Trial}
use Rattle.rx_settle.proofs.FirstLaws.{at_goal}
use Rattle.rx_moves.proofs.TriedLaws.{nothing_noted}
use Rattle.rx_settle.proofs.TrialLaws.{answer_of, beyond_trial, failed_trial}

module _ (parts : RuleParts) (old : State) (goal : Equation)
    (first : Some goal ≡ slice_get old.goals 0) where
  abbrev naming : Tried Next
  naming = at_first (named parts old) old.goals

  -- the step to what is found, with what was noted as it was found
  abbrev of_lemma : Tried Generalisation → Tried Next
  of_lemma found =
      then_try found (λ (lemma : Generalisation).
      attempt parts old (Generalise lemma.goal lemma.subst))

  by_lemma : (found : Tried Generalisation) → naming_of parts goal ≡ found → naming ≡ of_lemma found
  by_lemma found is = at_goal (named parts old) old.goals goal first ∙ ap of_lemma is

  -- a lemma is found, and its step is tried
  pub lemma_tried : {E : Type 0} (a : Option Generalised) (found : Generalised) (step : Step)
      (new : State) (r : Result Trial E) → Finds (naming_of parts goal) (Ok a) → a ≡ Some found
      → move_of step ≡ Generalise found.goal found.subst →
      IfOk r (IsTrial parts old new (attempt parts old (move_of step))) →
      IfOk r (IsTrial parts old new naming)
  lemma_tried a found step new r finds is moves tried =
      let lemma : naming_of parts goal ≡ applies (found_as found) =
      subst (λ x. Finds (naming_of parts goal) (Ok x)) is finds in
      let step_alone : naming ≡ attempt parts old (Generalise found.goal found.subst) =
      by_lemma (applies (found_as found)) lemma ∙
      nothing_noted (attempt parts old (Generalise found.goal found.subst)) in
      answer_of parts old new (attempt parts old (move_of step)) naming r
      (ap (attempt parts old) moves ∙ sym step_alone) tried

  -- none is
  pub no_lemma : (a : Option Generalised) (t : Trial) → Finds (naming_of parts goal) (Ok a) → a ≡
      None → t ≡ record { taken = None; noted = false } → IsTrial parts old old naming t
  no_lemma a t finds is same =
      let none : naming_of parts goal ≡ fails =
      subst (λ x. Finds (naming_of parts goal) (Ok x)) is finds in
      failed_trial parts old naming t (by_lemma fails none) same

  -- something passes the limits
  pub lemma_beyond : (e : PolyEnd) (t : Trial) → Finds (naming_of parts goal) (Err e) → e ≡
      poly_end.Large → t ≡ record { taken = None; noted = true } → IsTrial parts old old naming t
  lemma_beyond e t finds is same = beyond_trial parts old naming t (by_lemma beyond (finds is)) same
