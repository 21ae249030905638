-- What comes of trying a step, by what forming it comes to and by what is shown.
use Rattle.std.proofs.Common.{◌≡◌, ◌∙◌, ap, subst, sym, refl, true, false, Option, Some, None, Ok, Err, List}
use Rattle.std.specs.Prelude.{IfOk, OnOk, Result, slice_get}
use Rattle.rx_cert.specs.Findings.{Yes}
use Rattle.rx_cert.specs.declared.cert.Cert.{Cert}
use Rattle.rx_solve.specs.Attempts.{Tried, applies}
use Rattle.rx_term.specs.declared.rule.Equation.{Equation}
use Rattle.rx_term.specs.declared.rule.Rule.{Rule}
use Rattle.rx_term.specs.declared.rule_set.RuleParts.{RuleParts}
use Rattle.rx_inference.specs.Judging.{first_rows}
use Rattle.rx_inference.specs.States.{State, applied, taken}
use Rattle.rx_inference.specs.declared.formed_step.FormedStep.{FormedStep}
use Rattle.rx_inference.specs.declared.step.Step.{Step}
use Rattle.rx_inference.proofs.FormingLaws.{shown_taken}
use Rattle.rx_settle.specs.Answers.{IsTrial}
use Rattle.rx_settle.specs.Certified.{asks_rows, certified}
use Rattle.rx_moves.specs.Moves.{Move, move_of}
use Rattle.rx_moves.specs.Outcomes.{Follows, IsOutcome}
use Rattle.rx_moves.specs.Parts.{AreProofs, IsFormation, ShownBy, formed_first}
use Rattle.rx_moves.specs.declared.formation.Formation.{Formation}
use Rattle.rx_moves.specs.declared.formation.Formation.TheVariants as formation
use Rattle.rx_moves.specs.declared.outcome.Outcome.{Outcome}
use Rattle.rx_moves.specs.declared.outcome.Outcome.TheVariants as out
use Rattle.rx_inference.specs.Kinds.{formed}
use Rattle.rx_moves.specs.Trying.{Next, attempt}
use Rattle.rx_settle.specs.declared.trial.Trial.{Trial}
use Rattle.rx_moves.proofs.OutcomeLaws.{by_said, large_outcome, refused_outcome}
use Rattle.rx_settle.proofs.CertifiedLaws.{certified_deep, certified_formed, certified_move, certified_shown}

-- ---- trials

module _ (parts : RuleParts) (old : State) (s : Step) where
  pub failed_trial : IsOutcome parts old s out.Fails →
      IsTrial parts old old (attempt parts old (move_of s)) (record { taken = None; noted = false })
  unfolding IsOutcome
  failed_trial e =
      record {
        noted = sym (ap (λ (t : Tried Next). t.noted) e);
        taken =
            (ap (λ (t : Tried Next). t.made) e, refl);
      }

  pub large_trial : IsOutcome parts old s out.TooLarge →
      IsTrial parts old old (attempt parts old (move_of s)) (record { taken = None; noted = true })
  unfolding IsOutcome
  large_trial e =
      record {
        noted = sym (ap (λ (t : Tried Next). t.noted) e);
        taken =
            (ap (λ (t : Tried Next). t.made) e, refl);
      }

  module _ (f : FormedStep) (certs : List Cert) (rows : asks_rows s ≡ true)
      (outcome : IsOutcome parts old s (out.Shown f certs)) where
    formed_so : formed_first parts old s ≡ Ok f
    unfolding IsOutcome
    formed_so = outcome.0

    parts_of : AreProofs (first_rows old.goals) (first_rows f.goals) f.asked certs
    unfolding IsOutcome ShownBy
    parts_of = outcome.1

    abbrev next_by : Move → Option Next
    next_by m = Some (record { move = m; state = taken old f })

    same_next : next_by (move_of s) ≡ next_by (move_of (certified s certs))
    same_next = ap next_by (sym (certified_move s certs))

    makes_so : applied parts old (certified s certs) ≡ Ok (taken old f)
    unfolding formed_first
    makes_so = shown_taken parts old (certified s certs) f
        (certified_formed parts (slice_get old.goals 0) old.hypotheses s certs ∙ formed_so)
        (certified_shown parts (slice_get old.goals 0) old.hypotheses (first_rows old.goals)
        (first_rows f.goals) certs f s rows formed_so parts_of.shows)

    applies_so : attempt parts old (move_of s) ≡
        applies (record { move = move_of s; state = taken old f })
    applies_so = by_said parts old s f formed_so Yes parts_of.said

    taken_at : IsTrial parts old (taken old f) (attempt parts old (move_of s))
        (record { taken = Some (certified s certs); noted = false })
    taken_at = record {
      noted = sym (ap (λ (t : Tried Next). t.noted) applies_so);
      taken = (
        ap (λ (t : Tried Next). t.made) applies_so ∙ same_next,
        record { applies = makes_so; deep = certified_deep s certs rows parts_of.deep },
      );
    }

    -- the step is taken, with the certificates that were found
    pub taken_trial : (new : State) (step : Step) (t : Trial) → new ≡ taken old f → step ≡
        certified s certs → t ≡ record { taken = Some step; noted = false }
        → IsTrial parts old new (attempt parts old (move_of s)) t
    taken_trial new step t e same is =
        subst (λ u. IsTrial parts old new (attempt parts old (move_of s)) u)
        (sym (is ∙ ap (λ x. let u : Trial = record { taken = Some x; noted = false } in u)
        same))
        (subst (λ n. IsTrial parts old n (attempt parts old (move_of s))
        (record { taken = Some (certified s certs); noted = false })) (sym e) taken_at)

-- what forming comes to, at the first goal and the hypotheses of a state
pub formed_at : (parts : RuleParts) (old : State) (s : Step) (fm : Formation)
    (first : Option Equation) (hypotheses : List Rule) → first ≡ slice_get old.goals 0 →
    hypotheses ≡ old.hypotheses → IsFormation (formed parts first hypotheses s) fm →
    IsFormation (formed_first parts old s) fm
unfolding formed_first
formed_at parts old s fm first hypotheses here all of =
    subst (λ x. IsFormation x fm) (λ i. formed parts (here i) (all i) s) of

-- by what forming comes to
module _ (parts : RuleParts) (old : State) (s : Step) (fm : Formation)
    (of : IsFormation (formed_first parts old s) fm) where
  pub by_formed : (made : FormedStep) → fm ≡ formation.Formed made → formed_first parts old s ≡
      Ok made
  by_formed made is = subst (λ y. IsFormation (formed_first parts old s) y) is of

  pub by_refused : fm ≡ formation.Refused → IsOutcome parts old s out.Fails
  by_refused is =
      refused_outcome parts old s (formed_first parts old s) refl
      (subst (λ y. IsFormation (formed_first parts old s) y) is of)

  pub by_large : fm ≡ formation.TooLarge → IsOutcome parts old s out.TooLarge
  by_large is =
      large_outcome parts old s (subst (λ y. IsFormation (formed_first parts old s) y) is of)

-- what comes of a step that is formed so
module _ (old : State) (f : FormedStep) where
  -- the step is formed so
  pub step_follows : {E : Type 0} (parts : RuleParts) (s : Step) (r : Result Outcome E) →
      formed_first parts old s ≡ Ok f → IfOk r (λ o. Follows old f o) →
      IfOk r (λ o. IsOutcome parts old s o)
  unfolding Follows
  step_follows parts s (Ok o) is follows = follows parts s is
  step_follows parts s (Err e) is follows = tt

-- ---- answers

module _ (parts : RuleParts) (old : State) (s : Step) (o : Outcome) (of : IsOutcome parts old s o)
  where
    at_outcome : (x : Outcome) → o ≡ x → IsOutcome parts old s x
    at_outcome x is = subst (λ y. IsOutcome parts old s y) is of

    pub answer_taken : {E : Type 0} (f : FormedStep) (certs : List Cert) (new : State) (step : Step)
        (r : Result Trial E) → o ≡ out.Shown f certs → asks_rows s ≡ true → step ≡ certified s certs
        → OnOk r (new ≡ taken old f) → IfOk r (λ t. t ≡ record { taken = Some step; noted = false })
        →
        IfOk r (IsTrial parts old new (attempt parts old (move_of s)))
    answer_taken f certs new step (Ok t) is rows same made trial =
        taken_trial parts old s f certs rows (at_outcome (out.Shown f certs) is) new step t made
        same
        trial
    answer_taken f certs new step (Err e) is rows same made trial = tt

    pub answer_failed : (t u : Trial) → o ≡ out.Fails → t ≡ u → u ≡
        record { taken = None; noted = false } →
        IsTrial parts old old (attempt parts old (move_of s)) t
    answer_failed t u is same made =
        subst (λ x. IsTrial parts old old (attempt parts old (move_of s)) x) (sym (same ∙ made))
        (failed_trial parts old s (at_outcome out.Fails is))

    pub answer_large : (t u : Trial) → o ≡ out.TooLarge → t ≡ u → u ≡
        record { taken = None; noted = true } →
        IsTrial parts old old (attempt parts old (move_of s)) t
    answer_large t u is same made =
        subst (λ x. IsTrial parts old old (attempt parts old (move_of s)) x) (sym (same ∙ made))
        (large_trial parts old s (at_outcome out.TooLarge is))
