-- The first goal is dropped where its rows are refuted.
use Rattle.std.proofs.Common.{◌≡◌, ◌∙◌, ap, subst, sym, ◌≤◌, true, false, Option, Some, None, Ok, Err, [], ◌∷◌}
use Rattle.std.specs.Prelude.{All, IfOk, OnOk, Result, slice_get}
use Rattle.std.proofs.lemmas.List.Elements.{All-cons, All-nil}
use Rattle.rx_cert.specs.Depth.{cert_depth}
use Rattle.rx_cert.specs.Examination.{verdict}
use Rattle.rx_cert.specs.Findings.{Said, Yes, No, Beyond}
use Rattle.rx_cert.specs.declared.cert.Cert.{Cert}
use Rattle.rx_fm.specs.declared.fm_end.FmEnd.{FmEnd}
use Rattle.rx_fm.specs.declared.fm_end.FmEnd.TheVariants as fm_end
use Rattle.rx_solve.specs.Answers.{Answers}
use Rattle.rx_solve.specs.Attempts.{Tried, applies, fails, where_shown}
use Rattle.rx_solve.specs.Refuter.{refuted}
use Rattle.rx_term.specs.declared.rule.Equation.{Equation}
use Rattle.rx_term.specs.declared.rule_set.RuleParts.{RuleParts}
use Rattle.rx_inference.specs.Judging.{first_rows, of_said}
use Rattle.rx_inference.specs.Kinds.{formed}
use Rattle.rx_inference.specs.States.{State, applied, taken}
use Rattle.rx_inference.specs.declared.formed_step.Asked.TheVariants.{Refuted}
use Rattle.rx_inference.specs.declared.formed_step.FormedStep.{FormedStep}
use Rattle.rx_inference.specs.declared.step.Delete.TheVariants as delete
use Rattle.rx_inference.specs.declared.step.Step.{Step}
use Rattle.rx_inference.specs.declared.step.Step.TheVariants as step
use Rattle.rx_inference.proofs.FormingLaws.{shown_taken}
use Rattle.rx_settle.specs.Answers.{IsTrial}
use Rattle.rx_moves.specs.Moves.{Absurd, step_of}
use Rattle.rx_moves.specs.Trying.{Next, asked_shown, attempt, next_if_formed}
use Rattle.rx_settle.specs.declared.trial.Trial.{Trial}
use Rattle.rx_settle.proofs.TrialLaws.{beyond_trial, failed_trial}
use Rattle.rx_moves.proofs.OutcomeLaws.{first_goal_rows}

module _ (parts : RuleParts) (old : State) where
  abbrev absurd_of : Said → Tried Next
  absurd_of said =
      where_shown said (record {
        move = Absurd;
        state =
            taken old (record { asked = Refuted; goals = []; kept = [] });
      })

  -- without a goal it doesn't apply
  pub absurd_nowhere : slice_get old.goals 0 ≡ None → attempt parts old Absurd ≡ fails
  unfolding attempt
  absurd_nowhere none =
      ap (λ g. next_if_formed old Absurd (formed parts g old.hypotheses (step_of Absurd))) none

  module _ (goal : Equation) (first : Some goal ≡ slice_get old.goals 0) where
    same_rows : goal.rows ≡ first_rows old.goals
    same_rows = first_goal_rows old.goals goal first

    absurd_is : attempt parts old Absurd ≡ absurd_of (refuted goal.rows)
    unfolding attempt asked_shown
    absurd_is =
        ap (λ g. next_if_formed old Absurd (formed parts g old.hypotheses (step_of Absurd)))
        (sym first)
        ∙ ap (λ rows. absurd_of (refuted rows)) (sym same_rows)

    by_said : (said : Said) → refuted goal.rows ≡ said → attempt parts old Absurd ≡ absurd_of said
    by_said said e = absurd_is ∙ ap absurd_of e

    -- no certificate
    pub absurd_fails : (a : Option Cert) (t : Trial) → Answers goal.rows (Ok a) → a ≡ None → t ≡
        record { taken = None; noted = false } → IsTrial parts old old (attempt parts old Absurd) t
    absurd_fails a t of is same =
        let none : Answers goal.rows (Ok None) = subst (λ x. Answers goal.rows (Ok x)) is of in
        failed_trial parts old (attempt parts old Absurd) t (by_said No none) same

    -- the limits
    pub absurd_beyond : (e : FmEnd) (t : Trial) → Answers goal.rows (Err e) → e ≡ fm_end.Large → t ≡
        record { taken = None; noted = true } → IsTrial parts old old (attempt parts old Absurd) t
    absurd_beyond e t of is same =
        beyond_trial parts old (attempt parts old Absurd) t (by_said Beyond (of is)) same

    module _ (cert : Cert) (of : Answers goal.rows (Ok (Some cert))) where
      abbrev dropped : State
      dropped = taken old (record { asked = Refuted; goals = []; kept = [] })

      abbrev the_step : Step
      the_step = step.Delete (delete.Absurd cert)

      found_yes : verdict (first_rows old.goals) cert ≡ Yes
      found_yes = subst (λ rows. verdict rows cert ≡ Yes) same_rows of.1.refutes

      makes : applied parts old the_step ≡ Ok dropped
      makes = shown_taken parts old the_step (record { asked = Refuted; goals = []; kept = [] })
          (ap (λ g. formed parts g old.hypotheses the_step) (sym first)) (ap of_said found_yes)

      deep : All (λ c. cert_depth c ≤ 174) (cert ∷ [])
      deep =
          All-cons (λ c. cert_depth c ≤ 174) cert [] of.1.deep (All-nil (λ c. cert_depth c ≤ 174))

      applies_so : attempt parts old Absurd ≡ applies (record { move = Absurd; state = dropped })
      applies_so = by_said Yes of.0

      taken_at : IsTrial parts old dropped (attempt parts old Absurd)
          (record { taken = Some the_step; noted = false })
      taken_at = record {
        noted = sym (ap (λ (t : Tried Next). t.noted) applies_so);
        taken =
            (ap (λ (t : Tried Next). t.made) applies_so, record { applies = makes; deep = deep });
      }

      taken_so : (f : FormedStep) (new : State) (t : Trial) → f ≡
          record { asked = Refuted; goals = []; kept = [] } → new ≡ taken old f → t ≡
          record { taken = Some the_step; noted = false }
          → IsTrial parts old new (attempt parts old Absurd) t
      taken_so f new t made e is =
          subst (λ u. IsTrial parts old new (attempt parts old Absurd) u) (sym is)
          (subst (λ n. IsTrial parts old n (attempt parts old Absurd)
          (record { taken = Some the_step; noted = false })) (sym (e ∙ ap (taken old) made))
          taken_at)

-- a certificate
pub absurd_taken : {E : Type 0} (old : State) (goal : Equation) (a : Option Cert) (cert : Cert)
    (f : FormedStep) (new : State) (r : Result Trial E)
    → Some goal ≡ slice_get old.goals 0 → Answers goal.rows (Ok a) → a ≡ Some cert → f ≡
    record { asked = Refuted; goals = []; kept = [] }
    → OnOk r (new ≡ taken old f) → IfOk r (λ t. t ≡
    record { taken = Some (step.Delete (delete.Absurd cert)); noted = false })
    → IfOk r (λ t. (parts : RuleParts) → IsTrial parts old new (attempt parts old Absurd) t)
absurd_taken old goal a cert f new (Ok t) first of is made e same =
    λ parts. taken_so parts old goal first cert (subst (λ x. Answers goal.rows (Ok x)) is of) f new
    t made e same
absurd_taken old goal a cert f new (Err e) first of is made same trial = tt
