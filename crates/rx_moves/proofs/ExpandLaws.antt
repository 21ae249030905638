-- An expansion asks nothing: it is found where it is formed.
use Rattle.std.proofs.Common.{◌≡◌, ◌∙◌, ap, sym, subst, refl, ◌≤◌, true, false, Option, Some, None, Ok, Err, []}
use Rattle.std.specs.Prelude.{slice_get}
use Rattle.std.proofs.lemmas.List.Elements.{All-nil}
use Rattle.rx_cert.specs.Depth.{cert_depth}
use Rattle.rx_cert.specs.Findings.{Yes}
use Rattle.rx_cert.specs.declared.cert.Cert.{Cert}
use Rattle.rx_solve.specs.Attempts.{Tried, applies}
use Rattle.rx_term.specs.Meaning.{redex_of}
use Rattle.rx_term.specs.declared.rule.Equation.{Equation}
use Rattle.rx_term.specs.declared.rule_set.RuleParts.{RuleParts}
use Rattle.rx_inference.specs.Forming.{Forming, found_or}
use Rattle.rx_inference.specs.Judging.{first_rows}
use Rattle.rx_inference.specs.Kinds.{formed}
use Rattle.rx_inference.specs.Pieces.{side_of}
use Rattle.rx_inference.specs.States.{State, taken}
use Rattle.rx_inference.specs.declared.form_end.FormEnd.TheVariants.{Large, WrongShape}
use Rattle.rx_inference.specs.declared.formed_step.Asked.{Asked}
use Rattle.rx_inference.specs.declared.formed_step.Asked.TheVariants.{Rows}
use Rattle.rx_inference.specs.declared.formed_step.FormedStep.{FormedStep}
use Rattle.rx_inference.specs.declared.step.Side.{Side}
use Rattle.rx_inference.specs.declared.step.Step.{Step}
use Rattle.rx_inference.specs.declared.step.Step.TheVariants as step
use Rattle.rx_inference.proofs.FormingLaws.{shown_taken}
use Rattle.rx_moves.specs.Answers.{IsFound}
use Rattle.rx_moves.specs.Moves.{Expand}
use Rattle.rx_moves.specs.Parts.{IsFormation, formed_first}
use Rattle.rx_moves.specs.Trying.{Next, asked_shown, attempt, next_if_formed}
use Rattle.rx_moves.specs.declared.formation.Formation.{Formation}
use Rattle.rx_moves.specs.declared.formation.Formation.TheVariants as formation
use Rattle.rx_moves.specs.declared.found.Found.{Found}
use Rattle.rx_moves.proofs.AskingNothing.{after, kept}
use Rattle.rx_moves.proofs.AskingNothing.{none_shows}
use Rattle.rx_moves.proofs.FoundLaws.{beyond_found, failed_found}
use Rattle.rx_moves.proofs.OutcomeLaws.{attempt_by, by_said}

module _ (parts : RuleParts) (goal : Equation) (side : Side) (fm : Formation)
    (of : IsFormation (formed parts (Some goal) [] (step.Expand side false)) fm) where
  abbrev expansion : Step
  expansion = step.Expand side false

  module _ (state : State) (first : Some goal ≡ slice_get state.goals 0) where
    -- hypotheses aren't looked at
    formed_here : (x : Forming FormedStep) → formed parts (Some goal) [] expansion ≡ x →
        formed_first parts state expansion ≡ x
    unfolding formed_first
    formed_here x e =
        ap (λ (o : Option Equation). formed parts o state.hypotheses expansion) (sym first) ∙ e

    tried_by : (x : Forming FormedStep) → formed parts (Some goal) [] expansion ≡ x →
        attempt parts state (Expand side false) ≡ next_if_formed state (Expand side false) x
    tried_by x e = attempt_by parts state expansion x (formed_here x e)

    -- it isn't formed
    pub expansion_refused : (f : Found) → fm ≡ formation.Refused → f ≡
        record { ready = None; noted = false } →
        IsFound parts state (attempt parts state (Expand side false)) f
    expansion_refused f is made =
        let none = subst (λ y. IsFormation (formed parts (Some goal) [] expansion) y) is of in
        failed_found parts state (attempt parts state (Expand side false)) f
        (tried_by (formed parts (Some goal) [] expansion) refl ∙ none state (Expand side false))
        made

    -- something passes the limits
    pub expansion_large : (f : Found) → fm ≡ formation.TooLarge → f ≡
        record { ready = None; noted = true } →
        IsFound parts state (attempt parts state (Expand side false)) f
    expansion_large f is made =
        let large = subst (λ y. IsFormation (formed parts (Some goal) [] expansion) y) is of in
        beyond_found parts state (attempt parts state (Expand side false)) f
        (tried_by (Err Large) large) made

    module _ (made : FormedStep) (is : fm ≡ formation.Formed made) where
      formed_so : formed parts (Some goal) [] expansion ≡ Ok made
      formed_so = subst (λ y. IsFormation (formed parts (Some goal) [] expansion) y) is of

      nothing : made.asked ≡ Rows []
      nothing =
          after (found_or WrongShape (redex_of (side_of side goal))) _ (λ redex. kept _ refl) made
          formed_so

      said : asked_shown (first_rows state.goals) (first_rows made.goals) made.asked ≡ Yes
      unfolding asked_shown
      said =
          ap (λ (a : Asked). asked_shown (first_rows state.goals) (first_rows made.goals) a) nothing

      applies_so : attempt parts state (Expand side false) ≡
          applies (record { move = Expand side false; state = taken state made })
      applies_so =
          by_said parts state expansion made (formed_here (Ok made) formed_so) Yes said

      at_made : IsFound parts state (attempt parts state (Expand side false))
          (record { ready = Some (record { step = expansion; made = made }); noted = false })
      unfolding formed_first
      at_made = record {
        noted = sym (ap (λ (t : Tried Next). t.noted) applies_so);
        gives = (
          ap (λ (t : Tried Next). t.made) applies_so,
          record {
            applies =
                shown_taken parts state expansion made (formed_here (Ok made) formed_so)
                (none_shows (first_rows state.goals) (first_rows made.goals) made nothing);
            deep = All-nil (λ (cert : Cert). cert_depth cert ≤ 174);
          },
        );
      }

      -- its step is found
      pub expansion_found : (s : Step) (f : Found) → s ≡ expansion → f ≡
          record { ready = Some (record { step = s; made = made }); noted = false } →
          IsFound parts state (attempt parts state (Expand side false)) f
      expansion_found s f same found =
          subst (λ u. IsFound parts state (attempt parts state (Expand side false)) u)
          (sym (found ∙ ap (λ x. let u : Found =
          record { ready = Some (record { step = x; made = made }); noted = false } in u) same))
          at_made
