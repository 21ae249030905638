-- A postulate: its goal, which is to be inside the domains, comes before the others.
use Rattle.std.proofs.Common.{◌≡◌, ◌∙◌, ap, sym, refl, cond, Bool, true, false, Some, None, Result, Ok, Err, List, [], ◌∷◌}
use Rattle.std.specs.Prelude.{slice_get}
use Rattle.std.proofs.lemmas.List.{append-nil}
use Rattle.rx_cert.specs.declared.cert.Cert.{Cert}
use Rattle.rx_poly.specs.declared.poly_end.PolyEnd.{PolyEnd}
use Rattle.rx_poly.specs.declared.poly_end.PolyEnd.TheVariants as poly_end
use Rattle.rx_row.specs.declared.row.Row.{Row}
use Rattle.rx_term.specs.Domains.{inside_of}
use Rattle.rx_term.specs.declared.rule.Equation.{Equation}
use Rattle.rx_term.specs.declared.rule.Rule.{Rule}
use Rattle.rx_term.specs.declared.rule_set.RuleParts.{RuleParts}
use Rattle.rx_inference.specs.Forming.{limited, provided}
use Rattle.rx_inference.specs.Judging.{Judgement, Shown, Fault, StepFault, NoGoal, WrongShape, Large, judged}
use Rattle.rx_inference.specs.Kinds.{formed}
use Rattle.rx_inference.specs.Making.{asking_before, postulated_by}
use Rattle.rx_inference.specs.Pieces.{is_equation}
use Rattle.rx_inference.specs.States.{State, applied, carried_out, taken_if}
use Rattle.rx_inference.specs.declared.form_end.FormEnd.TheVariants as form_end
use Rattle.rx_inference.specs.declared.formed_step.Asked.TheVariants.{Rows}
use Rattle.rx_inference.specs.declared.formed_step.Under.TheVariants.{New}
use Rattle.rx_inference.specs.declared.step.Step.{Step}
use Rattle.rx_inference.specs.declared.step.Step.TheVariants.{Postulate}
use Rattle.rx_steps.specs.Alone.{put_before}
use Rattle.rx_steps.specs.Faults.{Applies, Judges, fault, of_poly_end}
use Rattle.rx_steps.specs.declared.step_end.StepEnd.{StepEnd}

-- the step that brings in the equation
abbrev pub postulate_of : Equation → List Cert → Step
postulate_of new certs = Postulate new.left new.right new.rows certs

-- how the certificates of the rows are judged that put the new goal inside
abbrev pub judged_inside : Equation → List Row → List Cert → Judgement
judged_inside new inside certs =
    judged new.rows new.rows (Rows (record { under = New; rows = inside } ∷ [])) certs

module _ (parts : RuleParts) (hypotheses : List Rule) (new : Equation) (certs : List Cert) where
  abbrev of_goals : List Equation → State
  of_goals goals = record { goals = goals; hypotheses = hypotheses }

  abbrev inside : List Row
  inside = (inside_of parts new).form

  -- what comes of the step where the new goal is an equation, or isn't
  abbrev answer_if : Bool → Equation → List Equation → Result State StepFault
  answer_if is first goals = carried_out (of_goals (first ∷ goals)) certs
      (provided is (limited (postulated_by parts first new)))

  -- and where it is, and the rows that put it inside keep the limits, or don't
  abbrev answer_within : Bool → Equation → List Equation → Result State StepFault
  answer_within within first goals = carried_out (of_goals (first ∷ goals)) certs
      (cond within (Ok (asking_before inside new first)) (Err form_end.Large))

  refused : (goals : List Equation) (goal : Equation) → slice_get goals 0 ≡ Some goal →
      is_equation parts new ≡ false →
      applied parts (of_goals goals) (postulate_of new certs) ≡ Err WrongShape
  refused [] goal is test = cc
  refused (first ∷ goals) goal is test = ap (λ b. answer_if b first goals) test

  module _ (test : is_equation parts new ≡ true) where
    beyond : (goals : List Equation) (goal : Equation) → slice_get goals 0 ≡ Some goal →
        (inside_of parts new).within ≡ false →
        applied parts (of_goals goals) (postulate_of new certs) ≡ Err Large
    beyond [] goal is within = cc
    beyond (first ∷ goals) goal is within =
        ap (λ b. answer_if b first goals) test ∙ ap (λ b. answer_within b first goals) within

    judged_so : (goals : List Equation) (goal : Equation) → slice_get goals 0 ≡ Some goal →
        (inside_of parts new).within ≡ true → (fault : StepFault) →
        judged_inside new inside certs ≡ Fault fault →
        applied parts (of_goals goals) (postulate_of new certs) ≡ Err fault
    judged_so [] goal is within fault j = cc
    judged_so (first ∷ goals) goal is within fault j =
        ap (λ b. answer_if b first goals) test ∙ ap (λ b. answer_within b first goals) within
        ∙ ap (taken_if (of_goals (first ∷ goals)) (asking_before inside new first)) j

    put_so : (goals : List Equation) (goal : Equation) → slice_get goals 0 ≡ Some goal →
        (inside_of parts new).within ≡ true → judged_inside new inside certs ≡ Shown →
        applied parts (of_goals goals) (postulate_of new certs) ≡
        Ok (put_before (of_goals goals) new)
    put_so [] goal is within j = cc
    put_so (first ∷ goals) goal is within j =
        ap (λ b. answer_if b first goals) test ∙ ap (λ b. answer_within b first goals) within
        ∙ ap (taken_if (of_goals (first ∷ goals)) (asking_before inside new first)) j
        ∙ ap (λ (kept : List Rule). Ok (record { goals = new ∷ first ∷ goals; hypotheses = kept }))
        (append-nil hypotheses)

module _ (parts : RuleParts) (state : State) (goal new : Equation) (certs : List Cert)
    (there : slice_get state.goals 0 ≡ Some goal) where
  -- a new goal that is no equation has the wrong shape
  pub no_equation : is_equation parts new ≡ false →
      applied parts state (postulate_of new certs) ≡ Err WrongShape
  no_equation test = refused parts state.hypotheses new certs state.goals goal there test

  module _ (test : is_equation parts new ≡ true) where
    -- rows that put it inside may pass the limits
    pub large_inside : (inside_of parts new).within ≡ false →
        applied parts state (postulate_of new certs) ≡ Err Large
    large_inside within = beyond parts state.hypotheses new certs test state.goals goal there within

    module _ (within : (inside_of parts new).within ≡ true) where
      -- or they aren't shown
      pub not_inside : (fault : StepFault) →
          judged_inside new (inside_of parts new).form certs ≡ Fault fault →
          applied parts state (postulate_of new certs) ≡ Err fault
      not_inside fault j =
          judged_so parts state.hypotheses new certs test state.goals goal there within fault j

      -- and where they are, the new goal comes before the others
      pub shown_inside : judged_inside new (inside_of parts new).form certs ≡ Shown →
          applied parts state (postulate_of new certs) ≡ Ok (put_before state new)
      shown_inside j = put_so parts state.hypotheses new certs test state.goals goal there within j

      -- so what is said of the rows is said of the step
      pub said_inside : (rows : List Row) → rows ≡ (inside_of parts new).form →
          (r : Result (Unit {0}) StepEnd) → Judges r (judged_inside new rows certs) →
          Applies r (put_before state new) (applied parts state (postulate_of new certs))
      said_inside rows is (Ok u) j =
          shown_inside (ap (λ rs. judged_inside new rs certs) (sym is) ∙ j)
      said_inside rows is (Err e) j =
          λ other. not_inside (fault e) (ap (λ rs. judged_inside new rs certs) (sym is) ∙ j other)

    -- where they aren't formed, that is the end of the step
    pub unformed_inside : (e : PolyEnd) →
        (e ≡ poly_end.Large → (inside_of parts new).within ≡ false) → (other : State) →
        Applies (Err (of_poly_end e)) other (applied parts state (postulate_of new certs))
    unformed_inside poly_end.Large within other = λ _. large_inside (within refl)
    unformed_inside poly_end.NoMemory within other = λ no. absurd (no refl)

-- without a goal there is nothing to postulate before
pub no_goal : (parts : RuleParts) (state : State) (new : Equation) (certs : List Cert) →
    slice_get state.goals 0 ≡ None → applied parts state (postulate_of new certs) ≡ Err NoGoal
no_goal parts state new certs none =
    ap (λ first. carried_out state certs (formed parts first state.hypotheses
    (postulate_of new certs))) none
