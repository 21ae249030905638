-- A goal that needs no more than a look: where its sides return one polynomial, it is left out
-- without certificates.
use Rattle.std.proofs.Common.{◌≡◌, ◌∙◌, ap, subst, refl, cond, Bool, true, false, ◌&&◌, ◌||◌, Some, Result, Ok, Err, List, [], ◌∷◌, drop}
use Rattle.std.specs.Prelude.{slice_get}
use Rattle.std.proofs.lemmas.List.{append-nil}
use Rattle.rx_plain.specs.Formed.{◌<$>◌}
use Rattle.rx_cert.specs.Conditions.{is_number_with, is_plain_row}
use Rattle.rx_cert.proofs.ShowingLaws.{after_plain, begin, finished}
use Rattle.rx_poly.specs.Limits.{is_within, of_terms}
use Rattle.rx_poly.specs.Reading.{constant_of}
use Rattle.rx_poly.specs.Terms.{is_zero}
use Rattle.rx_poly.specs.declared.body.Body.{Body}
use Rattle.rx_poly.proofs.Levels.{terms-of_terms}
use Rattle.rx_poly_laws.proofs.SumCoefficients.{minus_itself, zero_within}
use Rattle.rx_row.specs.Membership.{stands_among}
use Rattle.rx_row.specs.declared.row.Row.{Row}
use Rattle.rx_row.specs.declared.row.Row.TheVariants as row
use Rattle.rx_term.specs.Differences.{differences, term_differences}
use Rattle.rx_term.specs.Shapes.{same_shape}
use Rattle.rx_term.specs.declared.rule.Equation.{Equation}
use Rattle.rx_term.specs.declared.rule.Rule.{Rule}
use Rattle.rx_term.specs.declared.rule_set.RuleParts.{RuleParts}
use Rattle.rx_term.proofs.Equations.{arguments-Return, shape-Return}
use Rattle.rx_inference.specs.Forming.{Forming, limited, provided}
use Rattle.rx_inference.specs.Judging.{Shown, StepFault, judged, of_conditions}
use Rattle.rx_inference.specs.Kinds.{equated}
use Rattle.rx_inference.specs.Making.{equal_by}
use Rattle.rx_inference.specs.Pieces.{all_zero, asking, have_one_shape}
use Rattle.rx_inference.specs.States.{State, applied, carried_out, taken_if}
use Rattle.rx_inference.specs.declared.form_end.FormEnd.TheVariants.{Large}
use Rattle.rx_inference.specs.declared.formed_step.FormedStep.{FormedStep}
use Rattle.rx_inference.specs.declared.step.Delete.TheVariants.{Equal}
use Rattle.rx_inference.specs.declared.step.Step.TheVariants.{Delete}
use Rattle.rx_inference.proofs.JudgingLaws.{one_group}
use Rattle.rx_steps.specs.Settled.{IsSettled, ReturnsAlike}

-- ---- a goal whose sides return one polynomial

-- what is asked: 0 is 0
abbrev zero_row : Row
zero_row = row.Eq (of_terms [])

abbrev asks_zero : FormedStep
asks_zero = asking (zero_row ∷ []) []

-- what both sides ask, by their difference and whether it keeps the limits
abbrev asks_of : Bool → Body → Forming FormedStep
asks_of within p = cond (within && true) (Ok (asking (row.Eq p ∷ []) [])) (Err Large)

equated_zero : (goal : Equation) (v : Body) → ReturnsAlike goal v → equated goal ≡ Ok asks_zero
equated_zero goal v alike =
    ap (λ b. provided b (limited (equal_by goal)))
    ((λ i. have_one_shape (alike.left i) (alike.right i))
    ∙ (λ i. same_shape (shape-Return v i) (shape-Return v i)))
    ∙ ap (λ f. limited ((λ rows. asking rows []) <$> (all_zero <$> f)))
    ((λ i. term_differences (alike.left i) (alike.right i))
    ∙ (λ i. differences (arguments-Return v i) (arguments-Return v i)))
    ∙ (λ i. asks_of (is_within (minus_itself v alike.normal i)) (minus_itself v alike.normal i))
    ∙ ap (λ b. asks_of b (of_terms [])) zero_within

or_true : (b : Bool) → b || true ≡ true
or_true true = refl
or_true false = refl

-- that is evident, and takes no certificate
zero_shown : (given : List Row) → judged given [] asks_zero.asked [] ≡ Shown
zero_shown given =
    let plain : is_plain_row given zero_row ≡ true =
    ap (λ ts. stands_among given zero_row || is_number_with is_zero (constant_of ts))
    (terms-of_terms []) ∙ or_true (stands_among given zero_row) in
    one_group given [] (zero_row ∷ []) []
    ∙ ap of_conditions (finished given (zero_row ∷ []) 1 []
    (after_plain given (zero_row ∷ []) 0 zero_row [] [] plain (begin given (zero_row ∷ []))))

module _ (parts : RuleParts) (hypotheses : List Rule) where
  abbrev of_goals : List Equation → State
  of_goals goals = record { goals = goals; hypotheses = hypotheses }

  abbrev taken_so : List Equation → List Rule → Result State StepFault
  taken_so goals kept = Ok (record { goals = goals; hypotheses = kept })

  settled : (goals : List Equation) (goal : Equation) (v : Body) → slice_get goals 0 ≡ Some goal →
      ReturnsAlike goal v →
      applied parts (of_goals goals) (Delete (Equal [])) ≡ Ok (of_goals (drop 1 goals))
  settled [] goal v is alike = cc
  settled (first ∷ goals) goal v is alike =
      let same : goal ≡ first = cc in
      ap (λ x. carried_out (of_goals (first ∷ goals)) [] x)
      (equated_zero first v (subst (λ g. ReturnsAlike g v) same alike))
      ∙ ap (λ j. taken_if (of_goals (first ∷ goals)) asks_zero j) (zero_shown first.rows)
      ∙ ap (λ kept. taken_so goals kept) (append-nil hypotheses)

-- such a first goal is left out, and nothing is asked
pub left_out : (parts : RuleParts) (state : State) → IsSettled state →
    applied parts state (Delete (Equal [])) ≡
    Ok (record { goals = drop 1 state.goals; hypotheses = state.hypotheses })
left_out parts state is =
    settled parts state.hypotheses state.goals is.goal is.alike.0 is.first is.alike.1
