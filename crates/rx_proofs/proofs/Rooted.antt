-- The hypotheses that steps keep have left sides that are no results.
use Rattle.std.proofs.Common.{◌≡◌, Bool, true, false, Option, Some, None, List, [], sym, ap, subst, ◌∙◌, All}
use Rattle.std.proofs.lemmas.List.Elements.{All-append, All-cons, All-nil}
use Rattle.std.specs.Option.{option_and_then}
use Rattle.rx_term.specs.Meaning.{redex_of}
use Rattle.rx_term.specs.Stacks.{suffix_at, is_result, is_result_level}
use Rattle.rx_term.specs.declared.rule.Equation.{Equation}
use Rattle.rx_term.specs.declared.rule.Rule.{Rule}
use Rattle.rx_term.specs.declared.rule_set.RuleParts.{RuleParts}
use Rattle.rx_term.specs.declared.term.Term.{Term}
use Rattle.rx_term.specs.declared.term.Term.TheVariants.{outs-Call, outs-Frame}
use Rattle.rx_term.proofs.Equations.{ACall, AFail, AFrame, AReturn, Form, form, redex-Fail, redex-Return}
use Rattle.rx_inference.specs.Making.{from_side, kept_if}
use Rattle.rx_inference.specs.Pieces.{side_of}
use Rattle.rx_inference.specs.States.{State}
use Rattle.rx_inference.specs.declared.step.Side.{Side}
use Rattle.rx_pairs.specs.Pairs.{HasRoot}
use Rattle.rx_proofs.specs.Runs.{NoStep, OneMore, Run}
use Rattle.rx_proofs.proofs.Bridge.{Made, applied_makes}
use Rattle.rx_proofs.proofs.Making.{Makes}
use Rattle.rx_proofs.proofs.Making as making

-- what has a redex is no result
no_result_by : (t redex : Term) → Form t → redex_of t ≡ Some redex → is_result t ≡ false
no_result_by _ redex (AReturn p) e =
    let none : ◌≡◌ {A = Option Term} None (Some redex) =
    sym (ap (option_and_then (λ n. suffix_at n _)) (redex-Return p)) ∙ e in absurd cc
no_result_by _ redex (AFail c) e =
    let none : ◌≡◌ {A = Option Term} None (Some redex) =
    sym (ap (option_and_then (λ n. suffix_at n _)) (redex-Fail c)) ∙ e in absurd cc
no_result_by _ redex (ACall f ps) e = ap is_result_level (outs-Call f ps)
no_result_by _ redex (AFrame f ps t) e = ap is_result_level (outs-Frame f ps t)

no_result : (t redex : Term) → redex_of t ≡ Some redex → is_result t ≡ false
no_result t redex e = no_result_by t redex (form t) e

-- what is kept by an expansion is a rule whose left side is none
kept_rooted : (keep : Bool) (side : Side) (goal : Equation) (redex : Term) →
    redex_of (side_of side goal) ≡ Some redex
    → All HasRoot (kept_if keep side goal)
kept_rooted true side goal redex is =
    All-cons HasRoot (from_side side goal) [] (no_result (side_of side goal) redex is)
    (All-nil HasRoot)
kept_rooted false side goal redex is = All-nil HasRoot

module _ (parts : RuleParts) where
  -- what one step keeps
  made_rooted : (hypotheses : List Rule) (goal : Equation) (new : List Equation) (kept : List Rule)
      → Makes parts hypotheses goal new kept → All HasRoot kept
  made_rooted hypotheses goal _ _ (making.Simplified side rule redex among is shape follows) =
      All-nil HasRoot
  made_rooted hypotheses goal _ _ (making.Used side h ws n part among stands shape follows) =
      All-nil HasRoot
  made_rooted hypotheses goal _ _ (making.Expanded side keep redex is) =
      kept_rooted keep side goal redex is
  made_rooted hypotheses goal _ _ (making.Contradictory none) = All-nil HasRoot
  made_rooted hypotheses goal _ _ (making.Equal shape follows) = All-nil HasRoot
  made_rooted hypotheses goal _ _ (making.Apart shape) = All-nil HasRoot
  made_rooted hypotheses goal _ _ (making.Generalised next ws fits left right follows inside) =
      All-nil HasRoot
  made_rooted hypotheses goal _ _ (making.Postulated next fits inside) = All-nil HasRoot
  made_rooted hypotheses goal _ _ (making.SplitBy row) = All-nil HasRoot
  made_rooted hypotheses goal _ _ (making.Decomposed f g ps qs s t left right same follows) =
      All-nil HasRoot
  made_rooted hypotheses goal _ _ (making.WithResults m n s t at_s at_t shape follows) =
      All-nil HasRoot

  pub next_rooted : (state next : State) → Made parts state next → All HasRoot state.hypotheses →
      All HasRoot next.hypotheses
  next_rooted state next made rooted =
      let more = made_rooted state.hypotheses made.goal made.new made.kept made.makes in
      subst (All HasRoot) (sym made.hypotheses)
      (All-append HasRoot state.hypotheses made.kept rooted more)

  pub run_rooted : (end state : State) → Run parts end state → All HasRoot state.hypotheses →
      All HasRoot end.hypotheses
  run_rooted end _ NoStep rooted = rooted
  run_rooted end _ (OneMore state next step applies run) rooted =
      run_rooted end next run (next_rooted state next (applied_makes parts state next step applies)
      rooted)
