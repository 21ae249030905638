-- Forward over the steps of a run: goals and hypotheses that fit, and are inside the domains.
use Rattle.std.proofs.Common.{◌≡◌, true, [], sym, subst, All}
use Rattle.std.proofs.lemmas.List.Elements.{All-cons, All-head, All-tail, All-nil, All-append}
use Rattle.rx_rewriting.specs.Premises.{ClosedUnder}
use Rattle.rx_term.specs.Domains.{IsInside, are_domains}
use Rattle.rx_term.specs.Meaning.{Instance}
use Rattle.rx_term.specs.WellMade.{IsWellMade}
use Rattle.rx_term.specs.declared.rule.Equation.{Equation}
use Rattle.rx_term.specs.declared.rule_set.RuleParts.{RuleParts}
use Rattle.rx_inference.specs.States.{State}
use Rattle.rx_pairs.specs.Pairs.{SidesFit}
use Rattle.rx_proofs.specs.Goals.{IsFitting, IsGoalInside}
use Rattle.rx_proofs.specs.Runs.{Run, start}
use Rattle.rx_proofs.specs.Runs as runs
use Rattle.rx_proofs.proofs.Bridge.{Made, applied_makes}
use Rattle.rx_proofs.proofs.Fitting.{made_fit}
use Rattle.rx_proofs.proofs.MadeInside.{AreSidesInside, made_inside}

-- ---- fitting

module _ (parts : RuleParts) (well : IsWellMade parts) where
  -- goals and hypotheses of a state
  pub record FittingState (state : State) : Type 0 where
    pub goals : All (IsFitting parts) state.goals
    pub hypotheses : All (SidesFit parts) state.hypotheses

  pub next_fits : (state next : State) → Made parts state next → FittingState state →
      FittingState next
  next_fits state next made fits =
      let goals = subst (All (IsFitting parts)) made.was fits.goals in
      let more = made_fit parts well state.hypotheses made.goal made.new made.kept made.makes
      (All-head (IsFitting parts) made.goal made.rest goals) fits.hypotheses in
      record {
        goals =
            subst (All (IsFitting parts)) (sym made.goals)
            (All-append (IsFitting parts) made.new made.rest more.0
            (All-tail (IsFitting parts) made.goal made.rest goals));
        hypotheses =
            subst (All (SidesFit parts)) (sym made.hypotheses)
            (All-append (SidesFit parts) state.hypotheses made.kept fits.hypotheses more.1);
      }

  pub run_fits : (end state : State) → Run parts end state → FittingState state → FittingState end
  run_fits end state runs.NoStep fits = fits
  run_fits end _ (runs.OneMore state next s applies run) fits =
      run_fits end next run (next_fits state next (applied_makes parts state next s applies) fits)

pub start_fits : (parts : RuleParts) (well : IsWellMade parts) (goal : Equation) →
    IsFitting parts goal → FittingState parts well (start goal)
start_fits parts well goal fits =
    record {
      goals = All-cons (IsFitting parts) goal [] fits (All-nil (IsFitting parts));
      hypotheses = All-nil (SidesFit parts);
    }

-- ---- inside the domains

module _ (parts : RuleParts) (well : IsWellMade parts)
    (good : are_domains parts.symbols parts.domains ≡ true)
    (keeps : ClosedUnder (IsInside parts) (Instance parts.rules)) where
  -- goals and hypotheses of a state
  pub record InsideState (state : State) : Type 0 where
    pub goals : All (IsGoalInside parts) state.goals
    pub hypotheses : All (AreSidesInside parts) state.hypotheses

  pub next_inside : (state next : State) → Made parts state next →
      FittingState parts well state → InsideState state → InsideState next
  next_inside state next made fits inside =
      let fitting = subst (All (IsFitting parts)) made.was fits.goals in
      let goals = subst (All (IsGoalInside parts)) made.was inside.goals in
      let more = made_inside parts well good keeps state.hypotheses made.goal made.new made.kept
      made.makes (All-head (IsFitting parts) made.goal made.rest fitting)
      (All-head (IsGoalInside parts) made.goal made.rest goals) inside.hypotheses in
      record {
        goals =
            subst (All (IsGoalInside parts)) (sym made.goals)
            (All-append (IsGoalInside parts) made.new made.rest more.0
            (All-tail (IsGoalInside parts) made.goal made.rest goals));
        hypotheses =
            subst (All (AreSidesInside parts)) (sym made.hypotheses)
            (All-append (AreSidesInside parts) state.hypotheses made.kept inside.hypotheses
            more.1);
      }

  pub run_inside : (end state : State) → Run parts end state → FittingState parts well state →
      InsideState state → InsideState end
  run_inside end state runs.NoStep fits inside = inside
  run_inside end _ (runs.OneMore state next s applies run) fits inside =
      let made = applied_makes parts state next s applies in
      run_inside end next run (next_fits parts well state next made fits)
      (next_inside state next made fits inside)

  pub start_inside : (goal : Equation) → IsGoalInside parts goal → InsideState (start goal)
  start_inside goal inside = record {
    goals = All-cons (IsGoalInside parts) goal [] inside (All-nil (IsGoalInside parts));
    hypotheses = All-nil (AreSidesInside parts);
  }
