-- The items of settling in order, and what each leaves of a state.
use Rattle.std.proofs.Common.{◌≡◌, ◌∙◌, ap, refl, Bool, ◌||◌, Option, Some, None, Ok, Err, List, [], ◌∷◌}
use Rattle.std.specs.Prelude.{slice_get}
use Rattle.rx_solve.specs.Attempts.{Tried, fails, first_applying, made_or}
use Rattle.rx_term.specs.declared.rule.Equation.{Equation}
use Rattle.rx_term.specs.declared.rule_set.RuleParts.{RuleParts}
use Rattle.rx_inference.specs.States.{State}
use Rattle.rx_inference.specs.declared.step.Step.{Step}
use Rattle.rx_settle.specs.Answers.{IsTrial, Takes}
use Rattle.rx_settle.specs.AtFirst.{at_first, before_uses, deleting, from_leaving, from_unfolding, from_uses}
use Rattle.rx_moves.specs.Unfolding.{leaving_sides, unfolding_sides}
use Rattle.rx_moves.specs.Moves.{Absurd, Equal, move_of, step_of}
use Rattle.rx_settle.specs.Settling.{named, settling_first, settling_move}
use Rattle.rx_moves.specs.Trying.{Next, attempt, next_if_formed}
use Rattle.rx_settle.specs.Untaken.{IsUntaken}
use Rattle.rx_settle.specs.declared.trial.Trial.{Trial}
use Rattle.rx_inference.specs.Kinds.{formed}
use Rattle.rx_settle.proofs.FirstLaws.{first_of_both, second_of_both}
use Rattle.rx_settle.proofs.KeepingLaws.{move_keeps}
use Rattle.rx_moves.proofs.TriedLaws.{one_tried, tried_after}
use Rattle.rx_settle.proofs.TrialLaws.{taken_first, trial_of, untaken_second}

module _ (parts : RuleParts) (old : State) where
  -- ---- the items before hypotheses

  nothing_to_delete : (goals : List Equation) → old.goals ≡ goals → goals ≡ [] →
      deleting parts old ≡ fails
  unfolding attempt
  nothing_to_delete goals same none =
      ap
      (λ gs. first_applying (
      next_if_formed old Absurd (formed parts (slice_get gs 0) old.hypotheses (step_of Absurd))
      ∷ next_if_formed old Equal (formed parts (slice_get gs 0) old.hypotheses (step_of Equal)) ∷
      []))
      (same ∙ none)

  four_items : (goals : List Equation) → old.goals ≡ goals →
      first_applying (deleting parts old ∷ at_first (from_unfolding parts old) goals ∷ []) ≡
      at_first (before_uses parts old) goals
  four_items [] same =
      ap (λ (t : Tried Next). first_applying (t ∷ fails ∷ [])) (nothing_to_delete [] same refl)
  four_items (goal ∷ goals) same =
      let deletes = deleting parts old in
      let unfolds = unfolding_sides parts old goal in
      ap (made_or deletes.made deletes.noted) (one_tried (from_unfolding parts old goal) ∙
      ap (made_or unfolds.made unfolds.noted) (one_tried (from_leaving parts old goal)))

  module _ (mid : State) (t : Trial) (is : IsTrial parts old mid (deleting parts old) t) where
    pub delete_first : (same : Trial) → IsUntaken t (Err same) →
        IsTrial parts old mid (at_first (before_uses parts old) old.goals) same
    delete_first same e =
        trial_of parts old mid _ _ same (four_items old.goals refl)
        (taken_first parts old mid (deleting parts old) t is
        (at_first (from_unfolding parts old) old.goals) same e)

    pub items_second : (u v : Trial) (new : State) (noted : Bool) → IsUntaken t (Ok noted) →
        IsTrial parts mid new (at_first (from_unfolding parts mid) mid.goals) u
        → v ≡ record { taken = u.taken; noted = noted || u.noted } →
        IsTrial parts old new (at_first (before_uses parts old) old.goals) v
    items_second u v new noted e more same =
        trial_of parts old new _ _ v (four_items old.goals refl)
        (untaken_second parts old mid (deleting parts old) t is
        (λ s. at_first (from_unfolding parts s) s.goals) u v new noted e more same)

  -- ---- all items

  all_items : (goals : List Equation) →
      at_first (λ goal. first_applying (before_uses parts old goal ∷ from_uses parts old goal ∷ []))
      goals ≡ settling_first parts old goals
  all_items [] = refl
  all_items (goal ∷ goals) =
      let before = before_uses parts old goal in
      let later = from_uses parts old goal in
      let deletes = deleting parts old in
      let unfolds = unfolding_sides parts old goal in
      let leaves = leaving_sides parts old goal in
      let names = named parts old goal in
      ap (made_or before.made before.noted) (one_tried later)
      ∙ tried_after deletes (first_applying (unfolds ∷ leaves ∷ names ∷ [])) later
      ∙ ap (made_or deletes.made deletes.noted)
      (tried_after unfolds (first_applying (leaves ∷ names ∷ [])) later
      ∙ ap (made_or unfolds.made unfolds.noted)
      (tried_after leaves (first_applying (names ∷ [])) later
      ∙ ap (made_or leaves.made leaves.noted)
      (ap (λ (t : Tried Next). made_or t.made t.noted later) (one_tried names))))

  module _ (mid : State) (t : Trial) (is : IsTrial parts old mid
      (at_first (before_uses parts old) old.goals) t) where
    pub known_first : (same : Trial) → IsUntaken t (Err same) →
        IsTrial parts old mid (settling_move parts old) same
    known_first same e =
        trial_of parts old mid _ _ same (all_items old.goals)
        (first_of_both parts old mid (before_uses parts old) (λ s. from_uses parts s) t is same e)

    pub uses_second : (u v : Trial) (new : State) (noted : Bool) → IsUntaken t (Ok noted) →
        IsTrial parts mid new (at_first (from_uses parts mid) mid.goals) u
        → v ≡ record { taken = u.taken; noted = noted || u.noted } →
        IsTrial parts old new (settling_move parts old) v
    uses_second u v new noted e more same =
        trial_of parts old new _ _ v (all_items old.goals)
        (second_of_both parts old mid (before_uses parts old) (λ s. from_uses parts s) t is u v new
        noted e more same)

  -- ---- hypotheses

  -- a trial of settling leaves them
  pub trial_keeps : (new : State) (t : Trial) → IsTrial parts old new (settling_move parts old) t →
      new.hypotheses ≡ old.hypotheses
  trial_keeps new t is = by t.taken is.taken
    where
      by : (o : Option Step) → Takes parts old new (settling_move parts old).made o →
          new.hypotheses ≡ old.hypotheses
      by None same = ap (λ (s : State). s.hypotheses) same.1
      by (Some step) made =
          move_keeps old parts (record { move = move_of step; state = new }) made.0
