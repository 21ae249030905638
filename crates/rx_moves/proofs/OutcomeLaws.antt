-- What comes of a step, by what forming it comes to and by what is shown.
use Rattle.std.proofs.Common.{◌≡◌, ◌∙◌, ap, subst, sym, Some, None, Ok, Err, List, [], ◌∷◌}
use Rattle.std.specs.Prelude.{slice_get}
use Rattle.rx_cert.specs.Findings.{Said, No, Beyond}
use Rattle.rx_row.specs.declared.row.Row.{Row}
use Rattle.rx_solve.specs.Attempts.{fails, where_shown}
use Rattle.rx_solve.specs.declared.showing.AllShown.{AllShown}
use Rattle.rx_solve.specs.declared.showing.AllShown.TheVariants as all
use Rattle.rx_term.specs.declared.rule.Equation.{Equation}
use Rattle.rx_term.specs.declared.rule_set.RuleParts.{RuleParts}
use Rattle.rx_inference.specs.Forming.{Forming}
use Rattle.rx_inference.specs.Judging.{first_rows}
use Rattle.rx_inference.specs.Kinds.{formed}
use Rattle.rx_inference.specs.States.{State, taken}
use Rattle.rx_inference.specs.declared.form_end.FormEnd.TheVariants.{Large, NoGoal}
use Rattle.rx_inference.specs.declared.formed_step.FormedStep.{FormedStep}
use Rattle.rx_inference.specs.declared.step.Step.{Step}
use Rattle.rx_moves.specs.Moves.{Move, move_of}
use Rattle.rx_moves.specs.Outcomes.{Follows, IsOutcome}
use Rattle.rx_moves.specs.Parts.{IsAskedShown, formed_first}
use Rattle.rx_moves.specs.Trying.{asked_shown, attempt, next_if_formed}
use Rattle.rx_moves.specs.declared.outcome.Outcome.{Outcome}
use Rattle.rx_moves.specs.declared.outcome.Outcome.TheVariants as out
use Rattle.rx_moves.proofs.MoveForms.{as_move}

-- the rows of the first goal
pub first_goal_rows : (goals : List Equation) (goal : Equation) → Some goal ≡ slice_get goals 0 →
    goal.rows ≡ first_rows goals
first_goal_rows [] goal is = cc
first_goal_rows (g ∷ gs) goal is = let same : goal ≡ g = cc in ap (λ (e : Equation). e.rows) same

-- what a formed step comes to, by what is shown
abbrev pub outcome_for : FormedStep → AllShown → Outcome
outcome_for f (all.Shown certs) = out.Shown f certs
outcome_for f all.NotShown = out.Fails
outcome_for f all.TooLarge = out.TooLarge

module _ (parts : RuleParts) (old : State) (s : Step) where
  -- the move is tried by what forming the step comes to
  pub attempt_by : (x : Forming FormedStep) → formed_first parts old s ≡ x →
      attempt parts old (move_of s) ≡ next_if_formed old (move_of s) x
  unfolding attempt formed_first
  attempt_by x e =
      ap (next_if_formed old (move_of s)) (sym
      (as_move parts old.hypotheses (slice_get old.goals 0) s) ∙ e)

  -- it isn't formed
  pub refused_outcome : (x : Forming FormedStep) → formed_first parts old s ≡ x →
      ((state : State) (move : Move) → next_if_formed state move x ≡ fails) →
      IsOutcome parts old s out.Fails
  unfolding IsOutcome
  refused_outcome x e none = attempt_by x e ∙ none old (move_of s)

  -- something that is formed on the way passes the limits
  pub large_outcome : formed_first parts old s ≡ Err Large → IsOutcome parts old s out.TooLarge
  unfolding IsOutcome
  large_outcome e = attempt_by (Err Large) e

  module _ (f : FormedStep) (is : formed_first parts old s ≡ Ok f) where
    -- and by what is said of what it asks
    pub by_said : (said : Said) →
        asked_shown (first_rows old.goals) (first_rows f.goals) f.asked ≡ said → attempt parts old (move_of s) ≡ where_shown said
        (record { move = move_of s; state = taken old f })
    by_said said e =
        attempt_by (Ok f) is ∙ ap (λ (w : Said).
        where_shown w (record { move = move_of s; state = taken old f })) e

    outcome_of : (a : AllShown) → IsAskedShown (first_rows old.goals) (first_rows f.goals) f.asked a
        → IsOutcome parts old s (outcome_for f a)
    unfolding IsOutcome
    outcome_of (all.Shown certs) shown = (is, shown)
    outcome_of all.NotShown shown = by_said No shown
    outcome_of all.TooLarge shown = by_said Beyond shown

    -- without a goal nothing is formed
    none_formed : slice_get old.goals 0 ≡ None → ⊥
    unfolding formed_first
    none_formed none =
        let e : Err NoGoal ≡ Ok f = sym (ap (λ g. formed parts g old.hypotheses s) none) ∙ is in cc

-- what comes of a step that is formed so
module _ (old : State) (f : FormedStep) where
  -- where there is no goal, it fails
  pub nothing_follows : slice_get old.goals 0 ≡ None → Follows old f out.Fails
  unfolding Follows
  nothing_follows none parts s is = absurd (none_formed parts old s f is none)

  -- by what is shown under the rows of the first goal, and of the first new one
  pub shown_follows : (goal : Equation) (a x : AllShown) → Some goal ≡ slice_get old.goals 0 →
      IsAskedShown goal.rows (first_rows f.goals) f.asked a → a ≡ x →
      Follows old f (outcome_for f x)
  unfolding Follows
  shown_follows goal a x first shown is parts s formed =
      let here = subst (λ g. IsAskedShown g (first_rows f.goals) f.asked a)
      (first_goal_rows old.goals goal first) shown in
      outcome_of parts old s f formed x (subst
      (λ y. IsAskedShown (first_rows old.goals) (first_rows f.goals) f.asked y) is here)
