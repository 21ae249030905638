-- Moves at a goal with a task add no hypothesis.
use Rattle.std.proofs.Common.{◌≡◌, ◌∙◌, ap, false, Option, Some, None, Ok, Err}
use Rattle.std.specs.Prelude.{IfOk, Result}
use Rattle.rx_solve.specs.Attempts.{Tried}
use Rattle.rx_term.specs.declared.rule_set.RuleParts.{RuleParts}
use Rattle.rx_inference.specs.States.{State}
use Rattle.rx_inference.specs.declared.step.Side.{Side}
use Rattle.rx_inference.specs.declared.step.Step.{Step}
use Rattle.rx_moves.specs.Moves.{Expand, move_of}
use Rattle.rx_moves.specs.Trying.{Next, attempt}
use Rattle.rx_settle.specs.Answers.{IsTrial, Takes}
use Rattle.rx_settle.specs.AtFirst.{at_first, using_all}
use Rattle.rx_settle.specs.declared.trial.Trial.{Trial}
use Rattle.rx_settle.specs.declared.uses.Matching.{Matching}
use Rattle.rx_settle.proofs.KeepingLaws.{expansion_keeps, uses_at_first_keep}

module _ (parts : RuleParts) (old mid : State) (tried : Tried Next)
    (keeps : (next : Next) → tried.made ≡ Some next → next.state.hypotheses ≡ old.hypotheses)
    (t : Trial) (is : IsTrial parts old mid tried t) where
  -- a trial of what adds none
  trial_keeps : mid.hypotheses ≡ old.hypotheses
  trial_keeps = by t.taken is.taken
    where
      by : (o : Option Step) → Takes parts old mid tried.made o →
          mid.hypotheses ≡ old.hypotheses
      by None same = ap (λ (s : State). s.hypotheses) same.1
      by (Some step) made = keeps (record { move = move_of step; state = mid }) made.0

  -- and so where the state is that one at the end
  answer_keeps : {A E : Type 0} (new : State) (r : Result A E) → IfOk r (λ _. new ≡ mid) →
      IfOk r (λ _. new.hypotheses ≡ old.hypotheses)
  answer_keeps new (Ok x) same = ap (λ (s : State). s.hypotheses) same ∙ trial_keeps
  answer_keeps new (Err e) same = tt

-- an expansion that doesn't keep the goal
pub expansion_answer : {A E : Type 0} (parts : RuleParts) (old mid new : State) (side : Side)
    (t : Trial) (r : Result A E) →
    IsTrial parts old mid (attempt parts old (Expand side false)) t → IfOk r (λ _. new ≡ mid) →
    IfOk r (λ _. new.hypotheses ≡ old.hypotheses)
expansion_answer parts old mid new side t r is =
    answer_keeps parts old mid (attempt parts old (Expand side false))
    (expansion_keeps old parts side) t is new r

-- a use of a hypothesis
pub uses_answer : {A E : Type 0} (parts : RuleParts) (old mid new : State) (how : Matching)
    (t : Trial) (r : Result A E) →
    IsTrial parts old mid (at_first (using_all parts old how) old.goals) t →
    IfOk r (λ _. new ≡ mid) → IfOk r (λ _. new.hypotheses ≡ old.hypotheses)
uses_answer parts old mid new how t r is =
    answer_keeps parts old mid (at_first (using_all parts old how) old.goals)
    (uses_at_first_keep old parts how) t is new r
