-- What an answer means: what the lines of a log give is said of the log.
use Rattle.std.proofs.Common.{ℕ, ℤ, subst, List, Result, Ok, Err, OnOk}
use Rattle.rx_row.specs.Holds.{AllHold}
use Rattle.rx_rewriting.specs.Premises.{HaveConvertibleNormalForms}
use Rattle.rx_term.specs.Meaning.{Instance, ground_at}
use Rattle.rx_term.specs.declared.rule.Equation.{Equation}
use Rattle.rx_term.specs.declared.rule_set.RuleParts.{RuleParts}
use Rattle.rx_proofs.specs.Goals.{Fitting, IsFitting}
use Rattle.rx_log.specs.declared.line.Line.{Line}
use Rattle.rx_log.specs.declared.log.Log.{Log}
use Rattle.rx_check.specs.Answers.{Answers}
use Rattle.rx_check.specs.Replay.{StandsFor, log_of}
use Rattle.rx_check.specs.Whole.{Replays}
use Rattle.rx_check.specs.declared.check_end.CheckEnd.{CheckEnd}
use Rattle.rx_check.specs.declared.replayer.Replayer.{Replayer}

-- both sides of the goal reach results that are convertible by the rules alone
abbrev pub IsSound : RuleParts → Equation → Type 0
IsSound parts goal = (a : ℕ → ℤ) → AllHold a goal.rows
    → HaveConvertibleNormalForms (Fitting parts) (Instance parts.rules) (ground_at a goal.left)
    (ground_at a goal.right)

module _ (replayer : Replayer) (parts : RuleParts) (goal : Equation) (log : Log)
    (replays : Replays replayer parts goal log) where
  -- what is said of the lines is said of the log
  pub replayed_answer : (r : Result (Unit {0}) CheckEnd)
      → ((g : Equation) (its : List (Line × ℕ)) → StandsFor replayer parts g its →
      Answers r parts g (log_of its))
      → Answers r parts goal log
  replayed_answer r answers =
      subst (λ (l : Log). Answers r parts goal l) replays.are
      (answers goal replays.its replays.stands)

  -- and so is that both sides are convertible
  pub replayed_sound : (r : Result (Unit {0}) CheckEnd) → IsFitting parts goal
      → OnOk r ((g : Equation) (its : List (Line × ℕ)) → StandsFor replayer parts g its →
      IsFitting parts g → IsSound parts g)
      → OnOk r (IsSound parts goal)
  replayed_sound (Ok done) fits sound = sound goal replays.its replays.stands fits
  replayed_sound (Err end) fits sound = tt
