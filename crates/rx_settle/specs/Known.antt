-- What is known of a goal: what comes of the items before hypotheses. They look at the first goal
-- alone, so it is the same at each state that begins with it.
use Rattle.std.specs.Prelude.{List, Option, Some, None}
use Rattle.rx_solve.specs.Attempts.{Tried}
use Rattle.rx_term.specs.declared.rule.Equation.{Equation}
use Rattle.rx_term.specs.declared.rule_set.RuleParts.{RuleParts}
use Rattle.rx_memo.specs.Kept.{IsKept}
use Rattle.rx_memo.specs.declared.goal_memo.Kept.{Kept}
use Rattle.rx_inference.specs.States.{State}
use Rattle.rx_steps.specs.Alone.{alone, onto}
use Rattle.rx_settle.specs.Answers.{IsTrial}
use Rattle.rx_settle.specs.AtFirst.{before_uses}
use Rattle.rx_moves.specs.Trying.{Next}
use Rattle.rx_settle.specs.declared.known.Known.{Known}

-- what comes of these items where the goal is alone
unfoldable pub tried_alone : RuleParts → Equation → Tried Next
tried_alone parts goal = before_uses parts (alone goal) goal

-- the same at a state that begins with the goal: the same move, and what it makes of the goal
-- stands in its place
abbrev pub next_onto : State → Option Next → Option Next
next_onto state None = None
next_onto state (Some next) = Some (record { move = next.move; state = onto state next.state })

abbrev pub lifted : State → Tried Next → Tried Next
lifted state tried = record { made = next_onto state tried.made; noted = tried.noted }

-- the trial was made on the goal alone, and led to that state
pub record IsKnown (parts : RuleParts) (goal : Equation) (known : Known) : Type 0 where
  pub trial : IsTrial parts (alone goal) known.after (tried_alone parts goal) known.trial

-- what a memo has of goals is right
pub record AreKnown (parts : RuleParts) (memo : List (Kept Known)) : Type 0 where
  pub all : (goal : Equation) (known : Known) → IsKept memo goal known →
      IsKnown parts goal known
