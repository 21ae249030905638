-- How far the visits have come, where each is counted as it is made.
use Rattle.std.specs.Prelude.{◌≡◌, ◌<◌, ℕ, zero, suc, if◌then◌else◌, Option, None, List, [], ◌∷◌}
use Rattle.std.specs.Option.{option_map, option_or}
use Rattle.rx_deepening.specs.Outcomes.{noted_or, note_of}
use Rattle.rx_deepening.specs.Visits.{Visit}
use Rattle.rx_deepening.specs.declared.outcome.Note.{Note}
use Rattle.rx_deepening.specs.declared.outcome.Outcome.{Outcome}
use Rattle.rx_deepening.specs.declared.outcome.Outcome.TheVariants.{Closed, Spent, Through}
use Rattle.rx_deepening.specs.declared.counter.Ended.{Ended}
use Rattle.rx_deepening.specs.declared.counter.Ended.TheVariants.{Going, Found, Over}
use Rattle.rx_deepening.specs.declared.counter.Counter.{Counter}

-- a visit within the budget
abbrev pub visited : {N R : Type 0} → ℕ → Counter N R → Visit N R → Counter N R
visited left t v =
    record {
      left = left;
      note = option_or t.note (note_of v);
      ended = if v.closed then
          Found v.node else Going;
    }

-- one of a node that isn't closed
abbrev pub visited_open : {N R : Type 0} → ℕ → Counter N R → List ℕ → Option R → Counter N R
visited_open left t path note =
    record {
      left = left;
      note = option_or t.note
          (option_map (λ rows. record { path = path; noted = rows }) note);
      ended = Going;
    }

-- there are more visits than the budget
abbrev pub over : {N R : Type 0} → Counter N R → Counter N R
over t = record { left = 0; note = t.note; ended = Over }

-- another visit is made: they go on, and the budget has one more
pub record GoesOn {N R : Type 0} (t : Counter N R) : Type 0 where
  pub going : t.ended ≡ Going
  pub left : 0 < t.left

-- where another isn't made there are more of them than the budget, unless they had ended
abbrev pub stopped : {N R : Type 0} → Ended N → Counter N R → Counter N R
stopped Going t = over t
stopped (Found node) t = t
stopped Over t = t

-- a visit that may be beyond it
abbrev pub visited_within : {N R : Type 0} → ℕ → Counter N R → Visit N R → Counter N R
visited_within zero t v = over t
visited_within (suc left) t v = visited left t v

-- a visit is made where the visits go on
abbrev pub counted_as : {N R : Type 0} → Ended N → Counter N R → Visit N R → Counter N R
counted_as Going t v = visited_within t.left t v
counted_as (Found node) t v = t
counted_as Over t v = t

abbrev pub counted_one : {N R : Type 0} → Counter N R → Visit N R → Counter N R
counted_one t v = counted_as t.ended t v

-- all of a list, in order
abbrev pub counted : {N R : Type 0} → Counter N R → List (Visit N R) → Counter N R
counted t [] = t
counted t (v ∷ vs) = counted (counted_one t v) vs

-- what it comes to
abbrev pub outcome_by : {N R : Type 0} → Ended N → Option (Note R) → Outcome N R
outcome_by Going first = noted_or first Through
outcome_by (Found node) first = Closed node
outcome_by Over first = noted_or first Spent

-- no visit is made yet
abbrev pub begin : {N R : Type 0} → ℕ → Counter N R
begin budget = record { left = budget; note = None; ended = Going }
