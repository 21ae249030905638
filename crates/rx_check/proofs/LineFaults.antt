-- Single checks of a log that is replayed line by line: what each comes to, and which logs then
-- have its fault.
use Rattle.std.proofs.Common.{◌≡◌, ◌∙◌, ap, sym, subst, refl, ℕ, Option, Some, None, Result, Ok, Err, List, [], ◌∷◌, length, ◌<◌, arith}
use Rattle.rx_term.specs.declared.rule.Equation.{Equation}
use Rattle.rx_term.specs.declared.rule_set.RuleParts.{RuleParts}
use Rattle.rx_inference.specs.States.{State}
use Rattle.rx_cover.specs.Covering.{Covering, Covers, Fails, PassesLimits, covering}
use Rattle.rx_domain.specs.Keeping.{Keeping, Keeps}
use Rattle.rx_domain.specs.Keeping as keep
use Rattle.rx_pairs.specs.Lowering.{Descends, Descent}
use Rattle.rx_pairs.specs.Lowering as lowering
use Rattle.rx_pairs.specs.Ranks.{bad_rank}
use Rattle.rx_pairs.specs.declared.table.RankTable.{RankTable}
use Rattle.rx_log.specs.Acceptance.{AtCover, AtKeep, AtPair, Checked, LogFault, ◌>>=◌, after_steps, concluded, kept_by, kept_over, of_descent, once_covered, once_finished, once_kept, once_ranked, start, verdict_over}
use Rattle.rx_log.specs.Acceptance as log_fault
use Rattle.rx_log.specs.declared.log.Log.{Log}
use Rattle.rx_log.specs.declared.line_state.LineState.{LineState}
use Rattle.rx_check.specs.Answers.{Finds, Told, named, place_of}
use Rattle.rx_steps.specs.Faults.{fault}
use Rattle.rx_check.specs.LineByLine.{Ends, FailsWith, GoesOn, IsFailureOf, once_lower, passed}
use Rattle.rx_check.specs.declared.check_end.CheckEnd.{CheckEnd}
use Rattle.rx_check.specs.declared.check_end.CheckEnd.TheVariants as ends

-- ---- ends of checks

-- the failure that an outcome is, is what the check comes to
pub ends_of : {A : Type 0} (x : A) (check : Checked A) (outcome : Result (Unit {0}) CheckEnd)
    (failure : Option CheckEnd)
    → IsFailureOf outcome failure → Finds (λ (_ : Unit {0}). x) outcome check → Ends failure x check
ends_of x check (Ok done) failure is found = subst (λ f. Ends f x check) (sym is) found
ends_of x check (Err end) failure is found =
    subst (λ f. Ends f x check) (sym is.0)
    (is.1.0, is.1.1, subst (λ o. Told o (λ fault. check ≡ Err fault)) is.1.1 found)

-- an end that isn't out of memory names a fault
pub names_fault : (end : CheckEnd) → (end ≡ ends.NoMemory → ⊥) → (fault : LogFault) ×
    (named end ≡ Some fault)
names_fault (ends.Step k end) some = (log_fault.Refused k (fault end), refl)
names_fault (ends.BadDomain f) some = (log_fault.BadDomain f, refl)
names_fault (ends.NotKept k) some = (log_fault.NotKept k, refl)
names_fault (ends.Unfinished n) some = (log_fault.Unfinished n, refl)
names_fault (ends.NotCovered f) some = (log_fault.NotCovered f, refl)
names_fault (ends.BadRanks f) some = (log_fault.BadRanks f, refl)
names_fault (ends.NotLower i) some = (log_fault.NotLower i, refl)
names_fault (ends.Large p) some = (log_fault.PassesLimits (place_of p), refl)
names_fault ends.NoMemory some = absurd (some refl)

-- where a check fails, so does what follows it
pub keeps_fail : {A : Type 0} (found : Keeping) (next : Checked A) (fault : LogFault)
    → once_kept found passed ≡ Err fault → once_kept found next ≡ Err fault
keeps_fail Keeps next fault e = absurd cc
keeps_fail (keep.Fails k) next fault e = let is : log_fault.NotKept k ≡ fault = cc in ap Err is
keeps_fail (keep.PassesLimits k) next fault e =
    let is : log_fault.PassesLimits (AtKeep k) ≡ fault = cc in ap Err is

pub keeps_hold : (found : Keeping) → once_kept found passed ≡ passed → found ≡ Keeps
keeps_hold Keeps e = refl
keeps_hold (keep.Fails k) e = absurd cc
keeps_hold (keep.PassesLimits k) e = absurd cc

covers_fail : {A : Type 0} (found : Covering) (next : Checked A) (fault : LogFault)
    → once_covered found passed ≡ Err fault → once_covered found next ≡ Err fault
covers_fail Covers next fault e = absurd cc
covers_fail (Fails f) next fault e = let is : log_fault.NotCovered f ≡ fault = cc in ap Err is
covers_fail (PassesLimits f) next fault e =
    let is : log_fault.PassesLimits (AtCover f) ≡ fault = cc in ap Err is

pub covers_hold : (found : Covering) → once_covered found passed ≡ passed → found ≡ Covers
covers_hold Covers e = refl
covers_hold (Fails f) e = absurd cc
covers_hold (PassesLimits f) e = absurd cc

pub ranks_fail : {A : Type 0} (bad : Option ℕ) (next : Checked A) (fault : LogFault)
    → once_ranked bad passed ≡ Err fault → once_ranked bad next ≡ Err fault
ranks_fail None next fault e = absurd cc
ranks_fail (Some f) next fault e = let is : log_fault.BadRanks f ≡ fault = cc in ap Err is

pub ranks_hold : (bad : Option ℕ) → once_ranked bad passed ≡ passed → bad ≡ None
ranks_hold None e = refl
ranks_hold (Some f) e = absurd cc

pub pairs_fail : (found : Descent) (fault : LogFault) → once_lower found passed ≡ Err fault
    → of_descent found ≡ log_fault.Fails fault
pairs_fail Descends fault e = absurd cc
pairs_fail (lowering.NotLower i) fault e =
    let is : log_fault.NotLower i ≡ fault = cc in ap log_fault.Fails is
pairs_fail (lowering.PassesLimits i) fault e =
    let is : log_fault.PassesLimits (AtPair i) ≡ fault = cc in ap log_fault.Fails is

pub pairs_hold : (found : Descent) → once_lower found passed ≡ passed → found ≡ Descends
pairs_hold Descends e = refl
pairs_hold (lowering.NotLower i) e = absurd cc
pairs_hold (lowering.PassesLimits i) e = absurd cc

-- ---- faults of whole logs

module _ (parts : RuleParts) (goal : Equation) (whole : Log) where
  -- before the pairs, a fault decides
  pub fails_before : (fault : LogFault) → kept_over parts goal whole ≡ Err fault →
      verdict_over parts goal whole ≡ log_fault.Fails fault
  fails_before fault e = ap (concluded parts whole) e

  -- so does one of the covers
  pub uncovered : (fault : LogFault) → once_covered (covering parts whole.covers) passed ≡ Err fault
      → kept_over parts goal whole ≡ Err fault
  uncovered fault e =
      covers_fail (covering parts whole.covers)
      (after_steps parts 0 (start goal) whole.steps >>= kept_by parts whole.table) fault e

  module _ (covers : covering parts whole.covers ≡ Covers) where
    -- one of the steps
    pub refused : (fault : LogFault) → after_steps parts 0 (start goal) whole.steps ≡ Err fault →
        kept_over parts goal whole ≡ Err fault
    refused fault e =
        ap (λ found. once_covered found (after_steps parts 0 (start goal) whole.steps >>= kept_by
        parts whole.table)) covers
        ∙ ap (λ (check : Checked State). check >>= kept_by parts whole.table) e

    -- and after them what the last state and the ranks come to
    pub kept_behind : (state : State) → after_steps parts 0 (start goal) whole.steps ≡ Ok state
        → kept_over parts goal whole ≡ kept_by parts whole.table state
    kept_behind state e =
        ap (λ found. once_covered found (after_steps parts 0 (start goal) whole.steps >>= kept_by
        parts whole.table)) covers
        ∙ ap (λ (check : Checked State). check >>= kept_by parts whole.table) e

-- where goals are left, that is the fault
pub unfinished : (parts : RuleParts) (table : RankTable) (state : State) → 0 < length state.goals
    → kept_by parts table state ≡ Err (log_fault.Unfinished (length state.goals))
unfinished parts table state some = by_goals state.goals some where
  by_goals : (goals : List Equation) → 0 < length goals
      → once_finished goals (once_ranked (bad_rank parts table) (Ok state.hypotheses)) ≡
      Err (log_fault.Unfinished (length goals))
  by_goals [] some = absurd (omega (arith, some))
  by_goals (g ∷ gs) some = refl

-- where none is, the ranks decide
pub finished : (parts : RuleParts) (table : RankTable) (state : State) → state.goals ≡ []
    → kept_by parts table state ≡ once_ranked (bad_rank parts table) (Ok state.hypotheses)
finished parts table state none =
    ap (λ goals. once_finished goals (once_ranked (bad_rank parts table) (Ok state.hypotheses)))
    none

-- logs with the same covers, steps and ranks keep the same
pub kept_same : (parts : RuleParts) (goal : Equation) (log whole : Log) → whole.covers ≡
    log.covers → whole.steps ≡ log.steps → whole.table ≡ log.table
    → kept_over parts goal whole ≡ kept_over parts goal log
kept_same parts goal log whole c s t =
    ap (λ covers. once_covered (covering parts covers)
    (after_steps parts 0 (start goal) whole.steps >>= kept_by parts whole.table)) c
    ∙ ap (λ steps. once_covered (covering parts log.covers)
    (after_steps parts 0 (start goal) steps >>= kept_by parts whole.table)) s
    ∙ ap (λ table. once_covered (covering parts log.covers)
    (after_steps parts 0 (start goal) log.steps >>= kept_by parts table)) t

-- ---- what failed stays so

pub failed_at : (parts : RuleParts) (goal : Equation) (place : LineState) (log : Log)
    (end : CheckEnd)
    (fault : LogFault) → named end ≡ Some fault
    → ((whole : Log) → GoesOn place log whole → kept_over parts goal whole ≡ Err fault) →
    FailsWith parts goal place log end
failed_at parts goal place log end fault names fails = record {
  fault = fault;
  names = names;
  fails = λ whole on. fails_before parts goal whole fault (fails whole on);
}
