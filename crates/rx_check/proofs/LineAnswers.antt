-- What the answers to calls make of a line.
use Rattle.std.proofs.Common.{◌≡◌, ap, sym, subst, refl, ℕ, Option, None, Result, Ok, Err, IfOk, OnErr, All, List, ◌+◌, slice_get}
use Rattle.rx_term.specs.declared.rule_set.RuleParts.{RuleParts}
use Rattle.rx_inference.specs.Judging.{StepFault}
use Rattle.rx_inference.specs.States.{State, applied}
use Rattle.rx_inference.specs.declared.step.Step.{Step}
use Rattle.rx_cover.specs.Covering.{Covers, goes_on, one_covered}
use Rattle.rx_cover.specs.declared.cover_tree.CoverTree.{CoverTree}
use Rattle.rx_pairs.specs.Lowering.{Descends}
use Rattle.rx_pairs.specs.Lowering as lowering
use Rattle.rx_pairs.specs.Pairs.{HasRoot}
use Rattle.rx_pairs.specs.declared.pair_cert.PairCert.{PairCert}
use Rattle.rx_log.specs.Acceptance.{after_step, once_covered}
use Rattle.rx_log.specs.declared.line.Line.{Line}
use Rattle.rx_log.specs.declared.line.Line.TheVariants as line
use Rattle.rx_log.specs.declared.line_state.LineState.{LineState}
use Rattle.rx_log.specs.declared.line_state.LineState.TheVariants.{InCovers}
use Rattle.rx_steps.specs.Faults.{Applies}
use Rattle.rx_steps.specs.declared.step_end.StepEnd.{StepEnd}
use Rattle.rx_steps.specs.declared.step_end.StepEnd.TheVariants as step_end
use Rattle.rx_check.specs.Answers.{Finds, of_step_outcome}
use Rattle.rx_check.specs.LineByLine.{IsFailureOf, IsOutcome, Judged, Judges, once_lower, one_lower, passed}
use Rattle.rx_check.specs.declared.check_end.CheckEnd.{CheckEnd}
use Rattle.rx_check.specs.declared.check_end.CheckEnd.TheVariants as end
use Rattle.rx_check.specs.declared.progress.Progress.{Progress}
use Rattle.rx_check.proofs.Kept.{step_rooted}
use Rattle.rx_check.proofs.LineFaults.{ends_of}
use Rattle.rx_check.proofs.LineTurns.{AsksRanks, cover_judged, pair_judged}

-- the trees of a symbol, examined
pub cover_answers : {E : Type 0} (parts : RuleParts) (place : LineState) (next : ℕ)
    (trees : List CoverTree) (progress : Progress)
    (outcome : Result (Unit {0}) CheckEnd) (r : Result (Option CheckEnd) E) → place ≡ InCovers next
    → Finds (λ (done : Unit {0}). done) outcome
    (once_covered (goes_on next (one_covered parts next trees) Covers) passed)
    → IfOk r (IsFailureOf outcome) → Judges parts place (line.Cover trees) progress progress r
cover_answers parts place next trees progress outcome (Ok failure) at found is =
    cover_judged parts place trees progress failure (λ n here.
    let same : next ≡ n = cc in
    subst (λ k. IsOutcome failure (once_covered (goes_on k (one_covered parts k trees) Covers)
    passed)) same
    (ends_of tt (once_covered (goes_on next (one_covered parts next trees) Covers) passed) outcome
    failure is found))
cover_answers parts place next trees progress outcome (Err none) at found is = refl

-- what the outcome of a step says of its check
pub step_found : (k : ℕ) (new : State) (outcome : Result (Unit {0}) StepEnd)
    (answer : Result State StepFault) → Applies outcome new answer
    → Finds (λ (_ : Unit {0}). new) (of_step_outcome k outcome) (after_step k answer)
step_found k new (Ok done) answer is = ap (after_step k) is
step_found k new (Err step_end.NoGoal) answer is = ap (after_step k) (is (λ e. cc))
step_found k new (Err step_end.WrongShape) answer is = ap (after_step k) (is (λ e. cc))
step_found k new (Err step_end.NoSuchRule) answer is = ap (after_step k) (is (λ e. cc))
step_found k new (Err (step_end.NotShown i)) answer is = ap (after_step k) (is (λ e. cc))
step_found k new (Err step_end.Large) answer is = ap (after_step k) (is (λ e. cc))
step_found k new (Err step_end.NoMemory) answer is = tt

-- a step for which there is no memory leaves the state as it was
pub unmade_kept : (k : ℕ) (old new : State) (outcome : Result (Unit {0}) StepEnd)
    → of_step_outcome k outcome ≡ Err end.NoMemory → OnErr outcome (new ≡ old) → new ≡ old
unmade_kept k old new (Ok done) none kept = absurd cc
unmade_kept k old new (Err e) none kept = kept

-- what is so is so where a call fails
pub so_on_error : {A E : Type 0} (r : Result A E) (So : Type 0) → So → OnErr r So
so_on_error (Ok x) So so = tt
so_on_error (Err e) So so = so

-- what a step leaves of the hypotheses
pub step_keeps_roots : (parts : RuleParts) (k : ℕ) (old new : State) (step : Step)
    (outcome : Result (Unit {0}) StepEnd) → Applies outcome new (applied parts old step)
    → OnErr outcome (new ≡ old) → All HasRoot old.hypotheses → All HasRoot new.hypotheses
step_keeps_roots parts k old new step (Ok done) is kept rooted =
    step_rooted parts k old new step (applied parts old step) refl (ap (after_step k) is) rooted
step_keeps_roots parts k old new step (Err e) is kept rooted =
    subst (λ (s : State). All HasRoot s.hypotheses) (sym kept) rooted

-- the next pair, examined
pub pair_answers : (parts : RuleParts) (place : LineState) (cert : PairCert) (old : Progress)
    (lower : ℕ) (failure : Option CheckEnd)
    → AsksRanks parts place old.table None → lower ≡ old.lower + 1
    → (outcome : Result (Unit {0}) CheckEnd) → IsFailureOf outcome failure
    → Finds (λ (done : Unit {0}). done) outcome
    (once_lower (lowering.goes_on old.lower
    (one_lower old.listing.whole old.table (slice_get old.listing.pairs old.lower) cert) Descends)
    passed)
    → Judged parts place (line.Pair cert) old (record old { lower = lower }) failure
pair_answers parts place cert old lower failure asks next outcome is found =
    pair_judged parts place cert old lower failure asks next
    (ends_of tt (once_lower (lowering.goes_on old.lower
    (one_lower old.listing.whole old.table (slice_get old.listing.pairs old.lower) cert) Descends)
    passed) outcome failure is found)

-- where there is no memory for a line, what is kept stays
pub unjudged : {E : Type 0} (parts : RuleParts) (place : LineState) (next : Line)
    (old new : Progress) (r : Result (Option CheckEnd) E) → Judges parts place next old new r
    → OnErr r (new ≡ old)
unjudged parts place next old new (Ok failure) judges = tt
unjudged parts place next old new (Err none) judges = judges
