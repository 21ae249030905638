-- The end of a replay says the verdict on the log; a step that passes the limits is never one that
-- doesn't apply.
use Rattle.std.proofs.Common.{◌≡◌, ◌≢◌, ℕ, List, [], ◌∷◌, ◌++◌, Option, None, Some, Result, Ok, Err, refl, sym, ap, subst}
use Rattle.std.specs.Prelude.{◌+◌}
use Rattle.rx_check.specs.Answers.{Answers}
use Rattle.rx_check.specs.declared.check_end.CheckEnd.{CheckEnd}
use Rattle.rx_check.specs.declared.check_end.CheckEnd.TheVariants as End
use Rattle.rx_check.specs.declared.check_end.LimitAt.TheVariants as At
use Rattle.rx_cover.specs.Covering as cover
use Rattle.rx_cover.specs.Covering.{Covering, Covers, covering}
use Rattle.rx_domain.specs.Keeping as keep
use Rattle.rx_domain.specs.Keeping.{Keeping, Keeps, keeping}
use Rattle.rx_domain.specs.Setting.{bad_domain, with_domains}
use Rattle.rx_domain.specs.declared.domains.Domains.{Domains}
use Rattle.rx_inference.specs.Judging as judging
use Rattle.rx_inference.specs.Judging.{StepFault}
use Rattle.rx_inference.specs.States.{State, applied}
use Rattle.rx_inference.specs.declared.step.Step.{Step}
use Rattle.rx_log.specs.Acceptance as acceptance
use Rattle.rx_log.specs.Acceptance.{Checked, HasVerdict, LogFault, after_step, after_steps, concluded, kept, kept_by, kept_over, of_descent, once_covered, once_finished, once_inside, once_kept, once_lawful, once_ranked, start, used, ◌>>=◌}
use Rattle.rx_log.specs.declared.log.Log.{Log}
use Rattle.rx_pairs.specs.Lowering as lowering
use Rattle.rx_pairs.specs.Inside.{descends_in}
use Rattle.rx_pairs.specs.Lowering.{Descent, Descends}
use Rattle.rx_pairs.specs.Ranks.{bad_rank}
use Rattle.rx_steps.specs.declared.step_end.StepEnd.TheVariants as Unmet
use Rattle.rx_term.specs.declared.rule.Equation.{Equation}
use Rattle.rx_term.specs.declared.rule.Rule.{Rule}
use Rattle.rx_term.specs.declared.rule_set.RuleParts.{RuleParts}
use Rattle.rx_cli.specs.declared.problems.Problem.{Problem}
use Rattle.rx_report.specs.declared.verdicts.Verdict.TheVariants as Said
use Rattle.rx_cli.specs.Checks.{OnLog}
use Rattle.rx_report.specs.declared.verdicts.Verdict.{Verdict}
use Rattle.rx_report.specs.Texts.{IsReportableVerdict, IsSayableEnd}

-- the fault that no log has
abbrev large : ℕ → LogFault
large k = acceptance.Refused k judging.Large

-- a check doesn't come to it
abbrev HasNone : {A : Type 0} → Checked A → Type 0
HasNone check = (k : ℕ) → check ≡ Err (large k) → ⊥

-- nor do two checks, one after the other
then_none : {A B : Type 0} (check : Checked A) (next : A → Checked B) → HasNone check →
    ((x : A) → HasNone (next x)) → HasNone (check >>= next)
then_none (Ok x) next none rest k is = rest x k is
then_none (Err fault) next none rest k is = let same : fault ≡ large k = cc in none k (ap Err same)

step_none : (n : ℕ) (result : Result State StepFault) → HasNone (after_step n result)
step_none n (Ok state) k is = cc
step_none n (Err judging.NoGoal) k is = cc
step_none n (Err judging.WrongShape) k is = cc
step_none n (Err judging.NoSuchRule) k is = cc
step_none n (Err (judging.NotShown i)) k is = cc
step_none n (Err judging.Large) k is = cc

steps_none : (parts : RuleParts) (n : ℕ) (state : State) (steps : List Step) →
    HasNone (after_steps parts n state steps)
steps_none parts n state [] k is = cc
steps_none parts n state (step ∷ steps) k is =
    then_none (after_step n (applied parts state step))
    (λ next. after_steps parts (n + 1) next steps) (step_none n (applied parts state step))
    (λ next. steps_none parts (n + 1) next steps) k is

ranked_none : (bad : Option ℕ) (hypotheses : List Rule) → HasNone (once_ranked bad (Ok hypotheses))
ranked_none None hypotheses k is = cc
ranked_none (Some f) hypotheses k is = cc

finished_none : (goals : List Equation) (next : Checked (List Rule)) → HasNone next →
    HasNone (once_finished goals next)
finished_none [] next none k is = none k is
finished_none (goal ∷ goals) next none k is = cc

covered_none : (covered : Covering) (next : Checked (List Rule)) → HasNone next →
    HasNone (once_covered covered next)
covered_none Covers next none k is = none k is
covered_none (cover.Fails f) next none k is = cc
covered_none (cover.PassesLimits f) next none k is = cc

over_none : (parts : RuleParts) (goal : Equation) (log : Log) → HasNone (kept_over parts goal log)
over_none parts goal log k is =
    covered_none (covering parts log.covers) (after_steps parts 0 (start goal) log.steps >>= kept_by
    parts log.table)
    (then_none (after_steps parts 0 (start goal) log.steps) (kept_by parts log.table)
    (steps_none parts 0 (start goal) log.steps)
    (λ end. finished_none end.goals (once_ranked (bad_rank parts log.table) (Ok end.hypotheses))
    (ranked_none (bad_rank parts log.table) end.hypotheses))) k is

lawful_none : (bad : Option ℕ) (next : Checked (List Rule)) → HasNone next →
    HasNone (once_lawful bad next)
lawful_none None next none k is = none k is
lawful_none (Some f) next none k is = cc

keeps_none : (found : Keeping) (next : Checked (List Rule)) → HasNone next →
    HasNone (once_kept found next)
keeps_none Keeps next none k is = none k is
keeps_none (keep.Fails i) next none k is = cc
keeps_none (keep.PassesLimits i) next none k is = cc

inside_none : (parts : RuleParts) (goal : Equation) (o : Option Domains)
    (next : Checked (List Rule)) → HasNone next → HasNone (once_inside parts goal o next)
inside_none parts goal None next none k is = none k is
inside_none parts goal (Some domains) next none k is =
    let found = keeping (with_domains parts domains.rows) goal domains.keeps in
    lawful_none (bad_domain parts.symbols domains.rows) (once_kept found next)
    (keeps_none found next none) k is

kept_none : (parts : RuleParts) (goal : Equation) (log : Log) → HasNone (kept parts goal log)
kept_none parts goal log =
    inside_none parts goal log.domains (kept_over (used parts log.domains) goal log)
    (over_none (used parts log.domains) goal log)

descent_none : (descent : Descent) (k : ℕ) → of_descent descent ≡ acceptance.Fails (large k) → ⊥
descent_none Descends k is = cc
descent_none (lowering.NotLower i) k is = cc
descent_none (lowering.PassesLimits i) k is = cc

concluded_none : (parts : RuleParts) (log : Log) (check : Checked (List Rule)) → HasNone check →
    (k : ℕ) → concluded parts log check ≡ acceptance.Fails (large k) → ⊥
concluded_none parts log (Err fault) none k is =
    let same : fault ≡ large k = cc in none k (ap Err same)
concluded_none parts log (Ok hypotheses) none k is =
    descent_none (descends_in parts (parts.rules ++ hypotheses) log.table log.pairs) k is

never_large : (parts : RuleParts) (goal : Equation) (log : Log) (k : ℕ) →
    HasVerdict parts goal log (acceptance.Fails (large k)) → ⊥
never_large parts goal log k has =
    concluded_none (used parts log.domains) log (kept parts goal log) (kept_none parts goal log) k
    has

-- what an end of a replay says
pub end_said : (problem : Problem) (log : Log) (end : CheckEnd) → end ≢ End.NoMemory →
    Answers (Err end) problem.rules problem.goal log
    → OnLog problem log (Said.Check end) × IsSayableEnd end
end_said problem log (End.Step k Unmet.NoGoal) other told =
    ((acceptance.Fails (acceptance.Refused k judging.NoGoal), told, refl), tt)
end_said problem log (End.Step k Unmet.WrongShape) other told =
    ((acceptance.Fails (acceptance.Refused k judging.WrongShape), told, refl), tt)
end_said problem log (End.Step k Unmet.NoSuchRule) other told =
    ((acceptance.Fails (acceptance.Refused k judging.NoSuchRule), told, refl), tt)
end_said problem log (End.Step k (Unmet.NotShown i)) other told =
    ((acceptance.Fails (acceptance.Refused k (judging.NotShown i)), told, refl), tt)
end_said problem log (End.Step k Unmet.Large) other told =
    absurd (never_large problem.rules problem.goal log k told)
end_said problem log (End.Step k Unmet.NoMemory) other told =
    absurd (never_large problem.rules problem.goal log k told)
end_said problem log (End.Unfinished n) other told =
    ((acceptance.Fails (acceptance.Unfinished n), told, refl), tt)
end_said problem log (End.BadDomain f) other told =
    ((acceptance.Fails (acceptance.BadDomain f), told, refl), tt)
end_said problem log (End.NotKept i) other told =
    ((acceptance.Fails (acceptance.NotKept i), told, refl), tt)
end_said problem log (End.NotCovered f) other told =
    ((acceptance.Fails (acceptance.NotCovered f), told, refl), tt)
end_said problem log (End.BadRanks f) other told =
    ((acceptance.Fails (acceptance.BadRanks f), told, refl), tt)
end_said problem log (End.NotLower i) other told =
    ((acceptance.Fails (acceptance.NotLower i), told, refl), tt)
end_said problem log (End.Large (At.Keep i)) other told =
    ((acceptance.Fails (acceptance.PassesLimits (acceptance.AtKeep i)), told, refl), tt)
end_said problem log (End.Large (At.Cover f)) other told =
    ((acceptance.Fails (acceptance.PassesLimits (acceptance.AtCover f)), told, refl), tt)
end_said problem log (End.Large (At.Step k)) other told =
    ((acceptance.Fails (acceptance.PassesLimits (acceptance.AtStep k)), told, refl), tt)
end_said problem log (End.Large (At.Pair i)) other told =
    ((acceptance.Fails (acceptance.PassesLimits (acceptance.AtPair i)), told, refl), tt)
end_said problem log End.NoMemory other told = absurd (other refl)

-- so does a verdict that names the end
pub verdict_said : (problem : Problem) (log : Log) (end : CheckEnd) (verdict : Verdict) →
    (verdict ≡ Said.Check end) × (end ≢ End.NoMemory) →
    Answers (Err end) problem.rules problem.goal log
    → OnLog problem log verdict × IsReportableVerdict verdict
verdict_said problem log end verdict (is, other) told =
    subst (λ v. OnLog problem log v × IsReportableVerdict v) (sym is)
    (end_said problem log end other told)
