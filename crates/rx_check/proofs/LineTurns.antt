-- What each line of a log makes of what was kept at its place.
use Rattle.std.proofs.Common.{◌≡◌, ◌∙◌, ap, sym, subst, refl, Bool, true, false, ℕ, ◌+◌, ◌<◌, ◌≤◌, Option, Some, None, Result, Ok, Err, List, [], ◌∷◌, ◌++◌, drop, slice_get, length, append_assoc, arith, drop_of_length-le}
use Rattle.std.specs.Prelude.{IfOk, OnErr, OnOk}
use Rattle.std.proofs.lemmas.List.{append-nil}
use Rattle.std.proofs.lemmas.Option.{same_Some}
use Rattle.rx_term.proofs.Places.{from_end, from_nowhere, from_place}
use Rattle.rx_poly.specs.declared.body.Body.{Body}
use Rattle.rx_term.specs.declared.rule.Equation.{Equation}
use Rattle.rx_term.specs.declared.rule_set.RuleParts.{RuleParts}
use Rattle.rx_term.specs.declared.rule_set.SymInfo.{SymInfo}
use Rattle.rx_inference.specs.States.{State, applied}
use Rattle.rx_inference.specs.declared.step.Step.{Step}
use Rattle.rx_cert.specs.Findings.{Beyond, No, Said, Yes}
use Rattle.rx_cert.specs.declared.cert.Cert.{Cert}
use Rattle.rx_row.specs.declared.row.Row.{Row}
use Rattle.rx_cover.specs.Covering.{Covering, Covers, covering, covering_from, goes_on, one_covered, symbol_finding}
use Rattle.rx_cover.specs.declared.cover_tree.CoverTree.{CoverTree}
use Rattle.rx_pairs.specs.Inside.{descent_in, listing}
use Rattle.rx_pairs.specs.Lowering.{Descends, Descent, NotLower}
use Rattle.rx_pairs.specs.Lowering as lowering
use Rattle.rx_pairs.specs.declared.listing.Listing.{Listing}
use Rattle.rx_pairs.specs.Ranks.{bad_rank}
use Rattle.rx_pairs.specs.declared.pair.Pair.{Pair}
use Rattle.rx_pairs.specs.declared.pair_cert.PairCert.{PairCert}
use Rattle.rx_pairs.specs.declared.table.RankTable.{RankTable}
use Rattle.rx_log.specs.Acceptance.{Accepted, AtPair, Checked, Fails, LogFault, PassesLimits, Verdict, ◌>>=◌, after_step, after_steps, concluded, kept_by, kept_over, of_descent, once_covered, once_ranked, start, verdict_over}
use Rattle.rx_log.specs.Acceptance as log_fault
use Rattle.rx_log.specs.Places.{after}
use Rattle.rx_log.specs.Reading.{pushed}
use Rattle.rx_log.specs.declared.line.Line.TheVariants as line
use Rattle.rx_log.specs.declared.log.Log.{Log}
use Rattle.rx_log.specs.declared.line_state.LineState.{LineState}
use Rattle.rx_log.specs.declared.line_state.LineState.TheVariants.{AtHeader, InDomains, InKeeps, InCovers, InSteps, InRanks, InPairs, Finished}
use Rattle.rx_check.specs.Answers.{named}
use Rattle.rx_check.specs.LineByLine.{Ends, IsOpen, IsRanked, IsOutcome, Judges, passed, Holds, IsKnown, Stands, once_lower, one_lower}
use Rattle.rx_check.specs.declared.check_end.CheckEnd.{CheckEnd}
use Rattle.rx_check.specs.declared.check_end.CheckEnd.TheVariants as end
use Rattle.rx_check.specs.declared.check_end.LimitAt.TheVariants as limit
use Rattle.rx_check.specs.declared.progress.Progress.{Progress}
use Rattle.rx_check.proofs.LineFaults.{covers_hold, failed_at, finished, kept_behind, kept_same, pairs_fail, ranks_fail, ranks_hold, refused, uncovered, unfinished}
use Rattle.rx_check.proofs.LineOrder.{after_cover, after_rank}

-- ---- lines of which nothing is judged here

pub header_stands : (parts : RuleParts) (place : LineState) (progress : Progress)
    (goal : Equation) (log : Log) (symbol : ℕ) (behind : LineState)
    → Holds parts goal place log progress → after place (line.Header, symbol) ≡ Some behind →
    Stands parts goal behind (pushed line.Header log) progress None
header_stands parts AtHeader progress goal log symbol behind holds e = absurd holds.known
header_stands parts (InDomains n) progress goal log symbol behind holds e = absurd holds.known
header_stands parts InKeeps progress goal log symbol behind holds e = absurd holds.known
header_stands parts (InCovers n) progress goal log symbol behind holds e = absurd cc
header_stands parts InSteps progress goal log symbol behind holds e = absurd cc
header_stands parts (InRanks c n) progress goal log symbol behind holds e = absurd cc
header_stands parts InPairs progress goal log symbol behind holds e = absurd cc
header_stands parts Finished progress goal log symbol behind holds e = absurd cc

pub header2_stands : (parts : RuleParts) (place : LineState) (progress : Progress)
    (goal : Equation) (log : Log) (symbol : ℕ) (behind : LineState)
    → Holds parts goal place log progress → after place (line.Header2, symbol) ≡ Some behind →
    Stands parts goal behind (pushed line.Header2 log) progress None
header2_stands parts AtHeader progress goal log symbol behind holds e = absurd holds.known
header2_stands parts (InDomains n) progress goal log symbol behind holds e = absurd holds.known
header2_stands parts InKeeps progress goal log symbol behind holds e = absurd holds.known
header2_stands parts (InCovers n) progress goal log symbol behind holds e = absurd cc
header2_stands parts InSteps progress goal log symbol behind holds e = absurd cc
header2_stands parts (InRanks c n) progress goal log symbol behind holds e = absurd cc
header2_stands parts InPairs progress goal log symbol behind holds e = absurd cc
header2_stands parts Finished progress goal log symbol behind holds e = absurd cc

pub domain_stands : (parts : RuleParts) (place : LineState) (rows : List Row) (progress : Progress)
    (goal : Equation) (log : Log) (symbol : ℕ) (behind : LineState)
    → Holds parts goal place log progress → after place (line.Domain rows, symbol) ≡ Some behind →
    Stands parts goal behind (pushed (line.Domain rows) log) progress None
domain_stands parts AtHeader rows progress goal log symbol behind holds e = absurd holds.known
domain_stands parts (InDomains n) rows progress goal log symbol behind holds e = absurd holds.known
domain_stands parts InKeeps rows progress goal log symbol behind holds e = absurd holds.known
domain_stands parts (InCovers n) rows progress goal log symbol behind holds e = absurd cc
domain_stands parts InSteps rows progress goal log symbol behind holds e = absurd cc
domain_stands parts (InRanks c n) rows progress goal log symbol behind holds e = absurd cc
domain_stands parts InPairs rows progress goal log symbol behind holds e = absurd cc
domain_stands parts Finished rows progress goal log symbol behind holds e = absurd cc

pub keep_stands : (parts : RuleParts) (place : LineState) (certs : List Cert) (progress : Progress)
    (goal : Equation) (log : Log) (symbol : ℕ) (behind : LineState)
    → Holds parts goal place log progress → after place (line.Keep certs, symbol) ≡ Some behind →
    Stands parts goal behind (pushed (line.Keep certs) log) progress None
keep_stands parts AtHeader certs progress goal log symbol behind holds e = absurd holds.known
keep_stands parts (InDomains n) certs progress goal log symbol behind holds e = absurd holds.known
keep_stands parts InKeeps certs progress goal log symbol behind holds e = absurd holds.known
keep_stands parts (InCovers n) certs progress goal log symbol behind holds e = absurd cc
keep_stands parts InSteps certs progress goal log symbol behind holds e = absurd cc
keep_stands parts (InRanks c n) certs progress goal log symbol behind holds e = absurd cc
keep_stands parts InPairs certs progress goal log symbol behind holds e = absurd cc
keep_stands parts Finished certs progress goal log symbol behind holds e = absurd cc

-- ---- covers

module _ (parts : RuleParts) (next : ℕ) (trees : List CoverTree) where
  abbrev examined : Covering → Covering
  examined rest = goes_on next (one_covered parts next trees) rest

  one_list : (more : List (List CoverTree)) →
      covering_from parts next (drop next parts.symbols) (trees ∷ more)
      ≡ examined (covering_from parts (next + 1) (drop (next + 1) parts.symbols) more)
  one_list more = by_symbol (slice_get parts.symbols next) refl where
    by_symbol : (o : Option SymInfo) → slice_get parts.symbols next ≡ o →
        covering_from parts next (drop next parts.symbols) (trees ∷ more)
        ≡ goes_on next (symbol_finding parts next o trees)
        (covering_from parts (next + 1) (drop (next + 1) parts.symbols) more)
    by_symbol None none =
        ap (λ infos. covering_from parts next infos (trees ∷ more))
        (from_nowhere parts.symbols next none)
    by_symbol (Some info) some =
        ap (λ infos. covering_from parts next infos (trees ∷ more))
        (from_place parts.symbols next info some)

  examined_good : once_covered (examined Covers) passed ≡ passed → (rest : Covering) →
      examined rest ≡ rest
  examined_good e rest = by_found (one_covered parts next trees) e where
    by_found : (found : Said) → once_covered (goes_on next found Covers) passed ≡ passed →
        goes_on next found rest ≡ rest
    by_found Beyond e = absurd cc
    by_found Yes e = refl
    by_found No e = absurd cc

  examined_bad : (fault : LogFault) → once_covered (examined Covers) passed ≡ Err fault →
      (rest : Covering)
      → once_covered (examined rest) passed ≡ Err fault
  examined_bad fault e rest = by_found (one_covered parts next trees) e where
    by_found : (found : Said) → once_covered (goes_on next found Covers) passed ≡ Err fault
        → once_covered (goes_on next found rest) passed ≡ Err fault
    by_found Beyond e = e
    by_found Yes e = absurd cc
    by_found No e = e

  module _ (goal : Equation) (log : Log) (progress : Progress)
      (holds : Holds parts goal (InCovers next) log progress) where
    push_list : (more : List (List CoverTree)) → covering parts ((log.covers ++ trees ∷ []) ++ more)
        ≡ examined (covering_from parts (next + 1) (drop (next + 1) parts.symbols) more)
    push_list more =
        ap (covering parts) (append_assoc log.covers (trees ∷ []) more) ∙
        holds.known.0 (trees ∷ more) ∙ one_list more

    cover_stands : (failure : Option CheckEnd) →
        IsOutcome failure (once_covered (examined Covers) passed)
        → Stands parts goal (InCovers (next + 1)) (pushed (line.Cover trees) log) progress failure
    cover_stands None e = record {
      steps = holds.steps;
      table = holds.table;
      known = (
        λ more. push_list more ∙ examined_good e
            (covering_from parts (next + 1) (drop (next + 1) parts.symbols) more),
        holds.known.1,
      );
    }
    cover_stands (Some end) e =
        failed_at parts goal (InCovers (next + 1)) (pushed (line.Cover trees) log) end e.0 e.1
        (λ whole on. uncovered parts goal whole e.0
        (ap (λ found. once_covered found passed) (ap (covering parts) on.1 ∙ push_list on.0)
        ∙ examined_bad e.0 e.2 (covering_from parts (next + 1) (drop (next + 1) parts.symbols)
        on.0)))

pub cover_judged : (parts : RuleParts) (place : LineState) (trees : List CoverTree)
    (progress : Progress) (failure : Option CheckEnd)
    → ((next : ℕ) → place ≡ InCovers next → IsOutcome failure
    (once_covered (goes_on next (one_covered parts next trees) Covers) passed))
    → (goal : Equation) (log : Log) (symbol : ℕ) (behind : LineState) →
    Holds parts goal place log progress
    → after place (line.Cover trees, symbol) ≡ Some behind →
    Stands parts goal behind (pushed (line.Cover trees) log) progress failure
cover_judged parts AtHeader trees progress failure ends goal log symbol behind holds e = absurd cc
cover_judged parts (InDomains n) trees progress failure ends goal log symbol behind holds e =
    absurd holds.known
cover_judged parts InKeeps trees progress failure ends goal log symbol behind holds e =
    absurd holds.known
cover_judged parts (InCovers n) trees progress failure ends goal log symbol behind holds e =
    subst (λ b. Stands parts goal b (pushed (line.Cover trees) log) progress failure)
    (after_cover n trees symbol behind e)
    (cover_stands parts n trees goal log progress holds failure (ends n refl))
cover_judged parts InSteps trees progress failure ends goal log symbol behind holds e = absurd cc
cover_judged parts (InRanks c n) trees progress failure ends goal log symbol behind holds e =
    absurd cc
cover_judged parts InPairs trees progress failure ends goal log symbol behind holds e = absurd cc
cover_judged parts Finished trees progress failure ends goal log symbol behind holds e = absurd cc

-- ---- after the covers

step_comes : (place : LineState) (step : Step) (symbol : ℕ) (behind : LineState) →
    after place (line.Step step, symbol) ≡ Some behind
    → IsOpen place × (InSteps ≡ behind)
step_comes AtHeader step symbol behind e = absurd cc
step_comes (InDomains n) step symbol behind e = (tt, same_Some InSteps behind e)
step_comes InKeeps step symbol behind e = (tt, same_Some InSteps behind e)
step_comes (InCovers n) step symbol behind e = (tt, same_Some InSteps behind e)
step_comes InSteps step symbol behind e = (tt, same_Some InSteps behind e)
step_comes (InRanks c n) step symbol behind e = absurd cc
step_comes InPairs step symbol behind e = absurd cc
step_comes Finished step symbol behind e = absurd cc

ranks_come : (place : LineState) (columns symbol : ℕ) (behind : LineState) →
    after place (line.Ranks columns, symbol) ≡ Some behind
    → IsOpen place × (InRanks columns 0 ≡ behind)
ranks_come AtHeader columns symbol behind e = absurd cc
ranks_come (InDomains n) columns symbol behind e = (tt, same_Some (InRanks columns 0) behind e)
ranks_come InKeeps columns symbol behind e = (tt, same_Some (InRanks columns 0) behind e)
ranks_come (InCovers n) columns symbol behind e = (tt, same_Some (InRanks columns 0) behind e)
ranks_come InSteps columns symbol behind e = (tt, same_Some (InRanks columns 0) behind e)
ranks_come (InRanks c n) columns symbol behind e = absurd cc
ranks_come InPairs columns symbol behind e = absurd cc
ranks_come Finished columns symbol behind e = absurd cc

-- what is asked of the covers there
pub record Asks (parts : RuleParts) (place : LineState) (failure : Option CheckEnd) : Type 0 where
  pub covers : (next : ℕ) → place ≡ InCovers next
      → IsOutcome failure (once_covered (covering_from parts next (drop next parts.symbols) [])
      passed)
  pub steps : place ≡ InSteps → failure ≡ None

-- it is the answer for all covers
covers_end : (parts : RuleParts) (goal : Equation) (place : LineState) (log : Log)
    (progress : Progress)
    (failure : Option CheckEnd) → IsOpen place
    → Asks parts place failure → Holds parts goal place log progress
    → IsOutcome failure (once_covered (covering parts log.covers) passed) × (log.pairs ≡ [])
covers_end parts goal AtHeader log progress failure there asks holds = absurd there
covers_end parts goal (InDomains n) log progress failure there asks holds = absurd holds.known
covers_end parts goal InKeeps log progress failure there asks holds = absurd holds.known
covers_end parts goal (InCovers n) log progress failure there asks holds =
    let is : covering parts log.covers ≡ covering_from parts n (drop n parts.symbols) [] =
    ap (covering parts) (sym (append-nil log.covers)) ∙ holds.known.0 [] in (
      subst (λ found. IsOutcome failure (once_covered found passed)) (sym is) (asks.covers n refl),
      holds.known.1,
    )
covers_end parts goal InSteps log progress failure there asks holds =
    let is : once_covered (covering parts log.covers) passed ≡ passed =
    ap (λ found. once_covered found passed) holds.known.0 in (
      subst (λ f. IsOutcome f (once_covered (covering parts log.covers) passed))
          (sym (asks.steps refl)) is,
      holds.known.1,
    )
covers_end parts goal (InRanks c n) log progress failure there asks holds = absurd there
covers_end parts goal InPairs log progress failure there asks holds = absurd there
covers_end parts goal Finished log progress failure there asks holds = absurd there

-- the state so far is the one after the steps of the log so far
pub state_now : (parts : RuleParts) (goal : Equation) (place : LineState) (log : Log)
    (progress : Progress)
    → Holds parts goal place log progress
    → after_steps parts 0 (start goal) log.steps ≡ Ok progress.state
state_now parts goal place log progress holds =
    ap (after_steps parts 0 (start goal)) (sym (append-nil log.steps)) ∙ holds.steps []

-- where the covers fail, a step has that failure
pub step_uncovered : (parts : RuleParts) (place : LineState) (step : Step) (old new : Progress)
    (end : CheckEnd) → Asks parts place (Some end)
    → (goal : Equation) (log : Log) (symbol : ℕ) (behind : LineState) → Holds parts goal place log
    old
    → after place (line.Step step, symbol) ≡ Some behind →
    Stands parts goal behind (pushed (line.Step step) log) new (Some end)
step_uncovered parts place step old new end asks goal log symbol behind holds e =
    let comes = step_comes place step symbol behind e in
    let ends = (covers_end parts goal place log old (Some end) comes.0 asks holds).0 in
    subst (λ b. Stands parts goal b (pushed (line.Step step) log) new (Some end)) comes.1
    (failed_at parts goal InSteps (pushed (line.Step step) log) end ends.0 ends.1
    (λ whole on. uncovered parts goal whole ends.0
    (ap (λ covers. once_covered (covering parts covers) passed) on.0 ∙ ends.2)))

-- and so has the line that begins the ranks
pub ranks_uncovered : (parts : RuleParts) (place : LineState) (columns : ℕ) (old new : Progress)
    (end : CheckEnd) → Asks parts place (Some end)
    → (goal : Equation) (log : Log) (symbol : ℕ) (behind : LineState) → Holds parts goal place log
    old
    → after place (line.Ranks columns, symbol) ≡ Some behind →
    Stands parts goal behind (pushed (line.Ranks columns) log) new (Some end)
ranks_uncovered parts place columns old new end asks goal log symbol behind holds e =
    let comes = ranks_come place columns symbol behind e in
    let ends = (covers_end parts goal place log old (Some end) comes.0 asks holds).0 in
    subst (λ b. Stands parts goal b (pushed (line.Ranks columns) log) new (Some end)) comes.1
    (failed_at parts goal (InRanks columns 0) (pushed (line.Ranks columns) log) end ends.0 ends.1
    (λ whole on. uncovered parts goal whole ends.0
    (ap (λ covers. once_covered (covering parts covers) passed) on.0 ∙ ends.2)))

-- ---- steps

module _ (parts : RuleParts) (step : Step) (goal : Equation) (place : LineState) (log : Log)
    (old new : Progress) (holds : Holds parts goal place log old)
    (covers : covering parts log.covers ≡ Covers) (none : log.pairs ≡ [])
    (counts : new.steps ≡ old.steps + 1) (table : new.table ≡ old.table) where
  abbrev taken : Checked State
  taken = after_step old.steps (applied parts old.state step)

  push_step : (more : List Step) → after_steps parts 0 (start goal)
      ((log.steps ++ step ∷ []) ++ more)
      ≡ (taken >>= λ next. after_steps parts (old.steps + 1) next more)
  push_step more =
      ap (after_steps parts 0 (start goal)) (append_assoc log.steps (step ∷ []) more) ∙
      holds.steps (step ∷ more)

  step_stands : (failure : Option CheckEnd) → Ends failure new.state taken →
      Stands parts goal InSteps (pushed (line.Step step) log) new failure
  step_stands None e = record {
    steps = λ more. push_step more
        ∙ ap (λ (check : Checked State). check >>= λ next.
        after_steps parts (old.steps + 1) next more) e
        ∙ ap (λ k. after_steps parts k new.state more) (sym counts);
    table = table ∙ holds.table;
    known = (covers, none);
  }
  step_stands (Some end) e =
      failed_at parts goal InSteps (pushed (line.Step step) log) end e.0 e.1
      (λ whole on. refused parts goal whole (ap (covering parts) on.0 ∙ covers) e.0
      (ap (after_steps parts 0 (start goal)) on.1.1 ∙ push_step on.1.0
      ∙ ap (λ (check : Checked State). check >>= λ next.
      after_steps parts (old.steps + 1) next on.1.0) e.2))

pub step_judged : (parts : RuleParts) (place : LineState) (step : Step) (old new : Progress)
    (failure : Option CheckEnd) → Asks parts place None
    → new.steps ≡ old.steps + 1 → new.table ≡ old.table →
    Ends failure new.state (after_step old.steps (applied parts old.state step))
    → (goal : Equation) (log : Log) (symbol : ℕ) (behind : LineState) → Holds parts goal place log
    old
    → after place (line.Step step, symbol) ≡ Some behind →
    Stands parts goal behind (pushed (line.Step step) log) new failure
step_judged parts place step old new failure asks counts table ends goal log symbol behind holds e =
    let comes = step_comes place step symbol behind e in
    let before = covers_end parts goal place log old None comes.0 asks holds in
    subst (λ b. Stands parts goal b (pushed (line.Step step) log) new failure) comes.1
    (step_stands parts step goal place log old new holds
    (covers_hold (covering parts log.covers) before.0) before.1 counts table failure ends)

-- the same of a call, by what each of its answers says
pub step_judges : {E : Type 0} (parts : RuleParts) (place : LineState) (step : Step)
    (old new : Progress) (result : Result (Option CheckEnd) E) → Asks parts place None
    → OnOk result (new.steps ≡ old.steps + 1) → new.table ≡ old.table
    → IfOk result (λ failure. Ends failure new.state
    (after_step old.steps (applied parts old.state step)))
    → OnErr result (new ≡ old) → Judges parts place (line.Step step) old new result
step_judges parts place step old new (Ok failure) asks counts table ends kept =
    step_judged parts place step old new failure asks counts table ends
step_judges parts place step old new (Err none) asks counts table ends kept = kept

-- ---- the beginning of the ranks

pub ranks_unfinished : (parts : RuleParts) (place : LineState) (columns : ℕ) (old new : Progress)
    (goals : ℕ) → Asks parts place None
    → goals ≡ length old.state.goals → 0 < goals
    → (goal : Equation) (log : Log) (symbol : ℕ) (behind : LineState) → Holds parts goal place log
    old
    → after place (line.Ranks columns, symbol) ≡ Some behind
    → Stands parts goal behind (pushed (line.Ranks columns) log) new (Some (end.Unfinished goals))
ranks_unfinished parts place columns old new goals asks is some goal log symbol behind holds e =
    let comes = ranks_come place columns symbol behind e in
    let before = covers_end parts goal place log old None comes.0 asks holds in
    let covers = covers_hold (covering parts log.covers) before.0 in
    subst (λ b. Stands parts goal b (pushed (line.Ranks columns) log) new
    (Some (end.Unfinished goals))) comes.1
    (failed_at parts goal (InRanks columns 0) (pushed (line.Ranks columns) log)
    (end.Unfinished goals) (log_fault.Unfinished goals) refl
    (λ whole on.
    kept_behind parts goal whole (ap (covering parts) on.0 ∙ covers) old.state
    (ap (after_steps parts 0 (start goal)) on.1.0 ∙ state_now parts goal place log old holds)
    ∙ unfinished parts whole.table old.state (subst (λ n. 0 < n) is some)
    ∙ ap (λ n. Err (log_fault.Unfinished n)) (sym is)))

pub ranks_begin : (parts : RuleParts) (place : LineState) (columns : ℕ) (old new : Progress) →
    Asks parts place None
    → length old.state.goals ≡ 0 → new.state ≡ old.state → new.steps ≡ old.steps → new.lower ≡ 0
    → new.table ≡ record old.table { columns = columns } →
    listing parts (parts.rules ++ old.state.hypotheses) ≡ new.listing
    → (goal : Equation) (log : Log) (symbol : ℕ) (behind : LineState) → Holds parts goal place log
    old
    → after place (line.Ranks columns, symbol) ≡ Some behind →
    Stands parts goal behind (pushed (line.Ranks columns) log) new None
ranks_begin parts place columns old new asks no_goals state steps lower table all goal log symbol
    behind holds e =
    let comes = ranks_come place columns symbol behind e in
    let before = covers_end parts goal place log old None comes.0 asks holds in
    subst (λ b. Stands parts goal b (pushed (line.Ranks columns) log) new None) comes.1
    (record {
      steps =
          λ more. holds.steps more ∙ ap (λ k. after_steps parts k old.state more) (sym steps) ∙
          ap (λ s. after_steps parts new.steps s more) (sym state);
      table = table ∙ ap (λ (t : RankTable). record t { columns = columns }) holds.table;
      known = (
        record {
          covers = covers_hold (covering parts log.covers) before.0;
          goals = ap (λ s. s.goals) state ∙ empty old.state.goals no_goals;
          pairs = subst (λ (s : State). listing parts (parts.rules ++ s.hypotheses) ≡ new.listing) (sym state) all;
        },
        (before.1, lower),
      );
    })
  where
    empty : (goals : List Equation) → length goals ≡ 0 → goals ≡ []
    empty [] e = refl
    empty (g ∷ gs) e = absurd (omega (arith, e))

-- ---- ranks

pub rank_stands : (parts : RuleParts) (place : LineState) (rank : List Body) (old new : Progress)
    → new ≡ record old { table = record old.table { ranks = old.table.ranks ++ rank ∷ [] } }
    → (goal : Equation) (log : Log) (symbol : ℕ) (behind : LineState) → Holds parts goal place log
    old
    → after place (line.Rank rank, symbol) ≡ Some behind →
    Stands parts goal behind (pushed (line.Rank rank) log) new None
rank_stands parts AtHeader rank old new is goal log symbol behind holds e = absurd cc
rank_stands parts (InDomains n) rank old new is goal log symbol behind holds e = absurd cc
rank_stands parts InKeeps rank old new is goal log symbol behind holds e = absurd cc
rank_stands parts (InCovers n) rank old new is goal log symbol behind holds e = absurd cc
rank_stands parts InSteps rank old new is goal log symbol behind holds e = absurd cc
rank_stands parts (InRanks c n) rank old new is goal log symbol behind holds e =
    subst (λ b. Holds parts goal b (pushed (line.Rank rank) log) new)
    (after_rank c n rank symbol behind e)
    (subst (λ p. Holds parts goal (InRanks c (n + 1)) (pushed (line.Rank rank) log) p) (sym is)
    (record {
      steps = holds.steps;
      table = ap (λ (t : RankTable). record t { ranks = t.ranks ++ rank ∷ [] }) holds.table;
      known = (
        record {
          covers = holds.known.0.covers;
          goals = holds.known.0.goals;
          pairs =
              holds.known.0.pairs;
        },
        holds.known.1,
      );
    }))
rank_stands parts InPairs rank old new is goal log symbol behind holds e = absurd cc
rank_stands parts Finished rank old new is goal log symbol behind holds e = absurd cc

-- ---- after the ranks

pair_comes : (place : LineState) (cert : PairCert) (symbol : ℕ) (behind : LineState) →
    after place (line.Pair cert, symbol) ≡ Some behind
    → IsRanked place × (InPairs ≡ behind)
pair_comes AtHeader cert symbol behind e = absurd cc
pair_comes (InDomains n) cert symbol behind e = absurd cc
pair_comes InKeeps cert symbol behind e = absurd cc
pair_comes (InCovers n) cert symbol behind e = absurd cc
pair_comes InSteps cert symbol behind e = absurd cc
pair_comes (InRanks c n) cert symbol behind e = (tt, same_Some InPairs behind e)
pair_comes InPairs cert symbol behind e = (tt, same_Some InPairs behind e)
pair_comes Finished cert symbol behind e = absurd cc

end_comes : (place : LineState) (symbol : ℕ) (behind : LineState) → after place (line.End, symbol) ≡
    Some behind
    → IsRanked place × (Finished ≡ behind)
end_comes AtHeader symbol behind e = absurd cc
end_comes (InDomains n) symbol behind e = absurd cc
end_comes InKeeps symbol behind e = absurd cc
end_comes (InCovers n) symbol behind e = absurd cc
end_comes InSteps symbol behind e = absurd cc
end_comes (InRanks c n) symbol behind e = (tt, same_Some Finished behind e)
end_comes InPairs symbol behind e = (tt, same_Some Finished behind e)
end_comes Finished symbol behind e = absurd cc

-- what is asked of the ranks there
pub record AsksRanks (parts : RuleParts) (place : LineState) (table : RankTable)
    (failure : Option CheckEnd) : Type 0 where
  pub ranks : (columns next : ℕ) → place ≡ InRanks columns next →
      IsOutcome failure (once_ranked (bad_rank parts table) passed)
  pub pairs : place ≡ InPairs → failure ≡ None

module _ (parts : RuleParts) (goal : Equation) (c n : ℕ) (log : Log) (progress : Progress)
    (holds : Holds parts goal (InRanks c n) log progress) where
  -- the ranks decide
  kept_now : kept_over parts goal log ≡ once_ranked (bad_rank parts log.table)
      (Ok progress.state.hypotheses)
  kept_now =
      kept_behind parts goal log holds.known.0.covers progress.state
      (state_now parts goal (InRanks c n) log progress holds)
      ∙ finished parts log.table progress.state holds.known.0.goals

  ranks_good : once_ranked (bad_rank parts progress.table) passed ≡ passed →
      IsKnown parts goal InPairs log progress
  ranks_good e =
      let lawful : bad_rank parts log.table ≡ None = ap (bad_rank parts) (sym holds.table) ∙
      ranks_hold (bad_rank parts progress.table) e in (
        kept_now ∙ ap (λ bad. once_ranked bad (Ok progress.state.hypotheses)) lawful,
        (
          holds.known.0.pairs,
          λ more.
              ap (λ before. descent_in log.table progress.listing.whole 0 progress.listing.pairs
              (before ++ more)) holds.known.1.0
              ∙ ap (λ k. descent_in log.table progress.listing.whole k
              (drop k progress.listing.pairs) more) (sym holds.known.1.1),
        ),
      )

  ranks_bad : (fault : LogFault) → once_ranked (bad_rank parts progress.table) passed ≡ Err fault →
      kept_over parts goal log ≡ Err fault
  ranks_bad fault e =
      kept_now ∙ ranks_fail (bad_rank parts log.table) (Ok progress.state.hypotheses) fault
      (ap (λ table. once_ranked (bad_rank parts table) passed) (sym holds.table) ∙ e)

-- where they are lawful, the pairs decide
ranked : (parts : RuleParts) (goal : Equation) (place : LineState) (log : Log) (progress : Progress)
    →
    IsRanked place
    → AsksRanks parts place progress.table None → Holds parts goal place log progress →
    IsKnown parts goal InPairs log progress
ranked parts goal AtHeader log progress is asks holds = absurd is
ranked parts goal (InDomains n) log progress is asks holds = absurd is
ranked parts goal InKeeps log progress is asks holds = absurd is
ranked parts goal (InCovers n) log progress is asks holds = absurd is
ranked parts goal InSteps log progress is asks holds = absurd is
ranked parts goal (InRanks c n) log progress is asks holds =
    ranks_good parts goal c n log progress holds (asks.ranks c n refl)
ranked parts goal InPairs log progress is asks holds = holds.known
ranked parts goal Finished log progress is asks holds = absurd is

-- where they aren't, that is the fault
unranked : (parts : RuleParts) (goal : Equation) (place : LineState) (log : Log)
    (progress : Progress)
    (end : CheckEnd) → IsRanked place
    → AsksRanks parts place progress.table (Some end) → Holds parts goal place log progress
    → (fault : LogFault) × (named end ≡ Some fault) × (kept_over parts goal log ≡ Err fault)
unranked parts goal AtHeader log progress end is asks holds = absurd is
unranked parts goal (InDomains n) log progress end is asks holds = absurd is
unranked parts goal InKeeps log progress end is asks holds = absurd is
unranked parts goal (InCovers n) log progress end is asks holds = absurd is
unranked parts goal InSteps log progress end is asks holds = absurd is
unranked parts goal (InRanks c n) log progress end is asks holds =
    let ends = asks.ranks c n refl in (
      ends.0,
      ends.1,
      ranks_bad parts goal c n log progress holds ends.0 ends.2,
    )
unranked parts goal InPairs log progress end is asks holds = let no = asks.pairs refl in absurd cc
unranked parts goal Finished log progress end is asks holds = absurd is

pub pair_unranked : (parts : RuleParts) (place : LineState) (cert : PairCert) (old new : Progress)
    (end : CheckEnd)
    → AsksRanks parts place old.table (Some end)
    → (goal : Equation) (log : Log) (symbol : ℕ) (behind : LineState) → Holds parts goal place log
    old
    → after place (line.Pair cert, symbol) ≡ Some behind →
    Stands parts goal behind (pushed (line.Pair cert) log) new (Some end)
pair_unranked parts place cert old new end asks goal log symbol behind holds e =
    let comes = pair_comes place cert symbol behind e in
    let ends = unranked parts goal place log old end comes.0 asks holds in
    subst (λ b. Stands parts goal b (pushed (line.Pair cert) log) new (Some end)) comes.1
    (failed_at parts goal InPairs (pushed (line.Pair cert) log) end ends.0 ends.1
    (λ whole on. kept_same parts goal log whole on.0 on.1.0 on.1.1.0 ∙ ends.2))

pub end_unranked : (parts : RuleParts) (place : LineState) (old new : Progress) (end : CheckEnd) →
    AsksRanks parts place old.table (Some end)
    → (goal : Equation) (log : Log) (symbol : ℕ) (behind : LineState) → Holds parts goal place log
    old
    → after place (line.End, symbol) ≡ Some behind →
    Stands parts goal behind (pushed line.End log) new (Some end)
end_unranked parts place old new end asks goal log symbol behind holds e =
    let comes = end_comes place symbol behind e in
    let ends = unranked parts goal place log old end comes.0 asks holds in
    subst (λ b. Stands parts goal b log new (Some end)) comes.1
    (failed_at parts goal Finished log end ends.0 ends.1
    (λ whole on. ap (kept_over parts goal) on ∙ ends.2))

-- ---- pairs

module _ (table : RankTable) (number : ℕ) (listing : Listing) (cert : PairCert) where
  abbrev found : Said
  found = one_lower listing.whole table (slice_get listing.pairs number) cert

  abbrev lowered : Descent → Descent
  lowered rest = lowering.goes_on number found rest

  one_pair : (more : List PairCert)
      → descent_in table listing.whole number (drop number listing.pairs) (cert ∷ more)
      ≡ lowered (descent_in table listing.whole (number + 1) (drop (number + 1) listing.pairs) more)
  one_pair more = by_pair (slice_get listing.pairs number) refl where
    behind : (whole : Bool) (rest : Descent) → descent_in table whole number [] (cert ∷ more)
        ≡ lowering.goes_on number (one_lower whole table None cert) rest
    behind false rest = refl
    behind true rest = refl

    by_pair : (o : Option Pair) → slice_get listing.pairs number ≡ o →
        descent_in table listing.whole number (drop number listing.pairs) (cert ∷ more)
        ≡ lowering.goes_on number (one_lower listing.whole table o cert)
        (descent_in table listing.whole (number + 1) (drop (number + 1) listing.pairs) more)
    by_pair None none =
        ap (λ ps. descent_in table listing.whole number ps (cert ∷ more))
        (from_nowhere listing.pairs number none)
        ∙ behind listing.whole
        (descent_in table listing.whole (number + 1) (drop (number + 1) listing.pairs) more)
    by_pair (Some pair) some =
        ap (λ ps. descent_in table listing.whole number ps (cert ∷ more))
        (from_place listing.pairs number pair some)

  lowered_good : once_lower (lowered Descends) passed ≡ passed → (rest : Descent) → lowered rest ≡
      rest
  lowered_good e rest = by_found found e where
    by_found : (said : Said) → once_lower (lowering.goes_on number said Descends) passed ≡ passed
        → lowering.goes_on number said rest ≡ rest
    by_found Beyond e = absurd cc
    by_found Yes e = refl
    by_found No e = absurd cc

  lowered_bad : (fault : LogFault) → once_lower (lowered Descends) passed ≡ Err fault →
      (rest : Descent)
      → once_lower (lowered rest) passed ≡ Err fault
  lowered_bad fault e rest = by_found found e where
    by_found : (said : Said) → once_lower (lowering.goes_on number said Descends) passed ≡
        Err fault
        → once_lower (lowering.goes_on number said rest) passed ≡ Err fault
    by_found Beyond e = e
    by_found Yes e = absurd cc
    by_found No e = e

-- where nothing else fails, the pairs that are kept decide
module _ (parts : RuleParts) (goal : Equation) (whole : Log) (old : Progress)
    (keeps : kept_over parts goal whole ≡ Ok old.state.hypotheses)
    (all : listing parts (parts.rules ++ old.state.hypotheses) ≡ old.listing) where
  pairs_decide : (verdict : Verdict)
      → of_descent (descent_in whole.table old.listing.whole 0 old.listing.pairs whole.pairs) ≡
      verdict → verdict_over parts goal whole ≡ verdict
  pairs_decide verdict is =
      ap (concluded parts whole) keeps
      ∙ ap (λ (l : Listing). of_descent (descent_in whole.table l.whole 0 l.pairs whole.pairs)) all
      ∙ is

module _ (parts : RuleParts) (goal : Equation) (place : LineState) (log : Log) (old : Progress)
    (holds : Holds parts goal place log old) (known : IsKnown parts goal InPairs log old) where
  abbrev descent_of : RankTable → List PairCert → Descent
  descent_of table certs = descent_in table old.listing.whole 0 old.listing.pairs certs

  abbrev descent_left : ℕ → List PairCert → Descent
  descent_left k certs =
      descent_in log.table old.listing.whole k (drop k old.listing.pairs) certs

  module _ (cert : PairCert) where
    push_pair : (more : List PairCert) → descent_of log.table ((log.pairs ++ cert ∷ []) ++ more)
        ≡ lowered log.table old.lower old.listing cert (descent_left (old.lower + 1) more)
    push_pair more =
        ap (descent_of log.table) (append_assoc log.pairs (cert ∷ []) more)
        ∙ known.1.1 (cert ∷ more) ∙ one_pair log.table old.lower old.listing cert more

    pair_stands : (failure : Option CheckEnd) →
        IsOutcome failure (once_lower (lowered log.table old.lower old.listing cert Descends) passed)
        → Stands parts goal InPairs (pushed (line.Pair cert) log)
        (record old { lower = old.lower + 1 }) failure
    pair_stands None e = record {
      steps = holds.steps;
      table = holds.table;
      known = (
        known.0,
        (
          known.1.0,
          λ more. push_pair more
              ∙ lowered_good log.table old.lower old.listing cert e
              (descent_left (old.lower + 1) more),
        ),
      );
    }
    pair_stands (Some end) e = record {
      fault = e.0;
      names = e.1;
      fails = λ whole on.
          pairs_decide parts goal whole old
          (kept_same parts goal log whole on.0 on.1.0 on.1.1.0 ∙ known.0) known.1.0
          (Fails e.0)
          (ap (λ table. of_descent (descent_of table whole.pairs)) on.1.1.0
          ∙ ap (λ certs. of_descent (descent_of log.table certs)) on.1.1.1.1
          ∙ ap of_descent (push_pair on.1.1.1.0)
          ∙ pairs_fail (lowered log.table old.lower old.listing cert
          (descent_left (old.lower + 1) on.1.1.1.0))
          e.0
          (lowered_bad log.table old.lower old.listing cert e.0 e.2
          (descent_left (old.lower + 1) on.1.1.1.0)));
    }

  -- the pairs that are left decide
  descent_now : descent_of log.table log.pairs ≡ descent_left old.lower []
  descent_now = ap (descent_of log.table) (sym (append-nil log.pairs)) ∙ known.1.1 []

  ended : (new : Progress) (end : CheckEnd) (fault : LogFault) → named end ≡ Some fault
      → of_descent (descent_left old.lower []) ≡ Fails fault
      → Stands parts goal Finished log new (Some end)
  ended new end fault names is = record {
    fault = fault;
    names = names;
    fails = λ whole on.
        pairs_decide parts goal whole old (ap (kept_over parts goal) on ∙ known.0) known.1.0
        (Fails fault)
        (ap (λ (l : Log). of_descent (descent_of l.table l.pairs)) on
        ∙ ap of_descent descent_now ∙ is);
  }

  left_stands : (new : Progress) → old.lower < length old.listing.pairs →
      Stands parts goal Finished log new (Some (end.NotLower old.lower))
  left_stands new left =
      ended new (end.NotLower old.lower) (log_fault.NotLower old.lower) refl
      (ap of_descent (by_pair (slice_get old.listing.pairs old.lower) refl)) where
        by_pair : (o : Option Pair) → slice_get old.listing.pairs old.lower ≡ o
            → descent_left old.lower [] ≡ NotLower old.lower
        by_pair None none =
            let no = from_end old.listing.pairs old.lower none in absurd (omega (arith, no, left))
        by_pair (Some pair) some =
            ap (λ ps. descent_in log.table old.listing.whole old.lower ps [])
            (from_place old.listing.pairs old.lower pair some)

  -- behind the last pair
  at_last : length old.listing.pairs ≤ old.lower → (whole : Bool) → old.listing.whole ≡ whole
      → descent_left old.lower [] ≡ descent_in log.table whole old.lower [] []
  at_last none whole is =
      ap (λ ps. descent_in log.table old.listing.whole old.lower ps [])
      (drop_of_length-le old.listing.pairs none)
      ∙ ap (λ w. descent_in log.table w old.lower [] []) is

  beyond_stands : (new : Progress) → length old.listing.pairs ≤ old.lower
      → old.listing.whole ≡ false
      → Stands parts goal Finished log new (Some (end.Large (limit.Pair old.lower)))
  beyond_stands new none not_whole =
      ended new (end.Large (limit.Pair old.lower)) (PassesLimits (AtPair old.lower)) refl
      (ap of_descent (at_last none false not_whole))

  all_stand : length old.listing.pairs ≤ old.lower → old.listing.whole ≡ true →
      Stands parts goal Finished log old None
  all_stand none whole = record {
    steps = holds.steps;
    table = holds.table;
    known = pairs_decide parts goal log old known.0 known.1.0 Accepted
        (ap of_descent (descent_now ∙ at_last none true whole));
  }

pub pair_judged : (parts : RuleParts) (place : LineState) (cert : PairCert) (old : Progress)
    (lower : ℕ)
    (failure : Option CheckEnd)
    → AsksRanks parts place old.table None → lower ≡ old.lower + 1
    → IsOutcome failure (once_lower (lowered old.table old.lower old.listing cert Descends) passed)
    → (goal : Equation) (log : Log) (symbol : ℕ) (behind : LineState) → Holds parts goal place log
    old
    → after place (line.Pair cert, symbol) ≡ Some behind
    → Stands parts goal behind (pushed (line.Pair cert) log) (record old { lower = lower }) failure
pair_judged parts place cert old lower failure asks is ends goal log symbol behind holds e =
    let comes = pair_comes place cert symbol behind e in
    let known = ranked parts goal place log old comes.0 asks holds in
    subst (λ b. Stands parts goal b (pushed (line.Pair cert) log) (record old { lower = lower })
    failure) comes.1
    (subst (λ k. Stands parts goal InPairs (pushed (line.Pair cert) log) (record old { lower = k })
    failure) (sym is)
    (pair_stands parts goal place log old holds known cert failure
    (subst (λ table. IsOutcome failure (once_lower (lowered table old.lower old.listing cert
    Descends) passed)) holds.table ends)))

-- what the end makes of what was kept, if it does so where the pairs decide
end_by : (parts : RuleParts) (place : LineState) (old new : Progress)
    (failure : Option CheckEnd) → AsksRanks parts place old.table None
    → ((goal : Equation) (log : Log) → Holds parts goal place log old →
    IsKnown parts goal InPairs log old → Stands parts goal Finished log new failure)
    → (goal : Equation) (log : Log) (symbol : ℕ) (behind : LineState) → Holds parts goal place log
    old
    → after place (line.End, symbol) ≡ Some behind →
    Stands parts goal behind (pushed line.End log) new failure
end_by parts place old new failure asks stands goal log symbol behind holds e =
    let comes = end_comes place symbol behind e in
    subst (λ b. Stands parts goal b log new failure) comes.1
    (stands goal log holds (ranked parts goal place log old comes.0 asks holds))

pub end_left : (parts : RuleParts) (place : LineState) (old new : Progress) →
    AsksRanks parts place old.table None → old.lower < length old.listing.pairs
    → (goal : Equation) (log : Log) (symbol : ℕ) (behind : LineState) → Holds parts goal place log
    old
    → after place (line.End, symbol) ≡ Some behind →
    Stands parts goal behind (pushed line.End log) new (Some (end.NotLower old.lower))
end_left parts place old new asks left =
    end_by parts place old new (Some (end.NotLower old.lower)) asks
    (λ goal log holds known. left_stands parts goal place log old holds known new left)

pub end_beyond : (parts : RuleParts) (place : LineState) (old new : Progress) →
    AsksRanks parts place old.table None → length old.listing.pairs ≤ old.lower
    → old.listing.whole ≡ false
    → (goal : Equation) (log : Log) (symbol : ℕ) (behind : LineState) → Holds parts goal place log
    old
    → after place (line.End, symbol) ≡ Some behind →
    Stands parts goal behind (pushed line.End log) new (Some (end.Large (limit.Pair old.lower)))
end_beyond parts place old new asks none not_whole =
    end_by parts place old new (Some (end.Large (limit.Pair old.lower))) asks
    (λ goal log holds known. beyond_stands parts goal place log old holds known new none not_whole)

pub end_judged : (parts : RuleParts) (place : LineState) (old : Progress) →
    AsksRanks parts place old.table None → length old.listing.pairs ≤ old.lower
    → old.listing.whole ≡ true
    → (goal : Equation) (log : Log) (symbol : ℕ) (behind : LineState) → Holds parts goal place log
    old
    → after place (line.End, symbol) ≡ Some behind →
    Stands parts goal behind (pushed line.End log) old None
end_judged parts place old asks none whole =
    end_by parts place old old None asks
    (λ goal log holds known. all_stand parts goal place log old holds known none whole)
