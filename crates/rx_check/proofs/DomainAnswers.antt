-- What the answers to calls make of a log with its domains.
use Rattle.std.proofs.Common.{◌≡◌, ◌∙◌, ap, sym, subst, refl, Bool, true, false, ℕ, ◌+◌, ◌==◌, if◌then◌else◌, Option, Some, None, option_map, List, [], ◌∷◌, ◌++◌, drop, is_some}
use Rattle.std.specs.Prelude.{unwrap_or}
use Rattle.std.proofs.lemmas.Option.{same_Some}
use Rattle.rx_domain.specs.Keeping.{keeping, keeping_from, parts_kept}
use Rattle.rx_domain.specs.Setting.{bad_domain, with_domains}
use Rattle.rx_domain.specs.declared.domains.Domains.{Domains}
use Rattle.rx_log.specs.Acceptance as log_fault
use Rattle.rx_log.specs.Acceptance.{Accepted, HasVerdict, IsAccepted, once_inside, once_kept, once_lawful, start, used}
use Rattle.rx_log.specs.Places.{after, after_all}
use Rattle.rx_log.specs.Reading.{blank, no_domains, pushed, with_domain}
use Rattle.rx_log.specs.declared.line.Line.{Line}
use Rattle.rx_log.specs.declared.line.Line.TheVariants as line
use Rattle.rx_log.specs.declared.line_state.LineState.{LineState}
use Rattle.rx_log.specs.declared.line_state.LineState.TheVariants.{AtHeader, InDomains, InKeeps, InCovers, InSteps, InRanks, InPairs, Finished}
use Rattle.rx_log.specs.declared.log.Log.{Log}
use Rattle.rx_log.proofs.PlaceLaws.{after_all-append}
use Rattle.rx_row.specs.declared.row.Row.{Row}
use Rattle.rx_term.specs.declared.rule.Equation.{Equation}
use Rattle.rx_term.specs.declared.rule_set.RuleParts.{RuleParts}
use Rattle.rx_check.specs.LineByLine.{Judged, passed}
use Rattle.rx_check.specs.Replay.{GoesInside, HasHeld, IsNoDomain, IsUnset, JudgedInside, KeepsGoOn, LogFails, LogHolds, LogStands, StandsFor, log_of}
use Rattle.rx_check.specs.declared.check_end.CheckEnd.{CheckEnd}
use Rattle.rx_check.specs.declared.check_end.CheckEnd.TheVariants as end
use Rattle.rx_check.specs.declared.inside.DomainProgress.{DomainProgress}
use Rattle.rx_check.specs.declared.progress.Progress.{Progress}
use Rattle.rx_check.specs.declared.replayer.Replayer.{Replayer}
use Rattle.rx_check.proofs.DomainLines.{IsLate, fresh_holds, gone_on, judged_outside, late_inside, still_fresh, verdict_inside}
use Rattle.rx_check.proofs.LineOrder.{domains_go_on, goes_on_before, pushed_all-append}

-- ---- the first line

-- of nothing all holds
pub fresh_start : (parts : RuleParts) (goal : Equation) (domains : DomainProgress)
    (progress : Progress) → domains.rows ≡ [] → IsUnset domains → progress.table ≡ blank.table
    → progress.state ≡ start goal → progress.steps ≡ 0
    → LogHolds parts goal AtHeader blank domains progress
fresh_start parts goal domains progress rows unset table state count = (
  refl,
  (
    rows,
    (
      unset,
      record {
        covers = refl;
        steps = refl;
        pairs = refl;
        table = table;
        state = state;
        count = count;
      },
    ),
  ),
)

module _ (parts : RuleParts) (goal : Equation) (log : Log) (domains : DomainProgress)
    (progress : Progress) (symbol : ℕ) (behind : LineState) where
  -- the first line of either version
  pub first_line : (next : Line) → LogHolds parts goal AtHeader log domains progress →
      after AtHeader (next, symbol) ≡ Some behind →
      LogHolds parts goal behind (pushed next log) domains progress
  first_line line.Header holds e =
      subst (λ b. LogHolds parts goal b log domains progress) (same_Some (InCovers 0) behind e)
      (record {
        set = holds.1.1.0.0
            ∙ ap (option_map (λ (all : Domains). with_domains parts all.rows)) (sym holds.0);
        inside = ap (λ (o : Option Domains). once_inside parts goal o passed) holds.0;
        holds = fresh_holds (used parts log.domains) goal log progress holds.1.1.1;
      })
  first_line line.Header2 holds e =
      subst (λ b. LogHolds parts goal b (pushed line.Header2 log) domains progress)
      (same_Some (InDomains 0) behind e) (
        ap (λ (rows : List (List Row)). Some (record { rows = rows; keeps = [] })) (sym holds.1.0),
        (
          holds.1.1.0,
          still_fresh goal log (Some no_domains) progress holds.1.1.1,
        ),
      )
  first_line (line.Domain rows) holds e = absurd cc
  first_line (line.Keep certs) holds e = absurd cc
  first_line (line.Cover trees) holds e = absurd cc
  first_line (line.Step step) holds e = absurd cc
  first_line (line.Ranks columns) holds e = absurd cc
  first_line (line.Rank rank) holds e = absurd cc
  first_line (line.Pair pair) holds e = absurd cc
  first_line line.End holds e = absurd cc

-- ---- a domain

domain_test : (n : ℕ) (symbol : ℕ) (behind : LineState) (b : Bool)
    → (if b then Some (InDomains (n + 1)) else None) ≡ Some behind → InDomains (n + 1) ≡ behind
domain_test n symbol behind true e = same_Some (InDomains (n + 1)) behind e
domain_test n symbol behind false e = absurd cc

pub domain_line : (parts : RuleParts) (goal : Equation) (n : ℕ) (log : Log)
    (domains : DomainProgress) (progress : Progress) (symbol : ℕ) (behind : LineState)
    (rows : List Row) → LogHolds parts goal (InDomains n) log domains progress
    → after (InDomains n) (line.Domain rows, symbol) ≡ Some behind
    → LogHolds parts goal behind (pushed (line.Domain rows) log)
    (record domains { rows = domains.rows ++ rows ∷ [] }) progress
domain_line parts goal n log domains progress symbol behind rows holds e =
    subst (λ b. LogHolds parts goal b (pushed (line.Domain rows) log)
    (record domains { rows = domains.rows ++ rows ∷ [] }) progress)
    (domain_test n symbol behind (symbol == n) e) (
      ap (option_map (with_domain rows)) holds.0,
      (
        holds.1.0,
        still_fresh goal log (option_map (with_domain rows) log.domains) progress holds.1.1,
      ),
    )

-- ---- the first line behind the domains

-- it may come where certificates that they are kept may
as_keeps : (n : ℕ) (next : Line) (symbol : ℕ) → IsNoDomain next →
    after (InDomains n) (next, symbol) ≡ after InKeeps (next, symbol)
as_keeps n line.Header symbol other = refl
as_keeps n line.Header2 symbol other = refl
as_keeps n (line.Domain rows) symbol other = absurd (other rows refl)
as_keeps n (line.Keep certs) symbol other = refl
as_keeps n (line.Cover trees) symbol other = refl
as_keeps n (line.Step step) symbol other = refl
as_keeps n (line.Ranks columns) symbol other = refl
as_keeps n (line.Rank rank) symbol other = refl
as_keeps n (line.Pair pair) symbol other = refl
as_keeps n line.End symbol other = refl

module _ (parts : RuleParts) (goal : Equation) (n : ℕ) (log : Log) (domains : DomainProgress)
    (old new : Progress) (symbol : ℕ) (behind : LineState) (next : Line) (other : IsNoDomain next)
    (holds : LogHolds parts goal (InDomains n) log domains old)
    (e : after (InDomains n) (next, symbol) ≡ Some behind) where
  abbrev from_keeps : after InKeeps (next, symbol) ≡ Some behind
  from_keeps = sym (as_keeps n next symbol other) ∙ e

  -- a bad domain is the failure
  pub bad_line : (f : ℕ) → bad_domain parts.symbols domains.rows ≡ Some f →
      LogFails parts goal behind (pushed next log) (end.BadDomain f)
  bad_line f bad = record {
    fault = log_fault.BadDomain f;
    names = refl;
    fails = λ whole on begins.
        gone_on parts goal whole (record { rows = domains.rows; keeps = [] })
        (subst (λ (o : Option Domains). KeepsGoOn o whole.domains) holds.0
        (domains_go_on log whole.domains symbol behind InKeeps next from_keeps on))
        (log_fault.BadDomain f)
        (λ all rows keeps.
        ap (λ (o : Option ℕ). once_lawful o (once_kept (keeping (with_domains parts all.rows) goal
        all.keeps) passed)) (ap (bad_domain parts.symbols) rows ∙ bad));
  }

  -- otherwise the line is judged over the rules with the domains
  pub good_line : (set : RuleParts) (kept : ℕ) (failure : Option CheckEnd)
      → (bad_domain parts.symbols domains.rows ≡ None)
      × (set ≡ with_domains parts domains.rows)
      → JudgedInside set next domains.kept kept old new failure
      → LogStands parts goal behind (pushed next log)
      (record domains { held = record { set = Some set }; kept = kept }) new failure
  good_line set kept failure sets judged =
      judged parts goal log symbol behind (record domains { held = record { set = Some set } })
      refl (
        subst (HasHeld parts goal (record domains { held = record { set = Some set } }))
            (sym holds.0) (record {
              lawful = sets.0;
              held = ap Some sets.1;
              keeps = λ more. ap (λ k. keeping_from k
                  (drop k (parts_kept (with_domains parts domains.rows) goal)) more)
                  (sym holds.1.0.1);
            }),
        holds.1.1,
      ) from_keeps

-- ---- the lines behind

-- the rules that are kept are those with the domains of the log
used_rules : (parts : RuleParts) (o : Option Domains) →
    unwrap_or (option_map (λ (all : Domains). with_domains parts all.rows) o) parts ≡ used parts o
used_rules parts None = refl
used_rules parts (Some all) = refl

pub late_line : (parts : RuleParts) (goal : Equation) (place : LineState) → IsLate place
    → (log : Log) (domains : DomainProgress) (old new : Progress) (next : Line) (symbol : ℕ)
    (behind : LineState) (failure : Option CheckEnd) (set : RuleParts)
    → LogHolds parts goal place log domains old
    → after place (next, symbol) ≡ Some behind → set ≡ unwrap_or domains.held.set parts
    → Judged set place next old new failure
    → LogStands parts goal behind (pushed next log) domains new failure
late_line parts goal place late log domains old new next symbol behind failure set holds e lent
    judged =
    let inside = late_inside parts goal log domains old place late holds in
    let same : set ≡ used parts log.domains =
    lent ∙ ap (λ (o : Option RuleParts). unwrap_or o parts) inside.set
    ∙ used_rules parts log.domains in
    judged_outside parts goal place late log domains new next symbol behind failure inside.set
    inside.inside e
    (subst (λ (s : RuleParts). Judged s place next old new failure) same judged goal log symbol
    behind inside.holds e)

-- the rules that are kept, among the certificates of domains
pub held_rules : (parts : RuleParts) (goal : Equation) (log : Log) (domains : DomainProgress)
    (progress : Progress) (set : RuleParts) → LogHolds parts goal InKeeps log domains progress
    → set ≡ unwrap_or domains.held.set parts → domains.held.set ≡ Some set
held_rules parts goal log domains progress set holds lent = by_domains log.domains holds.0 where
  by_domains : (o : Option Domains) → HasHeld parts goal domains o → domains.held.set ≡ Some set
  by_domains None held = absurd held
  by_domains (Some all) held =
      held.held
      ∙ ap Some (sym (lent ∙ ap (λ (o : Option RuleParts). unwrap_or o parts) held.held))

-- ---- what is kept

-- after a failure nothing changes
pub still_stands : (parts : RuleParts) (goal : Equation) (place : LineState) (log : Log)
    (domains : DomainProgress) (progress : Progress) (failure : Option CheckEnd)
    (next : Line) (symbol : ℕ) (behind : LineState) → is_some failure ≡ true →
    LogStands parts goal place log domains progress failure
    → after place (next, symbol) ≡ Some behind →
    LogStands parts goal behind (pushed next log) domains progress failure
still_stands parts goal place log domains progress None next symbol behind some stands e = absurd cc
still_stands parts goal place log domains progress (Some end) next symbol behind some failed e =
    record {
      fault = failed.fault;
      names = failed.names;
      fails = λ whole on begins.
          failed.fails whole (domains_go_on log whole.domains symbol behind place next e on)
          (goes_on_before log whole symbol behind place next e begins);
    }

-- one line more
pub line_stands : (parts : RuleParts) (goal : Equation) (its : List (Line × ℕ)) (next : Line)
    (symbol : ℕ) (behind : LineState) (old new : Replayer)
    → StandsFor old parts goal its → after old.place (next, symbol) ≡ Some behind → new.place ≡
    behind
    → LogStands parts goal behind (pushed next (log_of its)) new.domains new.progress new.failure →
    StandsFor new parts goal (its ++ (next, symbol) ∷ [])
line_stands parts goal its next symbol behind old new before e at stands = record {
  arrives = after_all-append (Some AtHeader) its ((next, symbol) ∷ [])
      ∙ ap (λ place. after_all place ((next, symbol) ∷ [])) before.arrives ∙ e ∙ ap Some (sym at);
  holds =
      subst (λ place. LogStands parts goal place (log_of (its ++ (next, symbol) ∷ [])) new.domains
      new.progress new.failure) (sym at)
      (subst (λ log. LogStands parts goal behind log new.domains new.progress new.failure)
      (sym (pushed_all-append blank its ((next, symbol) ∷ []))) stands);
}

-- where the last line has come and nothing failed, the log is accepted
pub all_accepted : (parts : RuleParts) (goal : Equation) (its : List (Line × ℕ))
    (replayer : Replayer) → StandsFor replayer parts goal its
    → replayer.place ≡ Finished → replayer.failure ≡ None → IsAccepted parts goal (log_of its)
all_accepted parts goal its replayer stands at none =
    let holds : GoesInside parts goal Finished (log_of its) replayer.domains replayer.progress =
    subst (λ place. LogHolds parts goal place (log_of its) replayer.domains replayer.progress) at
    (subst (λ failure. LogStands parts goal replayer.place (log_of its) replayer.domains
    replayer.progress failure) none stands.holds) in
    verdict_inside parts goal (log_of its) (log_of its).domains refl holds.inside Accepted
    holds.holds.known

-- ---- one line, judged

-- where nothing has failed, what is kept holds
opened : (parts : RuleParts) (goal : Equation) (log : Log) (old : Replayer) (place : LineState)
    → old.failure ≡ None → old.place ≡ place
    → LogStands parts goal old.place log old.domains old.progress old.failure
    → LogHolds parts goal place log old.domains old.progress
opened parts goal log old place no_failure at stands =
    subst (λ (f : Option CheckEnd). LogStands parts goal place log old.domains old.progress f) no_failure
    (subst (λ (p : LineState). LogStands parts goal p log old.domains old.progress old.failure) at
    stands)

came : (next : Line) (symbol : ℕ) (behind old place : LineState) → old ≡ place
    → after old (next, symbol) ≡ Some behind → after place (next, symbol) ≡ Some behind
came next symbol behind old place at e =
    subst (λ (p : LineState). after p (next, symbol) ≡ Some behind) at e

module _ (parts : RuleParts) (next : Line) (old : Replayer) (no_failure : old.failure ≡ None) where
  -- what the line makes of what was kept, with this failure
  abbrev pub Makes : DomainProgress → Progress → Option CheckEnd → Type 0
  Makes domains progress failure =
      (goal : Equation) (log : Log) (symbol : ℕ) (behind : LineState) →
      LogStands parts goal old.place log old.domains old.progress old.failure
      → after old.place (next, symbol) ≡ Some behind
      → LogStands parts goal behind (pushed next log) domains progress failure

  pub first_judged : old.place ≡ AtHeader → Makes old.domains old.progress None
  first_judged at = λ goal log symbol behind stands e.
      first_line parts goal log old.domains old.progress symbol behind next
      (opened parts goal log old AtHeader no_failure at stands)
      (came next symbol behind old.place AtHeader at e)

  pub domain_judged : (rows : List Row) → next ≡ line.Domain rows
      → (n : ℕ) × (old.place ≡ InDomains n)
      → Makes (record old.domains { rows = old.domains.rows ++ rows ∷ [] }) old.progress None
  domain_judged rows is at = λ goal log symbol behind stands e.
      subst (λ (l : Line). LogHolds parts goal behind (pushed l log)
      (record old.domains { rows = old.domains.rows ++ rows ∷ [] }) old.progress) (sym is)
      (domain_line parts goal at.0 log old.domains old.progress symbol behind rows
      (opened parts goal log old (InDomains at.0) no_failure at.1 stands)
      (subst (λ (l : Line). after (InDomains at.0) (l, symbol) ≡ Some behind) is
      (came next symbol behind old.place (InDomains at.0) at.1 e)))

  pub bad_judged : (f : ℕ) (failure : Option CheckEnd) → failure ≡ Some (end.BadDomain f)
      → IsNoDomain next → (n : ℕ) × (old.place ≡ InDomains n)
      → bad_domain parts.symbols old.domains.rows ≡ Some f
      → Makes old.domains old.progress failure
  bad_judged f failure fails other at bad = λ goal log symbol behind stands e.
      subst (λ (o : Option CheckEnd). LogStands parts goal behind (pushed next log) old.domains
      old.progress o) (sym fails)
      (bad_line parts goal at.0 log old.domains old.progress old.progress symbol behind next other
      (opened parts goal log old (InDomains at.0) no_failure at.1 stands)
      (came next symbol behind old.place (InDomains at.0) at.1 e) f bad)

  pub good_judged : (set : RuleParts) (kept : ℕ) (new : Progress) (failure : Option CheckEnd)
      → IsNoDomain next → (n : ℕ) × (old.place ≡ InDomains n)
      → (bad_domain parts.symbols old.domains.rows ≡ None)
      × (set ≡ with_domains parts old.domains.rows)
      → JudgedInside set next old.domains.kept kept old.progress new failure
      → Makes (record old.domains { held = record { set = Some set }; kept = kept }) new failure
  good_judged set kept new failure other at sets judged = λ goal log symbol behind stands e.
      good_line parts goal at.0 log old.domains old.progress new symbol behind next other
      (opened parts goal log old (InDomains at.0) no_failure at.1 stands)
      (came next symbol behind old.place (InDomains at.0) at.1 e) set kept failure sets judged

  pub keeps_judged : (set : RuleParts) (kept : ℕ) (new : Progress) (failure : Option CheckEnd)
      → old.place ≡ InKeeps → set ≡ unwrap_or old.domains.held.set parts
      → JudgedInside set next old.domains.kept kept old.progress new failure
      → Makes (record old.domains { kept = kept }) new failure
  keeps_judged set kept new failure at lent judged = λ goal log symbol behind stands e.
      let holds = opened parts goal log old InKeeps no_failure at stands in
      judged parts goal log symbol behind old.domains
      (held_rules parts goal log old.domains old.progress set holds lent) holds
      (came next symbol behind old.place InKeeps at e)

  pub late_judged : (place : LineState) → IsLate place → old.place ≡ place → (set : RuleParts)
      (new : Progress) (failure : Option CheckEnd) → set ≡ unwrap_or old.domains.held.set parts
      → Judged set place next old.progress new failure
      → Makes old.domains new failure
  late_judged place late at set new failure lent judged = λ goal log symbol behind stands e.
      late_line parts goal place late log old.domains old.progress new next symbol behind failure
      set (opened parts goal log old place no_failure at stands)
      (came next symbol behind old.place place at e) lent judged

-- a place that is none of the first ones is behind the domains
pub late_of : (place : LineState) → (place ≡ AtHeader → ⊥) → ((n : ℕ) → place ≡ InDomains n → ⊥)
    → (place ≡ InKeeps → ⊥) → IsLate place
late_of AtHeader a b c = absurd (a refl)
late_of (InDomains n) a b c = absurd (b n refl)
late_of InKeeps a b c = absurd (c refl)
late_of (InCovers n) a b c = tt
late_of InSteps a b c = tt
late_of (InRanks k n) a b c = tt
late_of InPairs a b c = tt
late_of Finished a b c = tt

pub is_open : (failure : Option CheckEnd) → is_some failure ≡ false → failure ≡ None
is_open None e = refl
is_open (Some end) e = absurd cc
