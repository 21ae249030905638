-- What a log says of domains, and what that leaves of its verdict: lines among the domains and the
-- certificates that they are kept.
use Rattle.std.proofs.Common.{◌≡◌, ◌∙◌, ap, sym, subst, refl, ℕ, ◌+◌, Option, Some, None, option_map, Result, Ok, Err, List, [], ◌∷◌, ◌++◌, drop, slice_get, append_assoc}
use Rattle.std.specs.Option.{option_map_or}
use Rattle.std.proofs.lemmas.List.{append-nil}
use Rattle.std.proofs.lemmas.Option.{same_Some}
use Rattle.rx_cert.specs.Findings.{Beyond, No, Said, Yes}
use Rattle.rx_cert.specs.declared.cert.Cert.{Cert}
use Rattle.rx_cover.specs.Covering.{covering}
use Rattle.rx_cover.specs.declared.cover_tree.CoverTree.{CoverTree}
use Rattle.rx_domain.specs.Keeping.{Keeping, Keeps, Fails, PassesLimits, KeptPart, goes_on, keeping, keeping_from, one_kept, part_finding, parts_kept}
use Rattle.rx_domain.specs.Setting.{bad_domain, with_domains}
use Rattle.rx_domain.specs.declared.domains.Domains.{Domains}
use Rattle.rx_inference.specs.States.{State}
use Rattle.rx_inference.specs.declared.step.Step.{Step}
use Rattle.rx_log.specs.Acceptance as log_fault
use Rattle.rx_log.specs.Acceptance.{Checked, HasVerdict, LogFault, Verdict, after_steps, concluded, kept_over, once_inside, once_kept, once_lawful, start, used, verdict_over}
use Rattle.rx_log.specs.Places.{after}
use Rattle.rx_log.specs.Reading.{pushed, with_keep}
use Rattle.rx_log.specs.declared.line.Line.{Line}
use Rattle.rx_log.specs.declared.line.Line.TheVariants as line
use Rattle.rx_log.specs.declared.line_state.LineState.{LineState}
use Rattle.rx_log.specs.declared.line_state.LineState.TheVariants.{AtHeader, InDomains, InKeeps, InCovers, InSteps, InRanks, InPairs, Finished}
use Rattle.rx_log.specs.declared.log.Log.{Log}
use Rattle.rx_row.specs.declared.row.Row.{Row}
use Rattle.rx_term.specs.declared.rule.Equation.{Equation}
use Rattle.rx_term.specs.declared.rule_set.RuleParts.{RuleParts}
use Rattle.rx_term.proofs.Places.{from_nowhere, from_place}
use Rattle.rx_check.specs.LineByLine.{Extends, Holds, IsOutcome, Judged, Judges, Stands, passed}
use Rattle.rx_check.specs.Replay.{AreHeld, DomainsGoOn, GoesInside, HasHeld, IsFresh, JudgedInside, JudgesInside, KeepsGoOn, KeepsSoFar, LogFails, LogHolds, LogStands}
use Rattle.rx_check.specs.declared.check_end.CheckEnd.{CheckEnd}
use Rattle.rx_check.specs.declared.inside.DomainProgress.{DomainProgress}
use Rattle.rx_check.specs.declared.progress.Progress.{Progress}
use Rattle.rx_check.proofs.LineFaults.{keeps_fail}
use Rattle.rx_check.proofs.LineOrder.{domains_go_on}

-- ---- what domains leave of a verdict

-- where they are lawful and kept, the rest decides
pub inside_passes : {A : Type 0} (parts : RuleParts) (goal : Equation) (domains : Option Domains)
    (check : Checked A) → once_inside parts goal domains passed ≡ passed →
    once_inside parts goal domains check ≡ check
inside_passes parts goal None check e = refl
inside_passes {A} parts goal (Some domains) check e =
    by_both (bad_domain parts.symbols domains.rows)
    (keeping (with_domains parts domains.rows) goal domains.keeps) e
  where
    by_both : (bad : Option ℕ) (found : Keeping) → once_lawful bad (once_kept found passed) ≡ passed
        → once_lawful bad (once_kept found check) ≡ check
    by_both None Keeps e = refl
    by_both None (Fails k) e = absurd cc
    by_both None (PassesLimits k) e = absurd cc
    by_both (Some f) found e = absurd cc

-- where they aren't, that is the fault
inside_fails : {A : Type 0} (parts : RuleParts) (goal : Equation) (domains : Option Domains)
    (check : Checked A) (fault : LogFault) → once_inside parts goal domains passed ≡ Err fault →
    once_inside parts goal domains check ≡ Err fault
inside_fails parts goal None check fault e = absurd cc
inside_fails {A} parts goal (Some domains) check fault e =
    by_both (bad_domain parts.symbols domains.rows)
    (keeping (with_domains parts domains.rows) goal domains.keeps) e
  where
    by_both : (bad : Option ℕ) (found : Keeping)
        → once_lawful bad (once_kept found passed) ≡ Err fault
        → once_lawful bad (once_kept found check) ≡ Err fault
    by_both None found e = keeps_fail found check fault e
    by_both (Some f) found e = let is : log_fault.BadDomain f ≡ fault = cc in ap Err is

module _ (parts : RuleParts) (goal : Equation) (whole : Log) where
  -- the verdict on a log with lawful domains that are kept is the one over the rules with them
  pub verdict_inside : (domains : Option Domains) → whole.domains ≡ domains →
      once_inside parts goal domains passed ≡ passed → (verdict : Verdict) →
      verdict_over (used parts domains) goal whole ≡ verdict → HasVerdict parts goal whole verdict
  verdict_inside domains same passes verdict is =
      ap (λ (o : Option Domains). concluded (used parts o) whole
      (once_inside parts goal o (kept_over (used parts o) goal whole))) same
      ∙ ap (concluded (used parts domains) whole)
      (inside_passes parts goal domains (kept_over (used parts domains) goal whole) passes)
      ∙ is

  -- and of one with others their fault
  verdict_outside : (fault : LogFault) → once_inside parts goal whole.domains passed ≡ Err fault →
      HasVerdict parts goal whole (log_fault.Fails fault)
  verdict_outside fault e =
      ap (concluded (used parts whole.domains) whole)
      (inside_fails parts goal whole.domains (kept_over (used parts whole.domains) goal whole) fault
      e)

  -- the fault of domains with these lists, and with certificates that begin so
  pub gone_on : (domains : Domains) → KeepsGoOn (Some domains) whole.domains → (fault : LogFault)
      → ((all : Domains) → all.rows ≡ domains.rows → Extends domains.keeps all.keeps →
      once_inside parts goal (Some all) passed ≡ Err fault)
      → HasVerdict parts goal whole (log_fault.Fails fault)
  gone_on domains on fault fails = by_domains whole.domains refl on where
    by_domains : (o : Option Domains) → whole.domains ≡ o → KeepsGoOn (Some domains) o →
        HasVerdict parts goal whole (log_fault.Fails fault)
    by_domains None is on = absurd on
    by_domains (Some all) is on =
        verdict_outside fault
        (ap (λ (o : Option Domains). once_inside parts goal o passed) is ∙ fails all on.0 on.1)

-- ---- places behind the domains

-- all lines of domains have come
abbrev pub IsLate : LineState → Type 0
IsLate AtHeader = ⊥
IsLate (InDomains n) = ⊥
IsLate InKeeps = ⊥
IsLate (InCovers n) = Unit {0}
IsLate InSteps = Unit {0}
IsLate (InRanks c n) = Unit {0}
IsLate InPairs = Unit {0}
IsLate Finished = Unit {0}

late_same : (place : LineState) (domains all : Option Domains) → IsLate place →
    DomainsGoOn place domains all → all ≡ domains
late_same AtHeader domains all late on = absurd late
late_same (InDomains n) domains all late on = absurd late
late_same InKeeps domains all late on = absurd late
late_same (InCovers n) domains all late on = on
late_same InSteps domains all late on = on
late_same (InRanks c n) domains all late on = on
late_same InPairs domains all late on = on
late_same Finished domains all late on = on

module _ (log : Log) (symbol : ℕ) (behind : LineState) where
  -- no line there says anything of domains
  same_domains : (place : LineState) → IsLate place → (next : Line) →
      after place (next, symbol) ≡ Some behind → (pushed next log).domains ≡ log.domains
  same_domains AtHeader late next e = absurd late
  same_domains (InDomains n) late next e = absurd late
  same_domains InKeeps late next e = absurd late
  same_domains (InCovers n) late line.Header e = refl
  same_domains (InCovers n) late line.Header2 e = absurd cc
  same_domains (InCovers n) late (line.Domain rows) e = absurd cc
  same_domains (InCovers n) late (line.Keep certs) e = absurd cc
  same_domains (InCovers n) late (line.Cover trees) e = refl
  same_domains (InCovers n) late (line.Step step) e = refl
  same_domains (InCovers n) late (line.Ranks columns) e = refl
  same_domains (InCovers n) late (line.Rank rank) e = refl
  same_domains (InCovers n) late (line.Pair pair) e = refl
  same_domains (InCovers n) late line.End e = refl
  same_domains InSteps late line.Header e = refl
  same_domains InSteps late line.Header2 e = absurd cc
  same_domains InSteps late (line.Domain rows) e = absurd cc
  same_domains InSteps late (line.Keep certs) e = absurd cc
  same_domains InSteps late (line.Cover trees) e = refl
  same_domains InSteps late (line.Step step) e = refl
  same_domains InSteps late (line.Ranks columns) e = refl
  same_domains InSteps late (line.Rank rank) e = refl
  same_domains InSteps late (line.Pair pair) e = refl
  same_domains InSteps late line.End e = refl
  same_domains (InRanks c n) late line.Header e = refl
  same_domains (InRanks c n) late line.Header2 e = absurd cc
  same_domains (InRanks c n) late (line.Domain rows) e = absurd cc
  same_domains (InRanks c n) late (line.Keep certs) e = absurd cc
  same_domains (InRanks c n) late (line.Cover trees) e = refl
  same_domains (InRanks c n) late (line.Step step) e = refl
  same_domains (InRanks c n) late (line.Ranks columns) e = refl
  same_domains (InRanks c n) late (line.Rank rank) e = refl
  same_domains (InRanks c n) late (line.Pair pair) e = refl
  same_domains (InRanks c n) late line.End e = refl
  same_domains InPairs late line.Header e = refl
  same_domains InPairs late line.Header2 e = absurd cc
  same_domains InPairs late (line.Domain rows) e = absurd cc
  same_domains InPairs late (line.Keep certs) e = absurd cc
  same_domains InPairs late (line.Cover trees) e = refl
  same_domains InPairs late (line.Step step) e = refl
  same_domains InPairs late (line.Ranks columns) e = refl
  same_domains InPairs late (line.Rank rank) e = refl
  same_domains InPairs late (line.Pair pair) e = refl
  same_domains InPairs late line.End e = refl
  same_domains Finished late line.Header e = refl
  same_domains Finished late line.Header2 e = absurd cc
  same_domains Finished late (line.Domain rows) e = absurd cc
  same_domains Finished late (line.Keep certs) e = absurd cc
  same_domains Finished late (line.Cover trees) e = refl
  same_domains Finished late (line.Step step) e = refl
  same_domains Finished late (line.Ranks columns) e = refl
  same_domains Finished late (line.Rank rank) e = refl
  same_domains Finished late (line.Pair pair) e = refl
  same_domains Finished late line.End e = refl

module _ (parts : RuleParts) (goal : Equation) (log : Log) (domains : DomainProgress)
    (progress : Progress) where
  -- what holds over the rules with the domains holds of the log
  pub late_holds : (place : LineState) → GoesInside parts goal place log domains progress →
      LogHolds parts goal place log domains progress
  late_holds AtHeader inside = absurd inside.holds.known
  late_holds (InDomains n) inside = absurd inside.holds.known
  late_holds InKeeps inside = absurd inside.holds.known
  late_holds (InCovers n) inside = inside
  late_holds InSteps inside = inside
  late_holds (InRanks c n) inside = inside
  late_holds InPairs inside = inside
  late_holds Finished inside = inside

  -- and the other way round
  pub late_inside : (place : LineState) → IsLate place →
      LogHolds parts goal place log domains progress →
      GoesInside parts goal place log domains progress
  late_inside AtHeader late holds = absurd late
  late_inside (InDomains n) late holds = absurd late
  late_inside InKeeps late holds = absurd late
  late_inside (InCovers n) late holds = holds
  late_inside InSteps late holds = holds
  late_inside (InRanks c n) late holds = holds
  late_inside InPairs late holds = holds
  late_inside Finished late holds = holds

-- one line more, judged over the rules with the domains
pub judged_outside : (parts : RuleParts) (goal : Equation) (place : LineState) → IsLate place
    → (log : Log) (domains : DomainProgress) (new : Progress) (next : Line) (symbol : ℕ)
    (behind : LineState) (failure : Option CheckEnd)
    → domains.held.set ≡ option_map (λ (all : Domains). with_domains parts all.rows) log.domains
    → once_inside parts goal log.domains passed ≡ passed
    → after place (next, symbol) ≡ Some behind
    → Stands (used parts log.domains) goal behind (pushed next log) new failure
    → LogStands parts goal behind (pushed next log) domains new failure
judged_outside parts goal place late log domains new next symbol behind None set inside e stands =
    let same = same_domains log symbol behind place late next e in
    late_holds parts goal (pushed next log) domains new behind (record {
      set = set
          ∙ ap (option_map (λ (all : Domains). with_domains parts all.rows)) (sym same);
      inside = ap (λ (o : Option Domains). once_inside parts goal o passed) same ∙ inside;
      holds = subst (λ (o : Option Domains). Holds (used parts o) goal behind (pushed next log) new)
          (sym same) stands;
    })
judged_outside parts goal place late log domains new next symbol behind (Some end) set inside e
    failed = record {
      fault = failed.fault;
      names = failed.names;
      fails = λ whole on begins.
          verdict_inside parts goal whole log.domains
          (late_same place log.domains whole.domains late
          (domains_go_on log whole.domains symbol behind place next e on)) inside
          (log_fault.Fails failed.fault) (failed.fails whole begins);
    }

-- ---- the certificates of one part

module _ (parts : RuleParts) (goal : Equation) (k : ℕ) (certs : List Cert) where
  abbrev examined : Keeping → Keeping
  examined rest = goes_on k (one_kept parts goal k certs) rest

  abbrev rest_of : List (List Cert) → Keeping
  rest_of more = keeping_from (k + 1) (drop (k + 1) (parts_kept parts goal)) more

  one_list : (more : List (List Cert)) →
      keeping_from k (drop k (parts_kept parts goal)) (certs ∷ more) ≡ examined (rest_of more)
  one_list more = by_part (slice_get (parts_kept parts goal) k) refl where
    by_part : (o : Option KeptPart) → slice_get (parts_kept parts goal) k ≡ o →
        keeping_from k (drop k (parts_kept parts goal)) (certs ∷ more)
        ≡ goes_on k (option_map_or (λ (p : KeptPart). part_finding p certs) o No) (rest_of more)
    by_part None none =
        ap (λ (ps : List KeptPart). keeping_from k ps (certs ∷ more))
        (from_nowhere (parts_kept parts goal) k none)
    by_part (Some p) some =
        ap (λ (ps : List KeptPart). keeping_from k ps (certs ∷ more))
        (from_place (parts_kept parts goal) k p some)

  examined_good : once_kept (examined Keeps) passed ≡ passed → (rest : Keeping) →
      examined rest ≡ rest
  examined_good e rest = by_found (one_kept parts goal k certs) e where
    by_found : (found : Said) → once_kept (goes_on k found Keeps) passed ≡ passed →
        goes_on k found rest ≡ rest
    by_found Beyond e = absurd cc
    by_found Yes e = refl
    by_found No e = absurd cc

  examined_bad : (fault : LogFault) → once_kept (examined Keeps) passed ≡ Err fault →
      (rest : Keeping) → once_kept (examined rest) passed ≡ Err fault
  examined_bad fault e rest = by_found (one_kept parts goal k certs) e where
    by_found : (found : Said) → once_kept (goes_on k found Keeps) passed ≡ Err fault
        → once_kept (goes_on k found rest) passed ≡ Err fault
    by_found Beyond e = e
    by_found Yes e = absurd cc
    by_found No e = e

  -- after lists that decide nothing, this one and those behind it decide
  pushed_on : (lists : List (List Cert)) → KeepsSoFar parts goal lists k →
      (more : List (List Cert)) → keeping parts goal ((lists ++ certs ∷ []) ++ more)
      ≡ examined (rest_of more)
  pushed_on lists so_far more =
      ap (keeping parts goal) (append_assoc lists (certs ∷ []) more) ∙ so_far (certs ∷ more)
      ∙ one_list more

-- ---- what holds before the covers

-- where nothing but domains has come, all holds that the covers begin with
pub fresh_holds : (parts : RuleParts) (goal : Equation) (log : Log) (progress : Progress) →
    IsFresh goal log progress → Holds parts goal (InCovers 0) log progress
fresh_holds parts goal log progress fresh = record {
  steps = λ more.
      ap (λ (steps : List Step). after_steps parts 0 (start goal) (steps ++ more)) fresh.steps
      ∙ ap (λ k. after_steps parts k (start goal) more) (sym fresh.count)
      ∙ ap (λ (s : State). after_steps parts progress.steps s more) (sym fresh.state);
  table = fresh.table;
  known = (
    λ more. ap (λ (covers : List (List CoverTree)). covering parts (covers ++ more)) fresh.covers,
    fresh.pairs,
  );
}

-- and so it is of a log with other domains
pub still_fresh : (goal : Equation) (log : Log) (domains : Option Domains) (progress : Progress) →
    IsFresh goal log progress → IsFresh goal (record log { domains = domains }) progress
still_fresh goal log domains progress fresh = record {
  covers = fresh.covers;
  steps = fresh.steps;
  pairs = fresh.pairs;
  table = fresh.table;
  state = fresh.state;
  count = fresh.count;
}

-- the goal of a fresh state is the first one
first_goal : (goal : Equation) (log : Log) (progress : Progress) → IsFresh goal log progress →
    slice_get progress.state.goals 0 ≡ Some goal
first_goal goal log progress fresh = ap (λ (s : State). slice_get s.goals 0) fresh.state

-- ---- a list of certificates

module _ (set : RuleParts) (certs : List Cert) (was is : ℕ) (old : Progress)
    (counts : is ≡ was + 1) (failure : Option CheckEnd)
    (ends : (goal : Equation) → slice_get old.state.goals 0 ≡ Some goal → IsOutcome failure
    (once_kept (goes_on was (one_kept set goal was certs) Keeps) passed))
    (parts : RuleParts) (goal : Equation) (log : Log) (domains : DomainProgress)
    (held : domains.held.set ≡ Some set) (fresh : IsFresh goal log old) where
  keep_by : (f : Option CheckEnd) → IsOutcome f
      (once_kept (goes_on was (one_kept set goal was certs) Keeps) passed)
      → (all : Domains) → log.domains ≡ Some all
      → AreHeld parts goal (record domains { kept = was }) all
      → LogStands parts goal InKeeps (pushed (line.Keep certs) log) (record domains { kept = is }) old
      f
  keep_by None good all here are = (
    subst (λ (o : Option Domains). HasHeld parts goal (record domains { kept = is })
        (option_map (with_keep certs) o)) (sym here) (record {
          lawful = are.lawful;
          held = are.held;
          keeps = λ more.
              pushed_on (with_domains parts all.rows) goal was certs all.keeps are.keeps more
              ∙ examined_good (with_domains parts all.rows) goal was certs
              (subst (λ (s : RuleParts). once_kept (examined s goal was certs Keeps) passed ≡ passed)
              (same_Some set (with_domains parts all.rows) (sym held ∙ are.held)) good) (rest_of (with_domains parts all.rows) goal was certs more)
              ∙ ap (λ k. keeping_from k (drop k (parts_kept (with_domains parts all.rows) goal)) more) (sym counts);
        }),
    still_fresh goal log (option_map (with_keep certs) log.domains) old fresh,
  )
  keep_by (Some end) bad all here are = record {
    fault = bad.0;
    names = bad.1;
    fails = λ whole on begins.
        gone_on parts goal whole (with_keep certs all)
        (subst (λ (o : Option Domains). KeepsGoOn (option_map (with_keep certs) o) whole.domains)
        here on) bad.0
        (λ last rows keeps.
        ap (λ (bad : Option ℕ). once_lawful bad (once_kept (keeping (with_domains parts last.rows)
        goal last.keeps) passed)) (ap (bad_domain parts.symbols) rows ∙ are.lawful)
        ∙ ap (λ (found : Keeping). once_kept found passed)
        (ap (λ (lists : List (List Row)). keeping (with_domains parts lists) goal last.keeps) rows
        ∙ ap (keeping (with_domains parts all.rows) goal) keeps.1 ∙ pushed_on (with_domains parts all.rows) goal was certs all.keeps are.keeps
        keeps.0)
        ∙ examined_bad (with_domains parts all.rows) goal was certs bad.0
        (subst (λ (s : RuleParts). once_kept (examined s goal was certs Keeps) passed ≡ Err bad.0)
        (same_Some set (with_domains parts all.rows) (sym held ∙ are.held)) bad.2) (rest_of (with_domains parts all.rows) goal was certs keeps.0));
  }

  keep_stands : HasHeld parts goal (record domains { kept = was }) log.domains
      → LogStands parts goal InKeeps (pushed (line.Keep certs) log) (record domains { kept = is }) old
      failure
  keep_stands are = by_domains log.domains refl are where
    by_domains : (o : Option Domains) → log.domains ≡ o
        → HasHeld parts goal (record domains { kept = was }) o
        → LogStands parts goal InKeeps (pushed (line.Keep certs) log)
        (record domains { kept = is }) old failure
    by_domains None here are = absurd are
    by_domains (Some all) here are =
        keep_by failure (ends goal (first_goal goal log old fresh)) all here are

pub keep_judged : (set : RuleParts) (certs : List Cert) (was is : ℕ) (old : Progress)
    (failure : Option CheckEnd) → is ≡ was + 1
    → ((goal : Equation) → slice_get old.state.goals 0 ≡ Some goal → IsOutcome failure
    (once_kept (goes_on was (one_kept set goal was certs) Keeps) passed))
    → JudgedInside set (line.Keep certs) was is old old failure
keep_judged set certs was is old failure counts ends = λ parts goal log symbol behind domains held
    holds e.
    subst (λ b. LogStands parts goal b (pushed (line.Keep certs) log) (record domains { kept = is })
    old failure) (same_Some InKeeps behind e)
    (keep_stands set certs was is old counts failure ends parts goal log domains held holds.1
    holds.0)

-- ---- the first line behind the certificates

-- the line is no list of certificates
abbrev pub IsNoKeep : Line → Type 0
IsNoKeep next = (certs : List Cert) → next ≡ line.Keep certs → ⊥

-- it may come where covers begin
pub as_covers : (next : Line) (symbol : ℕ) → IsNoKeep next →
    after InKeeps (next, symbol) ≡ after (InCovers 0) (next, symbol)
as_covers line.Header symbol other = refl
as_covers line.Header2 symbol other = refl
as_covers (line.Domain rows) symbol other = refl
as_covers (line.Keep certs) symbol other = absurd (other certs refl)
as_covers (line.Cover trees) symbol other = refl
as_covers (line.Step step) symbol other = refl
as_covers (line.Ranks columns) symbol other = refl
as_covers (line.Rank rank) symbol other = refl
as_covers (line.Pair pair) symbol other = refl
as_covers line.End symbol other = refl

-- all parts have their certificates, where none is asked for
all_kept : (parts : RuleParts) (goal : Equation) (lists : List (List Cert)) (kept : ℕ) →
    KeepsSoFar parts goal lists kept
    → keeping parts goal lists ≡ keeping_from kept (drop kept (parts_kept parts goal)) []
all_kept parts goal lists kept so_far =
    ap (keeping parts goal) (sym (append-nil lists)) ∙ so_far []

module _ (set : RuleParts) (next : Line) (other : IsNoKeep next) (was : ℕ) (old new : Progress)
    (parts : RuleParts) (goal : Equation) (log : Log) (symbol : ℕ) (behind : LineState)
    (domains : DomainProgress) (held : domains.held.set ≡ Some set)
    (e : after InKeeps (next, symbol) ≡ Some behind) where
  abbrev from_covers : after (InCovers 0) (next, symbol) ≡ Some behind
  from_covers = sym (as_covers next symbol other) ∙ e

  missing_by : (end : CheckEnd) → IsOutcome (Some end)
      (once_kept (keeping_from was (drop was (parts_kept set goal)) []) passed)
      → (all : Domains) → log.domains ≡ Some all
      → AreHeld parts goal (record domains { kept = was }) all
      → LogFails parts goal behind (pushed next log) end
  missing_by end bad all here are = record {
    fault = bad.0;
    names = bad.1;
    fails = λ whole on begins.
        verdict_outside parts goal whole bad.0
        (ap (λ (o : Option Domains). once_inside parts goal o passed)
        (domains_go_on log whole.domains symbol behind (InCovers 0) next from_covers on ∙ here)
        ∙ ap (λ (b : Option ℕ). once_lawful b (once_kept (keeping (with_domains parts all.rows) goal all.keeps) passed))
        are.lawful
        ∙ ap (λ (found : Keeping). once_kept found passed)
        (all_kept (with_domains parts all.rows) goal all.keeps was are.keeps)
        ∙ subst (λ (s : RuleParts). once_kept (keeping_from was (drop was (parts_kept s goal)) [])
        passed ≡ Err bad.0) (same_Some set (with_domains parts all.rows) (sym held ∙ are.held)) bad.2);
  }

  rest_by : once_kept (keeping_from was (drop was (parts_kept set goal)) []) passed ≡ passed
      → (failure : Option CheckEnd) → Judged set (InCovers 0) next old new failure
      → (all : Domains) → log.domains ≡ Some all
      → AreHeld parts goal (record domains { kept = was }) all → IsFresh goal log old
      → LogStands parts goal behind (pushed next log) (record domains { kept = was }) new failure
  rest_by good failure judged all here are fresh =
      judged_outside parts goal (InCovers 0) tt log (record domains { kept = was }) new next symbol
      behind failure
      (are.held ∙ ap (option_map (λ (d : Domains). with_domains parts d.rows)) (sym here))
      (ap (λ (o : Option Domains). once_inside parts goal o passed) here
      ∙ ap (λ (b : Option ℕ). once_lawful b (once_kept (keeping (with_domains parts all.rows) goal all.keeps) passed))
      are.lawful
      ∙ ap (λ (found : Keeping). once_kept found passed)
      (all_kept (with_domains parts all.rows) goal all.keeps was are.keeps)
      ∙ subst (λ (s : RuleParts). once_kept (keeping_from was (drop was (parts_kept s goal)) [])
      passed ≡ passed) (same_Some set (with_domains parts all.rows) (sym held ∙ are.held)) good)
      from_covers
      (subst (λ (o : Option Domains). Stands (used parts o) goal behind (pushed next log) new
      failure) (sym here)
      (subst (λ (s : RuleParts). Stands s goal behind (pushed next log) new failure) (same_Some set (with_domains parts all.rows) (sym held ∙ are.held))
      (judged goal log symbol behind (fresh_holds set goal log old fresh) from_covers)))

-- where a part has no certificates, that is the failure
pub missing_judged : (set : RuleParts) (next : Line) → IsNoKeep next → (was : ℕ)
    (old new : Progress) (end : CheckEnd)
    → ((goal : Equation) → IsOutcome (Some end)
    (once_kept (keeping_from was (drop was (parts_kept set goal)) []) passed))
    → JudgedInside set next was was old new (Some end)
missing_judged set next other was old new end ends = λ parts goal log symbol behind domains held holds
    e.
    by_domains parts goal log symbol behind domains held e log.domains refl holds.0
  where
    by_domains : (parts : RuleParts) (goal : Equation) (log : Log) (symbol : ℕ)
        (behind : LineState) (domains : DomainProgress) → domains.held.set ≡ Some set
        → after InKeeps (next, symbol) ≡ Some behind → (o : Option Domains) → log.domains ≡ o
        → HasHeld parts goal (record domains { kept = was }) o
        → LogFails parts goal behind (pushed next log) end
    by_domains parts goal log symbol behind domains held e None here are = absurd are
    by_domains parts goal log symbol behind domains held e (Some all) here are =
        missing_by set next other was old new parts goal log symbol behind domains held e end
        (ends goal) all here are

-- otherwise the line is judged over the rules with the domains
pub rest_judged : (set : RuleParts) (next : Line) → IsNoKeep next → (was : ℕ)
    (old new : Progress) (failure : Option CheckEnd)
    → ((goal : Equation) → IsOutcome None
    (once_kept (keeping_from was (drop was (parts_kept set goal)) []) passed))
    → Judged set (InCovers 0) next old new failure
    → JudgedInside set next was was old new failure
rest_judged set next other was old new failure ends judged = λ parts goal log symbol behind domains
    held holds e.
    by_domains parts goal log symbol behind domains held e log.domains refl holds.0 holds.1
  where
    by_domains : (parts : RuleParts) (goal : Equation) (log : Log) (symbol : ℕ)
        (behind : LineState) (domains : DomainProgress) → domains.held.set ≡ Some set
        → after InKeeps (next, symbol) ≡ Some behind → (o : Option Domains) → log.domains ≡ o
        → HasHeld parts goal (record domains { kept = was }) o → IsFresh goal log old
        → LogStands parts goal behind (pushed next log) (record domains { kept = was }) new failure
    by_domains parts goal log symbol behind domains held e None here are fresh = absurd are
    by_domains parts goal log symbol behind domains held e (Some all) here are fresh =
        rest_by set next other was old new parts goal log symbol behind domains held e (ends goal)
        failure judged all here are fresh

-- the same of a call
pub rest_judges : {E : Type 0} (set : RuleParts) (next : Line) → IsNoKeep next → (was : ℕ)
    (old new : Progress) (result : Result (Option CheckEnd) E)
    → ((goal : Equation) → IsOutcome None
    (once_kept (keeping_from was (drop was (parts_kept set goal)) []) passed))
    → Judges set (InCovers 0) next old new result
    → JudgesInside set next was was old new result
rest_judges set next other was old new (Ok failure) ends judged =
    rest_judged set next other was old new failure ends judged
rest_judges set next other was old new (Err none) ends judged = tt
