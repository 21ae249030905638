-- A log that is replayed line by line: what is kept between two lines, and what that says of the
-- log, with its domains.
use Rattle.std.specs.Prelude.{◌≡◌, ℕ, Option, Some, None, Result, Ok, Err}
use Rattle.std.specs.Prelude.{All, List, [], ◌∷◌, ◌++◌, drop}
use Rattle.std.specs.Option.{option_map}
use Rattle.rx_cert.specs.declared.cert.Cert.{Cert}
use Rattle.rx_domain.specs.Keeping.{keeping, keeping_from, parts_kept}
use Rattle.rx_domain.specs.Setting.{bad_domain, with_domains}
use Rattle.rx_domain.specs.declared.domains.Domains.{Domains}
use Rattle.rx_pairs.specs.Pairs.{HasRoot}
use Rattle.rx_row.specs.declared.row.Row.{Row}
use Rattle.rx_term.specs.declared.rule.Equation.{Equation}
use Rattle.rx_term.specs.declared.rule_set.RuleParts.{RuleParts}
use Rattle.rx_log.specs.Acceptance.{Fails, HasVerdict, LogFault, once_inside, start, used}
use Rattle.rx_log.specs.Places.{after, after_all}
use Rattle.rx_log.specs.Reading.{blank, pushed}
use Rattle.rx_log.specs.declared.line.Line.{Line}
use Rattle.rx_log.specs.declared.line.Line.TheVariants as line
use Rattle.rx_log.specs.declared.log.Log.{Log}
use Rattle.rx_log.specs.declared.line_state.LineState.{LineState}
use Rattle.rx_log.specs.declared.line_state.LineState.TheVariants.{AtHeader, InDomains, InKeeps, InCovers, InSteps, InRanks, InPairs, Finished}
use Rattle.rx_check.specs.Answers.{named}
use Rattle.rx_check.specs.LineByLine.{Extends, GoesOn, Holds, passed}
use Rattle.rx_check.specs.declared.check_end.CheckEnd.{CheckEnd}
use Rattle.rx_check.specs.declared.inside.DomainProgress.{DomainProgress}
use Rattle.rx_check.specs.declared.progress.Progress.{Progress}
use Rattle.rx_check.specs.declared.replayer.Replayer.{Replayer}

-- ---- lines

-- the log with what lines say, one after the other
abbrev pub pushed_all : Log → List (Line × ℕ) → Log
pushed_all log [] = log
pushed_all log (it ∷ its) = pushed_all (pushed it.0 log) its

-- the log as far as these lines have come
abbrev pub log_of : List (Line × ℕ) → Log
log_of its = pushed_all blank its

-- such a line may come at the first place, and leads to the second
abbrev pub MayLead : LineState → Line → LineState → Type 0
MayLead place line behind = (symbol : ℕ) × (after place (line, symbol) ≡ Some behind)

-- ---- failures

-- the domains so far, which all have come, are those of the whole log, and what keeps them so far
-- is how that begins
abbrev pub KeepsGoOn : Option Domains → Option Domains → Type 0
KeepsGoOn None None = Unit {0}
KeepsGoOn None (Some all) = ⊥
KeepsGoOn (Some domains) None = ⊥
KeepsGoOn (Some domains) (Some all) =
    (all.rows ≡ domains.rows) × Extends domains.keeps all.keeps

-- what the log so far says of domains, up to the place, is how the whole one begins
abbrev pub DomainsGoOn : LineState → Option Domains → Option Domains → Type 0
DomainsGoOn AtHeader domains all = Unit {0}
DomainsGoOn (InDomains next) domains all = Unit {0}
DomainsGoOn InKeeps domains all = KeepsGoOn domains all
DomainsGoOn (InCovers next) domains all = all ≡ domains
DomainsGoOn InSteps domains all = all ≡ domains
DomainsGoOn (InRanks columns next) domains all = all ≡ domains
DomainsGoOn InPairs domains all = all ≡ domains
DomainsGoOn Finished domains all = all ≡ domains

-- whichever lines come next, the log has this fault
abbrev pub LogHasFailed : RuleParts → Equation → LineState → Log → LogFault → Type 0
LogHasFailed parts goal place log fault =
    (whole : Log) → DomainsGoOn place log.domains whole.domains → GoesOn place log whole →
    HasVerdict parts goal whole (Fails fault)

-- the end names a fault that the log has, whichever lines come next
pub record LogFails
    (parts : RuleParts) (goal : Equation) (place : LineState) (log : Log) (end : CheckEnd)
    : Type 0 where
  pub fault : LogFault
  pub names : named end ≡ Some fault
  pub fails : LogHasFailed parts goal place log fault

-- ---- no failure so far

-- of covers, steps, ranks and pairs nothing has come
pub record IsFresh (goal : Equation) (log : Log) (progress : Progress) : Type 0 where
  pub covers : log.covers ≡ []
  pub steps : log.steps ≡ []
  pub pairs : log.pairs ≡ []
  pub table : progress.table ≡ log.table
  pub state : progress.state ≡ start goal
  pub count : progress.steps ≡ 0

-- no rules with domains are kept yet, and no part is
abbrev pub IsUnset : DomainProgress → Type 0
IsUnset domains = (domains.held.set ≡ None) × (domains.kept ≡ 0)

-- no part so far fails: the parts from this one on decide, with the lists that follow
abbrev pub KeepsSoFar : RuleParts → Equation → List (List Cert) → ℕ → Type 0
KeepsSoFar parts goal lists kept =
    (more : List (List Cert)) →
    keeping parts goal (lists ++ more) ≡ keeping_from kept (drop kept (parts_kept parts goal)) more

-- the domains are lawful, the rules with them are kept, and no part so far fails
pub record AreHeld (parts : RuleParts) (goal : Equation) (domains : DomainProgress) (all : Domains)
    : Type 0 where
  pub lawful : bad_domain parts.symbols all.rows ≡ None
  pub held : domains.held.set ≡ Some (with_domains parts all.rows)
  pub keeps : KeepsSoFar (with_domains parts all.rows) goal all.keeps domains.kept

-- the same of a log that has domains
abbrev pub HasHeld : RuleParts → Equation → DomainProgress → Option Domains → Type 0
HasHeld parts goal domains None = ⊥
HasHeld parts goal domains (Some all) = AreHeld parts goal domains all

-- the rules with the domains of the log are kept, if it has any, and these are lawful and kept; over
-- them, what is kept is what the log so far gives
pub record GoesInside
    (parts : RuleParts) (goal : Equation) (place : LineState) (log : Log)
    (domains : DomainProgress) (progress : Progress)
    : Type 0 where
  pub set : domains.held.set ≡
      option_map (λ (all : Domains). with_domains parts all.rows) log.domains
  pub inside : once_inside parts goal log.domains passed ≡ passed
  pub holds : Holds (used parts log.domains) goal place log progress

-- what is kept is what the log so far gives, and nothing of it fails
abbrev pub LogHolds
    : RuleParts → Equation → LineState → Log → DomainProgress → Progress → Type 0
LogHolds parts goal AtHeader log domains progress =
    (log.domains ≡ None)
    × ((domains.rows ≡ []) × (IsUnset domains × IsFresh goal log progress))
LogHolds parts goal (InDomains next) log domains progress =
    (log.domains ≡ Some (record { rows = domains.rows; keeps = [] }))
    × (IsUnset domains × IsFresh goal log progress)
LogHolds parts goal InKeeps log domains progress =
    HasHeld parts goal domains log.domains × IsFresh goal log progress
LogHolds parts goal (InCovers next) log domains progress =
    GoesInside parts goal (InCovers next) log domains progress
LogHolds parts goal InSteps log domains progress =
    GoesInside parts goal InSteps log domains progress
LogHolds parts goal (InRanks columns next) log domains progress =
    GoesInside parts goal (InRanks columns next) log domains progress
LogHolds parts goal InPairs log domains progress =
    GoesInside parts goal InPairs log domains progress
LogHolds parts goal Finished log domains progress =
    GoesInside parts goal Finished log domains progress

-- the same, or the failure that is kept is that of the log
abbrev pub LogStands
    : RuleParts → Equation → LineState → Log → DomainProgress → Progress → Option CheckEnd → Type 0
LogStands parts goal place log domains progress None =
    LogHolds parts goal place log domains progress
LogStands parts goal place log domains progress (Some end) = LogFails parts goal place log end

-- ---- what is kept

-- the place after the lines so far
abbrev pub place_after : Replayer → LineState
place_after replayer = replayer.place

-- no hypothesis that is kept has a result as its left side
abbrev pub HasRoots : Replayer → Type 0
HasRoots replayer = All HasRoot replayer.progress.state.hypotheses

-- the lines so far, each with the number of its symbol, are in order, and what is kept is what they
-- give for the rules and the goal: the state so far, or the first failure
pub record StandsFor
    (replayer : Replayer) (parts : RuleParts) (goal : Equation) (its : List (Line × ℕ))
    : Type 0 where
  pub arrives : after_all (Some AtHeader) its ≡ Some replayer.place
  pub holds : LogStands parts goal replayer.place (log_of its) replayer.domains replayer.progress
      replayer.failure

-- ---- one line among the certificates that the domains are kept

-- with this failure, if any, the line makes this of what was kept there, the rules with the domains
-- being used
abbrev pub JudgedInside
    : RuleParts → Line → ℕ → ℕ → Progress → Progress → Option CheckEnd → Type 0
JudgedInside set line was is old new failure =
    (parts : RuleParts) (goal : Equation) (log : Log) (symbol : ℕ) (behind : LineState)
    (domains : DomainProgress) → domains.held.set ≡ Some set
    → LogHolds parts goal InKeeps log (record domains { kept = was }) old
    → after InKeeps (line, symbol) ≡ Some behind
    → LogStands parts goal behind (pushed line log) (record domains { kept = is }) new failure

-- the same of a call
abbrev pub JudgesInside
    : {E : Type 0} → RuleParts → Line → ℕ → ℕ → Progress → Progress → Result (Option CheckEnd) E
    → Type 0
JudgesInside set line was is old new (Ok failure) =
    JudgedInside set line was is old new failure
JudgesInside set line was is old new (Err none) = Unit {0}

-- ---- one line

-- after this line what was kept is what the log so far gives, if it was so before
abbrev pub JudgesLine : RuleParts → Line → Replayer → Replayer → Type 0
JudgesLine parts line old new =
    (goal : Equation) (log : Log) (symbol : ℕ) (behind : LineState) →
    LogStands parts goal old.place log old.domains old.progress old.failure
    → after old.place (line, symbol) ≡ Some behind
    → LogStands parts goal behind (pushed line log) new.domains new.progress new.failure

-- the line gives no domain
abbrev pub IsNoDomain : Line → Type 0
IsNoDomain next = (rows : List Row) → next ≡ line.Domain rows → ⊥
