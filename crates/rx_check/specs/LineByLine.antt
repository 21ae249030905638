-- The covers, steps, ranks and pairs of a log that is replayed line by line, over rules with their
-- domains: what is kept between two lines, and what that says of the log. What the log says of
-- domains isn't looked at here.
use Rattle.std.specs.Prelude.{◌≡◌, ℕ, Bool, true, false, Option, Some, None, Result, Ok, Err}
use Rattle.std.specs.Prelude.{List, [], ◌++◌, drop}
use Rattle.rx_cover.specs.Covering.{Covers, covering, covering_from}
use Rattle.rx_cover.specs.declared.cover_tree.CoverTree.{CoverTree}
use Rattle.rx_inference.specs.declared.step.Step.{Step}
use Rattle.rx_cert.specs.Findings.{Said, No, Beyond}
use Rattle.rx_pairs.specs.Inside.{descent_in, listing}
use Rattle.rx_pairs.specs.Lowering.{Descent, Descends, lower_finding}
use Rattle.rx_pairs.specs.Lowering as lowering
use Rattle.rx_pairs.specs.declared.pair.Pair.{Pair}
use Rattle.rx_pairs.specs.declared.pair_cert.PairCert.{PairCert}
use Rattle.rx_pairs.specs.declared.table.RankTable.{RankTable}
use Rattle.rx_term.specs.declared.rule.Equation.{Equation}
use Rattle.rx_term.specs.declared.rule_set.RuleParts.{RuleParts}
use Rattle.rx_log.specs.Acceptance.{Accepted, Checked, after_steps, kept_over, start, verdict_over}
use Rattle.rx_log.specs.Acceptance.{Fails, LogFault, AtPair, NotLower, PassesLimits}
use Rattle.rx_log.specs.Places.{after}
use Rattle.rx_log.specs.Reading.{pushed}
use Rattle.rx_log.specs.declared.line.Line.{Line}
use Rattle.rx_log.specs.declared.log.Log.{Log}
use Rattle.rx_log.specs.declared.line_state.LineState.{LineState}
use Rattle.rx_log.specs.declared.line_state.LineState.TheVariants.{AtHeader, InDomains, InKeeps, InCovers, InSteps, InRanks, InPairs, Finished}
use Rattle.rx_check.specs.Answers.{named}
use Rattle.rx_check.specs.declared.check_end.CheckEnd.{CheckEnd}
use Rattle.rx_check.specs.declared.progress.Progress.{Progress}

-- ---- lines

-- at this place steps and the line that begins the ranks may come
abbrev pub IsOpen : LineState → Type 0
IsOpen AtHeader = ⊥
IsOpen (InDomains next) = Unit {0}
IsOpen InKeeps = Unit {0}
IsOpen (InCovers next) = Unit {0}
IsOpen InSteps = Unit {0}
IsOpen (InRanks columns next) = ⊥
IsOpen InPairs = ⊥
IsOpen Finished = ⊥

-- at this place pairs and the end may come
abbrev pub IsRanked : LineState → Type 0
IsRanked AtHeader = ⊥
IsRanked (InDomains next) = ⊥
IsRanked InKeeps = ⊥
IsRanked (InCovers next) = ⊥
IsRanked InSteps = ⊥
IsRanked (InRanks columns next) = Unit {0}
IsRanked InPairs = Unit {0}
IsRanked Finished = ⊥

-- the second list begins with the first
abbrev pub Extends : {A : Type 0} → List A → List A → Type 0
Extends {A} xs ys = (more : List A) × (ys ≡ xs ++ more)

-- the log so far, up to the place, is how the whole one begins, from the covers on
abbrev pub GoesOn : LineState → Log → Log → Type 0
GoesOn AtHeader log whole = Unit {0}
GoesOn (InDomains next) log whole = Unit {0}
GoesOn InKeeps log whole = Unit {0}
GoesOn (InCovers next) log whole = Extends log.covers whole.covers
GoesOn InSteps log whole = (whole.covers ≡ log.covers) × Extends log.steps whole.steps
GoesOn (InRanks columns next) log whole =
    (whole.covers ≡ log.covers)
    × ((whole.steps ≡ log.steps)
    × ((whole.table.columns ≡ log.table.columns) × Extends log.table.ranks whole.table.ranks))
GoesOn InPairs log whole =
    (whole.covers ≡ log.covers)
    × ((whole.steps ≡ log.steps) × ((whole.table ≡ log.table) × Extends log.pairs whole.pairs))
GoesOn Finished log whole = whole ≡ log

-- ---- failures

-- whichever lines come next, the log has this fault
abbrev pub HasFailed : RuleParts → Equation → LineState → Log → LogFault → Type 0
HasFailed parts goal place log fault =
    (whole : Log) → GoesOn place log whole → verdict_over parts goal whole ≡ Fails fault

-- the end names a fault that the log has, whichever lines come next
pub record FailsWith
    (parts : RuleParts) (goal : Equation) (place : LineState) (log : Log) (end : CheckEnd)
    : Type 0 where
  pub fault : LogFault
  pub names : named end ≡ Some fault
  pub fails : HasFailed parts goal place log fault

-- ---- no failure so far

-- no list of trees so far fails: the symbols from this one on decide, with the lists that follow
abbrev pub CoversSoFar : RuleParts → Log → ℕ → Type 0
CoversSoFar parts log next =
    (more : List (List CoverTree)) →
    covering parts (log.covers ++ more) ≡ covering_from parts next (drop next parts.symbols) more

-- no step so far fails: the state is the one after them, and the steps that follow decide
abbrev pub StepsSoFar : RuleParts → Equation → Log → Progress → Type 0
StepsSoFar parts goal log progress =
    (more : List Step) →
    after_steps parts 0 (start goal) (log.steps ++ more)
    ≡ after_steps parts progress.steps progress.state more

-- no pair so far fails: the pairs from this one on decide, with the certificates that follow
abbrev pub PairsSoFar : Log → Progress → Type 0
PairsSoFar log progress =
    (more : List PairCert) →
    descent_in log.table progress.listing.whole 0 progress.listing.pairs (log.pairs ++ more)
    ≡ descent_in log.table progress.listing.whole progress.lower
    (drop progress.lower progress.listing.pairs) more

-- nothing is left to show, and the kept pairs are those that have to be lower
pub record IsShown (parts : RuleParts) (log : Log) (progress : Progress) : Type 0 where
  pub covers : covering parts log.covers ≡ Covers
  pub goals : progress.state.goals ≡ []
  pub pairs : listing parts (parts.rules ++ progress.state.hypotheses) ≡ progress.listing

-- what is known at each place from the covers on
abbrev pub IsKnown : RuleParts → Equation → LineState → Log → Progress → Type 0
IsKnown parts goal AtHeader log progress = ⊥
IsKnown parts goal (InDomains next) log progress = ⊥
IsKnown parts goal InKeeps log progress = ⊥
IsKnown parts goal (InCovers next) log progress = CoversSoFar parts log next × (log.pairs ≡ [])
IsKnown parts goal InSteps log progress =
    (covering parts log.covers ≡ Covers) × (log.pairs ≡ [])
IsKnown parts goal (InRanks columns next) log progress =
    IsShown parts log progress × ((log.pairs ≡ []) × (progress.lower ≡ 0))
IsKnown parts goal InPairs log progress =
    (kept_over parts goal log ≡ Ok progress.state.hypotheses)
    × ((listing parts (parts.rules ++ progress.state.hypotheses) ≡ progress.listing)
    × PairsSoFar log progress)
IsKnown parts goal Finished log progress = verdict_over parts goal log ≡ Accepted

-- what is kept is what the log so far gives, and nothing of it fails
pub record Holds
    (parts : RuleParts) (goal : Equation) (place : LineState) (log : Log) (progress : Progress)
    : Type 0 where
  pub steps : StepsSoFar parts goal log progress
  pub table : progress.table ≡ log.table
  pub known : IsKnown parts goal place log progress

-- the same, or the failure that is kept is that of the log
abbrev pub Stands : RuleParts → Equation → LineState → Log → Progress → Option CheckEnd → Type 0
Stands parts goal place log progress None = Holds parts goal place log progress
Stands parts goal place log progress (Some end) = FailsWith parts goal place log end

-- what follows once all pairs are lower
abbrev pub once_lower : {A : Type 0} → Descent → Checked A → Checked A
once_lower Descends next = next
once_lower (lowering.NotLower i) next = Err (NotLower i)
once_lower (lowering.PassesLimits i) next = Err (PassesLimits (AtPair i))

-- what a certificate finds of a pair, the pairs being whole or not: behind the last one, none is
-- shown where they are whole, and else the limits are passed
abbrev pub one_lower : Bool → RankTable → Option Pair → PairCert → Said
one_lower false table None cert = Beyond
one_lower true table None cert = No
one_lower whole table (Some pair) cert = lower_finding pair table cert

-- with this failure, if any, the line makes this of what was kept at the place
abbrev pub Judged : RuleParts → LineState → Line → Progress → Progress → Option CheckEnd → Type 0
Judged parts place line old new failure =
    (goal : Equation) (log : Log) (symbol : ℕ) (behind : LineState) → Holds parts goal place log old
    → after place (line, symbol) ≡ Some behind
    → Stands parts goal behind (pushed line log) new failure

-- the same of a call; where there is no memory, what was kept stays
abbrev pub Judges
    : {E : Type 0} → RuleParts → LineState → Line → Progress → Progress → Result (Option CheckEnd) E
    → Type 0
Judges parts place line old new (Ok failure) = Judged parts place line old new failure
Judges parts place line old new (Err none) = new ≡ old

-- a check comes to this, or has the fault that the failure names
abbrev pub Ends : {A : Type 0} → Option CheckEnd → A → Checked A → Type 0
Ends None x check = check ≡ Ok x
Ends (Some end) x check = (fault : LogFault) × (named end ≡ Some fault) × (check ≡ Err fault)

-- a check that finds nothing wrong
abbrev pub passed : Checked (Unit {0})
passed = Ok tt

-- a check passes, or has the fault that the failure names
abbrev pub IsOutcome : Option CheckEnd → Checked (Unit {0}) → Type 0
IsOutcome failure check = Ends failure tt check

-- the failure that an outcome is, which names a fault
abbrev pub IsFailureOf : Result (Unit {0}) CheckEnd → Option CheckEnd → Type 0
IsFailureOf (Ok done) failure = failure ≡ None
IsFailureOf (Err end) failure =
    (failure ≡ Some end) × ((fault : LogFault) × (named end ≡ Some fault))
