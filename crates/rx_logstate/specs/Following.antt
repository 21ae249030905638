-- What is kept of a log while it is read up to a step. Nothing that a caller reads depends on this.
use Rattle.std.specs.Prelude.{◌≡◌, ◌⊎◌, ◌≤◌, ℕ, Bool, true, false, List, [], Option, Some, None, Result, Ok, Err, ◌+◌, ◌++◌, length, option_map, unwrap_or}
use Rattle.rx_domain.specs.Setting.{bad_domain, with_domains}
use Rattle.rx_domain.specs.declared.domains.Domains.{Domains}
use Rattle.rx_inference.specs.declared.step.Step.{Step}
use Rattle.rx_inference.specs.States.{State}
use Rattle.rx_log.specs.Acceptance.{LogFault, after_steps, start, used}
use Rattle.rx_log.specs.declared.line.Line.{Line}
use Rattle.rx_log.specs.declared.line.Line.TheVariants as line
use Rattle.rx_log.specs.declared.log.Log.{Log}
use Rattle.rx_logtext.specs.Logs.{IsFirstBad, up_to_feed}
use Rattle.rx_logtext.specs.Readers as text
use Rattle.rx_logtext.specs.Readers.{has_bad}
use Rattle.rx_row.specs.declared.row.Row.{Row}
use Rattle.rx_steps.specs.declared.step_end.StepEnd.{StepEnd}
use Rattle.rx_steps.specs.declared.step_end.StepEnd.TheVariants as step_end
use Rattle.rx_term.specs.declared.rule.Equation.{Equation}
use Rattle.rx_term.specs.declared.rule_set.RuleParts.{RuleParts}
use Rattle.rx_logstate.specs.AtSteps.{HasBadDomain, IsAtStep, IsRefusedBefore, IsUnlawfulBefore, rows_of, step_at, steps_before, HasNoPlace, OnLog}
use Rattle.rx_logstate.specs.Fronts.{after_domains}
use Rattle.rx_logstate.specs.declared.at_step.AtStep.{AtStep}
use Rattle.rx_logstate.specs.declared.following.Follower.{Follower}
use Rattle.rx_logstate.specs.declared.following.Proof.{Proof}
use Rattle.rx_logstate.specs.declared.following.Reached.{Reached}
use Rattle.rx_logstate.specs.declared.inside.Inside.{Inside}
use Rattle.rx_logstate.specs.declared.look_end.LookEnd.{LookEnd}
use Rattle.rx_logstate.specs.declared.look_end.LookEnd.TheVariants as look_end
use Rattle.rx_logstate.specs.declared.looking.Look.{Look}

-- ---- steps

-- from the state after some steps those that follow decide; or one of them isn't accepted, whatever
-- follows
abbrev pub Decides : Bool → State → RuleParts → Equation → List Step → Type 0
Decides true state parts goal steps =
    (fault : LogFault) × ((more : List Step) →
    after_steps parts 0 (start goal) (steps ++ more) ≡ Err fault)
Decides false state parts goal steps =
    (more : List Step) →
    after_steps parts 0 (start goal) (steps ++ more) ≡ after_steps parts (length steps) state more

-- so far these steps have brought the proof
abbrev pub Arrives : Reached → RuleParts → Equation → List Step → Type 0
Arrives reached parts goal steps = Decides reached.is_refused reached.state parts goal steps

-- whether a step that ends so isn't accepted
abbrev pub SaysFault : Result (Unit {0}) StepEnd → Bool → Type 0
SaysFault (Ok done) answer = answer ≡ false
SaysFault (Err step_end.NoMemory) answer = ⊥
SaysFault (Err fault) answer = answer ≡ true

-- ---- domains

-- the rules with these domains, or none where they aren't lawful
abbrev pub MakesSet : RuleParts → List (List Row) → Option RuleParts → Type 0
MakesSet parts lists None = (symbol : ℕ) × (bad_domain parts.symbols lists ≡ Some symbol)
MakesSet parts lists (Some set) = set ≡ with_domains parts lists

-- the rules that are kept, if they are, are those with the domains of the log
abbrev pub IsSet : Option RuleParts → RuleParts → Option Domains → Type 0
IsSet None parts domains = Unit {0}
IsSet (Some set) parts domains = set ≡ used parts domains

-- what is kept is what the log so far says of domains
pub record Holds (inside : Inside) (parts : RuleParts) (domains : Option Domains) : Type 0 where
  pub rows : inside.rows ≡ rows_of domains
  pub set : IsSet inside.set parts domains

-- the rules with the domains are at hand, or the domains aren't lawful
abbrev pub AreMade : Bool → Inside → RuleParts → Option Domains → Type 0
AreMade true inside parts domains =
    Holds inside parts domains × (unwrap_or inside.set parts ≡ used parts domains)
AreMade false inside parts domains = Holds inside parts domains × HasBadDomain parts domains

-- ---- the proof

-- so far these steps, over the rules with the domains of the log, have brought the proof; or the
-- domains aren't lawful
abbrev pub Comes : Bool → Reached → RuleParts → Equation → Option Domains → List Step → Type 0
Comes false reached parts goal domains steps = Arrives reached (used parts domains) goal steps
Comes true reached parts goal domains steps =
    (steps ≡ [] → ⊥) × HasBadDomain parts domains

pub record Goes (proof : Proof) (parts : RuleParts) (goal : Equation) (domains : Option Domains)
    (steps : List Step)
    : Type 0 where
  pub holds : Holds proof.inside parts domains
  pub comes : Comes proof.is_unlawful proof.reached parts goal domains steps

-- no step was taken yet
pub record IsFresh (proof : Proof) (goal : Equation) : Type 0 where
  pub set : proof.inside.set ≡ None
  pub lawful : proof.is_unlawful ≡ false
  pub good : proof.reached.is_refused ≡ false
  pub state : proof.reached.state ≡ start goal

-- no step comes before a domain
abbrev pub IsInOrder : Line → Log → Type 0
IsInOrder line.Header2 log = log.steps ≡ []
IsInOrder (line.Domain rows) log = log.steps ≡ []
IsInOrder other log = Unit {0}

-- ---- lines

-- what is kept is what the log so far gives, for the step with this number
pub record Follows (follower : Follower) (parts : RuleParts) (goal : Equation) (number : ℕ)
    (log : Log)
    : Type 0 where
  pub numbered : follower.number ≡ number
  pub fronts : follower.fronts ≡ option_map after_domains log.domains
  pub covers : follower.covers ≡ length log.covers
  pub steps : follower.steps ≡ length log.steps
  pub fresh : log.steps ≡ [] → IsFresh follower.proof goal
  pub goes : Goes follower.proof parts goal log.domains (steps_before number log)
  pub step : follower.step ≡ step_at number log
  pub table : follower.table ≡ log.table

-- the same where the last step isn't counted yet
abbrev pub FollowsNext : Follower → RuleParts → Equation → ℕ → Log → Type 0
FollowsNext follower parts goal number log =
    Follows (record follower { steps = follower.steps + 1 }) parts goal number log

-- what is known at the end of the log, or that a step before isn't accepted, or comes after
-- domains that aren't lawful
abbrev pub Concludes : RuleParts → Equation → Log → ℕ → Option AtStep → Type 0
Concludes parts goal log number (Some found) = IsAtStep parts goal log number found
Concludes parts goal log number None =
    IsUnlawfulBefore parts log number ⊎ IsRefusedBefore parts goal log number

-- ---- lines

-- the bytes are lines of a log up to a place, and what is kept is what they give
pub record StandsFor (look : Look) (parts : RuleParts) (goal : Equation) (number : ℕ)
    (bytes : List ℕ)
    : Type 0 where
  pub log : Log
  pub reader : text.StandsFor look.reader log bytes
  pub good : has_bad look.reader ≡ false
  pub follows : Follows look.follower parts goal number log

-- these bytes have a first bad line, whatever follows
abbrev pub IsBadFrom : List ℕ → Type 0
IsBadFrom bytes = (line : ℕ) × ((more : List ℕ) → IsFirstBad (bytes ++ more) line)

-- after these bytes the second look stands for them with the others
abbrev pub GoesOn : RuleParts → Look → List ℕ → Look → Type 0
GoesOn parts old taken new =
    (goal : Equation) (number : ℕ) (bytes : List ℕ) → StandsFor old parts goal number bytes →
    StandsFor new parts goal number (bytes ++ taken)

-- no log begins with such bytes and these behind them
abbrev pub EndsBad : RuleParts → Look → List ℕ → Type 0
EndsBad parts old taken =
    (goal : Equation) (number : ℕ) (bytes : List ℕ) → StandsFor old parts goal number bytes →
    IsBadFrom (bytes ++ taken)

-- so many bytes were taken
abbrev pub IsCount : List ℕ → ℕ → Type 0
IsCount piece count = (count ≡ length (up_to_feed piece)) × (count ≤ length piece)

-- how many lines were taken
abbrev pub lines_in : Look → ℕ
lines_in look = text.lines_in look.reader

-- what is said of the bytes at their end
abbrev pub Says : RuleParts → Equation → ℕ → List ℕ → Result AtStep LookEnd → Type 0
Says parts goal number bytes (Ok found) =
    OnLog bytes (λ log. IsAtStep parts goal log number found)
Says parts goal number bytes (Err look_end.Unread) = ⊥
Says parts goal number bytes (Err look_end.NoPlace) = HasNoPlace parts goal number bytes
Says parts goal number bytes (Err look_end.NoMemory) = Unit {0}
