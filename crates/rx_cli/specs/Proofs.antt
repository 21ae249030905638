-- What is said of a text where a proof is searched for.
use Rattle.std.specs.Prelude.{◌≡◌, ◌⊎◌, ℕ, List, map, Some}
use Rattle.c_front.specs.declared.stages.Next.TheVariants.{Ends, Goes}
use Rattle.rx_command.specs.Commands.{Command, Compare, Find, Functions, Prove, Rules, command_of}
use Rattle.rx_command.specs.declared.command.Effort.{Effort}
use Rattle.rx_io.specs.Outside.{Names}
use Rattle.rx_log.specs.Acceptance.{IsAccepted}
use Rattle.rx_log.specs.declared.log.Log.{Log}
use Rattle.rx_logtext.specs.Logs.{IsLog}
use Rattle.rx_search.specs.Begun.{BeginsOver, rows_of}
use Rattle.rx_search.specs.Search.{Searched, NoRanks, LargeRanks, Closed, Large, Spent, NoPlan}
use Rattle.rx_moves.specs.Moves.{Move, move_of}
use Rattle.rx_report.specs.declared.answer.Answer.{Answer}
use Rattle.rx_report.specs.declared.answer.Answer.TheVariants.{Line, Proof}
use Rattle.rx_report.specs.declared.ends.Status.{Status}
use Rattle.rx_report.specs.declared.ends.Status.TheVariants as Ends
use Rattle.rx_cli.specs.declared.problems.Problem.{Problem}
use Rattle.rx_report.specs.declared.verdicts.Verdict.{Verdict}
use Rattle.rx_report.specs.declared.verdicts.Verdict.TheVariants as Said
use Rattle.rx_cli.specs.Problems.{asked, posed}
use Rattle.rx_cli.specs.Searches.{sought}

-- the text of a log that is accepted for the problem, whose steps are these moves, and whose domains
-- are those with which the search begins: none exactly where the rules alone have ranks, and else
-- those that are found, or the wider ones
pub record IsProofText (problem : Problem) (moves : List Move) (text : List ℕ) : Type 0 where
  pub log : Log
  pub accepted : IsAccepted problem.rules problem.goal log
  pub domains : BeginsOver problem.rules problem.goal (rows_of log.domains)
  pub steps : map move_of log.steps ≡ moves
  pub is : IsLog text log

-- the answer where the searches come to this; what shows the moves of a proof is free
abbrev pub OnSearched : Problem → Effort → Searched → Answer → Type 0
OnSearched problem effort NoRanks answer = answer ≡ Line Said.NoRanks
OnSearched problem effort (LargeRanks rows) answer = answer ≡ Line Said.LargeSearch
OnSearched problem effort (Closed moves) answer =
    (text : List ℕ) × IsProofText problem moves text × (answer ≡ Proof text)
OnSearched problem effort (Large path rows) answer = answer ≡ Line Said.LargeSearch
OnSearched problem effort Spent answer = answer ≡ Line (Said.Visits effort.budget)
OnSearched problem effort NoPlan answer = answer ≡ Line (Said.Depth effort.depth)

-- the answer to a problem
abbrev pub OnProblem : Problem → Effort → Answer → Type 0
OnProblem problem effort answer =
    OnSearched problem effort
    (sought problem.rules problem.goal effort.depth effort.budget) answer

-- what is said of a text and two functions of it where a proof is asked for
abbrev pub IsProved : Functions → Effort → List ℕ → Answer → Type 0
IsProved f effort source answer =
    ((verdict : Verdict) × asked f source (Ends verdict) × (answer ≡ Line verdict))
    ⊎ ((problem : Problem) × asked f source (Goes problem) × OnProblem problem effort answer)

-- the command asks for a search of this effort, and what is held poses this problem for it
abbrev pub Poses : Names → Command → Problem → Effort → Type 0
Poses names (Compare (Prove f wanted)) problem effort =
    (source : List ℕ) × (names f.file ≡ Some source) × asked f source (Goes problem)
    × (wanted ≡ effort)
Poses names (Rules (Find file wanted)) problem effort =
    (source : List ℕ) × (names file ≡ Some source) × posed source (Goes problem)
    × (wanted ≡ effort)
Poses names other problem effort = ⊥

-- both texts are those of accepted logs, with the same moves and for the same problem: the one that
-- the words, which ask for a search, pose about what is held
pub record AreProofs (names : Names) (words : List (List ℕ)) (t v : List ℕ) : Type 0 where
  pub command : Command
  pub effort : Effort
  pub problem : Problem
  pub moves : List Move
  pub asks : command_of words ≡ Some command
  pub poses : Poses names command problem effort
  pub is_closed : sought problem.rules problem.goal effort.depth effort.budget ≡ Closed moves
  pub first : IsProofText problem moves t
  pub second : IsProofText problem moves v

-- two texts reported with a status are one, but for proofs
abbrev pub AreOne : Names → List (List ℕ) → Status → List ℕ → List ℕ → Type 0
AreOne names words status t v =
    (t ≡ v) ⊎ ((status ≡ Ends.Equivalent) × AreProofs names words t v)
