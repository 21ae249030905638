-- What the functions inside promise to one another. Nothing that a caller of the run reads depends
-- on these.
use Rattle.std.specs.Prelude.{◌≡◌, ◌≢◌, ◌<◌, ◌≤◌, ◌^◌, ◌⊎◌, length, true, false, ⊤, ℕ, Bool, List, Option, Some, None, Result, Ok, Err, Vec, map, slice_get, nat_lt, MatchBool}
use Rattle.std.specs.List.{list_all}
use Rattle.c_ast.specs.declared.expr.Expr.{Expr}
use Rattle.c_ast.specs.declared.integers.Integers.{Integers}
use Rattle.c_ast.specs.RowForms.{is_row_form}
use Rattle.c_ast.specs.Scoped.{is_scoped, parameter_counts}
use Rattle.c_front.specs.declared.pairs.Compared.{Compared}
use Rattle.c_front.specs.declared.stages.Next.{Next}
use Rattle.c_front.specs.declared.stages.Next.TheVariants.{Ends, Goes}
use Rattle.c_front.specs.Front.{count_in}
use Rattle.rx_code.specs.Translation.{IsBeyond, IsTranslation}
use Rattle.rx_io.specs.Outside.{HoldsBytes, HoldsMore, IsMissing, Names}
use Rattle.rx_command.specs.Commands.{Check, Comparison, Find, Functions, Induction, Prove, Refute, Replay}
use Rattle.rx_translate.specs.declared.translation.Translation.{Translation}
use Rattle.rx_plain.specs.Formed.{Formed}
use Rattle.rx_log.specs.Acceptance.{Accepted, IsAccepted, verdict_over}
use Rattle.rx_log.specs.Depth.{is_shallow_log}
use Rattle.rx_log.specs.declared.log.Log.{Log}
use Rattle.rx_plain.specs.declared.no_memory.NoMemory.{NoMemory}
use Rattle.rx_search.specs.Begun.{BeginsOver, rows_of}
use Rattle.rx_search.specs.Ends.{IsEnd}
use Rattle.rx_rank.specs.declared.kind.RankingKind.{RankingKind}
use Rattle.rx_search.specs.Search.{Closed, Searched, visited}
use Rattle.rx_term.specs.declared.rule.Equation.{Equation}
use Rattle.rx_term.specs.declared.rule_set.RuleParts.{RuleParts}
use Rattle.rx_wider.specs.Wider.{wider}
use Rattle.rx_command.specs.declared.command.Effort.{Effort}
use Rattle.rx_cli.specs.Searches.{with_wider}
use Rattle.rx_moves.specs.Moves.{Move, move_of}
use Rattle.rx_search.specs.declared.search_end.SearchEnd.{SearchEnd}
use Rattle.rx_search.specs.declared.search_end.SearchEnd.TheVariants as search_end
use Rattle.std.specs.declared.alloc.Global.{Global}
use Rattle.rx_report.specs.declared.answer.Answer.{Answer}
use Rattle.rx_report.specs.declared.answer.Answer.TheVariants.{Line, RuleText}
use Rattle.rx_report.specs.declared.verdicts.Verdict.{Verdict}
use Rattle.rx_report.specs.declared.verdicts.Verdict.TheVariants as Said
use Rattle.rx_cli.specs.Answers.{IsHeld}
use Rattle.rx_check.specs.declared.check_end.CheckEnd.TheVariants as check_end
use Rattle.rx_logfile.specs.declared.file_end.FileEnd.{FileEnd}
use Rattle.rx_logfile.specs.declared.file_end.FileEnd.TheVariants as file_end
use Rattle.rx_cli.specs.declared.problems.Problem.{Problem}
use Rattle.rx_cli.specs.Checks.{IsChecked, OnRead, OnText, longest_log}
use Rattle.rx_cli.specs.Inductions.{IsReplayed}
use Rattle.rx_cli.specs.Posed.{HeldPoses, LacksProblem, Posing}
use Rattle.rx_cli.specs.Problems.{longest_source}
use Rattle.rx_rulefile.specs.RuleLines.{lines}
use Rattle.rx_rulefile.specs.RuleTexts.{IsRuleText, rule_lines}
use Rattle.rx_report.specs.Texts.{IsReportableVerdict}

-- a precondition, where there is one, is a row form
abbrev pub HasRowForm : Option Expr → Type 0
HasRowForm None = ⊤
HasRowForm (Some pre) = is_row_form pre ≡ true

-- what the translation asks of two functions and a precondition
pub record IsReady (compared : Compared) : Type 0 where
  pub scoped : is_scoped compared.two.program ≡ true
  pub first_counts :
      slice_get (parameter_counts compared.two.program.functions) compared.two.first
      ≡ Some (count_in compared.two.program compared.two.first)
  pub second_counts :
      slice_get (parameter_counts compared.two.program.functions) compared.two.second
      ≡ Some (count_in compared.two.program compared.two.first)
  pub few : count_in compared.two.program compared.two.first < 2 ^ 32
  pub row_form : HasRowForm compared.precondition

-- a verdict that ends the run has a line
abbrev pub IsReportableNext : {B : Type 0} → Next Verdict B → Type 0
IsReportableNext (Ends verdict) = IsReportableVerdict verdict
IsReportableNext (Goes b) = ⊤

-- what is formed, where it keeps the limits; none exactly where it doesn't
abbrev pub FormsSome : {A : Type 0} → Option A → Formed A → Type 0
FormsSome (Some x) f = (x ≡ f.form) × (f.within ≡ true)
FormsSome None f = f.within ≡ false

-- the translation of two functions; none exactly where it passes the limits
abbrev pub Translates : Integers → Compared → Option Translation → Type 0
Translates integers compared (Some t) =
    IsTranslation integers compared.two.program compared.two.first compared.two.second t.rules
    t.first
    t.second
Translates integers compared None =
    IsBeyond integers compared.two.program compared.two.first compared.two.second

-- ---- the search

-- a search that is asked for has at most 12 choices on a path
abbrev pub IsNotDeep : Comparison → Type 0
IsNotDeep (Prove f effort) = effort.depth ≤ 12
IsNotDeep (Check f log) = ⊤
IsNotDeep (Refute f extent) = ⊤

-- a search for a proof of the equation of a rule text that is asked for has at most 12 choices on a
-- path
abbrev pub IsInductionNotDeep : Induction → Type 0
IsInductionNotDeep (Find file effort) = effort.depth ≤ 12
IsInductionNotDeep (Replay file log) = ⊤

-- the moves of a log's steps
abbrev pub moves_of : Log → List Move
moves_of log = map move_of log.steps

-- the wider search follows a search that ended so
abbrev pub is_open : SearchEnd → Bool
is_open search_end.NoRanks = false
is_open (search_end.LargeRanks rows) = false
is_open (search_end.NoPlan depth) = true
is_open (search_end.Spent visits) = false
is_open (search_end.Large path rows) = true
is_open search_end.NoMemory = false

-- what both searches come to over a set that has ranks of this kind
abbrev pub both_over : RankingKind → RuleParts → Equation → Effort → Searched
both_over kind parts goal effort =
    with_wider (visited kind parts goal effort.depth effort.budget)
    (wider kind parts goal effort.depth effort.budget)

-- a log without domains is found over a set: its moves close both searches, and it is accepted
pub record IsOver (kind : RankingKind) (parts : RuleParts) (goal : Equation) (effort : Effort)
    (log : Log) : Type 0 where
  pub closes : both_over kind parts goal effort ≡ Closed (moves_of log)
  pub accepted : verdict_over parts goal log ≡ Accepted
  pub bare : log.domains ≡ None
  pub shallow : is_shallow_log log ≡ true

-- what is found over a set: such a log, or how both searches end
abbrev pub IsFoundOver : RankingKind → RuleParts → Equation → Effort → Result Log SearchEnd → Type 0
IsFoundOver kind parts goal effort (Ok log) = IsOver kind parts goal effort log
IsFoundOver kind parts goal effort (Err end) =
    IsEnd effort.depth effort.budget (both_over kind parts goal effort) end

-- a log of a problem's proof, by what the searches come to; its domains are those with which they
-- begin
pub record IsSolution (problem : Problem) (searched : Searched) (log : Log) : Type 0 where
  pub closes : searched ≡ Closed (moves_of log)
  pub accepted : IsAccepted problem.rules problem.goal log
  pub domains : BeginsOver problem.rules problem.goal (rows_of log.domains)
  pub shallow : is_shallow_log log ≡ true

-- what is found of a problem: such a log, or how the searches end
abbrev pub IsFound : Problem → Effort → Searched → Result Log SearchEnd → Type 0
IsFound problem effort searched (Ok log) = IsSolution problem searched log
IsFound problem effort searched (Err end) = IsEnd effort.depth effort.budget searched end

-- the log that the wider search made, or else the end that was there before it
abbrev pub log_or : SearchEnd → Result (Option Log) NoMemory → Result Log SearchEnd
log_or end (Ok None) = Err end
log_or end (Ok (Some log)) = Ok log
log_or end (Err e) = Err search_end.NoMemory

-- the verdict that names how a search ended without a log; out of memory has none
abbrev pub SaysEnd : SearchEnd → Verdict → Type 0
SaysEnd search_end.NoRanks verdict = verdict ≡ Said.NoRanks
SaysEnd (search_end.NoPlan depth) verdict = verdict ≡ Said.Depth depth
SaysEnd (search_end.Spent visits) verdict = verdict ≡ Said.Visits visits
SaysEnd (search_end.LargeRanks rows) verdict = verdict ≡ Said.LargeSearch
SaysEnd (search_end.Large path rows) verdict = verdict ≡ Said.LargeSearch
SaysEnd search_end.NoMemory verdict = ⊥

-- ---- reading

-- the bytes that a stage hands on
abbrev pub bytes_in : Next Verdict (Vec ℕ Global) → Next Verdict (List ℕ)
bytes_in (Ends verdict) = Ends verdict
bytes_in (Goes bytes) = Goes bytes.items

-- what is known of a file that was read: its bytes, or that it has too many, or that reading failed
abbrev pub Reads : Option Names → Type 0 → List ℕ → ℕ → Verdict → Next Verdict (List ℕ) → Type 0
Reads held fault name limit long (Goes bytes) = HoldsBytes held name bytes × (length bytes ≤ limit)
Reads held fault name limit long (Ends verdict) =
    (HoldsMore held name limit × (verdict ≡ long))
    ⊎ ((fault ⊎ IsMissing held name) × (verdict ≡ Said.ReadFault))

-- the verdict that names why the log in a file isn't accepted; out of memory has none
abbrev pub SaysEndOfLog : FileEnd → Verdict → Type 0
SaysEndOfLog file_end.Failed verdict = verdict ≡ Said.ReadFault
SaysEndOfLog file_end.TooLong verdict = verdict ≡ Said.LongLog
SaysEndOfLog (file_end.BadLine number) verdict = verdict ≡ Said.Line number
SaysEndOfLog (file_end.Check end) verdict =
    (verdict ≡ Said.Check end) × (end ≢ check_end.NoMemory)
SaysEndOfLog file_end.NoMemory verdict = ⊥

-- what is said of the bytes of a log, or why they can't be had
abbrev pub OnNext : Problem → Next Verdict (List ℕ) → Verdict → Type 0
OnNext problem (Ends end) verdict = verdict ≡ end
OnNext problem (Goes bytes) verdict = OnText problem bytes verdict

-- what is said of the log that is read under a name
pub record ChecksRead (held : Option Names) (fault : Type 0) (name : List ℕ) (problem : Problem)
    (verdict : Verdict)
    : Type 0 where
  pub next : Next Verdict (List ℕ)
  pub reads : Reads held fault name longest_log Said.LongLog next
  pub on : OnNext problem next verdict

-- what is said of the log that is under a name, or that a call on the files found a fault
abbrev pub SaidOfNamed : Option Names → Type 0 → List ℕ → Problem → Verdict → Type 0
SaidOfNamed held fault name problem verdict =
    ((given : Option (List ℕ)) × IsHeld held name given × OnRead problem given verdict)
    ⊎ (fault × (verdict ≡ Said.ReadFault))

-- what is said of a text and a log that is read under a name, or that a call on the files found a
-- fault
abbrev pub ChecksNamed : Option Names → Type 0 → Functions → List ℕ → List ℕ → Verdict → Type 0
ChecksNamed held fault f source name verdict =
    ((given : Option (List ℕ)) × IsHeld held name given × IsChecked f source given verdict)
    ⊎ (fault × (verdict ≡ Said.ReadFault))

-- what a text poses to two functions: a problem, or none
abbrev pub PosesOf : Posing → List ℕ → Option Problem → Type 0
PosesOf posing source None = (verdict : Verdict) × posing source (Ends verdict)
PosesOf posing source (Some problem) = posing source (Goes problem)

-- the problem of the text under a name; none where it can't be read, or poses none
abbrev pub PosesIn : Option Names → Type 0 → List ℕ → Posing → Option Problem → Type 0
PosesIn held fault file posing None = LacksProblem held fault file posing
PosesIn held fault file posing (Some problem) = HeldPoses held file posing problem

-- what is said of a rule text and a log that is read under a name, or that a call on the files
-- found a fault
abbrev pub ReplaysNamed : Option Names → Type 0 → List ℕ → List ℕ → Verdict → Type 0
ReplaysNamed held fault source name verdict =
    ((given : Option (List ℕ)) × IsHeld held name given × IsReplayed source given verdict)
    ⊎ (fault × (verdict ≡ Said.ReadFault))

-- ---- writing

-- the rules and the goal keep the limits of rule texts
abbrev pub is_writable : Problem → Bool
is_writable problem = list_all lines.in_range (rule_lines problem.rules problem.goal)

-- the answer to a problem by its text, which it has where it keeps the limits
abbrev pub WritesText : Problem → Answer → Type 0
WritesText problem answer =
    MatchBool (is_writable problem)
    ((text : List ℕ) × IsRuleText text problem.rules problem.goal
    × MatchBool (nat_lt longest_source (length text)) (answer ≡ Line Said.LargeRules)
    (answer ≡ RuleText text))
    (answer ≡ Line Said.LargeRules)
