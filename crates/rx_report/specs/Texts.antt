-- The line of each verdict.
use Rattle.std.specs.Prelude.{ℕ, ◌-◌, ℤ, List, [], ◌∷◌, ◌++◌, ⊤, codes, decimal}
use Rattle.c_lex.specs.declared.error.LexEnd.{LexEnd}
use Rattle.c_lex.specs.declared.error.LexEnd.TheVariants as Fault
use Rattle.c_parse.specs.declared.error.ParseEnd.{ParseEnd}
use Rattle.c_parse.specs.declared.error.ParseEnd.TheVariants as Flaw
use Rattle.c_names.specs.declared.error.ScopeEnd.{ScopeEnd}
use Rattle.c_names.specs.declared.error.ScopeEnd.TheVariants as Wrong
use Rattle.c_front.specs.declared.refusals.Refusal.TheVariants as Why
use Rattle.c_front.specs.FrontEnd.{IsSayable}
use Rattle.rx_check.specs.declared.check_end.CheckEnd.{CheckEnd}
use Rattle.rx_check.specs.declared.check_end.CheckEnd.TheVariants as End
use Rattle.rx_check.specs.declared.check_end.LimitAt.{LimitAt}
use Rattle.rx_check.specs.declared.check_end.LimitAt.TheVariants as At
use Rattle.c_refute.specs.declared.findings.Compared.{Compared}
use Rattle.c_refute.specs.declared.findings.Compared.TheVariants as found
use Rattle.c_meaning.specs.declared.outcomes.Outcome.{Outcome}
use Rattle.c_meaning.specs.declared.outcomes.Outcome.TheVariants as outcome
use Rattle.rx_steps.specs.declared.step_end.StepEnd.{StepEnd}
use Rattle.rx_steps.specs.declared.step_end.StepEnd.TheVariants as Unmet
use Rattle.rx_text.specs.Numbers.{integer_text, natural_text}
use Rattle.rx_report.specs.declared.verdicts.Verdict.{Verdict}
use Rattle.rx_report.specs.declared.verdicts.Verdict.TheVariants as Said

-- a line that ends in a number
abbrev pub numbered_line : List ℕ → ℕ → List ℕ
numbered_line words number = words ++ (decimal number ++ codes "\n")

-- ---- the front end

-- a refusal by its words and its place
abbrev pub place_line : List ℕ → ℕ → List ℕ
place_line words at = codes "REFUSED " ++ (words ++ (codes " at " ++ (decimal at ++ codes "\n")))

-- the line of a source that is no list of tokens; running out of memory has none
abbrev pub lex_line : LexEnd → List ℕ
lex_line (Fault.BadByte at) = place_line (codes "lex bad-byte") at
lex_line (Fault.OpenComment at) = place_line (codes "lex open-comment") at
lex_line (Fault.LiteralTooLarge at) = place_line (codes "lex literal-too-large") at
lex_line (Fault.LeadingZero at) = place_line (codes "lex leading-zero") at
lex_line (Fault.Directive at) = place_line (codes "lex directive") at
lex_line Fault.NoMemory = []

-- the line of a source that spells no program within the limits; running out of memory has none,
-- and what is said of preconditions alone has none
abbrev pub parse_line : ParseEnd → List ℕ
parse_line (Flaw.Syntax token) = place_line (codes "syntax") token
parse_line (Flaw.TooDeep token) = place_line (codes "deep") token
parse_line (Flaw.TooManyParams token) = place_line (codes "params") token
parse_line Flaw.NoMemory = []
parse_line Flaw.NotARowForm = []

-- the line of a program that isn't well formed; running out of memory has none
abbrev pub scope_line : ScopeEnd → List ℕ
scope_line (Wrong.UnknownName token) = place_line (codes "scope unknown-name") token
scope_line (Wrong.TwiceDeclared token) = place_line (codes "scope twice-declared") token
scope_line (Wrong.WrongCount token) = place_line (codes "scope wrong-count") token
scope_line (Wrong.MayBeUnset token) = place_line (codes "scope may-be-unset") token
scope_line (Wrong.MayNotReturn token) = place_line (codes "scope may-not-return") token
scope_line (Wrong.StrayBreak token) = place_line (codes "scope stray-break") token
scope_line (Wrong.TooManySlots token) = place_line (codes "scope too-many-slots") token
scope_line Wrong.NoMemory = []

-- the line of two functions with different numbers of parameters
abbrev pub arity_line : ℕ → ℕ → List ℕ
arity_line first second =
    codes "REFUSED arity " ++ (decimal first ++ (codes " " ++ (decimal second ++ codes "\n")))

-- the line of a precondition that is no list of tokens; running out of memory has none
abbrev pub pre_lex_line : LexEnd → List ℕ
pre_lex_line (Fault.BadByte at) = place_line (codes "pre bad-byte") at
pre_lex_line (Fault.OpenComment at) = place_line (codes "pre open-comment") at
pre_lex_line (Fault.LiteralTooLarge at) = place_line (codes "pre literal-too-large") at
pre_lex_line (Fault.LeadingZero at) = place_line (codes "pre leading-zero") at
pre_lex_line (Fault.Directive at) = place_line (codes "pre directive") at
pre_lex_line Fault.NoMemory = []

-- the line of a precondition that spells no row form within the limits; running out of memory has
-- none, and what is said of programs alone has none
abbrev pub pre_parse_line : ParseEnd → List ℕ
pre_parse_line (Flaw.Syntax token) = place_line (codes "pre syntax") token
pre_parse_line (Flaw.TooDeep token) = place_line (codes "pre deep") token
pre_parse_line Flaw.NotARowForm = codes "REFUSED pre not-row-form\n"
pre_parse_line (Flaw.TooManyParams token) = []
pre_parse_line Flaw.NoMemory = []

-- ---- logs

-- the line of a step, by its number and by words
abbrev pub step_line : ℕ → List ℕ → List ℕ
step_line step words =
    codes "REFUSED step " ++ (decimal step ++ (codes " " ++ (words ++ codes "\n")))

-- the line of a step that doesn't apply; running out of memory has none, and what passes the limits
-- has its own
abbrev pub unmet_line : ℕ → StepEnd → List ℕ
unmet_line step Unmet.NoGoal = step_line step (codes "no-goal")
unmet_line step Unmet.WrongShape = step_line step (codes "wrong-shape")
unmet_line step Unmet.NoSuchRule = step_line step (codes "no-such-rule")
unmet_line step (Unmet.NotShown condition) =
    step_line step (codes "not-shown " ++ decimal condition)
unmet_line step Unmet.Large = []
unmet_line step Unmet.NoMemory = []

-- the line of a place that passes the limits
abbrev pub large_line : LimitAt → List ℕ
large_line (At.Keep part) = numbered_line (codes "LARGE keep ") part
large_line (At.Cover symbol) = numbered_line (codes "LARGE cover s") symbol
large_line (At.Step step) = numbered_line (codes "LARGE step ") step
large_line (At.Pair pair) = numbered_line (codes "LARGE pair ") pair

-- the line of a log that isn't accepted; running out of memory has none
abbrev pub check_line : CheckEnd → List ℕ
check_line (End.BadDomain symbol) = numbered_line (codes "REFUSED domain s") symbol
check_line (End.NotKept part) = numbered_line (codes "REFUSED keep ") part
check_line (End.Step step end) = unmet_line step end
check_line (End.Unfinished goals) = numbered_line (codes "REFUSED unfinished ") goals
check_line (End.NotCovered symbol) = numbered_line (codes "REFUSED cover s") symbol
check_line (End.BadRanks symbol) = numbered_line (codes "REFUSED ranks s") symbol
check_line (End.NotLower pair) = numbered_line (codes "REFUSED pair ") pair
check_line (End.Large place) = large_line place
check_line End.NoMemory = []

-- ---- comparisons over points

-- the integer, or `div0`; an outcome that more rounds might change has no text
abbrev pub outcome_text : Outcome → List ℕ
outcome_text (outcome.Value x) = integer_text x
outcome_text outcome.DivError = codes "div0"
outcome_text outcome.More = []
outcome_text outcome.Over = []

-- the last thing of a line, after a word
abbrev pub last_text : List ℕ → List ℕ → List ℕ
last_text word thing = word ++ (thing ++ codes "\n")

-- arguments, each after a space
abbrev pub arguments_text : List ℤ → List ℕ
arguments_text [] = []
arguments_text (x ∷ xs) = codes " " ++ (integer_text x ++ arguments_text xs)

-- both outcomes, and the line's end
abbrev pub outcomes_text : Outcome → Outcome → List ℕ
outcomes_text first second =
    codes " : " ++ (outcome_text first ++ last_text (codes " ") (outcome_text second))

-- the line of two different outcomes at these arguments
abbrev pub different_line : List ℤ → Outcome → Outcome → List ℕ
different_line arguments first second =
    codes "DIFFERENT" ++ (arguments_text arguments ++ outcomes_text first second)

-- the line of n points found alike and m undecided
abbrev pub alike_line : ℕ → ℕ → List ℕ
alike_line points undecided =
    codes "ALIKE points " ++ (natural_text points
    ++ last_text (codes " undecided ") (natural_text undecided))

-- the line on how two functions compare
abbrev pub found_text : Compared → List ℕ
found_text (found.Different arguments first second) = different_line arguments first second
found_text (found.Alike points undecided) = alike_line points undecided

-- ---- all

-- the line of words that ask for nothing
abbrev pub usage_line : List ℕ
usage_line =
    codes
    "usage: ctrl MODE FILE [F] [G] [LOG] [--pre E] [--depth N] [--budget N] [--box N] [--rounds N] [--int32]\n"

-- the line of n examples, of which m are proved and k aren't
abbrev pub counts_line : ℕ → ℕ → ℕ → List ℕ
counts_line pairs equivalent unknown =
    codes "demo " ++ (decimal pairs ++ (codes " equivalent " ++ (decimal equivalent
    ++ (codes " unknown " ++ (decimal unknown ++ codes "\n")))))

abbrev pub demo_line : ℕ → ℕ → List ℕ
demo_line pairs equivalent = counts_line pairs equivalent (pairs - equivalent)

-- the line of a verdict
abbrev pub text_of : Verdict → List ℕ
text_of Said.Equivalent = codes "EQUIVALENT\n"
text_of Said.NoRanks = codes "UNKNOWN ranks\n"
text_of (Said.Depth depth) = numbered_line (codes "UNKNOWN depth ") depth
text_of (Said.Visits visits) = numbered_line (codes "UNKNOWN visits ") visits
text_of (Said.Demo pairs equivalent) = demo_line pairs equivalent
text_of Said.LongSource = codes "REFUSED long source\n"
text_of Said.LongLog = codes "REFUSED long log\n"
text_of (Said.Lex fault) = lex_line fault
text_of (Said.Parse end) = parse_line end
text_of (Said.Scope end) = scope_line end
text_of (Said.WideLiteral token) = place_line (codes "wide-literal") token
text_of (Said.NoFunction name) = numbered_line (codes "REFUSED no-function ") name
text_of (Said.Arity first second) = arity_line first second
text_of (Said.PreLex fault) = pre_lex_line fault
text_of (Said.PreParse end) = pre_parse_line end
text_of (Said.PreName token) = place_line (codes "pre unknown-name") token
text_of (Said.Box count) = numbered_line (codes "REFUSED box ") count
text_of (Said.Line number) = numbered_line (codes "REFUSED line ") number
text_of (Said.Check end) = check_line end
text_of (Said.RuleLine number) = numbered_line (codes "REFUSED rule-line ") number
text_of (Said.NotMade rule) = numbered_line (codes "REFUSED not-made ") rule
text_of Said.NoCover = codes "UNKNOWN cover\n"
text_of Said.Inductive = codes "INDUCTIVE\n"
text_of Said.Usage = usage_line
text_of Said.ReadFault = codes "READ FAULT\n"
text_of Said.LargeTranslate = codes "LARGE translate\n"
text_of Said.LargePre = codes "LARGE pre\n"
text_of Said.LargeSearch = codes "LARGE search\n"
text_of Said.LargeRules = codes "LARGE rules\n"

-- an end of a replay that has a line: it isn't out of memory, and a step that passes the limits
-- isn't a step that doesn't apply
abbrev pub IsSayableEnd : CheckEnd → Type 0
IsSayableEnd (End.Step step Unmet.Large) = ⊥
IsSayableEnd (End.Step step Unmet.NoMemory) = ⊥
IsSayableEnd End.NoMemory = ⊥
IsSayableEnd end = ⊤

-- a verdict that has a line: no end inside is out of memory, or one that has its line elsewhere
abbrev pub IsReportableVerdict : Verdict → Type 0
IsReportableVerdict (Said.Lex fault) = IsSayable (Why.Lex fault)
IsReportableVerdict (Said.Parse end) = IsSayable (Why.Parse end)
IsReportableVerdict (Said.Scope end) = IsSayable (Why.Scope end)
IsReportableVerdict (Said.PreLex fault) = IsSayable (Why.PreLex fault)
IsReportableVerdict (Said.PreParse end) = IsSayable (Why.PreParse end)
IsReportableVerdict (Said.Check end) = IsSayableEnd end
IsReportableVerdict verdict = ⊤
