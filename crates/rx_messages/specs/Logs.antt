-- What a message shows of a log: a line of it, and at a step the first goal of the state before. And
-- the line that it shows of a rule text.
use Rattle.std.specs.Prelude.{◌≡◌, ◌+◌, ◌^◌, ℕ, Bool, true, false, List, [], ◌∷◌, ◌++◌, Option, Some, None, codes, decimal, is_none, length, option_map, if◌then◌else◌}
use Rattle.rx_check.specs.declared.check_end.CheckEnd.{CheckEnd}
use Rattle.rx_check.specs.declared.check_end.CheckEnd.TheVariants as End
use Rattle.rx_check.specs.declared.check_end.LimitAt.{LimitAt}
use Rattle.rx_check.specs.declared.check_end.LimitAt.TheVariants as At
use Rattle.rx_domain.specs.Setting.{bad_domain, with_domains}
use Rattle.rx_goal_words.specs.ConditionTexts.{condition_text}
use Rattle.rx_goal_words.specs.GoalTexts.{state_text}
use Rattle.rx_goal_words.specs.PairTexts.{pair_text}
use Rattle.rx_goal_words.specs.RuleTexts.{is_of_symbol, rules_text}
use Rattle.rx_inference.specs.declared.step.Step.{Step}
use Rattle.rx_io.specs.Outside.{Names}
use Rattle.rx_logstate.specs.AtSteps.{IsAtStep, OnLog, Stand}
use Rattle.rx_logstate.specs.Fronts.{fronts_of}
use Rattle.rx_logstate.specs.declared.at_step.AtStep.{AtStep}
use Rattle.rx_logstate.specs.declared.front_lines.Fronts.{Fronts}
use Rattle.rx_places.specs.Excerpts.{numbered}
use Rattle.rx_places.specs.LineFronts.{IsLineHeld}
use Rattle.rx_report.specs.declared.verdicts.Verdict.{Verdict}
use Rattle.rx_report.specs.declared.verdicts.Verdict.TheVariants as Said
use Rattle.rx_row.specs.declared.row.Row.{Row}
use Rattle.rx_steps.specs.declared.step_end.StepEnd.{StepEnd}
use Rattle.rx_steps.specs.declared.step_end.StepEnd.TheVariants as Unmet
use Rattle.rx_term.specs.declared.rule_set.RuleParts.{RuleParts}
use Rattle.rx_messages.specs.RuleTexts.{AreSymbols, is_about_rule, rule_line}
use Rattle.rx_messages.specs.declared.logs.Facts as code
use Rattle.rx_messages.specs.declared.logs.Posed.{Posed}

-- ---- the step

-- the most bytes of a log, and of any file of which a line is shown
abbrev pub longest_log : ℕ
longest_log = 67108864

-- a log has fewer steps, so here it is at the end of its steps
abbrev pub all_steps : ℕ
all_steps = 2 ^ 32

-- the step at which the log is looked at
abbrev pub step_of_limit : LimitAt → Option ℕ
step_of_limit (At.Keep part) = None
step_of_limit (At.Cover symbol) = None
step_of_limit (At.Step step) = Some step
step_of_limit (At.Pair pair) = Some all_steps

abbrev pub step_of_end : CheckEnd → Option ℕ
step_of_end (End.BadDomain symbol) = None
step_of_end (End.NotKept part) = None
step_of_end (End.Step step end) = Some step
step_of_end (End.Unfinished goals) = Some all_steps
step_of_end (End.NotCovered symbol) = None
step_of_end (End.BadRanks symbol) = Some all_steps
step_of_end (End.NotLower pair) = Some all_steps
step_of_end (End.Large place) = step_of_limit place
step_of_end End.NoMemory = None

abbrev pub step_wanted : Option Verdict → Option ℕ
step_wanted None = None
step_wanted (Some (Said.Check end)) = step_of_end end
step_wanted (Some verdict) = None

-- at that step of the log that is held under the name, for the rules and the goal
abbrev pub IsStepFound : Option Names → List ℕ → Posed → ℕ → Option AtStep → Type 0
IsStepFound held name posed number None = ⊥
IsStepFound held name posed number (Some found) =
    Stand held name (λ bytes. OnLog bytes (λ log.
    IsAtStep posed.rules posed.goal log number found))

abbrev pub IsFoundFor : Option Names → List ℕ → Posed → Option ℕ → Option AtStep → Type 0
IsFoundFor held name posed None found = found ≡ None
IsFoundFor held name posed (Some number) found = IsStepFound held name posed number found

abbrev pub IsFoundIn : Option Names → List ℕ → Option Posed → Option ℕ → Option AtStep → Type 0
IsFoundIn held name None wanted found = found ≡ None
IsFoundIn held name (Some posed) wanted found = IsFoundFor held name posed wanted found

-- the same where there may be no log, no problem, or no such step
abbrev pub IsFound : Option Names → Option (List ℕ) → Option Posed → Option ℕ → Option AtStep →
    Type 0
IsFound held None posed wanted found = found ≡ None
IsFound held (Some name) posed wanted found = IsFoundIn held name posed wanted found

-- ---- the lines before the steps

-- it is about the certificates of a part or the trees of a symbol: where these lines are depends on
-- how many domains there are
abbrev pub is_limit_before : LimitAt → Bool
is_limit_before (At.Keep part) = true
is_limit_before (At.Cover symbol) = true
is_limit_before (At.Step step) = false
is_limit_before (At.Pair pair) = false

abbrev pub is_end_before : CheckEnd → Bool
is_end_before (End.NotKept part) = true
is_end_before (End.NotCovered symbol) = true
is_end_before (End.Large place) = is_limit_before place
is_end_before end = false

abbrev pub is_before_steps : Option Verdict → Bool
is_before_steps (Some (Said.Check end)) = is_end_before end
is_before_steps verdict = false

-- so these lines begin in the log that is held under the name
abbrev pub AreFrontsFound : Option Names → List ℕ → Option Fronts → Type 0
AreFrontsFound held name None = ⊥
AreFrontsFound held name (Some fronts) =
    Stand held name (λ bytes. OnLog bytes (λ log. fronts ≡ fronts_of log))

abbrev pub AreFrontsFor : Option Names → List ℕ → Bool → Option Fronts → Type 0
AreFrontsFor held name false fronts = fronts ≡ None
AreFrontsFor held name true fronts = AreFrontsFound held name fronts

-- the same where there may be no log, or it is no matter
abbrev pub AreFronts : Option Names → Option (List ℕ) → Bool → Option Fronts → Type 0
AreFronts held None wanted fronts = fronts ≡ None
AreFronts held (Some name) wanted fronts = AreFrontsFor held name wanted fronts

-- ---- the line

-- the line of that step
abbrev pub line_at : Option AtStep → Option ℕ
line_at found = option_map (λ at. at.line) found

-- so many lines after it
abbrev pub line_past : ℕ → Option AtStep → Option ℕ
line_past lines found = option_map (λ at. at.line + lines) found

-- the certificates of that part
abbrev pub keep_line : ℕ → Option Fronts → Option ℕ
keep_line part fronts = option_map (λ at. at.keeps + part) fronts

-- the trees of that symbol
abbrev pub cover_line : ℕ → Option Fronts → Option ℕ
cover_line symbol fronts = option_map (λ at. at.covers + symbol) fronts

-- the pairs come after the line that begins the ranks, and the ranks
abbrev pub pair_line : ℕ → Option AtStep → Option ℕ
pair_line pair found = option_map (λ at. at.line + 1 + length at.table.ranks + pair) found

abbrev pub line_of_limit : LimitAt → Option AtStep → Option Fronts → Option ℕ
line_of_limit (At.Keep part) found fronts = keep_line part fronts
line_of_limit (At.Cover symbol) found fronts = cover_line symbol fronts
line_of_limit (At.Step step) found fronts = line_at found
line_of_limit (At.Pair pair) found fronts = pair_line pair found

-- the domains come after the header
abbrev pub line_of_end : CheckEnd → Option AtStep → Option Fronts → Option ℕ
line_of_end (End.BadDomain symbol) found fronts = Some (2 + symbol)
line_of_end (End.NotKept part) found fronts = keep_line part fronts
line_of_end (End.Step step end) found fronts = line_at found
line_of_end (End.Unfinished goals) found fronts = line_at found
line_of_end (End.NotCovered symbol) found fronts = cover_line symbol fronts
line_of_end (End.BadRanks symbol) found fronts = line_past (1 + symbol) found
line_of_end (End.NotLower pair) found fronts = pair_line pair found
line_of_end (End.Large place) found fronts = line_of_limit place found fronts
line_of_end End.NoMemory found fronts = None

-- the line of the log, or of the rule text, that a report is about
abbrev pub line_wanted : Option Verdict → Option AtStep → Option Fronts → Option ℕ → Option ℕ
line_wanted None found fronts symbols = None
line_wanted (Some (Said.Line number)) found fronts symbols = Some number
line_wanted (Some (Said.Check end)) found fronts symbols = line_of_end end found fronts
line_wanted (Some (Said.RuleLine number)) found fronts symbols = Some number
line_wanted (Some (Said.NotMade rule)) found fronts symbols = rule_line rule symbols
line_wanted (Some verdict) found fronts symbols = None

abbrev pub IsLineIn : Option Names → List ℕ → Option ℕ → List ℕ → Type 0
IsLineIn held name None line = line ≡ []
IsLineIn held name (Some number) line = IsLineHeld held name longest_log 201 number line

-- the first bytes of that line of the file that is held under the name
abbrev pub IsLine : Option Names → Option (List ℕ) → Option ℕ → List ℕ → Type 0
IsLine held None wanted line = line ≡ []
IsLine held (Some name) wanted line = IsLineIn held name wanted line

-- ---- all facts

-- what is known of the log, or of the rule text, for a message
pub record Facts : Type 0 where
  pub posed : Option Posed
  pub found : Option AtStep
  pub fronts : Option Fronts
  pub symbols : Option ℕ
  pub number : Option ℕ
  pub line : List ℕ

-- that is so of the file that is held under the name, after a report
pub record AreFacts (held : Option Names) (name : Option (List ℕ)) (posed : Option Posed)
    (verdict : Option Verdict) (facts : Facts)
    : Type 0 where
  pub same : facts.posed ≡ posed
  pub at : IsFound held name posed (step_wanted verdict) facts.found
  pub fronts : AreFronts held name (is_before_steps verdict) facts.fronts
  pub symbols : AreSymbols held name (is_about_rule verdict) facts.symbols
  pub number : facts.number ≡ line_wanted verdict facts.found facts.fronts facts.symbols
  pub line : IsLine held name facts.number facts.line

-- ---- what is shown

-- the number of the line
abbrev pub number_text : Option ℕ → List ℕ
number_text None = []
number_text (Some number) = codes ":" ++ decimal number

-- the line under its number; of a line of more than 200 bytes the first
abbrev pub line_text : Option ℕ → List ℕ → List ℕ
line_text None line = []
line_text (Some number) line = numbered number line

-- the rules with the domains of a log, if it has any
abbrev pub rules_inside : RuleParts → Option (List (List Row)) → RuleParts
rules_inside parts None = parts
rules_inside parts (Some rows) = with_domains parts rows

-- the domains, if there are any, are lawful
abbrev pub are_lawful : RuleParts → Option (List (List Row)) → Bool
are_lawful parts None = true
are_lawful parts (Some rows) = is_none (bad_domain parts.symbols rows)

-- the condition with this number of the step, if there is a step
abbrev pub condition_of : RuleParts → AtStep → ℕ → List Step → List ℕ
condition_of parts at number [] = []
condition_of parts at number (step ∷ more) = condition_text parts at.state step number

-- the same over the rules with the domains of the log, if these are lawful
abbrev pub condition_inside : RuleParts → AtStep → ℕ → List ℕ
condition_inside parts at number =
    if are_lawful parts at.domains
    then condition_of (rules_inside parts at.domains) at number at.step
    else []

-- the condition that isn't shown
abbrev pub unmet_text : RuleParts → AtStep → StepEnd → List ℕ
unmet_text parts at (Unmet.NotShown number) = condition_inside parts at number
unmet_text parts at end = []

-- of a step that fails: the condition, and the state before it
abbrev pub step_text : RuleParts → StepEnd → Option AtStep → List ℕ
step_text parts end None = []
step_text parts end (Some at) = unmet_text parts at end ++ state_text parts at.state

-- the state, if one is known
abbrev pub goal_text : RuleParts → Option AtStep → List ℕ
goal_text parts None = []
goal_text parts (Some at) = state_text parts at.state

-- the pair with this number over the rules with the domains of the log, if these are lawful, and the
-- hypotheses at the step, with the ranks of the log
abbrev pub pair_inside : RuleParts → AtStep → ℕ → List ℕ
pair_inside parts at number =
    if are_lawful parts at.domains
    then pair_text (rules_inside parts at.domains) at.state at.table number
    else []

-- the same where the end of the steps is known
abbrev pub pair_shown : RuleParts → ℕ → Option AtStep → List ℕ
pair_shown parts number None = []
pair_shown parts number (Some at) = pair_inside parts at number

-- the rules of a symbol
abbrev pub symbol_text : RuleParts → ℕ → List ℕ
symbol_text parts symbol =
    codes "  rules of s" ++ (decimal symbol ++ (codes ":\n"
    ++ rules_text (is_of_symbol symbol) 0 parts.rules))

abbrev pub limit_text : RuleParts → LimitAt → Option AtStep → List ℕ
limit_text parts (At.Keep part) found = []
limit_text parts (At.Cover symbol) found = symbol_text parts symbol
limit_text parts (At.Step step) found = goal_text parts found
limit_text parts (At.Pair pair) found = pair_shown parts pair found

abbrev pub end_text : RuleParts → CheckEnd → Option AtStep → List ℕ
end_text parts (End.BadDomain symbol) found = symbol_text parts symbol
end_text parts (End.NotKept part) found = []
end_text parts (End.Step step end) found = step_text parts end found
end_text parts (End.Unfinished goals) found = goal_text parts found
end_text parts (End.NotCovered symbol) found = symbol_text parts symbol
end_text parts (End.BadRanks symbol) found = symbol_text parts symbol
end_text parts (End.NotLower pair) found = pair_shown parts pair found
end_text parts (End.Large place) found = limit_text parts place found
end_text parts End.NoMemory found = []

abbrev pub posed_text : Option Posed → CheckEnd → Option AtStep → List ℕ
posed_text None end found = []
posed_text (Some posed) end found = end_text posed.rules end found

abbrev pub details : Facts → Verdict → List ℕ
details facts (Said.Check end) = posed_text facts.posed end facts.found
details facts verdict = []

-- the line, and more of the check
abbrev pub log_text : Facts → Verdict → List ℕ
log_text facts verdict = line_text facts.number facts.line ++ details facts verdict

-- ---- the values of the code

abbrev pub facts_view : code.Facts → Facts
facts_view facts = record {
  posed = option_map (λ posed. posed.now) facts.posed;
  found = facts.found;
  fronts = facts.fronts;
  symbols = facts.symbols;
  number = facts.number;
  line = facts.line.items;
}
