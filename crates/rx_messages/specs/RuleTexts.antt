-- What a message shows of a rule text: a line of it.
use Rattle.std.specs.Prelude.{◌≡◌, ◌+◌, ℕ, Bool, true, false, List, Option, Some, None, length, option_map, if◌then◌else◌}
use Rattle.rx_io.specs.Outside.{Names}
use Rattle.rx_lines.specs.Orders.{IsFirstBad}
use Rattle.rx_logstate.specs.AtSteps.{Stand}
use Rattle.rx_report.specs.declared.verdicts.Verdict.{Verdict}
use Rattle.rx_report.specs.declared.verdicts.Verdict.TheVariants as Said
use Rattle.rx_rulefile.specs.Places.{rule_order}
use Rattle.rx_rulefile.specs.RuleTexts.{IsRuleText}
use Rattle.rx_term.specs.declared.rule.Equation.{Equation}
use Rattle.rx_term.specs.declared.rule_set.RuleParts.{RuleParts}
use Rattle.rx_messages.specs.Asked.{Asked}

-- ---- what a report is about

-- a line of the rule text, by its number or by that of a rule
abbrev pub is_of_rules : Verdict → Bool
is_of_rules (Said.RuleLine number) = true
is_of_rules (Said.NotMade rule) = true
is_of_rules verdict = false

abbrev pub is_about_rules : Option Verdict → Bool
is_about_rules None = false
is_about_rules (Some verdict) = is_of_rules verdict

-- the file of which a line is shown: the rule text, or else the log
abbrev pub lines_name : Asked → Option Verdict → Option (List ℕ)
lines_name asked verdict = if is_about_rules verdict then asked.rules else asked.log

-- a rule, whose line depends on how many symbols there are
abbrev pub is_of_rule : Verdict → Bool
is_of_rule (Said.NotMade rule) = true
is_of_rule verdict = false

abbrev pub is_about_rule : Option Verdict → Bool
is_about_rule None = false
is_about_rule (Some verdict) = is_of_rule verdict

-- ---- how many symbols

-- the bytes are the text of a rule set with so many symbols
abbrev pub HasSymbols : ℕ → List ℕ → Type 0
HasSymbols count bytes =
    (parts : RuleParts) × (goal : Equation) × IsRuleText bytes parts goal
    × (count ≡ length parts.symbols)

-- the bytes are no rule text
abbrev pub IsNoRuleText : List ℕ → Type 0
IsNoRuleText bytes = (line : ℕ) × IsFirstBad rule_order bytes line

-- so many has the rule text that is held under the name
abbrev pub AreSymbolsFound : Option Names → List ℕ → Option ℕ → Type 0
AreSymbolsFound held name None = ⊥
AreSymbolsFound held name (Some count) = Stand held name (HasSymbols count)

abbrev pub AreSymbolsFor : Option Names → List ℕ → Bool → Option ℕ → Type 0
AreSymbolsFor held name false symbols = symbols ≡ None
AreSymbolsFor held name true symbols = AreSymbolsFound held name symbols

-- the same where there may be no file, or it is no matter
abbrev pub AreSymbols : Option Names → Option (List ℕ) → Bool → Option ℕ → Type 0
AreSymbols held None wanted symbols = symbols ≡ None
AreSymbols held (Some name) wanted symbols = AreSymbolsFor held name wanted symbols

-- ---- the line

-- the line of the rule with this number: two lines and the symbols come before the rules, and the
-- equation comes behind them
abbrev pub rule_line : ℕ → Option ℕ → Option ℕ
rule_line rule symbols = option_map (λ count. 3 + count + rule) symbols
