-- What a reader of rule texts answers.
use Rattle.std.specs.Prelude.{◌≡◌, ℕ, Some, None, Result, Ok, Err, List}
use Rattle.rx_term.specs.declared.rule.Equation.{Equation}
use Rattle.rx_term.specs.declared.rule_set.RuleParts.{RuleParts}
use Rattle.rx_lines.specs.Orders.{IsFirstBad}
use Rattle.rx_rulefile.specs.Places.{rule_order}
use Rattle.rx_rulefile.specs.RuleTexts.{IsRuleText, first_unmade}
use Rattle.rx_rulefile.specs.declared.rule_end.RuleEnd.{RuleEnd}
use Rattle.rx_rulefile.specs.declared.rule_end.RuleEnd.TheVariants as end

-- before it is asked what is well made: the parts of a rule set and the equation whose text this
-- is, or the first line with which no rule text begins
abbrev pub ReadsParts : List ℕ → Result (RuleParts × Equation) RuleEnd → Type 0
ReadsParts text (Ok it) = IsRuleText text it.0 it.1
ReadsParts text (Err (end.BadLine number)) = IsFirstBad rule_order text number
ReadsParts text (Err (end.NotMade rule)) = ⊥
ReadsParts text (Err end.NoMemory) = Unit {0}

-- the well made rule set and the fitting equation whose text this is; or the first line with which
-- no rule text begins; or the first rule that isn't well made, where the number of rules stands for
-- an equation that doesn't fit
abbrev pub ReadsRules : List ℕ → Result (RuleParts × Equation) RuleEnd → Type 0
ReadsRules text (Ok it) = IsRuleText text it.0 it.1 × (first_unmade it.0 it.1 ≡ None)
ReadsRules text (Err (end.BadLine number)) = IsFirstBad rule_order text number
ReadsRules text (Err (end.NotMade rule)) =
    (parts : RuleParts) × ((goal : Equation)
    × (IsRuleText text parts goal × (first_unmade parts goal ≡ Some rule)))
ReadsRules text (Err end.NoMemory) = Unit {0}
