-- A rule set with an equation as text, and the first rule that isn't well made.
use Rattle.std.specs.Prelude.{◌≡◌, ℕ, ◌+◌, true, not, ◌&&◌, if◌then◌else◌, Option, Some, None, List, [], ◌∷◌, ◌++◌, length, map}
use Rattle.std.specs.List.{list_all, position}
use Rattle.std.specs.Option.{option_or}
use Rattle.rx_term.specs.Fitting.{term_fits}
use Rattle.rx_term.specs.MadeTest.{is_made}
use Rattle.rx_term.specs.declared.rule.Equation.{Equation}
use Rattle.rx_term.specs.declared.rule_set.RuleParts.{RuleParts}
use Rattle.rx_term.specs.declared.rule_set.SymInfo.{SymInfo}
use Rattle.rx_lines.specs.Texts.{ended}
use Rattle.rx_rulefile.specs.RuleLines.{lines}
use Rattle.rx_rulefile.specs.declared.rule_line.RuleLine.{RuleLine}
use Rattle.rx_rulefile.specs.declared.rule_line.RuleLine.TheVariants as line

-- ---- texts

-- the symbols with their numbers, from this one on
abbrev pub numbered : ℕ → List SymInfo → List RuleLine
numbered number [] = []
numbered number (s ∷ symbols) = line.Symbol number s ∷ numbered (number + 1) symbols

-- the lines of a rule set, in order
abbrev pub set_lines : RuleParts → List RuleLine
set_lines parts =
    line.Header ∷ line.Fails parts.fails
    ∷ (numbered 0 parts.symbols ++ map line.Rule parts.rules)

-- the lines of a rule text, in order
abbrev pub rule_lines : RuleParts → Equation → List RuleLine
rule_lines parts goal = set_lines parts ++ (line.Equation goal ∷ line.End ∷ [])

-- the text is that of the rule set, whose symbols have no domains, and the equation
pub record IsRuleText (text : List ℕ) (parts : RuleParts) (goal : Equation) : Type 0 where
  pub in_range : list_all lines.in_range (rule_lines parts goal) ≡ true
  pub is : text ≡ ended (map lines.text (rule_lines parts goal))
  pub no_domains : parts.domains ≡ []

-- ---- what isn't well made

-- the first rule that isn't
abbrev pub unmade_rule : RuleParts → Option ℕ
unmade_rule parts = position (λ rule. not (is_made parts rule)) parts.rules

-- the number of rules, where the equation doesn't fit the symbols
abbrev pub unfitting_goal : RuleParts → Equation → Option ℕ
unfitting_goal parts goal =
    if term_fits parts goal.left && term_fits parts goal.right
    then None
    else Some (length parts.rules)

-- the first of these
abbrev pub first_unmade : RuleParts → Equation → Option ℕ
first_unmade parts goal = option_or (unmade_rule parts) (unfitting_goal parts goal)
