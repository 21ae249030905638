-- A text is that of one rule set with one equation, or has one first bad line, and never both.
use Rattle.std.proofs.Common.{◌≡◌, ◌∙◌, sym, subst, ℕ, List, map}
use Rattle.rx_term.specs.declared.rule.Equation.{Equation}
use Rattle.rx_term.specs.declared.rule_set.RuleParts.{RuleParts}
use Rattle.rx_lines.specs.Orders.{IsFirstBad}
use Rattle.rx_lines.proofs.OrderLaws as order
use Rattle.rx_rulefile.specs.Places.{rule_order}
use Rattle.rx_rulefile.specs.RuleLines.{lines}
use Rattle.rx_rulefile.specs.RuleTexts.{IsRuleText, rule_lines}
use Rattle.rx_rulefile.proofs.GatheringLaws.{given_by_lines, leads_to_end}
use Rattle.rx_rulefile.proofs.RuleOrder.{rules_in_order}

pub one : (text : List ℕ) (p q : RuleParts) (g h : Equation) → IsRuleText text p g →
    IsRuleText text q h → (p ≡ q) × (g ≡ h)
one text p q g h a b =
    let texts : map lines.text (rule_lines p g) ≡ map lines.text (rule_lines q h) =
    order.one_list rule_order rules_in_order (map lines.text (rule_lines p g))
    (map lines.text (rule_lines q h)) (leads_to_end a) (leads_to_end b) (sym a.is ∙ b.is) in
    given_by_lines p q g h a.no_domains b.no_domains
    (order.same_lines rule_order rules_in_order (rule_lines p g) (rule_lines q h) a.in_range
    b.in_range texts)

pub never_both : (text : List ℕ) (parts : RuleParts) (goal : Equation) (number : ℕ) →
    IsRuleText text parts goal → IsFirstBad rule_order text number → ⊥
never_both text parts goal number a b =
    order.never_both rule_order rules_in_order (map lines.text (rule_lines parts goal)) number
    (leads_to_end a) (subst (λ (t : List ℕ). IsFirstBad rule_order t number) a.is b)

pub one_bad_line : (text : List ℕ) (m n : ℕ) → IsFirstBad rule_order text m →
    IsFirstBad rule_order text n → m ≡ n
one_bad_line = order.one_bad_line rule_order rules_in_order
