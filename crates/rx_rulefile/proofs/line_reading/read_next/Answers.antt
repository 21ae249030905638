use Rattle.std.proofs.Common.{sym, subst, Option}
use Rattle.rx_lines.specs.Texts.{ReadsAll}
use Rattle.rx_lines.proofs.OrderLaws.{only_it}
use Rattle.rx_rulefile.specs.Places.{rule_order}
use Rattle.rx_rulefile.specs.RuleLines.{lines}
use Rattle.rx_rulefile.specs.declared.rule_line.RuleLine.{RuleLine}
use Rattle.rx_rulefile.proofs.RuleOrder.{rules_in_order}
use Rattle.rx_rulefile.proofs.line_reading.read_next.Goals as goal

pub returns-in-None : goal.returns-in-None
returns-in-None c =
    only_it rule_order rules_in_order c.in-Some.line
    (subst (λ (found : Option RuleLine). ReadsAll lines c.args.bytes.now found) c.in-Some.is
    c.in_ok-line.ensures)
    (sym c.in-None.ensures)
