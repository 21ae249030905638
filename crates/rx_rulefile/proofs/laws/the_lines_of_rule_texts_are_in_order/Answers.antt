use Rattle.std.proofs.Common.{map}
use Rattle.rx_rulefile.specs.RuleLines.{lines}
use Rattle.rx_rulefile.specs.RuleTexts.{rule_lines}
use Rattle.rx_rulefile.proofs.GatheringLaws.{leads_to_end, whole_texts}
use Rattle.rx_rulefile.proofs.laws.the_lines_of_rule_texts_are_in_order.Goals as goal

pub returns-clause-in_order : goal.returns-clause-in_order
returns-clause-in_order c =
    λ text parts goal h. (map lines.text (rule_lines parts goal), (h.is, leads_to_end h))

pub returns-clause-whole : goal.returns-clause-whole
returns-clause-whole c = whole_texts
