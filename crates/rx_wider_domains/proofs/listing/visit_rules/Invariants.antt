-- What is left of the rules decides.
use Rattle.std.proofs.Common.{◌≡◌, drop}
use Rattle.std.specs.List.{fold}
use Rattle.rx_wider_domains.specs.Walks.{at_rule}
use Rattle.rx_wider_domains.proofs.listing.visit_rules.Given as goal

abbrev pub invariant-loop-rule : goal.invariant-loop-rule
invariant-loop-rule l =
    fold (at_rule l.names l.offering) l.lists.items (drop l.rule-index l.rules)
    ≡ fold (at_rule l.names l.offering) l.fn.lists.items l.rules
