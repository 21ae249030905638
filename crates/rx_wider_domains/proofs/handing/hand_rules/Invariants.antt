-- What is left of the rules decides.
use Rattle.std.proofs.Common.{◌≡◌, drop}
use Rattle.std.specs.List.{fold}
use Rattle.rx_wider_domains.specs.Walks.{handing}
use Rattle.rx_wider_domains.proofs.handing.hand_rules.Given as goal

abbrev pub invariant-loop-rule : goal.invariant-loop-rule
invariant-loop-rule l =
    fold (handing l.names l.symbols l.before) l.lists.items (drop l.rule-index l.rules)
    ≡ fold (handing l.names l.symbols l.before) l.fn.lists.items l.rules
