-- What is left of the rules decides.
use Rattle.std.proofs.Common.{◌≡◌, drop}
use Rattle.std.specs.List.{list_any}
use Rattle.rx_anchors.specs.Members.{is_left_root}
use Rattle.rx_anchors.proofs.members.is_some_root.Given as goal

abbrev pub invariant-loop-rule : goal.invariant-loop-rule
invariant-loop-rule l =
    list_any (is_left_root l.symbol) (drop l.rule-index l.rules) ≡
    list_any (is_left_root l.symbol) l.rules
