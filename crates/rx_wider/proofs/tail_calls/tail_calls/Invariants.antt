-- The tail calls of the rules so far.
use Rattle.std.proofs.Common.{◌≡◌, [], take}
use Rattle.std.specs.List.{fold}
use Rattle.rx_wider.specs.Tails.{with_rule}
use Rattle.rx_wider.proofs.tail_calls.tail_calls.Given as goal

abbrev pub invariant-loop-rule : goal.invariant-loop-rule
invariant-loop-rule l = l.found ≡ fold (with_rule l.rules) [] (take l.rule-index l.rule-items)
