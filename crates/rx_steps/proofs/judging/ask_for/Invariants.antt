-- What the groups so far ask for is taken off.
use Rattle.std.proofs.Common.{◌≡◌, ◌+◌, drop}
use Rattle.rx_inference.specs.Judging.{asked_by_all}
use Rattle.rx_steps.proofs.judging.ask_for.Given as goal

abbrev pub invariant-loop-group : goal.invariant-loop-group
invariant-loop-group l =
    l.count + asked_by_all l.old l.new (drop l.group-index l.groups) ≡
    l.left + asked_by_all l.old l.new l.groups
