use Rattle.std.proofs.Common.{◌≡◌, take}
use Rattle.rx_translate.proofs.rules.push_call.Given as goal

abbrev pub invariant-loop-arg : goal.invariant-loop-arg
invariant-loop-arg l = l.copies ≡ take l.arg-index l.arg-items
