use Rattle.std.proofs.Common.{◌≡◌, take}
use Rattle.rx_settle.proofs.step_lists.own_steps.Given as goal

abbrev pub invariant-loop-step : goal.invariant-loop-step
invariant-loop-step l = l.made ≡ take l.step-index l.steps
