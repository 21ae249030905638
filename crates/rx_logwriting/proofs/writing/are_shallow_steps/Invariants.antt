use Rattle.std.proofs.Common.{◌≡◌, true, take}
use Rattle.std.specs.List.{list_all}
use Rattle.rx_inference.specs.Judging.{certificates}
use Rattle.rx_log.specs.Depth.{are_shallow}
use Rattle.rx_logwriting.proofs.writing.are_shallow_steps.Given as goal

abbrev pub invariant-loop-step : goal.invariant-loop-step
invariant-loop-step l =
    list_all (λ step. are_shallow (certificates step)) (take l.step-index l.steps) ≡ true
