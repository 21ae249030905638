use Rattle.std.proofs.Common.{◌≡◌, true, take}
use Rattle.std.specs.List.{list_all}
use Rattle.rx_logtext.specs.Steps.{is_readable_step}
use Rattle.rx_logwriting.proofs.ranges.steps_have_text.Given as goal

abbrev pub invariant-loop-step : goal.invariant-loop-step
invariant-loop-step l = list_all (is_readable_step l.version) (take l.step-index l.steps) ≡ true
