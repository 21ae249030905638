use Rattle.std.proofs.Common.{◌≡◌, take}
use Rattle.rx_inference.proofs.step.copied_subst.Given as goal

abbrev pub invariant-loop-var : goal.invariant-loop-var
invariant-loop-var l = l.made ≡ take l.var-index l.subst
