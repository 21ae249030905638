use Rattle.std.proofs.Common.{◌≡◌, true, take}
use Rattle.std.specs.List.{list_all}
use Rattle.rx_text.specs.Polynomials.{is_readable_poly}
use Rattle.rx_logwriting.proofs.polynomials.polys_have_text.Given as goal

abbrev pub invariant-loop-poly : goal.invariant-loop-poly
invariant-loop-poly l = list_all is_readable_poly (take l.poly-index l.polys) ≡ true
