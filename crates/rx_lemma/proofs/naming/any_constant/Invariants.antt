-- What is left decides.
use Rattle.std.proofs.Common.{◌≡◌, drop}
use Rattle.std.specs.List.{list_any}
use Rattle.std.specs.Option.{is_some}
use Rattle.rx_lemma.specs.Calls.{constant}
use Rattle.rx_lemma.proofs.naming.any_constant.Given as goal

abbrev pub invariant-loop-poly : goal.invariant-loop-poly
invariant-loop-poly l =
    list_any (λ p. is_some (constant p)) (drop l.poly-index l.polys) ≡
    list_any (λ p. is_some (constant p)) l.polys
