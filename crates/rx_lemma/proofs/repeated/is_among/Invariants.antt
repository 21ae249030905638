-- What is left decides.
use Rattle.std.proofs.Common.{◌≡◌, drop}
use Rattle.std.specs.List.{list_any}
use Rattle.rx_lemma.specs.Repeated.{is_same_poly}
use Rattle.rx_lemma.proofs.repeated.is_among.Given as goal

abbrev pub invariant-loop-one : goal.invariant-loop-one
invariant-loop-one l =
    list_any (λ p. is_same_poly p l.poly) (drop l.one-index l.polys) ≡
    list_any (λ p. is_same_poly p l.poly) l.polys
