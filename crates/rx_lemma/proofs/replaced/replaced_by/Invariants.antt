-- What is left decides.
use Rattle.std.proofs.Common.{◌≡◌, ℕ, drop}
use Rattle.std.specs.List.{find}
use Rattle.rx_poly.specs.declared.body.Body.{Body}
use Rattle.rx_lemma.specs.Repeated.{is_same_poly}
use Rattle.rx_lemma.proofs.replaced.replaced_by.Given as goal

abbrev pub invariant-loop-variable : goal.invariant-loop-variable
invariant-loop-variable l =
    find (λ (w : ℕ × Body). is_same_poly w.1 l.poly) (drop l.variable-index l.with) ≡
    find (λ (w : ℕ × Body). is_same_poly w.1 l.poly) l.with
