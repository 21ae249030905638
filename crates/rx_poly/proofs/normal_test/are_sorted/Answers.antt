-- A first atom in order with the next leaves it to the others.
use Rattle.std.proofs.Common.{ap, sym, ◌∙◌, ◌&&◌}
use Rattle.rx_poly.specs.Normal.{is_sorted}
use Rattle.rx_poly.specs.Order.{atom_cmp}
use Rattle.rx_poly.proofs.Adjacent.{sorted_step}
use Rattle.rx_poly.proofs.normal_test.are_sorted.Goals as goal

pub loop-atom-preserved : goal.loop-atom-preserved
loop-atom-preserved c =
    ap (λ b. b && is_sorted atom_cmp c.in-Some.behind.now)
    (sym c.if-not-comes_first.false ∙ c.comes_first.ensures)
    ∙ sym (sorted_step c.in-Some.atom.now c.in-Some.behind.now) ∙
    ap (is_sorted atom_cmp) (sym c.in-Some.ensures.cases.0) ∙ c.loop-atom.invariant
