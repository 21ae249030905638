-- A first term that leads the next leaves it to the others.
use Rattle.std.proofs.Common.{ap, sym, ◌∙◌, ◌&&◌}
use Rattle.rx_poly.specs.Order.{mono_cmp}
use Rattle.rx_poly.specs.Terms.{is_sparse_sorted}
use Rattle.rx_poly.proofs.Adjacent.{listed_step}
use Rattle.rx_poly.proofs.normal_test.are_listed.Goals as goal

pub loop-term-preserved : goal.loop-term-preserved
loop-term-preserved c =
    ap (λ b. b && is_sparse_sorted mono_cmp c.in-Some.behind.now)
    (sym c.if-not-comes_before.false ∙ c.comes_before.ensures)
    ∙ sym (listed_step c.in-Some.term.now c.in-Some.behind.now) ∙
    ap (is_sparse_sorted mono_cmp) (sym c.in-Some.ensures.cases.0) ∙ c.loop-term.invariant
