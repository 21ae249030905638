-- One more polynomial.
use Rattle.std.proofs.Common.{◌∙◌, ap, sym, ◌++◌, ◌∷◌, []}
use Rattle.rx_wider.proofs.Numbered.{count_more, numbered_more}
use Rattle.rx_wider.proofs.candidates.number_all.Goals as goal

pub loop-poly-preserved : goal.loop-poly-preserved
loop-poly-preserved c = record {
  subst =
      c.in_ok-push.ensures.ok
      ∙ ap (λ ws. ws ++ (c.loop-poly.next, c.in-Some.poly) ∷ []) c.loop-poly.invariant.subst
      ∙ sym (numbered_more c.loop-poly.yielded c.in-Some.poly c.loop-poly.next
      c.loop-poly.invariant.next);
  next =
      count_more c.loop-poly.yielded c.in-Some.poly c.loop-poly.next c.loop-poly.invariant.next;
}
