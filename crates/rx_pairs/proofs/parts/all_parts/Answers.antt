-- The stack ends in a call or in a result.
use Rattle.std.proofs.Common.{◌∙◌, ap, subst, sym}
use Rattle.rx_term.specs.Stacks.{depth_of}
use Rattle.rx_pairs.specs.Lent.{all_lent}
use Rattle.rx_pairs.specs.Pairs.{AreParts, part}
use Rattle.rx_pairs.proofs.CommonLaws.{none_deep}
use Rattle.rx_pairs.proofs.PartsLaws.{all_called, all_ended}
use Rattle.rx_pairs.proofs.parts.all_parts.Goals.{in-Call+in_ok-push, in_default}
use Rattle.rx_pairs.proofs.parts.all_parts.Goals as goal

pub returns : goal.returns
returns c = λ left none.
    let right = c.args.right.now in
    let end = c.beyond.result.now in
    elim c.match-beyond.branch [
      | in-Call+in_ok-push w ↦
          subst (λ parts. AreParts left right (all_lent parts))
          (sym (ap (λ parts. parts.items) w.parts-is ∙ w.in_ok-push.ensures.items))
          (all_called left right end w.in-Call.symbol w.in-Call.arguments
          (record { symbol = w.in-Call.symbol; arguments = w.as_slice.result })
          c.in_ok-parts.parts.items none c.beyond.ensures.part
          (none_deep (depth_of right) (depth_of end) c.beyond.ensures.depth)
          w.in-Call.is (ap (part w.in-Call.symbol) w.as_slice.ensures) c.in_ok-parts.ensures)
      | in_default w ↦
          subst (λ parts. AreParts left right (all_lent parts))
          (sym (ap (λ parts. parts.items) w.parts-is))
          (all_ended left right end c.in_ok-parts.parts.items none c.beyond.ensures.part
          (none_deep (depth_of right) (depth_of end) c.beyond.ensures.depth)
          w.in_default.not-Call c.in_ok-parts.ensures)
    ]
