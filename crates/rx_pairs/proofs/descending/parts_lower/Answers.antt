-- A refusal at one part is that of all.
use Rattle.std.proofs.Common.{◌≡◌, Some, slice_get}
use Rattle.std.proofs.lemmas.Result.{err_from_is_err_and}
use Rattle.rx_term.proofs.Places.{at_some}
use Rattle.rx_pairs.specs.Lent.{lent}
use Rattle.rx_pairs.proofs.DescendingLaws.{part_refused}
use Rattle.rx_pairs.proofs.descending.parts_lower.Goals as goal

pub returns-in_err-part_lowers-clause-decides : goal.returns-in_err-part_lowers-clause-decides
returns-in_err-part_lowers-clause-decides c = λ whole others.
    let p = err_from_is_err_and c.from_residual.result c.from_residual.ensures.1 in
    let part = c.part-item.result in
    let there : slice_get c.args.parts.now c.loop-part.part-index ≡ Some part =
    at_some c.args.parts.now c.loop-part.part-index part part c.loop-part-test.true c.part-item.is
    in
    rw (p.1, p.2)
    (part_refused c.args.witness c.args.rows.now (lent c.args.root) c.args.parts.now
    c.loop-part.part-index c.args.number c.loop-part.next part
    c.in_err-part_lowers.field-0.0 there c.in_err-part_lowers.ensures.decides
    c.loop-part.invariant.decides whole others)
