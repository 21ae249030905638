-- Each turn takes the number on by one row.
use Rattle.std.proofs.Common.{◌∙◌, ap, drop, ◌+◌}
use Rattle.std.specs.List.{fold}
use Rattle.rx_poly.specs.Digest.{then}
use Rattle.rx_poly.proofs.Digesting.{fold_next, fold_end}
use Rattle.rx_row.specs.Digest.{with_row}
use Rattle.rx_row.proofs.constraint.rows_digest.Goals as goal

pub loop-row-preserved : goal.loop-row-preserved
loop-row-preserved c =
    let rows = c.args.rows.now in
    let i = c.loop-row.row-index in
    ap (λ d. fold with_row d (drop (i + 1) rows))
    (c.digest_with-digest.ensures ∙ ap (then c.loop-row.digest) c.digest.ensures)
    ∙ fold_next with_row c.loop-row.digest rows i c.loop-row-test.true c.row-item.is
    c.loop-row.invariant

pub returns : goal.returns
returns c =
    fold_end with_row c.loop-row.digest c.args.rows.now c.loop-row.row-index
    c.loop-row-test.false c.loop-row.invariant
