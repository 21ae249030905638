-- The candidates of one row more.
use Rattle.std.proofs.Common.{◌+◌, subst, drop, drop_of_length-le}
use Rattle.std.specs.List.{flat_map}
use Rattle.rx_term.proofs.Places.{at_some, from_place}
use Rattle.rx_rank.specs.Candidates.{row_candidates}
use Rattle.rx_rank.proofs.Gathering.{Gathering, after_some, finished}
use Rattle.rx_rank.proofs.candidates.push_rows.Goals as goal

pub loop-row-preserved : goal.loop-row-preserved
loop-row-preserved c =
    let rows = c.args.rows.now in
    let i = c.loop-row.row-index in
    let row = c.row-item.result in
    let before = c.args.polys.now.items in
    let tries = row_candidates c.args.arity in
    let whole = flat_map tries rows in
    let opened = subst (λ rs. Gathering before c.loop-row.polys.items c.loop-row.noted
    (flat_map tries rs) whole)
    (from_place rows i row (at_some rows i row row c.loop-row-test.true c.row-item.is))
    c.loop-row.invariant in
    let rest = flat_map tries (drop (i + 1) rows) in
    after_some (tries row) rest whole opened c.in_ok-more.ensures

pub returns : goal.returns
returns c =
    let rows = c.args.rows.now in
    let tries = row_candidates c.args.arity in
    let whole = flat_map tries rows in
    finished whole
    (subst (λ rs. Gathering c.args.polys.now.items c.loop-row.polys.items c.loop-row.noted
    (flat_map tries rs) whole) (drop_of_length-le rows c.loop-row-test.false) c.loop-row.invariant)
