-- The candidates of one row more.
use Rattle.std.proofs.Common.{◌∙◌, ◌+◌, ap, sym, drop, drop_of_length-le}
use Rattle.std.specs.List.{flat_map, fold}
use Rattle.rx_term.proofs.Places.{at_some, from_place}
use Rattle.rx_rank.specs.Candidates.{own_by, with_candidate}
use Rattle.rx_rank.proofs.Gathering.{fold-append}
use Rattle.rx_rank.proofs.candidates.push_own_rows.Goals as goal

pub loop-row-preserved : goal.loop-row-preserved
loop-row-preserved c =
    let rows = c.args.rows.now in
    let i = c.loop-row.row-index in
    let row = c.row-item.result in
    let polys = c.loop-row.polys.items in
    let made = own_by c.args.arity in
    let rest = flat_map made (drop (i + 1) rows) in
    ap (λ ps. fold with_candidate ps rest) c.in_ok-push_own.ensures
    ∙ sym (fold-append with_candidate polys (made row) rest)
    ∙ sym (ap (λ rs. fold with_candidate polys (flat_map made rs))
    (from_place rows i row (at_some rows i row row c.loop-row-test.true c.row-item.is)))
    ∙ c.loop-row.invariant

pub returns : goal.returns
returns c =
    let rows = c.args.rows.now in
    let polys = c.loop-row.polys.items in
    sym (ap (λ rs. fold with_candidate polys (flat_map (own_by c.args.arity) rs))
    (drop_of_length-le rows c.loop-row-test.false))
    ∙ c.loop-row.invariant
