-- What is marked of the symbol itself decides.
use Rattle.std.proofs.Common.{◌≡◌, ◌∙◌, ◌<◌, Some, arith, length, slice_get, sym, true}
use Rattle.rx_term.proofs.Places.{at_some}
use Rattle.rx_pairs.specs.Graph.{may_loop}
use Rattle.rx_graph.proofs.Marking.{marked_true, read_true}
use Rattle.rx_pairs.proofs.graph.is_loop_point.Goals as goal

pub index-requires : goal.index-requires
index-requires c =
    omega (
      arith,
      c.in-Some.ensures.lookup.3.0,
      c.requires.all,
      c.in_ok-marks.ensures.count,
      c.in_ok-marks.marks.ok.0,
    )

pub returns : goal.returns
returns c = λ edges graph.
    let marks = c.in_ok-marks.marks.items in
    let symbol = c.args.symbol in
    let symbols = c.args.symbols.now in
    let info = c.in-Some.info.now in
    let there : symbol < length marks = omega
    (arith, c.in-Some.ensures.lookup.3.0, c.requires.all, c.in_ok-marks.ensures.count) in
    let at : slice_get symbols symbol ≡ Some info =
    at_some symbols symbol info info c.in-Some.ensures.lookup.3.0 c.in-Some.ensures.lookup.1 in
    let may : may_loop info ≡ true = sym c.may_loop.ensures ∙ c.if-not-may_loop.false in
    let exact = c.in_ok-marks.ensures.exact edges graph symbol in (
      λ yes. (
        info,
        at,
        may,
        exact.0 (read_true marks symbol c.index.result.now there
            c.index.ensures yes),
      ),
      λ point. marked_true marks symbol c.index.result.now there c.index.ensures (exact.1 point.3),
    )
