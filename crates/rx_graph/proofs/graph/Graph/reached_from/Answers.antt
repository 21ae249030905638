-- What the start leads to, and then what each of those leads to.
use Rattle.std.proofs.Common.{◌∙◌, ◌<◌, ap, arith, false, length, replicate}
use Rattle.rx_graph.specs.Graph.{rows_of}
use Rattle.rx_graph.proofs.Marking.{all_walked, first_walked, more_within, next_walked, row_read, row_within}
use Rattle.rx_graph.proofs.Elements.{none_in, number_there}
use Rattle.rx_graph.proofs.graph.Graph.reached_from.Goals as goal

pub mark-requires : goal.mark-requires
mark-requires c = λ b among.
    let rows = c.args.self.now.rows in
    let read = row_read rows.items c.args.start c.index.result.now c.as_slice.result.now
    c.requires.start c.index.ensures c.as_slice.ensures.value in
    let h = row_within rows.items c.args.start c.as_slice.result.now c.requires.closed read b among
    in
    omega (arith, h, c.in_ok-marks.ensures.len, c.len.ensures, c.in_ok-marks.marks.ok.0, rows.ok.0)

pub loop-next-init : goal.loop-next-init
loop-next-init c =
    let rows = c.args.self.now.rows in
    let read = row_read rows.items c.args.start c.index.result.now c.as_slice.result.now
    c.requires.start c.index.ensures c.as_slice.ensures.value in
    let marking = c.in_ok-mark.ensures in
    let none = c.in_ok-reached.ensures.items in
    let blank = c.in_ok-marks.ensures.items_if_clones_equal (λ y e. e) ∙
    ap (λ k. replicate k false) (c.len.ensures ∙ rows.ok.0) in
    record {
      count =
          omega (
            arith,
            marking.count,
            c.in_ok-marks.ensures.len,
            c.len.ensures,
            c.in_ok-marks.marks.ok.0,
            rows.ok.0,
          );
      within = λ b.
          more_within (length rows.items) c.in_ok-marks.marks.items c.mark.new.marks.items
          c.in_ok-reached.reached.items c.mark.new.reached.items c.as_slice.result.now
          (λ d among. absurd (none_in c.in_ok-reached.reached.items none d among))
          (row_within rows.items c.args.start c.as_slice.result.now c.requires.closed read)
          marking b;
      walked = λ edges graph.
          first_walked (length rows.items) edges (rows_of rows.items) graph c.args.start
          c.in_ok-marks.marks.items c.mark.new.marks.items
          c.in_ok-reached.reached.items c.as_slice.result.now c.mark.new.reached.items blank none read
          marking;
    }

pub index-requires-in-loop-next-2 : goal.index-requires-in-loop-next-2
index-requires-in-loop-next-2 c =
    let reached = c.loop-next.reached in
    let h = c.loop-next.invariant.within c.index-in-loop-next.result.now
    (number_there reached.items c.loop-next.next c.index-in-loop-next.result.now
    (omega (arith, c.loop-next-test.true, c.len-in-loop-next.ensures, reached.ok.0))
    c.index-in-loop-next.ensures) in
    omega (arith, h, c.args.self.now.rows.ok.0)

pub mark-requires-in-loop-next : goal.mark-requires-in-loop-next
mark-requires-in-loop-next c = λ b among.
    let rows = c.args.self.now.rows in
    let reached = c.loop-next.reached in
    let v = c.index-in-loop-next.result.now in
    let there = c.loop-next.invariant.within v
    (number_there reached.items c.loop-next.next v
    (omega (arith, c.loop-next-test.true, c.len-in-loop-next.ensures, reached.ok.0))
    c.index-in-loop-next.ensures) in
    let targets = c.as_slice-in-loop-next.result.now in
    let read = row_read rows.items v c.index-in-loop-next-2.result.now targets there
    c.index-in-loop-next-2.ensures c.as_slice-in-loop-next.ensures.value in
    let h = row_within rows.items v targets c.requires.closed read b among in
    omega (arith, h, c.loop-next.invariant.count)

pub loop-next-preserved : goal.loop-next-preserved
loop-next-preserved c =
    let rows = c.args.self.now.rows in
    let reached = c.loop-next.reached in
    let v = c.index-in-loop-next.result.now in
    let next : c.loop-next.next < length reached.items =
    omega (arith, c.loop-next-test.true, c.len-in-loop-next.ensures, reached.ok.0) in
    let there = c.loop-next.invariant.within v
    (number_there reached.items c.loop-next.next v next c.index-in-loop-next.ensures) in
    let targets = c.as_slice-in-loop-next.result.now in
    let read = row_read rows.items v c.index-in-loop-next-2.result.now targets there
    c.index-in-loop-next-2.ensures c.as_slice-in-loop-next.ensures.value in
    let marking = c.in_ok-mark-2.ensures in
    let after = c.mark-in-loop-next.new in
    record {
      count = omega (arith, marking.count, c.loop-next.invariant.count);
      within = λ b.
          more_within (length rows.items) c.loop-next.marks.items after.marks.items reached.items
          after.reached.items targets
          c.loop-next.invariant.within (row_within rows.items v targets c.requires.closed read)
          marking b;
      walked = λ edges graph.
          next_walked (length rows.items) edges (rows_of rows.items) graph c.args.start
          c.loop-next.marks.items after.marks.items reached.items targets after.reached.items
          c.loop-next.next v next c.index-in-loop-next.ensures read
          (c.loop-next.invariant.walked edges graph) marking;
    }

pub returns-clause-exact : goal.returns-clause-exact
returns-clause-exact c = λ edges graph.
    let rows = c.args.self.now.rows in
    all_walked (length rows.items) edges (rows_of rows.items) graph c.args.start
    c.loop-next.marks.items c.loop-next.reached.items c.loop-next.next
    (omega (arith, c.loop-next-test.false, c.len-in-loop-next.ensures, c.loop-next.reached.ok.0))
    (c.loop-next.invariant.walked edges graph)
