-- One more symbol.
use Rattle.std.proofs.Common.{arith}
use Rattle.rx_pairs.specs.Graph.{IsLoopPoint}
use Rattle.rx_pairs.proofs.LoopLaws.{points_more}
use Rattle.rx_pairs.proofs.loops.points_of.Goals as goal

pub loop-symbol-preserved : goal.loop-symbol-preserved
loop-symbol-preserved c = record {
  count =
      let old = c.loop-symbol.invariant.count in let new = c.in_ok-push.ensures.len in
      omega (arith, old, new);
  points = λ edges graph.
      points_more (IsLoopPoint c.args.symbols.now edges) c.loop-symbol.points.items
      c.push.new.self.items c.in_ok-is_loop_point.field-0 c.loop-symbol.symbol
      c.loop-symbol.invariant.count
      c.in_ok-push.ensures.items (c.loop-symbol.invariant.points edges graph)
      (c.in_ok-is_loop_point.ensures edges graph);
}

pub returns-clause-points : goal.returns-clause-points
returns-clause-points c =
    λ edges graph f less. let end = c.loop-symbol-test.false in
    c.loop-symbol.invariant.points edges graph f (omega (arith, less, end))
