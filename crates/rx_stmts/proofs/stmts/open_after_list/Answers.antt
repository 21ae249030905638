use Rattle.rx_stmts.proofs.Slots.{finished, next, no_room, opened_after}
use Rattle.rx_stmts.specs.Statements.{CompilesPoint, slots_after_list}
use Rattle.rx_stmts.proofs.stmts.open_after_list.Goals as goal
use Rattle.std.proofs.Common.{length, rules, sym}

pub returns-in-None : goal.returns-in-None
returns-in-None c = record {
  point =
      λ integers large. no_room c.args.ts.now c.loop-t.t-index c.loop-t-test.true c.t-item.is
      (c.loop-t.invariant integers) (length c.args.code.now.opened)
      (c.in-None.ensures.many integers);
}

pub loop-t-preserved : goal.loop-t-preserved
loop-t-preserved c =
    λ integers. next c.args.ts.now c.loop-t.t-index c.loop-t-test.true c.t-item.is
    (c.loop-t.invariant integers) c.in-Some.next (sym (c.in-Some.ensures.slots integers))

pub returns : goal.returns
returns c =
    let point : CompilesPoint c.args.code.now c.open.new.self c.open.result c.loop-t.slots =
    search rules in
    record {
      point =
          λ integers. opened_after c.args.code.now c.open.new.self c.open.result c.loop-t.slots
          (slots_after_list integers c.args.ts.now c.args.width)
          (finished integers c.args.width c.loop-t.slots c.args.ts.now c.loop-t.t-index
          c.loop-t-test.false (c.loop-t.invariant integers)) point;
    }
