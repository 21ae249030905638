use Rattle.std.proofs.Common.{◌+◌, refl, arith}
use Rattle.c_code.specs.declared.code.Exits.{Exits}
use Rattle.c_code.specs.declared.code.Op.TheVariants as op
use Rattle.c_code.proofs.Leading.{emitted}
use Rattle.c_code.proofs.StatementCode.{scope-leads, one-longer}
use Rattle.c_code.proofs.statements.scoped.Goals as goal

pub overflow_add-result : goal.overflow_add-result
overflow_add-result c =
    let low = c.requires.scopes in
    let one = one-longer c.args.ops.now.items c.emit.new.ops.items (op.Leave c.args.exits.next)
    c.in_ok-next.ensures.added in
    let two = one-longer c.emit.new.ops.items c.emit-2.new.ops.items (op.Leave c.args.exits.broken)
    c.in_ok-broken.ensures.added in
    omega arith

pub returns : goal.returns
returns c =
    let old = c.args.ops.now.items in
    let m1 = c.emit.new.ops.items in
    let m2 = c.emit-2.new.ops.items in
    let new = c.emit-3.new.ops.items in
    let exits = c.args.exits in
    let inner : Exits = record {
      next = c.in_ok-next.next;
      broken = c.in_ok-broken.broken;
      continued = c.in_ok-continued.continued;
      scopes = exits.scopes + 1;
    } in
    let one = one-longer old m1 (op.Leave exits.next) c.in_ok-next.ensures.added in
    let two = one-longer m1 m2 (op.Leave exits.broken) c.in_ok-broken.ensures.added in
    let three = one-longer m2 new (op.Leave exits.continued) c.in_ok-continued.ensures.added in
    scope-leads old m1 m2 new exits inner c.requires refl
    (emitted old m1 (op.Leave exits.next) c.in_ok-next.next c.in_ok-next.ensures.position
    c.in_ok-next.ensures.added tt)
    (emitted m1 m2 (op.Leave exits.broken) c.in_ok-broken.broken c.in_ok-broken.ensures.position
    c.in_ok-broken.ensures.added tt)
    (emitted m2 new (op.Leave exits.continued) c.in_ok-continued.continued
    c.in_ok-continued.ensures.position c.in_ok-continued.ensures.added tt)
    (omega arith)
