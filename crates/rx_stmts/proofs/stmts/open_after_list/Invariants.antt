use Rattle.std.proofs.Common.{drop}
use Rattle.c_ast.specs.declared.integers.Integers.{Integers}
use Rattle.rx_stmts.proofs.Slots.{Counting}
use Rattle.rx_stmts.proofs.stmts.open_after_list.Given as goal

abbrev pub invariant-loop-t : goal.invariant-loop-t
invariant-loop-t l =
    (integers : Integers) → Counting integers l.width l.slots (drop l.t-index l.ts) l.ts
