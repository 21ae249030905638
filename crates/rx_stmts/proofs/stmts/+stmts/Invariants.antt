use Rattle.std.proofs.Common.{drop}
use Rattle.rx_stmts.proofs.StatementList.{Listing}
use Rattle.rx_stmts.proofs.stmts.+stmts.Given as goal

abbrev pub invariant-list-loop-i : goal.invariant-list-loop-i
invariant-list-loop-i l =
    Listing l.setting.integers l.fn.code l.code l.p l.at (drop l.i l.ts) l.ts
