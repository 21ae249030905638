use Rattle.std.proofs.Common.{drop}
use Rattle.rx_stmts.proofs.FunctionList.{Placing}
use Rattle.rx_stmts.proofs.functions.code_of.Given as goal

abbrev pub invariant-loop-place : goal.invariant-loop-place
invariant-loop-place l =
    Placing l.fn.integers l.functions l.code (drop l.place-index l.places) l.places
