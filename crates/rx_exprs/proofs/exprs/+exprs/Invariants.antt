use Rattle.std.proofs.Common.{drop}
use Rattle.rx_exprs.proofs.ArgumentList.{Compiling}
use Rattle.rx_exprs.proofs.exprs.+exprs.Given as goal

abbrev pub invariant-arguments-loop-e : goal.invariant-arguments-loop-e
invariant-arguments-loop-e l =
    Compiling l.setting.integers l.fn.code l.code l.fn.a l.at l.values (drop l.e-index l.e-items)
    l.e-items
