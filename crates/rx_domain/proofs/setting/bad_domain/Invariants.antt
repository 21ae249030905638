use Rattle.std.proofs.Common.{◌≡◌, drop}
use Rattle.rx_domain.specs.Setting.{bad_domain, bad_from}
use Rattle.rx_domain.proofs.setting.bad_domain.Given as goal

abbrev pub invariant-loop-sym : goal.invariant-loop-sym
invariant-loop-sym l =
    bad_from l.sym l.rest (drop l.sym l.lists) ≡ bad_domain l.symbols l.lists
