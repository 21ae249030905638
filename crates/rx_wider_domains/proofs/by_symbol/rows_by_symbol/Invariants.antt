-- The lists so far, and those of the symbols that are left.
use Rattle.std.proofs.Common.{◌≡◌, ◌++◌, drop}
use Rattle.rx_wider_domains.specs.Groups.{by_symbol_from}
use Rattle.rx_wider_domains.proofs.by_symbol.rows_by_symbol.Given as goal

abbrev pub invariant-loop-sym : goal.invariant-loop-sym
invariant-loop-sym l =
    l.made.items ++ by_symbol_from l.names l.lists l.sym (drop l.sym l.symbols)
    ≡ by_symbol_from l.names l.lists 0 l.symbols
