-- The symbols and ranks that are left decide, and no rank was of a symbol that isn't there.
use Rattle.std.proofs.Common.{◌≡◌, ◌≤◌, drop, length}
use Rattle.rx_pairs.specs.Ranks.{bad_from, bad_rank}
use Rattle.rx_pairs.proofs.table.bad_ranks.Given as goal

abbrev pub invariant-loop-sym : goal.invariant-loop-sym
invariant-loop-sym l = record {
  decides : bad_from l.table.columns l.sym (drop l.sym l.rules.symbols) (drop l.sym l.table.ranks) ≡
      bad_rank l.rules l.table;
  there : l.sym ≤ length l.rules.symbols;
}
