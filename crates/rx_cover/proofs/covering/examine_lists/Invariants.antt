-- The symbols and lists that are left decide, and no list was of a symbol that isn't there.
use Rattle.std.proofs.Common.{◌≡◌, ◌≤◌, drop, length}
use Rattle.rx_cover.specs.Covering.{covering, covering_from}
use Rattle.rx_cover.proofs.covering.examine_lists.Given as goal

abbrev pub invariant-loop-sym : goal.invariant-loop-sym
invariant-loop-sym l = record {
  decides : covering_from l.rules l.sym (drop l.sym l.rules.symbols) (drop l.sym l.lists) ≡
      covering l.rules l.lists;
  there : l.sym ≤ length l.rules.symbols;
}
