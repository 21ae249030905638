-- Those so far, and then those that are left, are all.
use Rattle.std.proofs.Common.{◌≡◌, ◌++◌, ◌+◌, drop}
use Rattle.rx_shapes.specs.General.{variables_from}
use Rattle.rx_shapes.proofs.general.variables_from.Given as goal

abbrev pub invariant-loop : goal.invariant-loop
invariant-loop l = record {
  made : l.made ++ variables_from l.next (drop l.index l.polys) ≡ variables_from l.first l.polys;
  next : l.next ≡ l.first + l.index;
}
