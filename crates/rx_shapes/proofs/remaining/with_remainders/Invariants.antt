-- What is added so far, and then for the divisions that are left, is all.
use Rattle.std.proofs.Common.{◌≡◌, ◌+◌, drop}
use Rattle.rx_shapes.specs.RemainderRows.{with_remainders}
use Rattle.rx_shapes.proofs.remaining.with_remainders.Given as goal

abbrev pub invariant-loop-division : goal.invariant-loop-division
invariant-loop-division l = record {
  rows :
      with_remainders l.place l.rows (drop l.division-index l.divisions) ≡
      with_remainders l.first l.fn.rows l.divisions;
  place : l.place ≡ l.first + l.division-index;
}
