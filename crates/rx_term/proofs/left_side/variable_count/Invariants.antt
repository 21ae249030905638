use Rattle.std.proofs.Common.{◌≡◌, ◌≤◌, ◌^◌, drop}
use Rattle.rx_term.specs.MadeTest.{are_variables}
use Rattle.rx_term.proofs.left_side.variable_count.Given as goal

abbrev pub invariant-loop-arg : goal.invariant-loop-arg
invariant-loop-arg l = record {
  counted : l.count ≡ l.arg-index;
  few : l.count ≤ 2 ^ 31;
  rest : are_variables l.count (drop l.arg-index l.args) ≡ are_variables 0 l.args;
}
