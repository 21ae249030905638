-- What is set so far, and then by the passes that are left, is all.
use Rattle.std.proofs.Common.{◌≡◌, ◌-◌, length}
use Rattle.rx_match.specs.Equations.{pass_times}
use Rattle.rx_match.proofs.PassLaws.{Passing}
use Rattle.rx_match.proofs.equations.pass_often.Given as goal

abbrev pub invariant-loop : goal.invariant-loop
invariant-loop l = record {
  count : l.end ≡ length l.rows;
  passing : Passing l.rows l.settings (length l.rows - l.counter)
      (pass_times (length l.rows) l.rows l.initial.settings);
}
