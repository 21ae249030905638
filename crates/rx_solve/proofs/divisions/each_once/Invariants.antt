-- The different ones so far.
use Rattle.std.proofs.Common.{◌≡◌, []}
use Rattle.std.specs.List.{fold}
use Rattle.rx_solve.specs.Divisions.{pushed_ratio}
use Rattle.rx_solve.proofs.divisions.each_once.Given as goal

abbrev pub invariant-loop-ratio : goal.invariant-loop-ratio
invariant-loop-ratio l = l.known.items ≡ fold pushed_ratio [] l.yielded
