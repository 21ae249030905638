-- The different ones so far.
use Rattle.std.proofs.Common.{◌≡◌, []}
use Rattle.std.specs.List.{fold}
use Rattle.rx_relations.specs.Divisions.{with_division}
use Rattle.rx_relations.proofs.divisions.divisions_of.Given as goal

abbrev pub invariant-loop-division : goal.invariant-loop-division
invariant-loop-division l = l.known ≡ fold with_division [] l.yielded
