use Rattle.std.proofs.Common.{◌≡◌}
use Rattle.std.specs.Prelude.{filter}
use Rattle.rx_relations.specs.Common.{is_nonzero}
use Rattle.rx_relations.proofs.common.nonzero.Given as goal

abbrev pub invariant-loop-poly : goal.invariant-loop-poly
invariant-loop-poly l =
    l.kept ≡ filter is_nonzero l.yielded
