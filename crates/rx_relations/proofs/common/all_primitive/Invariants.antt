use Rattle.std.proofs.Common.{◌≡◌, map}
use Rattle.rx_relations.specs.Content.{primitive}
use Rattle.rx_relations.proofs.common.all_primitive.Given as goal

abbrev pub invariant-loop-poly : goal.invariant-loop-poly
invariant-loop-poly l =
    l.made ≡ map primitive l.yielded
