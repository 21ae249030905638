use Rattle.std.proofs.Common.{◌≡◌, None, drop}
use Rattle.std.specs.List.{filter_map, last_or}
use Rattle.rx_relations.specs.Linear.{unit_of}
use Rattle.rx_relations.proofs.linear.last_unit.Given as goal

abbrev pub invariant-loop-term : goal.invariant-loop-term
invariant-loop-term l =
    last_or l.last (filter_map unit_of (drop l.term-index l.term-items)) ≡
    last_or None (filter_map unit_of l.term-items)
