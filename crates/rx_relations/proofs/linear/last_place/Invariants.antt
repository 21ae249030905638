use Rattle.std.proofs.Common.{◌≡◌, None, drop}
use Rattle.std.specs.List.{filter_map, last_or}
use Rattle.rx_relations.specs.Linear.{place_of}
use Rattle.rx_relations.proofs.linear.last_place.Given as goal

abbrev pub invariant-loop-term : goal.invariant-loop-term
invariant-loop-term l =
    last_or l.last (filter_map place_of (drop l.term-index l.term-items)) ≡
    last_or None (filter_map place_of l.term-items)
