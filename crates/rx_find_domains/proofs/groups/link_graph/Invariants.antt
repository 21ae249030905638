-- The graph so far has the links of the first pairs.
use Rattle.std.proofs.Common.{length, take}
use Rattle.std.specs.List.{flat_map}
use Rattle.rx_graph.specs.Graph.{IsGraphOf, rows_of}
use Rattle.rx_find_domains.specs.Groups.{links}
use Rattle.rx_find_domains.proofs.groups.link_graph.Given as goal

abbrev pub invariant-loop-pair : goal.invariant-loop-pair
invariant-loop-pair l =
    IsGraphOf (length l.symbols) (flat_map (links l.symbols) (take l.pair-index l.pairs))
    (rows_of l.graph.rows.items)
