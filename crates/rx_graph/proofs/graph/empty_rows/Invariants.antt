-- That many empty rows so far.
use Rattle.std.proofs.Common.{[]}
use Rattle.rx_graph.specs.Graph.{IsGraphOf, rows_of}
use Rattle.rx_graph.proofs.graph.empty_rows.Given as goal

abbrev pub invariant-loop-row : goal.invariant-loop-row
invariant-loop-row l = IsGraphOf l._row [] (rows_of l.rows.items)
