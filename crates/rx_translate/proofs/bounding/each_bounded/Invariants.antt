use Rattle.std.proofs.Common.{◌≡◌}
use Rattle.std.specs.List.{flat_map, range_with_len}
use Rattle.rx_code.specs.Bounds.{int_rows, joined_rows}
use Rattle.rx_translate.proofs.bounding.each_bounded.Given as goal

abbrev pub invariant-loop-v : goal.invariant-loop-v
invariant-loop-v l = l.rows ≡ joined_rows l.initial.rows (flat_map int_rows (range_with_len 0 l.v))
