-- The bytes so far were added.
use Rattle.std.proofs.Common.{◌≡◌, ◌++◌, map, take}
use Rattle.rx_places.specs.Pieces.{shown_in_name}
use Rattle.rx_places.proofs.pieces.push_name.Given as goal

abbrev pub invariant-loop-byte : goal.invariant-loop-byte
invariant-loop-byte l =
    l.out.items ≡ l.initial.out.items ++ map shown_in_name (take l.byte-index l.byte-items)
