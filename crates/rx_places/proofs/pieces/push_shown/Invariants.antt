-- The bytes so far were added.
use Rattle.std.proofs.Common.{◌≡◌, ◌++◌, map, take}
use Rattle.rx_places.specs.Pieces.{shown}
use Rattle.rx_places.proofs.pieces.push_shown.Given as goal

abbrev pub invariant-loop-byte : goal.invariant-loop-byte
invariant-loop-byte l = l.out.items ≡ l.initial.out.items ++ map shown (take l.byte-index l.bytes)
