-- The byte was added as often as there were turns.
use Rattle.std.proofs.Common.{◌≡◌, ◌++◌, replicate}
use Rattle.rx_places.proofs.pieces.push_repeated.Given as goal

abbrev pub invariant-loop : goal.invariant-loop
invariant-loop l = l.out.items ≡ l.initial.out.items ++ replicate l.counter l.byte
