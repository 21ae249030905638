-- Nothing in the places so far.
use Rattle.std.proofs.Common.{◌≡◌, All, None}
use Rattle.rx_rank.proofs.numbered.empty_places.Given as goal

abbrev pub invariant-loop-place : goal.invariant-loop-place
invariant-loop-place g l = All (λ o. o ≡ None) l.places.items
