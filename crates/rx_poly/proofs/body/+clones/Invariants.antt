use Rattle.std.proofs.Common.{◌≡◌, take}
use Rattle.rx_poly.proofs.body.+clones.Given as goal

abbrev pub invariant-Body::try_clone-loop-term : goal.invariant-Body::try_clone-loop-term
invariant-Body::try_clone-loop-term l = l.copies.items ≡ take l.term-index l.term-items

abbrev pub invariant-Mono::try_clone-loop-atom : goal.invariant-Mono::try_clone-loop-atom
invariant-Mono::try_clone-loop-atom l = l.copies.items ≡ take l.atom-index l.atom-items
