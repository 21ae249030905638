use Rattle.std.proofs.Common.{◌≡◌, ◌++◌, take}
use Rattle.rx_poly.proofs.product.push_atoms.Given as goal

abbrev pub invariant-loop-atom : goal.invariant-loop-atom
invariant-loop-atom l = l.atoms ≡ l.initial.atoms ++ take l.atom-index l.more
