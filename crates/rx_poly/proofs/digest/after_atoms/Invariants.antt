-- What the atoms that are left make of the number is what all make of the first one.
use Rattle.std.proofs.Common.{◌≡◌, drop}
use Rattle.std.specs.List.{fold}
use Rattle.rx_poly.specs.Digest.{with_atom}
use Rattle.rx_poly.proofs.digest.after_atoms.Given as goal

abbrev pub invariant-loop-atom : goal.invariant-loop-atom
invariant-loop-atom l =
    fold with_atom l.digest (drop l.atom-index l.atoms) ≡ fold with_atom l.before l.atoms
