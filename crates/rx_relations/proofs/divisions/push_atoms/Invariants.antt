-- The divisions so far, and of the atoms that are left, are those of all.
use Rattle.std.proofs.Common.{◌≡◌, ◌++◌, drop}
use Rattle.std.specs.List.{flat_map}
use Rattle.rx_poly.specs.declared.body.Atom.{out-Atom}
use Rattle.rx_relations.specs.Divisions.{division_of}
use Rattle.rx_relations.proofs.divisions.push_atoms.Given as goal

abbrev pub invariant-loop-atom : goal.invariant-loop-atom
invariant-loop-atom l =
    l.found ++ flat_map (λ x. division_of (out-Atom x)) (drop l.atom-index l.atoms) ≡
    l.initial.found ++ flat_map (λ x. division_of (out-Atom x)) l.atoms
