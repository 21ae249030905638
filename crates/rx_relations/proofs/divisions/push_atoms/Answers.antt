-- One atom after the other, each of which is a polynomial alone.
use Rattle.std.proofs.Common.{◌++◌, subst, sym}
use Rattle.std.specs.List.{flat_map}
use Rattle.std.proofs.lemmas.List.Elements.{All-get_or}
use Rattle.rx_poly.proofs.VariableLaws.{listed_end}
use Rattle.rx_poly.specs.declared.body.Atom.{out-Atom}
use Rattle.rx_solve.proofs.Walks.{listed_next}
use Rattle.rx_relations.specs.Alone.{IsAlone}
use Rattle.rx_relations.specs.Divisions.{division_of}
use Rattle.rx_relations.proofs.divisions.push_atoms.Goals as goal

pub push_atom-requires : goal.push_atom-requires
push_atom-requires c =
    subst IsAlone (sym c.atom-item.is)
    (All-get_or IsAlone c.args.atoms.now c.loop-atom.atom-index c.atom-item.result
    c.loop-atom-test.true c.requires)

pub loop-atom-preserved : goal.loop-atom-preserved
loop-atom-preserved c =
    let atoms = c.args.atoms.now in
    let at = c.loop-atom in
    listed_next atoms at.atom-index c.atom-item.result c.loop-atom-test.true c.atom-item.is
    (λ x. division_of (out-Atom x)) at.found c.push_atom.new.found
    (c.args.found.now ++ flat_map (λ x. division_of (out-Atom x)) atoms) at.invariant
    c.in_ok-push_atom.ensures

pub returns : goal.returns
returns c =
    listed_end (λ x. division_of (out-Atom x)) c.args.atoms.now c.loop-atom.atom-index
    c.loop-atom.found c.args.found.now c.loop-atom-test.false c.loop-atom.invariant
