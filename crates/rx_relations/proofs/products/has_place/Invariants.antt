use Rattle.std.proofs.Common.{◌≡◌, drop}
use Rattle.std.specs.List.{list_any}
use Rattle.rx_poly.specs.declared.body.Atom.{out-Atom}
use Rattle.rx_relations.specs.Products.{is_place}
use Rattle.rx_relations.proofs.products.has_place.Given as goal

abbrev pub invariant-loop-atom : goal.invariant-loop-atom
invariant-loop-atom l =
    list_any (λ a. is_place l.place (out-Atom a)) (drop l.atom-index l.atoms) ≡
    list_any (λ a. is_place l.place (out-Atom a)) l.atoms
