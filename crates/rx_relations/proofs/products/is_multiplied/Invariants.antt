use Rattle.std.proofs.Common.{◌≡◌, drop}
use Rattle.rx_relations.specs.Products.{is_multiplied}
use Rattle.rx_relations.proofs.products.is_multiplied.Given as goal

abbrev pub invariant-loop-term : goal.invariant-loop-term
invariant-loop-term l =
    is_multiplied (drop l.term-index l.terms) l.place ≡ is_multiplied l.terms l.place
