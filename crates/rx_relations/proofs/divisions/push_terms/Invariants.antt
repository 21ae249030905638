-- The divisions so far, and of the monomials that are left, are those of all.
use Rattle.std.proofs.Common.{◌≡◌, ◌++◌, drop}
use Rattle.std.specs.List.{flat_map}
use Rattle.rx_relations.specs.Divisions.{term_divisions}
use Rattle.rx_relations.proofs.divisions.push_terms.Given as goal

abbrev pub invariant-loop-term : goal.invariant-loop-term
invariant-loop-term l =
    l.found ++ flat_map term_divisions (drop l.term-index l.terms) ≡
    l.initial.found ++ flat_map term_divisions l.terms
