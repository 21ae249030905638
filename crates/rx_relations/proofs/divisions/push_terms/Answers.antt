-- One monomial after the other, whose atoms are polynomials alone.
use Rattle.std.proofs.Common.{All, subst, sym}
use Rattle.std.proofs.lemmas.List.Elements.{All-get_or}
use Rattle.rx_poly.proofs.VariableLaws.{listed_end}
use Rattle.rx_relations.specs.Alone.{AreAlone, IsAlone}
use Rattle.rx_relations.specs.Divisions.{term_divisions}
use Rattle.rx_relations.proofs.divisions.push_terms.Goals as goal

pub push_atoms-requires : goal.push_atoms-requires
push_atoms-requires c =
    subst (All IsAlone) (sym c.as_slice.ensures)
    (subst AreAlone (sym c.term-item.is)
    (All-get_or AreAlone c.args.terms.now c.loop-term.term-index c.term-item.result
    c.loop-term-test.true c.requires))

pub returns : goal.returns
returns c =
    listed_end term_divisions c.args.terms.now c.loop-term.term-index c.loop-term.found
    c.args.found.now c.loop-term-test.false c.loop-term.invariant
