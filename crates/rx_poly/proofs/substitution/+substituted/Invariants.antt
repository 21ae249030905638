use Rattle.std.proofs.Common.{drop, map}
use Rattle.rx_poly.specs.Substitution.{subst_atom, subst_body, times_all}
use Rattle.rx_poly.specs.Replacements.{replacements}
use Rattle.rx_poly.proofs.Substituting.{well, Multiplying, Adding}
use Rattle.rx_poly.proofs.substitution.+substituted.Given as goal

abbrev pub invariant-times_atoms-loop-atom : goal.invariant-times_atoms-loop-atom
invariant-times_atoms-loop-atom l =
    Multiplying (replacements l.with) l.product (drop l.atom-index l.atoms)
    (times_all (well l.fn.start) (map (subst_atom (replacements l.with)) l.atoms))

abbrev pub invariant-body_with-loop-term : goal.invariant-body_with-loop-term
invariant-body_with-loop-term l =
    Adding (replacements l.with) l.sum (drop l.term-index l.term-items)
    (subst_body (replacements l.with) l.body)
