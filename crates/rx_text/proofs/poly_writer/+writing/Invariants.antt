-- What is written, and the text of the parts that are left, is the whole text.
use Rattle.std.proofs.Common.{◌≡◌, ◌++◌, ◌∷◌, drop}
use Rattle.std.specs.List.{flat_map}
use Rattle.rx_text.specs.Polynomials.{atom_text, text_of_term}
use Rattle.rx_text.proofs.poly_writer.+writing.Given as goal

abbrev pub invariant-push_mono-loop-atom : goal.invariant-push_mono-loop-atom
invariant-push_mono-loop-atom l =
    l.out.items ++ flat_map (λ x. 42 ∷ atom_text x) (drop l.atom-index l.atom-items)
    ≡ l.initial.out.items ++ flat_map (λ x. 42 ∷ atom_text x) l.atom-items

abbrev pub invariant-push_sum-loop-term : goal.invariant-push_sum-loop-term
invariant-push_sum-loop-term l =
    l.out.items ++ flat_map (λ u. 43 ∷ text_of_term u) (drop l.term-index l.more)
    ≡ l.initial.out.items ++ flat_map (λ u. 43 ∷ text_of_term u) l.more
