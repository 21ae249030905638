-- What is written, and the text of the polynomials that are left, is the whole text.
use Rattle.std.proofs.Common.{◌≡◌, ◌++◌, ◌∷◌, drop}
use Rattle.std.specs.List.{flat_map}
use Rattle.rx_text.specs.Polynomials.{poly_text}
use Rattle.rx_term_words.proofs.term_writing.push_polys.Given as goal

abbrev pub invariant-loop-poly : goal.invariant-loop-poly
invariant-loop-poly l =
    l.out.items ++ flat_map (λ q. 44 ∷ poly_text q) (drop l.poly-index l.more)
    ≡ l.initial.out.items ++ flat_map (λ q. 44 ∷ poly_text q) l.more
