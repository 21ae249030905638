-- The polynomials after the first one that were read.
use Rattle.std.proofs.Common.{◌≡◌, ◌-◌, ◌++◌, List, length}
use Rattle.rx_poly.specs.declared.body.Body.{Body}
use Rattle.rx_text.specs.Polynomials.{polynomials}
use Rattle.rx_text.proofs.Lists.{ReadSoFar}
use Rattle.rx_term_words.proofs.arguments.read_some.Given as goal

abbrev pub invariant-loop-after : goal.invariant-loop-after
invariant-loop-after l =
    (things : List Body) × (l.polys ≡ l.initial.polys ++ things)
    × ReadSoFar 44 polynomials l.bytes l.first_end things l.place

abbrev pub decreases-loop-after : goal.decreases-loop-after
decreases-loop-after l = length l.bytes - l.place
