-- The depth falls from one sum to those inside it. A loop has read what there is between its
-- beginning and its place.
use Rattle.std.proofs.Common.{◌≡◌, ◌+◌, ◌-◌, ◌*◌, ◌++◌, List, ℤ, length}
use Rattle.rx_poly.specs.declared.body.Mono.{Mono}
use Rattle.rx_text.specs.Plain.{atoms, is_plain_inside, terms}
use Rattle.rx_text.proofs.Lists.{ReadSoFar}
use Rattle.rx_text.proofs.poly_reader.+reading.Given as goal

abbrev pub decreases-read_parts : goal.decreases-read_parts
decreases-read_parts l = 4 * l.depth + 3

abbrev pub decreases-read_sum : goal.decreases-read_sum
decreases-read_sum l = 4 * l.depth + 2

abbrev pub decreases-read_term : goal.decreases-read_term
decreases-read_term l = 4 * l.depth + 1

abbrev pub decreases-read_atom : goal.decreases-read_atom
decreases-read_atom l = 4 * l.depth

abbrev pub invariant-read_term-loop-after : goal.invariant-read_term-loop-after
invariant-read_term-loop-after l =
    ReadSoFar 42 (atoms (is_plain_inside l.depth)) l.bytes l.number_end l.factors l.place

abbrev pub decreases-read_term-loop-after : goal.decreases-read_term-loop-after
decreases-read_term-loop-after l = length l.bytes - l.place

abbrev pub invariant-read_sum-loop-after : goal.invariant-read_sum-loop-after
invariant-read_sum-loop-after l =
    (things : List (Mono × ℤ)) × (l.summands ≡ l.initial.summands ++ things)
    × ReadSoFar 43 (terms (is_plain_inside l.depth)) l.bytes l.first_end things l.place

abbrev pub decreases-read_sum-loop-after : goal.decreases-read_sum-loop-after
decreases-read_sum-loop-after l = length l.bytes - l.place
