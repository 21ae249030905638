use Rattle.std.proofs.Common.{◌+◌, ◌*◌}
use Rattle.rx_words.specs.Certificates.{certificates_within}
use Rattle.rx_words.proofs.Spaced.{SoFar}
use Rattle.rx_words.proofs.certificates.+certificates.Given as goal

abbrev pub decreases-read_within : goal.decreases-read_within
decreases-read_within l = 2 * l.most

abbrev pub decreases-read_inner : goal.decreases-read_inner
decreases-read_inner l = 2 * l.most + 1

abbrev pub invariant-read_inner-loop-turn : goal.invariant-read_inner-loop-turn
invariant-read_inner-loop-turn l =
    SoFar (certificates_within l.most) l._turn l.bytes l.from l.inner l.at
