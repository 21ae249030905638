use Rattle.rx_words.specs.Words.{words}
use Rattle.rx_words.proofs.Spaced.{SoFar}
use Rattle.rx_words.proofs.lists.read_spaced.Given as goal

abbrev pub invariant-loop-turn : goal.invariant-loop-turn
invariant-loop-turn g l =
    SoFar (words g.T.Text.text g.T.Text.in_range) l._turn l.bytes l.from l.things l.at
