-- Where a space or a thing is missing, that many things aren't there.
use Rattle.rx_words.proofs.Spaced.{no_space, no_thing}
use Rattle.rx_words.proofs.lists.read_spaced.Goals as goal

pub returns-in_default : goal.returns-in_default
returns-in_default g c =
    let t = g.T.Text in
    no_space t.text t.in_range c.requires.once c.loop-turn.invariant c.loop-turn-test.true
    c.in_default.ensures

pub returns-in_default-2 : goal.returns-in_default-2
returns-in_default-2 g c =
    let t = g.T.Text in
    let none = rw c.in_default-2.is at c.in_ok-thing.ensures in
    no_thing t.text t.in_range c.requires.once c.loop-turn.invariant c.loop-turn-test.true
    c.in-Some.ensures none
