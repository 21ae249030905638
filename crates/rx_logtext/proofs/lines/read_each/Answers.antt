use Rattle.rx_logtext.proofs.Each.{no_space, no_thing}
use Rattle.rx_logtext.proofs.lines.read_each.Goals as goal

pub returns-in_default : goal.returns-in_default
returns-in_default g c =
    let p = g.T.Part in
    no_space p.text p.in_range g.met.T.Part.once c.loop-at.invariant c.loop-at-test.true
    c.in_default.ensures

pub returns-in_default-2 : goal.returns-in_default-2
returns-in_default-2 g c =
    let p = g.T.Part in
    no_thing p.text p.in_range g.met.T.Part.once c.loop-at.invariant c.loop-at-test.true
    c.in-Some.ensures
    (rw c.in_default-2.is at c.in_ok-part.ensures)
