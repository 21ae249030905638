use Rattle.rx_logtext.proofs.Each.{rest_is, rest_longer, rest_none}
use Rattle.rx_logtext.proofs.part.read_rest.Goals as goal

pub returns-then-end-bytes : goal.returns-then-end-bytes
returns-then-end-bytes g c =
    let p = g.T.Part in
    rest_is p.text p.in_range (rw c.in-Some.is at c.in_ok-part.ensures) c.if-end-bytes.true

pub returns-else-end-bytes : goal.returns-else-end-bytes
returns-else-end-bytes g c =
    let p = g.T.Part in
    rest_longer p.text p.in_range g.met.T.Part.once (rw c.in-Some.is at c.in_ok-part.ensures)
    c.if-end-bytes.false

pub returns-in-None : goal.returns-in-None
returns-in-None g c =
    let p = g.T.Part in
    rest_none p.text p.in_range c.args.bytes.now c.args.at (rw c.in-None.is at c.in_ok-part.ensures)
