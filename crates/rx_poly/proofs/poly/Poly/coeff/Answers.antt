-- The terms of a polynomial are listed, so a later monomial ends the search.
use Rattle.std.proofs.Common.{◌∙◌, ap, sym}
use Rattle.rx_poly.specs.Normal.{is_poly}
use Rattle.rx_poly.specs.Reading.{coefficient}
use Rattle.rx_poly.proofs.ReadingLaws.{begin, later}
use Rattle.rx_poly.proofs.poly.Poly.coeff.Goals as goal

pub loop-term-init : goal.loop-term-init
loop-term-init c =
    begin c.args.at.now c.body.result.now c.as_slice-term-items.ensures
    (ap is_poly c.body.ensures.body ∙ c.body.ensures.normal)

pub returns-in-Less : goal.returns-in-Less
returns-in-Less c = rw (← c.body.ensures.body)
    (later c.args.at.now c.as_slice-term-items.result.now c.loop-term.term-index
    c.loop-term-test.true c.term-item.is c.loop-term.invariant (sym c.in-Less.ensures)
    ∙ ap (coefficient c.args.at.now) c.as_slice-term-items.ensures)
