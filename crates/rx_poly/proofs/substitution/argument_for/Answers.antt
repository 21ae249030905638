-- The argument with that number is the one that is listed for it.
use Rattle.rx_poly.proofs.Numbering.{borrowed}
use Rattle.rx_poly.proofs.substitution.argument_for.Goals as goal

pub returns : goal.returns
returns c = borrowed c.args.args.now c.args.at c.argument_at.result c.argument_at.ensures
