-- One normal atom is a normal form.
use Rattle.rx_poly.proofs.Constants.{alone_normal}
use Rattle.rx_poly.proofs.poly.of_atom.Goals as goal

pub within_limits-requires : goal.within_limits-requires
within_limits-requires c =
    rw (
      c.in_ok-push-2.ensures.ok,
      c.in_ok-push.ensures.ok,
      c.new-terms.ensures,
      c.new-atoms.ensures,
    ) (alone_normal c.args.atom c.requires)
