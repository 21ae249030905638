-- What `==` says of two atoms is that they are one.
use Rattle.std.proofs.Common.{sym, ◌∙◌}
use Rattle.rx_poly.proofs.Same.{atom_eq-sound, atom_eq-refl}
use Rattle.rx_poly.proofs.equality.is_same_atom.Goals as goal

pub returns : goal.returns
returns c = (
  λ e. atom_eq-sound c.args.one.now c.args.other.now (sym c.eq.ensures ∙ e),
  λ e. c.eq.ensures ∙ atom_eq-refl c.args.one.now c.args.other.now e,
)
