-- The order of atoms, monomials and sums: what `cmp` of the three types computes.
use Rattle.std.specs.declared.cmp.Ordering.{Ordering}
use Rattle.rx_poly.specs.declared.body.Atom.{Atom}
use Rattle.rx_poly.specs.declared.body.Mono.{Mono}
use Rattle.rx_poly.specs.declared.body.Body.{Body}
use Rattle.rx_poly.specs.contracts.body.AtomOrd.TheImpl as atom_order
use Rattle.rx_poly.specs.contracts.body.MonoOrd.TheImpl as mono_order
use Rattle.rx_poly.specs.contracts.body.BodyOrd.TheImpl as body_order

-- variables by number, then quotients, then remainders; two of one kind by first, then by second
-- part
abbrev pub atom_cmp : Atom → Atom → Ordering
atom_cmp = (atom_order.ghosts).cmp

-- the monomial with more atoms first; of those as long the first atom that differs decides
abbrev pub mono_cmp : Mono → Mono → Ordering
mono_cmp = (mono_order.ghosts).cmp

-- the first monomial or coefficient that differs decides; a proper beginning comes first
abbrev pub body_cmp : Body → Body → Ordering
body_cmp = (body_order.ghosts).cmp
