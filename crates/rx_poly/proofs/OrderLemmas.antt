-- The order of atoms, monomials and sums, one level at a time, and that it is a total order.
use Rattle.std.proofs.Common.{◌≡◌, ◌∙◌, ℤ, sym, refl, true}
use Rattle.std.specs.Cmp.{IsTotalOrder}
use Rattle.std.specs.Cmp.Lexicographic.{slice_cmp}
use Rattle.std.specs.Ordering.{nat_cmp, int_cmp, is_eq, ordering_reverse, ordering_then}
use Rattle.std.specs.declared.cmp.Ordering.{Ordering}
use Rattle.std.specs.declared.cmp.Ordering.TheVariants.{Less, Equal, Greater}
use denote.Hole.Carrier
use Rattle.rx_plain.specs.Graded.{graded_cmp}
use Rattle.rx_poly.specs.Order.{atom_cmp, mono_cmp, body_cmp}
use Rattle.rx_poly.specs.contracts.body.AtomOrd.TheImpl.Laws as atom_laws
use Rattle.rx_poly.specs.contracts.body.MonoOrd.TheImpl.Laws as mono_laws
use Rattle.rx_poly.specs.contracts.body.BodyOrd.TheImpl.Laws as body_laws
use Rattle.rx_poly.specs.declared.body.Atom.{Atom, Atom-F, out-Atom, roll-Atom, roll-out-Atom}
use Rattle.rx_poly.specs.declared.body.Mono.{Mono, out-Mono}
use Rattle.rx_poly.specs.declared.body.Body.{Body, out-Body}

-- what is as when turned round is level
pub reversed_itself : (r : Ordering) → r ≡ ordering_reverse r → r ≡ Equal
reversed_itself Less e = cc
reversed_itself Equal e = refl
reversed_itself Greater e = cc

-- what the test for level answers says
pub equal_is : (r : Ordering) → is_eq r ≡ true → r ≡ Equal
equal_is Less e = cc
equal_is Equal e = refl
equal_is Greater e = cc

pub atom_total : IsTotalOrder atom_cmp
atom_total = atom_laws.total-law

pub mono_total : IsTotalOrder mono_cmp
mono_total = mono_laws.total-law

pub body_total : IsTotalOrder body_cmp
body_total = body_laws.total-law

-- monomials compare by their atoms, the longer list first
pub mono_cmp_is : (m n : Mono) → mono_cmp m n ≡
    graded_cmp atom_cmp (out-Mono m).atoms (out-Mono n).atoms
mono_cmp_is m n = mono_laws.is m n

-- two terms compare by monomial, then by coefficient
abbrev pub term_cmp : Mono × ℤ → Mono × ℤ → Ordering
term_cmp t u = ordering_then (mono_cmp t.0 u.0) (int_cmp t.1 u.1)

-- sums compare term by term
pub body_cmp_is : (p q : Body) → body_cmp p q ≡
    slice_cmp term_cmp (out-Body p).terms (out-Body q).terms
body_cmp_is p q = body_laws.is p q

-- how two atoms compare, seen at their first level
abbrev pub atom_cmp_level : Atom-F Atom Body Mono → Atom-F Atom Body Mono → Ordering
atom_cmp_level (Atom-F.Var m) (Atom-F.Var n) = nat_cmp m n
atom_cmp_level (Atom-F.Var m) y = Less
atom_cmp_level (Atom-F.Div p q) (Atom-F.Var n) = Greater
atom_cmp_level (Atom-F.Div p q) (Atom-F.Div r s) = ordering_then (body_cmp p r) (body_cmp q s)
atom_cmp_level (Atom-F.Div p q) (Atom-F.Mod r s) = Less
atom_cmp_level (Atom-F.Mod p q) (Atom-F.Mod r s) = ordering_then (body_cmp p r) (body_cmp q s)
atom_cmp_level (Atom-F.Mod p q) y = Greater

-- atoms compare by their first level
rolled : (x y : Atom-F Atom Body Mono) → atom_cmp (roll-Atom x) (roll-Atom y) ≡ atom_cmp_level x y
unfolding roll-Atom denote.Hole.Carrier.roll
rolled (Atom-F.Var m) (Atom-F.Var n) = atom_laws.is _ _
rolled (Atom-F.Var m) (Atom-F.Div r s) = atom_laws.is _ _
rolled (Atom-F.Var m) (Atom-F.Mod r s) = atom_laws.is _ _
rolled (Atom-F.Div p q) (Atom-F.Var n) = atom_laws.is _ _
rolled (Atom-F.Div p q) (Atom-F.Div r s) = atom_laws.is _ _
rolled (Atom-F.Div p q) (Atom-F.Mod r s) = atom_laws.is _ _
rolled (Atom-F.Mod p q) (Atom-F.Var n) = atom_laws.is _ _
rolled (Atom-F.Mod p q) (Atom-F.Div r s) = atom_laws.is _ _
rolled (Atom-F.Mod p q) (Atom-F.Mod r s) = atom_laws.is _ _

pub atom_cmp_is : (x y : Atom) → atom_cmp x y ≡ atom_cmp_level (out-Atom x) (out-Atom y)
atom_cmp_is x y =
    (λ i. atom_cmp (sym (roll-out-Atom x) i) (sym (roll-out-Atom y) i)) ∙
    rolled (out-Atom x) (out-Atom y)
