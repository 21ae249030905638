-- The sum that is there is the only one, and it is a polynomial or none is there.
use Rattle.std.proofs.Common.{◌≡◌, refl, subst, sym}
use Rattle.std.specs.Prelude.{IfSome, IsSome}
use Rattle.rx_text.specs.Plain.{sums_nested}
use Rattle.rx_text.proofs.Readable.{no_poly, not_normal, poly_stands}
use Rattle.rx_text.proofs.Readers.{absent, found}
use Rattle.rx_text.proofs.poly_reader.read_poly.Goals as goal

pub returns-in_default : goal.returns-in_default
returns-in_default c =
    no_poly c.args.bytes.now c.args.at
    (absent (sums_nested 64) c.args.bytes.now c.args.at c.in_default.is c.in_ok-sum.ensures)

pub returns-in-Some-2 : goal.returns-in-Some-2
returns-in-Some-2 c =
    poly_stands c.args.bytes.now c.args.at
    (found (sums_nested 64) c.args.bytes.now c.args.at c.in-Some.is c.in_ok-sum.ensures)
    (c.in_ok-poly.ensures.exact.0 (subst (λ made. IsSome made) (sym c.in-Some-2.is) refl))
    (subst (λ made. IfSome made (λ p. p ≡ c.in-Some.sum)) c.in-Some-2.is c.in_ok-poly.ensures.same)

pub returns-in-None : goal.returns-in-None
returns-in-None c =
    not_normal c.args.bytes.now c.args.at
    (found (sums_nested 64) c.args.bytes.now c.args.at c.in-Some.is c.in_ok-sum.ensures)
    (λ h. let none = subst (λ made. IsSome made) c.in-None.is (c.in_ok-poly.ensures.exact.1 h) in
    cc)
