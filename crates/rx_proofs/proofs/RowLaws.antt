-- Rows that are added to others, and rows of equal polynomials.
use Rattle.std.proofs.Common.{◌≡◌, ℕ, List, [], ◌∷◌, length, refl, ℤ, pos, arith}
use Rattle.std.proofs.lemmas.Int.{ints}
use Rattle.std.proofs.lemmas.List.Elements.{All-cons, All-head, All-nil, All-tail}
use Rattle.rx_poly.specs.Limits.{body_difference}
use Rattle.rx_poly.specs.Value.{value}
use Rattle.rx_poly.specs.declared.body.Body.{Body}
use Rattle.rx_poly.proofs.PolyLaws.{value-body_difference}
use Rattle.rx_row.specs.Holds.{AllHold, RowHolds}
use Rattle.rx_row.specs.Membership.{pushed}
use Rattle.rx_row.specs.declared.row.Row.{Row}
use Rattle.rx_row.specs.declared.row.Row.TheVariants.{Eq}
use Rattle.rx_row.proofs.Membership.{all_hold_pushed}
use Rattle.rx_term.specs.Meaning.{values}
use Rattle.rx_inference.specs.Pieces.{all_pushed, equal_lists}

-- rows with more of them added hold where both do
pub all_pushed-hold : (a : ℕ → ℤ) (rows more : List Row) → AllHold a rows → AllHold a more →
    AllHold a (all_pushed rows more)
all_pushed-hold a rows [] one two = one
all_pushed-hold a rows (r ∷ rs) one two =
    all_pushed-hold a (pushed rows r) rs ((all_hold_pushed a rows r).1
    (one, All-head (RowHolds a) r rs two)) (All-tail (RowHolds a) r rs two)

-- and both hold where those do
pub all_pushed-parts : (a : ℕ → ℤ) (rows more : List Row) → AllHold a (all_pushed rows more) →
    AllHold a rows × AllHold a more
all_pushed-parts a rows [] holds = (holds, All-nil (RowHolds a))
all_pushed-parts a rows (r ∷ rs) holds =
    let later = all_pushed-parts a (pushed rows r) rs holds in
    let first = (all_hold_pushed a rows r).0 later.0 in
    (first.0, All-cons (RowHolds a) r rs first.1 later.1)

zero_difference : (a : ℕ → ℤ) (p q : Body) → value a (body_difference p q) ≡ pos 0 → value a p ≡
    value a q
zero_difference a p q is = let e = value-body_difference a p q in omega (arith, ints, e, is)

-- where all differences are 0 the values are equal, one by one
pub equal_values : (a : ℕ → ℤ) (ps qs : List Body) → length ps ≡ length qs →
    AllHold a (equal_lists ps qs).form → values a ps ≡ values a qs
equal_values a [] [] long holds = refl
equal_values a [] (q ∷ qs) long holds = absurd (omega (arith, long))
equal_values a (p ∷ ps) [] long holds = absurd (omega (arith, long))
equal_values a (p ∷ ps) (q ∷ qs) long holds =
    let first = zero_difference a p q (All-head (RowHolds a) (Eq (body_difference p q))
    (equal_lists ps qs).form holds) in
    let rest = equal_values a ps qs (omega (arith, long))
    (All-tail (RowHolds a) (Eq (body_difference p q)) (equal_lists ps qs).form holds) in
    (λ i. first i ∷ rest i)
