-- When a value is out of the range of 32-bit integers, by the rows that test it; and operators as
-- their exact results, tested.
use Rattle.std.proofs.Common.{◌≡◌, ◌↔◌, subst, refl, ℕ, Bool, true, false, if◌then◌else◌, ℤ, pos, negsuc, ◌+ℤ◌, ◌-ℤ◌, ◌*ℤ◌, ◌≤ℤ◌, arith, [], ◌∷◌}
use Rattle.std.specs.Prelude.{Contains, int_div, int_rem}
use Rattle.std.proofs.lemmas.Bool.{lt-ltb, le-ltb}
use Rattle.std.proofs.lemmas.Int.{ints}
use Rattle.rx_plain.proofs.Kept.{first_one, other_one}
use Rattle.rx_poly.specs.Constants.{number}
use Rattle.rx_poly.specs.Limits.{body_difference, scaled_by}
use Rattle.rx_poly.specs.Value.{value}
use Rattle.rx_poly.specs.declared.body.Body.{Body}
use Rattle.rx_poly.proofs.Constants.{value-number}
use Rattle.rx_poly.proofs.PolyLaws.{value-body_difference, value-scaled_by}
use Rattle.rx_row.specs.Holds.{RowHolds}
use Rattle.rx_row.specs.Negation.{negation}
use Rattle.rx_row.proofs.RowLaws.{value-minus_one_more}
use Rattle.c_ast.specs.declared.expr.UnOp.TheVariants as Sign
use Rattle.c_ast.specs.declared.expr.BinOp.{BinOp}
use Rattle.c_ast.specs.declared.integers.Integers.{Integers}
use Rattle.c_ast.specs.declared.integers.Integers.TheVariants.{Unbounded, Bits32}
use Rattle.c_meaning.specs.Outcomes as meaning
use Rattle.c_meaning.specs.Outcomes.{Range, Outcome, Value, Error, More, on_value}
use Rattle.c_meaning.specs.Expressions.{is_int, is_zero, exact, unary, binary}
use Rattle.rx_code.specs.Codes as code
use Rattle.rx_code.specs.Codes.{IsArithmetic, IsDivision}
use Rattle.rx_code.specs.Expressions.{above, below, tested_by}
use Rattle.rx_code.specs.Rules.{failure_codes}
use Rattle.rx_code.specs.declared.action.Division.{Division}
use Rattle.rx_code.specs.declared.action.Division.TheVariants.{Quotient, Remainder}
use Rattle.rx_agreement.specs.Agreement.{code_of}

-- ---- the rows

pub above_holds : (α : ℕ → ℤ) (p : Body) → RowHolds α (above p).form ↔
    (pos 2147483648 ≤ℤ value α p)
above_holds α p =
    let e = value-body_difference α p (number (pos 2147483648)) in
    let f = value-number α (pos 2147483648) in
    (λ h. omega (arith, ints, e, f, h), λ h. omega (arith, ints, e, f, h))

pub below_holds : (α : ℕ → ℤ) (p : Body) → RowHolds α (below p).form ↔
    (value α p ≤ℤ negsuc 2147483648)
below_holds α p =
    let e = value-body_difference α (scaled_by (negsuc 0) p) (number (pos 2147483649)) in
    let f = value-number α (pos 2147483649) in
    let g = value-scaled_by α (negsuc 0) p in
    (λ h. omega (arith, ints, e, f, g, h), λ h. omega (arith, ints, e, f, g, h))

not_above : (α : ℕ → ℤ) (p : Body) → RowHolds α (negation (above p).form) →
    value α p ≤ℤ pos 2147483647
not_above α p h =
    let d = body_difference p (number (pos 2147483648)) in
    let e = value-body_difference α p (number (pos 2147483648)) in
    let f = value-number α (pos 2147483648) in
    let g = value-minus_one_more α d in
    omega (arith, ints, e, f, g, h)

not_below : (α : ℕ → ℤ) (p : Body) → RowHolds α (negation (below p).form) →
    negsuc 2147483647 ≤ℤ value α p
not_below α p h =
    let d = body_difference (scaled_by (negsuc 0) p) (number (pos 2147483649)) in
    let e = value-body_difference α (scaled_by (negsuc 0) p) (number (pos 2147483649)) in
    let f = value-number α (pos 2147483649) in
    let g = value-scaled_by α (negsuc 0) p in
    let i = value-minus_one_more α d in
    omega (arith, ints, e, f, g, h, i)

-- ---- the integers

above_range : (x : ℤ) → pos 2147483648 ≤ℤ x → is_int x ≡ false
above_range (pos n) h = le-ltb n 2147483648 (omega (arith, ints, h))
above_range (negsuc n) h = absurd (omega (arith, ints, h))

below_range : (x : ℤ) → x ≤ℤ negsuc 2147483648 → is_int x ≡ false
below_range (pos n) h = absurd (omega (arith, ints, h))
below_range (negsuc n) h = le-ltb n 2147483648 (omega (arith, ints, h))

pub int_between : (x : ℤ) → negsuc 2147483647 ≤ℤ x → x ≤ℤ pos 2147483647 → is_int x ≡ true
int_between (pos n) low high = lt-ltb n 2147483648 (omega (arith, ints, high))
int_between (negsuc n) low high = lt-ltb n 2147483648 (omega (arith, ints, low))

-- a value that is above all 32-bit integers, or below all, is none; and each other one is one
pub above_none : (α : ℕ → ℤ) (p : Body) (x : ℤ) → value α p ≡ x → RowHolds α (above p).form →
    is_int x ≡ false
above_none α p x is holds = above_range x (subst (λ k. pos 2147483648 ≤ℤ k) is
    ((above_holds α p).0 holds))

pub below_none : (α : ℕ → ℤ) (p : Body) (x : ℤ) → value α p ≡ x → RowHolds α (below p).form →
    is_int x ≡ false
below_none α p x is holds = below_range x (subst (λ k. k ≤ℤ negsuc 2147483648) is
    ((below_holds α p).0 holds))

pub neither_one : (α : ℕ → ℤ) (p : Body) (x : ℤ) → value α p ≡ x →
    RowHolds α (negation (above p).form) → RowHolds α (negation (below p).form) → is_int x ≡ true
neither_one α p x is low high =
    subst (λ k. is_int k ≡ true) is
    (int_between (value α p) (not_below α p high) (not_above α p low))

-- ---- the codes of errors

-- the division error has a code of both kinds
pub division_code : (integers : Integers) → Contains (failure_codes integers)
    (code_of meaning.Division)
division_code Unbounded = first_one 1 []
division_code Bits32 = first_one 1 (2 ∷ [])

-- the range error has one of 32-bit integers
pub range_code : (integers : Integers) → integers ≡ Bits32 →
    Contains (failure_codes integers) (code_of Range)
range_code Unbounded is = let no : ⊥ = cc in absurd no
range_code Bits32 is = other_one 1 (2 ∷ []) 2 (first_one 2 [])

pub tested_code : (integers : Integers) (d : Division) → tested_by integers d ≡ Bits32 →
    Contains (failure_codes integers) (code_of Range)
tested_code integers Quotient is = range_code integers is
tested_code integers Remainder is = let no : ⊥ = cc in absurd no

-- ---- operators are their exact results, tested

pub exact_minus : (integers : Integers) (o : Outcome ℤ) →
    on_value (on_value o (unary Unbounded Sign.Minus)) (exact integers) ≡
    on_value o (unary integers Sign.Minus)
exact_minus integers (Value x) = refl
exact_minus integers (Error e) = refl
exact_minus integers More = refl

exact_both : (integers : Integers) (h : ℤ → ℤ → ℤ) (o u : Outcome ℤ) →
    on_value (on_value o (λ x. on_value u (λ y. Value (h x y)))) (exact integers) ≡
    on_value o (λ x. on_value u (λ y. exact integers (h x y)))
exact_both integers h (Value x) (Value y) = refl
exact_both integers h (Value x) (Error e) = refl
exact_both integers h (Value x) More = refl
exact_both integers h (Error e) u = refl
exact_both integers h More u = refl

pub exact_arithmetic : (integers : Integers) (op : BinOp) (p q r : Body) (o u : Outcome ℤ) →
    IsArithmetic op p q r →
    on_value (binary Unbounded op o u) (exact integers) ≡ binary integers op o u
exact_arithmetic integers op p q r o u (code.sum _ _) = exact_both integers ◌+ℤ◌ o u
exact_arithmetic integers op p q r o u (code.difference _ _) = exact_both integers ◌-ℤ◌ o u
exact_arithmetic integers op p q r o u (code.product _ _) = exact_both integers ◌*ℤ◌ o u

quotient_if : (integers : Integers) (zero : Bool) (z : ℤ) →
    on_value (if zero then Error meaning.Division else Value z) (exact integers) ≡
    (if zero then Error meaning.Division else exact integers z)
quotient_if integers true z = refl
quotient_if integers false z = refl

remainder_if : (zero : Bool) (z : ℤ) →
    on_value (if zero then Error meaning.Division else Value z) (exact Unbounded) ≡
    (if zero then Error meaning.Division else Value z)
remainder_if true z = refl
remainder_if false z = refl

pub exact_division : (integers : Integers) (op : BinOp) (d : Division) (o u : Outcome ℤ) →
    IsDivision op d →
    on_value (binary Unbounded op o u) (exact (tested_by integers d)) ≡ binary integers op o u
exact_division integers op d (Value x) (Value y) code.of_quotient =
    quotient_if integers (is_zero y) (int_div x y)
exact_division integers op d (Value x) (Value y) code.of_remainder =
    remainder_if (is_zero y) (int_rem x y)
exact_division integers op d (Value x) (Error e) code.of_quotient = refl
exact_division integers op d (Value x) (Error e) code.of_remainder = refl
exact_division integers op d (Value x) More code.of_quotient = refl
exact_division integers op d (Value x) More code.of_remainder = refl
exact_division integers op d (Error e) u code.of_quotient = refl
exact_division integers op d (Error e) u code.of_remainder = refl
exact_division integers op d More u code.of_quotient = refl
exact_division integers op d More u code.of_remainder = refl
