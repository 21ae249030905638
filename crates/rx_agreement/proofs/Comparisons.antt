-- What comparisons test, and what values logical expressions have.
use Rattle.std.proofs.Common.{◌≡◌, ℕ, Bool, true, false, not, if◌then◌else◌, refl, sym, ap, subst, ◌∙◌, ℤ, pos, ◌-ℤ◌, ◌≤ℤ◌, ◌<ℤ◌, arith, T}
use Rattle.std.specs.Prelude.{int_lt, int_le}
use Rattle.std.specs.Ordering.{int_eq}
use Rattle.std.specs.Int.Signed.{lt_z_yes, lt_z_no, le_z_yes}
use Rattle.std.proofs.lemmas.Int.{ints, by_lt_z}
use Rattle.std.proofs.lemmas.Bool.Decides.{Decides-int_eq, not_from_Decides}
use Rattle.std.proofs.lemmas.Bool.{not-false, not-true}
use Rattle.rx_poly.specs.Constants.{number}
use Rattle.rx_poly.specs.Limits.{body_difference}
use Rattle.rx_poly.specs.Value.{value}
use Rattle.rx_poly.specs.declared.body.Body.{Body}
use Rattle.rx_poly.proofs.Constants.{value-number}
use Rattle.rx_poly.proofs.PolyLaws.{value-body_difference}
use Rattle.rx_row.specs.declared.row.Row.{Row}
use Rattle.rx_row.specs.Holds.{RowHolds}
use Rattle.rx_row.specs.Negation.{negation}
use Rattle.rx_row.proofs.RowLaws.{negation-holds}
use Rattle.c_ast.specs.declared.expr.UnOp.TheVariants as Sign
use Rattle.c_ast.specs.declared.expr.BinOp.{BinOp}
use Rattle.c_ast.specs.declared.expr.BinOp.TheVariants as Op
use Rattle.c_ast.specs.declared.expr.Expr.{Expr}
use Rattle.c_ast.specs.declared.integers.Integers.{Integers}
use Rattle.c_meaning.specs.Outcomes.{Outcome, Value, Error, More, on_value, State}
use Rattle.c_meaning.specs.Expressions.{Calls, truth, binary, is_zero, expr}
use Rattle.c_meaning.proofs.Equations.{expr-Unary, expr-Binary}
use Rattle.rx_code.specs.Codes as code
use Rattle.rx_code.specs.Codes.{IsComparison, IsLogical}

-- a test, with what it says of a row at an assignment
pub record Tests (α : ℕ → ℤ) (row : Row) (b : Bool) : Type 0 where
  pub holds : b ≡ true → RowHolds α row
  pub fails : b ≡ false → RowHolds α row → ⊥

pub test_fails : (α : ℕ → ℤ) (row : Row) (b : Bool) → Tests α row b → b ≡ false →
    RowHolds α (negation row)
test_fails α row b tests is = (negation-holds α row).1 (tests.fails is)

-- the integer test of a comparison
abbrev pub test_of : BinOp → ℤ → ℤ → Bool
test_of Op.Lt x y = int_lt x y
test_of Op.Le x y = int_le x y
test_of Op.Gt x y = int_lt y x
test_of Op.Ge x y = int_le y x
test_of Op.Eq x y = int_eq x y
test_of Op.Ne x y = not (int_eq x y)
test_of _ x y = false

lt_yes : (x y : ℤ) → int_lt x y ≡ true → x <ℤ y
lt_yes x y is = lt_z_yes (subst T (sym is) tt)

lt_no : (x y : ℤ) → int_lt x y ≡ false → y ≤ℤ x
lt_no x y is = lt_z_no (subst T (sym (ap not is)) tt)

le_yes : (x y : ℤ) → int_le x y ≡ true → x ≤ℤ y
le_yes x y is = le_z_yes (subst T (sym is) tt)

le_no : (x y : ℤ) → int_le x y ≡ false → y <ℤ x
le_no x y is = by_lt_z y x (λ h. h) (λ h. absurd (subst T is h.le))

not_eq : (x y : ℤ) → int_eq x y ≡ false → x ≡ y → ⊥
not_eq x y is = not_from_Decides (int_eq x y) (Decides-int_eq x y) is

difference_zero : (x y : ℤ) → x -ℤ y ≡ pos 0 → x ≡ y
difference_zero x y is = omega (arith, ints)

-- the row gives the comparison of the values
pub comparison_tests : (op : BinOp) (p q : Body) (row : Row) → IsComparison op p q row →
    (α : ℕ → ℤ) → Tests α row (test_of op (value α p) (value α q))
comparison_tests op p q row (code.less _ _) α =
    let e = value-body_difference α (body_difference q p) (number (pos 1)) in
    let f = value-body_difference α q p in
    let g = value-number α (pos 1) in
    record {
      holds = λ is. let h = lt_yes (value α p) (value α q) is in omega (arith, ints, e, f, g, h);
      fails =
          λ is hold. let h = lt_no (value α p) (value α q) is in
          omega (arith, ints, e, f, g, h, hold);
    }
comparison_tests op p q row (code.at_most _ _) α =
    let f = value-body_difference α q p in
    record {
      holds = λ is. let h = le_yes (value α p) (value α q) is in omega (arith, ints, f, h);
      fails =
          λ is hold. let h = le_no (value α p) (value α q) is in omega (arith, ints, f, h, hold);
    }
comparison_tests op p q row (code.greater _ _) α =
    let e = value-body_difference α (body_difference p q) (number (pos 1)) in
    let f = value-body_difference α p q in
    let g = value-number α (pos 1) in
    record {
      holds = λ is. let h = lt_yes (value α q) (value α p) is in omega (arith, ints, e, f, g, h);
      fails =
          λ is hold. let h = lt_no (value α q) (value α p) is in
          omega (arith, ints, e, f, g, h, hold);
    }
comparison_tests op p q row (code.at_least _ _) α =
    let f = value-body_difference α p q in
    record {
      holds = λ is. let h = le_yes (value α q) (value α p) is in omega (arith, ints, f, h);
      fails =
          λ is hold. let h = le_no (value α q) (value α p) is in omega (arith, ints, f, h, hold);
    }
comparison_tests op p q row (code.equal _ _) α =
    let f = value-body_difference α p q in
    record {
      holds =
          λ is. let h : value α p ≡ value α q = (Decides-int_eq (value α p) (value α q)).0 is in
          omega (arith, ints, f, h);
      fails =
          λ is hold. not_eq (value α p) (value α q) is
          (difference_zero (value α p) (value α q) (sym f ∙ hold));
    }
comparison_tests op p q row (code.unequal _ _) α =
    let f = value-body_difference α p q in
    record {
      holds =
          λ is hold. not_eq (value α p) (value α q) (not-true (int_eq (value α p) (value α q)) is)
          (difference_zero (value α p) (value α q) (sym f ∙ hold));
      fails =
          λ is hold. let h : value α p ≡ value α q =
          (Decides-int_eq (value α p) (value α q)).0 (not-false (int_eq (value α p) (value α q)) is)
          in
          hold (let e : value α p -ℤ value α q ≡ pos 0 = omega (arith, ints, h) in f ∙ e);
    }

-- a comparison gives the truth of its test
pub comparison_value : (integers : Integers) (op : BinOp) (p q : Body) (row : Row) →
    IsComparison op p q row → (x y : ℤ) →
    binary integers op (Value x) (Value y) ≡ Value (truth (test_of op x y))
comparison_value integers op p q row (code.less _ _) x y = refl
comparison_value integers op p q row (code.at_most _ _) x y = refl
comparison_value integers op p q row (code.greater _ _) x y = refl
comparison_value integers op p q row (code.at_least _ _) x y = refl
comparison_value integers op p q row (code.equal _ _) x y = refl
comparison_value integers op p q row (code.unequal _ _) x y = refl

pub comparison_outcome : (integers : Integers) (op : BinOp) (p q : Body) (row : Row)
    (o u : Outcome ℤ) →
    IsComparison op p q row → binary integers op o u ≡
    on_value o (λ x. on_value u (λ y. binary integers op (Value x) (Value y)))
comparison_outcome integers op p q row o u (code.less _ _) = refl
comparison_outcome integers op p q row o u (code.at_most _ _) = refl
comparison_outcome integers op p q row o u (code.greater _ _) = refl
comparison_outcome integers op p q row o u (code.at_least _ _) = refl
comparison_outcome integers op p q row o u (code.equal _ _) = refl
comparison_outcome integers op p q row o u (code.unequal _ _) = refl

-- an outcome whose integer, if there is one, is 0 or 1
abbrev pub Truthful : Outcome ℤ → Type 0
Truthful (Value x) = x ≡ truth (not (is_zero x))
Truthful (Error error) = Unit {0}
Truthful More = Unit {0}

truthful-truth : (b : Bool) → Truthful (Value (truth b))
truthful-truth true = refl
truthful-truth false = refl

truthful-on : {A : Type 0} (o : Outcome A) (g : A → Outcome ℤ) → ((x : A) → Truthful (g x)) →
    Truthful (on_value o g)
truthful-on (Value x) g each = each x
truthful-on (Error error) g each = tt
truthful-on More g each = tt

truthful-if : (t : Bool) (o u : Outcome ℤ) → Truthful o → Truthful u → Truthful (if t then o else u)
truthful-if true o u first second = first
truthful-if false o u first second = second

pub logical_truthful : (integers : Integers) (calls : Calls) (e : Expr) (s : State) → IsLogical e →
    Truthful (expr integers calls e s)
logical_truthful integers calls e s (code.comparison op f g p q row is) =
    subst Truthful (sym (expr-Binary integers calls op f g s ∙
    comparison_outcome integers op p q row (expr integers calls f s) (expr integers calls g s) is))
    (truthful-on (expr integers calls f s) _ (λ x. truthful-on (expr integers calls g s) _
    (λ y. subst Truthful (sym (comparison_value integers op p q row is x y))
    (truthful-truth (test_of op x y)))))
logical_truthful integers calls e s (code.negation f) =
    subst Truthful (sym (expr-Unary integers calls Sign.Not f s))
    (truthful-on (expr integers calls f s) _ (λ x. truthful-truth (is_zero x)))
logical_truthful integers calls e s (code.conjunction f g) =
    subst Truthful (sym (expr-Binary integers calls Op.AndAlso f g s))
    (truthful-on (expr integers calls f s) _ (λ x. truthful-if (is_zero x) _ _ refl
    (truthful-on (expr integers calls g s) _ (λ y. truthful-truth (not (is_zero y))))))
logical_truthful integers calls e s (code.disjunction f g) =
    subst Truthful (sym (expr-Binary integers calls Op.OrElse f g s))
    (truthful-on (expr integers calls f s) _ (λ x. truthful-if (is_zero x) _ _
    (truthful-on (expr integers calls g s) _ (λ y. truthful-truth (not (is_zero y)))) refl))
