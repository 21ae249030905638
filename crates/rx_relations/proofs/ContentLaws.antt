-- Values of polynomials that are divided by a divisor of all their coefficients.
use Rattle.std.proofs.Common.{◌≡◌, ◌∙◌, ap, true, refl, sym, List, [], ◌∷◌, map, ℕ, zero, suc, ◌+◌, ℤ, pos, ◌+ℤ◌, ◌*ℤ◌, arith}
use Rattle.std.proofs.Math.Nat.{eq_of_mul-eq-mul_left}
use Rattle.std.proofs.lemmas.Bool.{and_parts}
use borrow.Author.Differences.{up, down, same_in, product_is}
use Rattle.rx_plain.proofs.Integers.{mul-add-int, mul-assoc-int, mul-zero-int, zero-mul-int}
use Rattle.rx_poly.proofs.Levels.{value_is}
use Rattle.rx_poly.proofs.PolyLaws.{value-of_terms}
use Rattle.rx_poly.specs.Value.{mono_value, quotient, sum_terms, value}
use Rattle.rx_poly.specs.declared.body.Body.{Body, out-Body}
use Rattle.rx_poly.specs.declared.body.Mono.{Mono}
use Rattle.rx_fm.specs.Elimination.{coefficients, divided}
use Rattle.rx_fm.specs.Numbers.{divides_all}
use Rattle.rx_fm.proofs.Dividing.{divides, each, exact}

-- the divisor times the terms that are divided is the terms
sum-each : (f : Mono → ℤ) (d : ℕ) (ts : List (Mono × ℤ)) →
    divides_all d (map (λ (t : Mono × ℤ). t.1) ts) ≡ true →
    pos d *ℤ sum_terms f (each d ts) ≡ sum_terms f ts
sum-each f d [] h = mul-zero-int (pos d)
sum-each f d (t ∷ ts) h =
    let p = and_parts (divides d t.1) (divides_all d (map (λ (u : Mono × ℤ). u.1) ts)) h in
    let q = quotient t.1 (pos d) in
    let rest = sum_terms f (each d ts) in
    mul-add-int (pos d) (q *ℤ f t.0) rest ∙
    (λ i. sym (mul-assoc-int (pos d) q (f t.0)) i +ℤ sum-each f d ts p.1 i) ∙
    ap (λ z. z *ℤ f t.0 +ℤ sum_terms f ts) (exact d t.1 p.0)

-- the divisor times the value of the quotient is the value
pub value-divided : (a : ℕ → ℤ) (d : ℕ) (p : Body) → divides_all d (coefficients p) ≡ true →
    pos d *ℤ value a (divided d p) ≡ value a p
value-divided a d p h =
    ap (λ z. pos d *ℤ z) (value-of_terms a (each d (out-Body p).terms)) ∙
    sum-each (mono_value a) d (out-Body p).terms h ∙ sym (value_is a p)

-- by 0 all is 0
none-each : (f : Mono → ℤ) (ts : List (Mono × ℤ)) → sum_terms f (each 0 ts) ≡ pos 0
none-each f [] = refl
none-each f (t ∷ ts) = (λ i. zero-mul-int (f t.0) i +ℤ none-each f ts i)

value-divided_by_none : (a : ℕ → ℤ) (p : Body) → value a (divided 0 p) ≡ pos 0
value-divided_by_none a p =
    value-of_terms a (each 0 (out-Body p).terms) ∙ none-each (mono_value a) (out-Body p).terms

-- a factor above 0 is cancelled
factor_cancels : (d : ℕ) (x y : ℤ) → pos (suc d) *ℤ x ≡ pos (suc d) *ℤ y → x ≡ y
factor_cancels d x y e =
    same_in x y (eq_of_mul-eq-mul_left (suc d) (omega arith) (up x + down y) (up y + down x)
    (omega (arith, product_is (pos (suc d)) x, product_is (pos (suc d)) y, ap up e, ap down e)))

-- two polynomials of one value, each under its assignment, have one value when both are divided
pub same_divided : (a b : ℕ → ℤ) (d : ℕ) (p q : Body) → divides_all d (coefficients p) ≡ true →
    divides_all d (coefficients q) ≡ true → value a p ≡ value b q →
    value a (divided d p) ≡ value b (divided d q)
same_divided a b zero p q h g e = value-divided_by_none a p ∙ sym (value-divided_by_none b q)
same_divided a b (suc d) p q h g e =
    factor_cancels d (value a (divided (suc d) p)) (value b (divided (suc d) q))
    (value-divided a (suc d) p h ∙ e ∙ sym (value-divided b (suc d) q g))

-- a polynomial of value 0 has the value 0 when it is divided
pub zero_divided : (a : ℕ → ℤ) (d : ℕ) (p : Body) → divides_all d (coefficients p) ≡ true →
    value a p ≡ pos 0 → value a (divided d p) ≡ pos 0
zero_divided a zero p h e = value-divided_by_none a p
zero_divided a (suc d) p h e =
    factor_cancels d (value a (divided (suc d) p)) (pos 0)
    (value-divided a (suc d) p h ∙ e ∙ sym (mul-zero-int (pos (suc d))))
