-- Numbers divided by natural numbers, and the parts of combinations divided by a divisor of all
-- their coefficients.
use Rattle.std.proofs.Common.{◌≡◌, ◌∙◌, ap, true, refl, sym, List, [], ◌∷◌, ℕ, zero, suc, ◌*◌, ◌/◌, ◌%◌, ◌^◌, ◌<◌, ◌≤◌, ℤ, pos, negsuc, neg_ℤ, ◌≤ℤ◌, ◌<ℤ◌, unsigned_abs, arith}
use Rattle.std.proofs.Math.Nat.{div-mul-le_self, mul-le-mul_left}
use Rattle.std.proofs.lemmas.Int.{ints}
use Rattle.rx_plain.proofs.Integers.{one-mul-int}
use Rattle.rx_poly.specs.Value.{quotient}
use Rattle.rx_poly.specs.declared.body.Body.{Body, out-Body, roll-Body, roll-out-Body}
use Rattle.rx_poly.specs.declared.body.Mono.{Mono}
use Rattle.rx_fm.specs.Elimination.{coefficients, divided}
use Rattle.rx_fm.specs.Numbers.{divides_all}
use Rattle.rx_fm.proofs.Dividing.{divides, divides_weaker, each, exact, quotient_is, with_divides, with_divides_first}
use Rattle.rx_relations.specs.Content.{common_content, content, primitive, primitive_parts}
use Rattle.rx_relations.specs.declared.combination.Combination.{Combination}

-- the content divides each coefficient
pub content_divides : (p : Body) → divides_all (content p) (coefficients p) ≡ true
content_divides p = with_divides 0 (coefficients p)

-- the common content divides each coefficient of both parts
pub common_divides : (c : Combination) →
    (divides_all (common_content c) (coefficients c.value) ≡ true) ×
    (divides_all (common_content c) (coefficients c.relation) ≡ true)
common_divides c = (
  divides_weaker (common_content c) (content c.value) (coefficients c.value)
      (with_divides_first (content c.value) (coefficients c.relation))
      (with_divides 0 (coefficients c.value)),
  with_divides (content c.value) (coefficients c.relation),
)

-- ---- by 1

one_divides : (x : ℤ) → divides 1 x ≡ true
one_divides x = let rest : unsigned_abs x % 1 ≡ 0 = omega arith in grind arith

one_quotient : (x : ℤ) → quotient x (pos 1) ≡ x
one_quotient x = sym (one-mul-int (quotient x (pos 1))) ∙ exact 1 x (one_divides x)

each_one : (ts : List (Mono × ℤ)) → each 1 ts ≡ ts
each_one [] = refl
each_one (t ∷ ts) = λ i. (t.0, one_quotient t.1 i) ∷ each_one ts i

divided_one : (p : Body) → divided 1 p ≡ p
divided_one p =
    (λ i. roll-Body (record { terms = each_one (out-Body p).terms i })) ∙ roll-out-Body p

-- where the content is 1, nothing changes
pub primitive_one : (p : Body) → content p ≡ 1 → primitive p ≡ p
primitive_one p e = ap (λ d. divided d p) e ∙ divided_one p

-- where the common content is 1, nothing changes
pub parts_one : (c : Combination) → common_content c ≡ 1 → primitive_parts c ≡ c
parts_one c e =
    (λ i. record { value = divided (e i) c.value; relation = divided (e i) c.relation })
    ∙ (λ i. record { value = divided_one c.value i; relation = divided_one c.relation i })

-- ---- the quotient of one number

-- by more than 1, a size of i128 becomes one that keeps its sign
pub half_fits : (n d : ℕ) → n ≤ 2 ^ 127 → 2 ≤ d → n / d < 2 ^ 127
half_fits n d h g =
    let low : n / d * d ≤ n = div-mul-le_self n d in
    let twice : n / d * 2 ≤ n / d * d = mul-le-mul_left (n / d) g in
    omega (arith, low, twice)

-- the sizes divided, with the sign of the number
pub quotient_above : (x : ℤ) (d : ℕ) → 0 < d → pos 0 ≤ℤ x → pos (unsigned_abs x / d) ≡ quotient x (pos d)
quotient_above x zero g h = absurd (omega (arith, g))
quotient_above (pos a) (suc d) g h = sym (quotient_is (pos a) d)
quotient_above (negsuc a) (suc d) g h = absurd (omega (arith, ints))

pub quotient_below : (x : ℤ) (d : ℕ) → 0 < d → x <ℤ pos 0 → neg_ℤ (pos (unsigned_abs x / d)) ≡
    quotient x (pos d)
quotient_below x zero g h = absurd (omega (arith, g))
quotient_below (pos a) (suc d) g h = absurd (omega (arith, ints))
quotient_below (negsuc a) (suc d) g h = sym (quotient_is (negsuc a) d)
