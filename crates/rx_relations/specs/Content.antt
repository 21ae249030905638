-- Polynomials divided by the greatest common divisor of their coefficients, over exact integers: a
-- coefficient has the size 2^127 at most, and so has the divisor.
use Rattle.std.specs.Prelude.{ℕ, ℤ, pos, unsigned_abs}
use Rattle.rx_poly.specs.Value.{quotient}
use Rattle.rx_poly.specs.declared.body.Body.{Body}
use Rattle.rx_fm.specs.Elimination.{coefficients, divided}
use Rattle.rx_fm.specs.Numbers.{gcd, gcd_with}
use Rattle.rx_relations.specs.declared.combination.Combination.{Combination}

-- the first number, divided by the greatest common divisor of the sizes of both
abbrev pub cofactor : ℤ → ℤ → ℤ
cofactor a b = quotient a (pos (gcd (unsigned_abs a) (unsigned_abs b)))

-- the greatest common divisor of all coefficients of a polynomial, 0 where it has none
abbrev pub content : Body → ℕ
content p = gcd_with 0 (coefficients p)

-- the polynomial divided by that
abbrev pub primitive : Body → Body
primitive p = divided (content p) p

-- the greatest common divisor of all coefficients of both parts
abbrev pub common_content : Combination → ℕ
common_content c = gcd_with (content c.value) (coefficients c.relation)

-- both parts divided by that
abbrev pub primitive_parts : Combination → Combination
primitive_parts c =
    record {
      value = divided (common_content c) c.value;
      relation =
          divided (common_content c) c.relation;
    }
