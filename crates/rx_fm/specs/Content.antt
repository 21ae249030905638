-- The content of a polynomial: the greatest common divisor of its coefficients, without the
-- constant.
use Rattle.std.specs.Prelude.{ℕ, Bool, not, ◌||◌, if◌then◌else◌, unsigned_abs, List, filter, map, ℤ}
use Rattle.rx_poly.specs.declared.body.Body.{Body, out-Body}
use Rattle.rx_poly.specs.declared.body.Mono.{Mono}
use Rattle.rx_fm.specs.Elimination.{is_one}
use Rattle.rx_fm.specs.Numbers.{gcd, gcd_with, size_fits}

-- g, or its greatest common divisor with a term's coefficient where the term isn't the constant
abbrev pub gcd_with_term : ℕ → Mono × ℤ → ℕ
gcd_with_term g t = if is_one t.0 then g else gcd g (unsigned_abs t.1)

-- the size of a term's coefficient is one of i128, or the term is the constant
abbrev pub term_fits : Mono × ℤ → Bool
term_fits t = is_one t.0 || size_fits t.1

-- the coefficients of these terms, without that of 1
abbrev pub coefficients_but_one : List (Mono × ℤ) → List ℤ
coefficients_but_one ts =
    map (λ (t : Mono × ℤ). t.1) (filter (λ (t : Mono × ℤ). not (is_one t.0)) ts)

-- the coefficients of a polynomial, without the constant
abbrev pub variable_coefficients : Body → List ℤ
variable_coefficients p = coefficients_but_one (out-Body p).terms

-- their greatest common divisor, 0 where there is none
abbrev pub content : Body → ℕ
content p = gcd_with 0 (variable_coefficients p)
