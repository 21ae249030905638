-- Exact division: by a divisor, a number is a multiple of its quotient.
use Rattle.std.proofs.Common.{◌≡◌, ◌∙◌, ap, cond, ℕ, zero, suc, ◌*◌, ◌/◌, ◌<◌, ℤ, pos, negsuc, ◌≤ℤ◌, ◌<ℤ◌, unsigned_abs, arith}
use Rattle.std.proofs.lemmas.Int.{ints}
use Rattle.std.proofs.Math.Nat.{mul-div_cancel'}
use Rattle.std.proofs.lemmas.Bool.{false_from_ne_true}
use Rattle.rx_poly.specs.Value.{quotient}
use Rattle.rx_poly.specs.Terms.{is_zero}
use Rattle.rx_poly.proofs.TermLaws.{zero_is}
use Rattle.rx_fm.specs.Numbers.{gcd}
use Rattle.rx_fm.proofs.Gcd.{gcd_is, size_is}

pub quotient_pos : (b g : ℕ) → 0 < g → quotient (pos b) (pos g) ≡ pos (b / g)
quotient_pos b zero h = absurd (omega arith)
quotient_pos b (suc g) h =
    ap (λ t. cond t (pos 0) (pos (b / suc g)))
    (false_from_ne_true (is_zero (pos (suc g))) (λ e. let k : pos (suc g) ≡ pos 0 = zero_is (pos (suc g)) e in
    omega (arith, ints)))

-- one divisor of a number above 0 is above 0
pub gcd_above_zero : (a b : ℕ) → 0 < a → 0 < gcd a b
gcd_above_zero a b h = by (gcd a b) (mul-div_cancel' (gcd a b) {m = a} (gcd_is a b).0)
  where
    by : (g : ℕ) → g * (a / g) ≡ a → 0 < g
    by zero e = absurd (omega arith)
    by (suc g) e = omega arith

size_above : (x : ℤ) → pos 0 <ℤ x → 0 < unsigned_abs x
size_above (pos zero) h = absurd (omega (arith, ints))
size_above (pos (suc a)) h = omega arith
size_above (negsuc a) h = absurd (omega (arith, ints))

-- what the code divides by the greatest common divisor of two numbers above 0
pub cofactor : {g : ℤ} (a b x : ℤ) → pos 0 <ℤ a → pos 0 <ℤ x → g ≡
    pos (gcd (unsigned_abs a) (unsigned_abs b)) → quotient x g ≡
    pos (unsigned_abs x / gcd (unsigned_abs a) (unsigned_abs b))
cofactor a b x h k e =
    let up : pos 0 ≤ℤ x = omega (arith, ints) in
    (λ i. quotient (size_is x up i) (e i)) ∙ quotient_pos (unsigned_abs x)
    (gcd (unsigned_abs a) (unsigned_abs b))
    (gcd_above_zero (unsigned_abs a) (unsigned_abs b) (size_above a h))

pub gcd_not_negative : {g : ℤ} (n : ℕ) → g ≡ pos n → pos 0 ≤ℤ g
gcd_not_negative n e = omega (arith, ints)
