-- The greatest common divisor is one, and how Euclid's rule leads to it.
use Rattle.std.proofs.Common.{◌≡◌, ◌∙◌, ap, Bool, true, false, cond, refl, sym, ℕ, zero, suc, ◌%◌, ◌≤◌, nat_eq, ℤ, pos, negsuc, ◌≤ℤ◌, ◌<ℤ◌, int_rem, unsigned_abs, arith}
use Rattle.std.proofs.lemmas.Int.{ints}
use Rattle.std.proofs.lemmas.Nat.Gcd.{IsGcd-from_zero, IsGcd-from_mod, same_from_IsGcd}
use Rattle.std.proofs.Math.Nat.{eq-one_of_dvd-one}
use Rattle.std.specs.Int.{IsGcd}
use Rattle.rx_fm.specs.Numbers.{euclid, gcd}

by_test : (n a b : ℕ) → b ≤ suc n → ((b ≡ 0 → ⊥) → IsGcd b (a % b) (euclid n b (a % b))) →
    (t : Bool) → nat_eq b 0 ≡ t → IsGcd a b (cond t a (euclid n b (a % b)))
by_test n a b h step true e = IsGcd-from_zero a b (grind arith)
by_test n a b h step false e =
    IsGcd-from_mod a b (euclid n b (a % b)) (step
    (λ z. let k : nat_eq b 0 ≡ true = grind arith in cc))

euclid_is : (n a b : ℕ) → b ≤ n → IsGcd a b (euclid n a b)
unfolding euclid
euclid_is zero a b h = IsGcd-from_zero a b (omega arith)
euclid_is (suc n) a b h =
    by_test n a b h (λ some. euclid_is n b (a % b) (omega arith)) (nat_eq b 0) refl

pub gcd_is : (a b : ℕ) → IsGcd a b (gcd a b)
gcd_is a b = euclid_is b a b (omega arith)

pub gcd_step : (a b : ℕ) → gcd b (a % b) ≡ gcd a b
gcd_step a b =
    same_from_IsGcd a b (gcd b (a % b)) (gcd a b)
    (IsGcd-from_mod a b (gcd b (a % b)) (gcd_is b (a % b))) (gcd_is a b)

pub gcd_end : (a b : ℕ) → b ≡ 0 → gcd a b ≡ a
gcd_end a b e = same_from_IsGcd a b (gcd a b) a (gcd_is a b) (IsGcd-from_zero a b e)

-- nothing but 1 divides 1
gcd_of_one : (b : ℕ) → gcd 1 b ≡ 1
gcd_of_one b = eq-one_of_dvd-one (gcd_is 1 b).0

-- ---- the same of integers that are not negative

pub rem_sizes : (x y : ℤ) → pos 0 ≤ℤ x → pos 0 <ℤ y → int_rem x y ≡
    pos (unsigned_abs x % unsigned_abs y)
rem_sizes (pos a) (pos b) h g = refl
rem_sizes (pos a) (negsuc b) h g = absurd (omega (arith, ints))
rem_sizes (negsuc a) y h g = absurd (omega (arith, ints))

pub size_is : (x : ℤ) → pos 0 ≤ℤ x → x ≡ pos (unsigned_abs x)
size_is (pos a) h = refl
size_is (negsuc a) h = absurd (omega (arith, ints))

-- one turn of the rule
pub gcd_turn : {rest : ℤ} (x y : ℤ) {whole : ℕ} → rest ≡ pos (unsigned_abs x % unsigned_abs y) →
    gcd (unsigned_abs x) (unsigned_abs y) ≡ whole → gcd (unsigned_abs y) (unsigned_abs rest) ≡ whole
gcd_turn x y e h =
    ap (λ z. gcd (unsigned_abs y) (unsigned_abs z)) e ∙ gcd_step (unsigned_abs x) (unsigned_abs y) ∙
    h

pub not_negative : {rest : ℤ} {n : ℕ} → rest ≡ pos n → pos 0 ≤ℤ rest
not_negative e = omega (arith, ints)

-- its end
pub gcd_found : (x y : ℤ) {whole : ℕ} → pos 0 ≤ℤ x → y ≡ pos 0 →
    gcd (unsigned_abs x) (unsigned_abs y) ≡ whole → x ≡ pos whole
gcd_found x y h e w =
    size_is x h ∙ ap pos (sym (gcd_end (unsigned_abs x) (unsigned_abs y) (ap unsigned_abs e)) ∙ w)

-- its end before the first turn
pub one_found : (x y : ℤ) → x ≡ pos 1 → pos 1 ≡ pos (gcd (unsigned_abs x) (unsigned_abs y))
one_found x y e =
    ap pos (sym (ap (λ z. gcd (unsigned_abs z) (unsigned_abs y)) e ∙ gcd_of_one (unsigned_abs y)))
