-- Numbers divided by a common divisor, and polynomials whose coefficients are.
use Rattle.std.proofs.Common.{◌≡◌, ◌∙◌, ap, Bool, true, false, ◌&&◌, cond, refl, sym, List, [], ◌∷◌, map, ℕ, zero, suc, ◌+◌, ◌%◌, nat_eq, nat_le, sum_by, ℤ, pos, negsuc, neg_ℤ, ◌*ℤ◌, FitsSigned, int_div, int_rem, unsigned_abs, arith}
use Rattle.std.proofs.lemmas.Int.{ints, quot-rem, quot_fits}
use Rattle.std.proofs.lemmas.Bool.{and_from, and_parts, false_from_ne_true}
use Rattle.std.proofs.lemmas.Nat.Gcd.{dvd_of_mod-eq-zero, mod-eq-zero_of_dvd, dvd_refl, dvd_trans}
use Rattle.std.proofs.Math.Nat.{mul-div_cancel'}
use Rattle.std.specs.Int.{◌∣◌, w128}
use Rattle.std.specs.List.{fold}
use Rattle.std.specs.Ordering.{is_lt}
use lib.IntN.{*ℤ_comm}
use Rattle.rx_poly.proofs.Constants.{fits_signed}
use Rattle.rx_plain.proofs.Integers.{mul-zero-int, one-mul-int}
use Rattle.rx_poly.specs.Limits.{all_fit, body_depth, body_size, fits_i128, greatest, is_small, mono_depth, mono_size}
use Rattle.rx_poly.specs.Normal.{is_normal, is_normal_mono, is_poly}
use Rattle.rx_poly.specs.Order.{mono_cmp}
use Rattle.rx_poly.specs.Terms.{all_keys, is_sparse_sorted, is_zero}
use Rattle.rx_poly.specs.Value.{quotient}
use Rattle.rx_poly.proofs.Levels.{body_depth_is, body_size_is}
use Rattle.rx_poly.proofs.OrderLemmas.{mono_total}
use Rattle.rx_poly.proofs.PolyLaws.{depth-of_terms, poly_of_terms, poly_terms, size-of_terms}
use Rattle.rx_poly.proofs.Same.{same_mono}
use Rattle.rx_poly.proofs.TermLaws.{listed_from, listed_parts, zero_is}
use Rattle.rx_poly.specs.declared.body.Body.{Body, out-Body, roll-Body, roll-out-Body}
use Rattle.rx_poly.specs.declared.body.Mono.{Mono}
use Rattle.rx_fm.specs.Elimination.{coefficients, common_divisor, divided, primitive_part}
use Rattle.rx_fm.specs.Numbers.{divides_all, gcd, gcd_with, quotients}
use Rattle.rx_fm.specs.declared.combination.Combination.{Combination}
use Rattle.rx_fm.proofs.Gcd.{gcd_is}

-- ---- one number

abbrev pub divides : ℕ → ℤ → Bool
divides d x = nat_eq (unsigned_abs x % d) 0

pub test_of : (d : ℕ) (x : ℤ) → d ∣ unsigned_abs x → divides d x ≡ true
test_of d x h = let e : unsigned_abs x % d ≡ 0 = mod-eq-zero_of_dvd d h in grind arith

pub divisor_of : (d : ℕ) (x : ℤ) → divides d x ≡ true → d ∣ unsigned_abs x
divisor_of d x h = dvd_of_mod-eq-zero d (let e : unsigned_abs x % d ≡ 0 = grind arith in e)

rem_zero : (x : ℤ) (d : ℕ) → unsigned_abs x % d ≡ 0 → int_rem x (pos d) ≡ pos 0
rem_zero (pos a) d e = ap pos e
rem_zero (negsuc a) d e = ap (λ n. neg_ℤ (pos n)) e

size_zero : (x : ℤ) → unsigned_abs x ≡ 0 → x ≡ pos 0
size_zero (pos a) e = ap pos e
size_zero (negsuc a) e = absurd (omega arith)

pub above_is : (d : ℕ) → is_zero (pos (suc d)) ≡ false
above_is d =
    false_from_ne_true (is_zero (pos (suc d))) (λ e. let k : pos (suc d) ≡ pos 0 = zero_is (pos (suc d)) e in
    omega (arith, ints))

pub quotient_is : (x : ℤ) (d : ℕ) → quotient x (pos (suc d)) ≡ int_div x (pos (suc d))
quotient_is x d = ap (λ t. cond t (pos 0) (int_div x (pos (suc d)))) (above_is d)

-- by a divisor a number is a multiple of its quotient; by 0 only 0 is
pub exact : (d : ℕ) (x : ℤ) → divides d x ≡ true → pos d *ℤ quotient x (pos d) ≡ x
exact zero x h =
    let none : unsigned_abs x ≡ 0 = sym (mul-div_cancel' 0 {m = unsigned_abs x} (divisor_of 0 x h))
    ∙ omega arith in
    mul-zero-int (pos 0) ∙ sym (size_zero x none)
exact (suc d) x h =
    let rest : unsigned_abs x % suc d ≡ 0 = grind arith in
    let whole = quot-rem x (pos (suc d)) in
    let none = rem_zero x (suc d) rest in
    let turned = *ℤ_comm (pos (suc d)) (int_div x (pos (suc d))) in
    ap (λ z. pos (suc d) *ℤ z) (quotient_is x d) ∙ turned ∙ omega (arith, ints)

pub quotient_zero : (d : ℕ) → quotient (pos 0) (pos d) ≡ pos 0
quotient_zero zero = refl
quotient_zero (suc d) = quotient_is (pos 0) d ∙ ap pos (omega arith)

-- a quotient by a divisor is 0 only where the number is
pub quotient_nonzero : (d : ℕ) (x : ℤ) → divides d x ≡ true → is_zero x ≡ false →
    is_zero (quotient x (pos d)) ≡ false
quotient_nonzero d x h n = false_from_ne_true (is_zero (quotient x (pos d))) (λ e.
    let none : x ≡ pos 0 = sym (exact d x h) ∙
    ap (λ z. pos d *ℤ z) (zero_is (quotient x (pos d)) e) ∙ mul-zero-int (pos d) in
    let no : is_zero x ≡ true = ap is_zero none in cc)

is_fit : (z : ℤ) → fits_i128 z ≡ true → FitsSigned w128 z
is_fit (pos n) f = record { sfits = grind arith }
is_fit (negsuc n) f = record { sfits = grind arith }

pub quotient_fits : (d : ℕ) (x : ℤ) → fits_i128 x ≡ true → fits_i128 (quotient x (pos d)) ≡ true
quotient_fits zero x f = refl
quotient_fits (suc d) x f =
    ap fits_i128 (quotient_is x d) ∙ fits_signed (int_div x (pos (suc d)))
    (quot_fits w128 x (pos (suc d)) (is_fit x f) (omega (arith, ints)))

-- ---- lists of numbers

pub with_divides_first : (g : ℕ) (xs : List ℤ) → gcd_with g xs ∣ g
with_divides_first g [] = dvd_refl g
with_divides_first g (x ∷ xs) =
    dvd_trans (gcd_with (gcd g (unsigned_abs x)) xs)
    (with_divides_first (gcd g (unsigned_abs x)) xs) (gcd_is g (unsigned_abs x)).0

pub with_divides : (g : ℕ) (xs : List ℤ) → divides_all (gcd_with g xs) xs ≡ true
with_divides g [] = refl
with_divides g (x ∷ xs) =
    let d = gcd_with (gcd g (unsigned_abs x)) xs in
    and_from (divides d x) (divides_all d xs)
    (test_of d x (dvd_trans d (with_divides_first (gcd g (unsigned_abs x)) xs)
    (gcd_is g (unsigned_abs x)).1))
    (with_divides (gcd g (unsigned_abs x)) xs)

pub divides_weaker : (d e : ℕ) (xs : List ℤ) → d ∣ e → divides_all e xs ≡ true → divides_all d xs ≡
    true
divides_weaker d e [] h g = refl
divides_weaker d e (x ∷ xs) h g =
    let p = and_parts (divides e x) (divides_all e xs) g in
    and_from (divides d x) (divides_all d xs) (test_of d x (dvd_trans d h (divisor_of e x p.0)))
    (divides_weaker d e xs h p.1)

-- the common divisor of a polynomial and multipliers divides all of both
pub common_divides : (c : Combination) → (divides_all (common_divisor c) (coefficients c.poly) ≡
    true) ×
    (divides_all (common_divisor c) c.multipliers ≡ true)
common_divides c =
    let first = gcd_with 0 (coefficients c.poly) in (
      divides_weaker (common_divisor c) first (coefficients c.poly)
          (with_divides_first first c.multipliers)
          (with_divides 0 (coefficients c.poly)),
      with_divides first c.multipliers,
    )

-- ---- polynomials

abbrev pub each : ℕ → List (Mono × ℤ) → List (Mono × ℤ)
each d ts = map (λ (t : Mono × ℤ). (t.0, quotient t.1 (pos d))) ts

keys-each : (test : Mono → Bool) (d : ℕ) (ts : List (Mono × ℤ)) → all_keys test (each d ts) ≡
    all_keys test ts
keys-each test d [] = refl
keys-each test d (t ∷ ts) = ap (λ b. test t.0 && b) (keys-each test d ts)

fits-each : (d : ℕ) (ts : List (Mono × ℤ)) → all_fit ts ≡ true → all_fit (each d ts) ≡ true
fits-each d [] h = refl
fits-each d (t ∷ ts) h =
    let p = and_parts (fits_i128 t.1) (all_fit ts) h in
    and_from (fits_i128 (quotient t.1 (pos d))) (all_fit (each d ts)) (quotient_fits d t.1 p.0)
    (fits-each d ts p.1)

listed-each : (d : ℕ) (ts : List (Mono × ℤ)) → is_sparse_sorted mono_cmp ts ≡ true →
    divides_all d (map (λ (t : Mono × ℤ). t.1) ts) ≡ true → is_sparse_sorted mono_cmp (each d ts) ≡
    true
listed-each d [] h g = refl
listed-each d (t ∷ ts) h g =
    let l = listed_parts mono_cmp mono_total same_mono t ts h in
    let p = and_parts (divides d t.1) (divides_all d (map (λ (u : Mono × ℤ). u.1) ts)) g in
    listed_from mono_cmp mono_total same_mono (t.0, quotient t.1 (pos d)) (each d ts) (record {
      nonzero = quotient_nonzero d t.1 p.0 l.nonzero;
      before = keys-each (λ x. is_lt (mono_cmp t.0 x)) d ts ∙ l.before;
      rest = listed-each d ts l.rest p.1;
    })

sizes-from : (n d : ℕ) (ts : List (Mono × ℤ)) →
    fold (λ (a : ℕ) (t : Mono × ℤ). a + mono_size t.0) n (each d ts) ≡
    fold (λ (a : ℕ) (t : Mono × ℤ). a + mono_size t.0) n ts
sizes-from n d [] = refl
sizes-from n d (t ∷ ts) = sizes-from (n + mono_size t.0) d ts

sizes-each : (d : ℕ) (ts : List (Mono × ℤ)) → sum_by (λ (t : Mono × ℤ). mono_size t.0) (each d ts) ≡
    sum_by (λ (t : Mono × ℤ). mono_size t.0) ts
sizes-each d ts = sizes-from 0 d ts

depths-each : (d : ℕ) (ts : List (Mono × ℤ)) →
    greatest (λ (t : Mono × ℤ). mono_depth t.0) (each d ts) ≡
    greatest (λ (t : Mono × ℤ). mono_depth t.0) ts
depths-each d [] = refl
depths-each d (t ∷ ts) = let e = depths-each d ts in omega arith

small-each : (d : ℕ) (p : Body) → is_small (divided d p) ≡ is_small p
small-each d p =
    let ts = (out-Body p).terms in
    let size : body_size (divided d p) ≡ body_size p = size-of_terms (each d ts) ∙ sizes-each d ts ∙
    sym (body_size_is p) in
    let depth : body_depth (divided d p) ≡ body_depth p = depth-of_terms (each d ts) ∙
    depths-each d ts ∙ sym (body_depth_is p) in
    λ i. nat_le (size i) 4096 && nat_le (depth i) 64

-- divided by a number that divides each coefficient, a polynomial is one
pub divided_poly : (d : ℕ) (p : Body) → is_poly p ≡ true → divides_all d (coefficients p) ≡ true →
    is_poly (divided d p) ≡ true
divided_poly d p h g =
    let n = poly_terms p h in
    let ts = (out-Body p).terms in
    poly_of_terms (each d ts)
    (record {
      keys = keys-each is_normal_mono d ts ∙ n.keys;
      fits = fits-each d ts n.fits;
      listed =
          listed-each d ts n.listed g;
    })
    (small-each d p ∙ (and_parts (is_normal p) (is_small p) h).1)

-- ---- by 1

one_quotient : (x : ℤ) → quotient x (pos 1) ≡ x
one_quotient x =
    let rest : unsigned_abs x % 1 ≡ 0 = omega arith in
    let h : divides 1 x ≡ true = grind arith in
    sym (one-mul-int (quotient x (pos 1))) ∙ exact 1 x h

each_one : (ts : List (Mono × ℤ)) → each 1 ts ≡ ts
each_one [] = refl
each_one (t ∷ ts) = λ i. (t.0, one_quotient t.1 i) ∷ each_one ts i

quotients_one : (xs : List ℤ) → quotients 1 xs ≡ xs
quotients_one [] = refl
quotients_one (x ∷ xs) = λ i. one_quotient x i ∷ quotients_one xs i

divided_one : (p : Body) → divided 1 p ≡ p
divided_one p =
    (λ i. roll-Body (record { terms = each_one (out-Body p).terms i })) ∙ roll-out-Body p

-- where the common divisor is 1, nothing changes
pub reduced_one : (c : Combination) → common_divisor c ≡ 1 → primitive_part c ≡ c
reduced_one c e =
    (λ i. record { poly = divided (e i) c.poly; multipliers = quotients (e i) c.multipliers })
    ∙ (λ i. record { poly = divided_one c.poly i; multipliers = quotients_one c.multipliers i })
