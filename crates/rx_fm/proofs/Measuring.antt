-- The content of terms that are looked at one by one: the greatest common divisor so far, and what
-- the others still decide.
use Rattle.std.proofs.Common.{◌≡◌, ◌∙◌, ap, subst, ℕ, suc, ◌+◌, ◌<◌, ◌≤◌, Bool, true, false, not, ◌&&◌, ◌||◌, if◌then◌else◌, refl, sym, List, ◌∷◌, map, filter, length, drop, get_or, drop_of_length-le, add-one, ℤ, pos, ◌≤ℤ◌, unsigned_abs}
use Rattle.std.proofs.Math.Seq.{drop-cons}
use Rattle.std.proofs.lemmas.Bool.{and_left}
use Rattle.rx_poly.specs.declared.body.Mono.{Mono}
use Rattle.rx_fm.specs.Content.{coefficients_but_one, gcd_with_term, term_fits}
use Rattle.rx_fm.specs.Elimination.{is_one}
use Rattle.rx_fm.specs.Numbers.{gcd, gcd_with, size_fits, sizes_fit}

-- one more term: what the greatest common divisor and the sizes are then
one_more : (g : ℕ) (t : Mono × ℤ) (ts : List (Mono × ℤ)) →
    gcd_with g (coefficients_but_one (t ∷ ts)) ≡
    gcd_with (gcd_with_term g t) (coefficients_but_one ts)
one_more g t ts = by (is_one t.0)
  where
    by : (b : Bool) → gcd_with g (map (λ (u : Mono × ℤ). u.1)
        (if not b then t ∷ filter (λ (u : Mono × ℤ). not (is_one u.0)) ts else
        filter (λ (u : Mono × ℤ). not (is_one u.0)) ts)) ≡
        gcd_with (if b then g else gcd g (unsigned_abs t.1)) (coefficients_but_one ts)
    by true = refl
    by false = refl

one_more_fits : (t : Mono × ℤ) (ts : List (Mono × ℤ)) → sizes_fit (coefficients_but_one (t ∷ ts)) ≡
    (term_fits t && sizes_fit (coefficients_but_one ts))
one_more_fits t ts = by (is_one t.0)
  where
    by : (b : Bool) → sizes_fit (map (λ (u : Mono × ℤ). u.1)
        (if not b then t ∷ filter (λ (u : Mono × ℤ). not (is_one u.0)) ts else
        filter (λ (u : Mono × ℤ). not (is_one u.0)) ts)) ≡
        ((b || size_fits t.1) && sizes_fit (coefficients_but_one ts))
    by true = refl
    by false = refl

-- the greatest common divisor so far, and the terms that are left
pub record Measuring (so_far : ℤ) (rest whole : List (Mono × ℤ)) : Type 0 where
  pub at_least : pos 0 ≤ℤ so_far
  pub fits : sizes_fit (coefficients_but_one rest) ≡ sizes_fit (coefficients_but_one whole)
  pub common : gcd_with (unsigned_abs so_far) (coefficients_but_one rest) ≡
      gcd_with 0 (coefficients_but_one whole)

module _ {so_far : ℤ} (ts : List (Mono × ℤ)) (i : ℕ) {t : Mono × ℤ} (h : i < length ts)
    (is : t ≡ get_or ts i t) (m : Measuring so_far (drop i ts) ts) where
  opened : Measuring so_far (t ∷ drop (suc i) ts) ts
  opened =
      subst (λ rest. Measuring so_far rest ts)
      (drop-cons ts i t h ∙ ap (λ u. u ∷ drop (suc i) ts) (sym is)) m

  -- a size that leaves i128 is one of all
  pub no_term : term_fits t ≡ false → sizes_fit (coefficients_but_one ts) ≡ false
  no_term f =
      sym opened.fits ∙ one_more_fits t (drop (suc i) ts) ∙
      and_left (term_fits t) (sizes_fit (coefficients_but_one (drop (suc i) ts))) f

  -- one that doesn't leaves it to the rest
  pub after_term : {next : ℤ} → term_fits t ≡ true → next ≡
      pos (gcd_with_term (unsigned_abs so_far) t) → pos 0 ≤ℤ next →
      Measuring next (drop (i + 1) ts) ts
  after_term {next} f e g = subst (λ n. Measuring next (drop n ts) ts) (sym (add-one i)) (record {
    at_least = g;
    fits =
        ap (λ b. b && sizes_fit (coefficients_but_one (drop (suc i) ts))) (sym f) ∙
        sym (one_more_fits t (drop (suc i) ts)) ∙ opened.fits;
    common =
        ap (λ z. gcd_with (unsigned_abs z) (coefficients_but_one (drop (suc i) ts))) e ∙
        sym (one_more (unsigned_abs so_far) t (drop (suc i) ts)) ∙ opened.common;
  })

-- nothing is left
pub measured : (ts : List (Mono × ℤ)) (i : ℕ) {so_far : ℤ} → length ts ≤ i →
    Measuring so_far (drop i ts) ts → (sizes_fit (coefficients_but_one ts) ≡ true) ×
    (unsigned_abs so_far ≡ gcd_with 0 (coefficients_but_one ts))
measured ts i {so_far} h m =
    let all = subst (λ rest. Measuring so_far rest ts) (drop_of_length-le ts h) m in
    (sym all.fits, all.common)
