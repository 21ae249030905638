-- What is formed of polynomials within the limits is a polynomial.
use Rattle.std.proofs.Common.{◌≡◌, ◌∙◌, ap, subst, sym, refl, cond, Bool, true, false, not, ◌&&◌, ◌⊎◌, inl, inr, Option, Some, None, List, [], ◌∷◌, ℤ, pos, neg_ℤ, int_div, int_rem, arith}
use Rattle.std.proofs.lemmas.Int.{ints}
use Rattle.std.proofs.lemmas.Bool.{and_from, and_parts, false_from_ne_true}
use Rattle.std.specs.Ordering.{is_lt}
use Rattle.rx_poly.specs.Constants.{number}
use Rattle.rx_poly.specs.Division.{atom_alone, division, parts_of, quotient_of, remainder_of}
use Rattle.rx_poly.specs.Limits.{all_fit, body_difference, body_sum, fits_i128, is_small, is_within, of_terms, scaled_by}
use Rattle.rx_poly.specs.Normal.{is_empty, is_normal, is_normal_mono, is_number, is_open, is_poly}
use Rattle.rx_poly.specs.Order.{mono_cmp}
use Rattle.rx_poly.specs.Products.{body_product, mul_within, sum_of_products, sum_of_products_within, term_product}
use Rattle.rx_poly.specs.Reading.{constant_of}
use Rattle.rx_poly.specs.Terms.{add_terms, all_keys, is_sparse_sorted, is_zero, negated, times_number}
use Rattle.rx_poly.specs.declared.body.Atom.TheVariants.{Div, Mod}
use Rattle.rx_poly.specs.declared.body.Body.{Body, out-Body}
use Rattle.rx_poly.specs.declared.body.Mono.{Mono}
use Rattle.rx_poly.proofs.Constants.{alone_normal, number-nonzero, number_poly, number_within}
use Rattle.rx_poly.proofs.DivisionCases.{quotient_cases, remainder_cases}
use Rattle.rx_poly.proofs.Emptiness.{empty_is}
use Rattle.rx_poly.proofs.Levels.{div_is_normal, mod_is_normal, terms-of_terms}
use Rattle.rx_poly.proofs.OrderLemmas.{mono_total}
use Rattle.rx_poly.proofs.PolyLaws.{NormalTerms, added_normal, multiple_normal, poly_of_terms, poly_terms, within_terms, zero_poly}
use Rattle.rx_poly.proofs.ProductLaws.{keys-term_product, listed-term_product}
use Rattle.rx_poly.proofs.Same.{same_mono}
use Rattle.rx_poly.proofs.TermLaws.{all_keys-add, listed-add, listed_from, listed_parts, zero_is}

-- a normal form within the limits is a polynomial
within_poly : (p : Body) → is_normal p ≡ true → is_within p ≡ true → is_poly p ≡ true
within_poly p h w =
    and_from (is_normal p) (is_small p) h (and_parts (all_fit (out-Body p).terms) (is_small p) w).1

-- the parts of a test of limits
terms_within : (ts : List (Mono × ℤ)) → is_within (of_terms ts) ≡ true → (all_fit ts ≡ true) ×
    (is_small (of_terms ts) ≡ true)
terms_within ts w = and_parts (all_fit ts) (is_small (of_terms ts)) (sym (within_terms ts) ∙ w)

-- ---- sums, differences, multiples

pub sum_poly : (p q : Body) → is_poly p ≡ true → is_poly q ≡ true → is_within (body_sum p q) ≡
    true → is_poly (body_sum p q) ≡ true
sum_poly p q h g w =
    let ts = add_terms mono_cmp (out-Body p).terms (out-Body q).terms in
    within_poly (body_sum p q) (added_normal p q {ls = (out-Body p).terms} {rs = (out-Body q).terms}
    {ts = ts} refl refl refl h g (terms_within ts w).0) w

keys-negated : (test : Mono → Bool) (us : List (Mono × ℤ)) → all_keys test (negated us) ≡
    all_keys test us
keys-negated test [] = refl
keys-negated test (u ∷ us) = ap (λ b. test u.0 && b) (keys-negated test us)

nonzero-negated : (c : ℤ) → is_zero c ≡ false → is_zero (neg_ℤ c) ≡ false
nonzero-negated c h = false_from_ne_true (is_zero (neg_ℤ c)) (λ e.
    let zero = zero_is (neg_ℤ c) e in
    let none : c ≡ pos 0 = omega (arith, ints) in
    let wrong : is_zero c ≡ true = ap is_zero none in
    cc)

listed-negated : (us : List (Mono × ℤ)) → is_sparse_sorted mono_cmp us ≡ true →
    is_sparse_sorted mono_cmp (negated us) ≡ true
listed-negated [] h = refl
listed-negated (u ∷ us) h =
    let l = listed_parts mono_cmp mono_total same_mono u us h in
    listed_from mono_cmp mono_total same_mono (u.0, neg_ℤ u.1) (negated us) (record {
      nonzero = nonzero-negated u.1 l.nonzero;
      before = keys-negated (λ x. is_lt (mono_cmp u.0 x)) us ∙ l.before;
      rest = listed-negated us l.rest;
    })

pub difference_poly : (p q : Body) → is_poly p ≡ true → is_poly q ≡ true →
    is_within (body_difference p q) ≡ true → is_poly (body_difference p q) ≡ true
difference_poly p q h g w =
    let ps = (out-Body p).terms in
    let qs = negated (out-Body q).terms in
    let left = poly_terms p h in
    let right = poly_terms q g in
    let parts = terms_within (add_terms mono_cmp ps qs) w in
    poly_of_terms (add_terms mono_cmp ps qs) (record {
      keys = all_keys-add is_normal_mono mono_cmp ps qs left.keys
          (keys-negated is_normal_mono (out-Body q).terms ∙ right.keys);
      fits = parts.0;
      listed = listed-add mono_cmp mono_total same_mono ps qs
          (listed-negated (out-Body q).terms right.listed);
    }) parts.1

pub multiple_poly : (k : ℤ) (p : Body) → is_poly p ≡ true → is_within (scaled_by k p) ≡ true →
    is_poly (scaled_by k p) ≡ true
multiple_poly k p h w =
    let ts = times_number k (out-Body p).terms in
    within_poly (scaled_by k p) (multiple_normal k p {ls = (out-Body p).terms} {ts = ts} refl refl h
    (terms_within ts w).0) w

-- ---- numbers

pub fitting_number_poly : (k : ℤ) → fits_i128 k ≡ true → is_poly (number k) ≡ true
fitting_number_poly k f = by (is_zero k) refl
  where
    by : (b : Bool) → is_zero k ≡ b → is_poly (number k) ≡ true
    by true e = ap (λ z. is_poly (number z)) (zero_is k e) ∙ zero_poly
    by false e = ap is_poly (number-nonzero k e) ∙ number_poly k e f

pub number_is_poly : (k : ℤ) → is_within (number k) ≡ true → is_poly (number k) ≡ true
number_is_poly k w = fitting_number_poly k (sym (number_within k) ∙ w)

-- ---- quotients and remainders

-- a sum that is a number
number_of : (ts : List (Mono × ℤ)) → is_number ts ≡ true → (k : ℤ) × (constant_of ts ≡ Some k)
number_of [] h = (pos 0, refl)
number_of (t ∷ ts) h = (t.1, ap (λ b. cond b (Some t.1) None) h)

module _ (f : ℤ → ℤ → ℤ) (whole : Body) where
  -- the result, by the numbers that the two are
  abbrev result : Option ℤ → Option ℤ → Body
  result m n = division f whole (parts_of m n)

  abbrev Makes : Body → Type 0
  Makes p = is_within p ≡ true → is_poly p ≡ true

  of_numbers : (m n : ℤ) (b : Bool) → is_zero n ≡ b → Makes (result (Some m) (Some n))
  of_numbers m n true e = rw e (λ _. zero_poly)
  of_numbers m n false e = rw e (number_is_poly (f m n))

  -- where no atom is left
  of_closed : (p q : Body) (b : Bool) → is_empty (out-Body q).terms ≡ b →
      (is_number (out-Body p).terms && is_number (out-Body q).terms) ≡ true ⊎ (b ≡ true) →
      Makes (result (constant_of (out-Body p).terms) (constant_of (out-Body q).terms))
  of_closed p q true e h =
      subst (λ ts. Makes (result (constant_of (out-Body p).terms) (constant_of ts)))
      (sym (empty_is (out-Body q).terms e)) (λ _. zero_poly)
  of_closed p q false e (inr h) = cc
  of_closed p q false e (inl h) =
      let both = and_parts (is_number (out-Body p).terms) (is_number (out-Body q).terms) h in
      let m = number_of (out-Body p).terms both.0 in
      let n = number_of (out-Body q).terms both.1 in
      subst (λ o. Makes (result o (constant_of (out-Body q).terms))) (sym m.1)
      (subst (λ o. Makes (result (Some m.0) o)) (sym n.1)
      (of_numbers m.0 n.0 (is_zero n.0) refl))

-- why an atom isn't open
not_open : (p q : Body) → is_open p q ≡ false →
    (is_number (out-Body p).terms && is_number (out-Body q).terms) ≡ true ⊎
    (is_empty (out-Body q).terms ≡ true)
not_open p q e = by (is_empty (out-Body q).terms)
    (is_number (out-Body p).terms && is_number (out-Body q).terms) e
  where
    by : (b c : Bool) → (not b && not c) ≡ false → (c ≡ true) ⊎ (b ≡ true)
    by true c h = inr refl
    by false true h = inl refl
    by false false h = cc

parts_normal : (p q : Body) → is_poly p ≡ true → is_poly q ≡ true → is_open p q ≡ true →
    ((is_normal p && is_normal q) && is_open p q) ≡ true
parts_normal p q h g o =
    and_from (is_normal p && is_normal q) (is_open p q)
    (and_from (is_normal p) (is_normal q) (and_parts (is_normal p) (is_small p) h).0
    (and_parts (is_normal q) (is_small q) g).0) o

pub quotient_poly : (p q : Body) → is_poly p ≡ true → is_poly q ≡ true →
    is_within (quotient_of p q) ≡ true → is_poly (quotient_of p q) ≡ true
quotient_poly p q h g = by (is_open p q) refl
  where
    by : (b : Bool) → is_open p q ≡ b → is_within (quotient_of p q) ≡ true →
        is_poly (quotient_of p q) ≡ true
    by true o =
        quotient_cases (λ r. is_within r ≡ true → is_poly r ≡ true) p q number_is_poly
        (within_poly (atom_alone (Div p q))
        (alone_normal (Div p q) (div_is_normal p q ∙ parts_normal p q h g o)))
    by false o =
        of_closed int_div (atom_alone (Div p q)) p q (is_empty (out-Body q).terms) refl
        (not_open p q o)

pub remainder_poly : (p q : Body) → is_poly p ≡ true → is_poly q ≡ true →
    is_within (remainder_of p q) ≡ true → is_poly (remainder_of p q) ≡ true
remainder_poly p q h g = by (is_open p q) refl
  where
    by : (b : Bool) → is_open p q ≡ b → is_within (remainder_of p q) ≡ true →
        is_poly (remainder_of p q) ≡ true
    by true o =
        remainder_cases (λ r. is_within r ≡ true → is_poly r ≡ true) p q number_is_poly
        (within_poly (atom_alone (Mod p q))
        (alone_normal (Mod p q) (mod_is_normal p q ∙ parts_normal p q h g o)))
    by false o =
        of_closed int_rem (atom_alone (Mod p q)) p q (is_empty (out-Body q).terms) refl
        (not_open p q o)

-- ---- products

module _ (us : List (Mono × ℤ)) (factor : NormalTerms us) where
  -- one term times a factor, added to a sum
  next_poly : (sum : List (Mono × ℤ)) (t : Mono × ℤ) (ts : List (Mono × ℤ)) →
      is_poly (of_terms sum) ≡ true → NormalTerms (t ∷ ts) →
      is_within (of_terms (term_product t us)) ≡ true →
      is_within (of_terms (add_terms mono_cmp sum (term_product t us))) ≡ true →
      is_poly (of_terms (add_terms mono_cmp sum (term_product t us))) ≡ true
  next_poly sum t ts h n v w =
      let s = subst NormalTerms (terms-of_terms sum) (poly_terms (of_terms sum) h) in
      let l = listed_parts mono_cmp mono_total same_mono t ts n.listed in
      let key = and_parts (is_normal_mono t.0) _ n.keys in
      let parts = terms_within (add_terms mono_cmp sum (term_product t us)) w in
      poly_of_terms (add_terms mono_cmp sum (term_product t us)) (record {
        keys = all_keys-add is_normal_mono mono_cmp sum (term_product t us) s.keys
            (keys-term_product t us key.0 factor.keys);
        fits = parts.0;
        listed = listed-add mono_cmp mono_total same_mono sum (term_product t us)
            (listed-term_product t us l.nonzero factor.listed);
      }) parts.1

  -- the terms after the first are normal
  later_terms : (t : Mono × ℤ) (ts : List (Mono × ℤ)) → NormalTerms (t ∷ ts) → NormalTerms ts
  later_terms t ts n = record {
    keys = (and_parts (is_normal_mono t.0) _ n.keys).1;
    fits = (and_parts (fits_i128 t.1) _ n.fits).1;
    listed = (listed_parts mono_cmp mono_total same_mono t ts n.listed).rest;
  }

  products_poly : (sum ts : List (Mono × ℤ)) → is_poly (of_terms sum) ≡ true → NormalTerms ts →
      sum_of_products_within sum ts us ≡ true → is_poly (of_terms (sum_of_products sum ts us)) ≡
      true
  products_poly sum [] h n w = h
  products_poly sum (t ∷ ts) h n w =
      let next = add_terms mono_cmp sum (term_product t us) in
      let a = and_parts (is_within (of_terms (term_product t us)))
      (is_within (of_terms next) && sum_of_products_within next ts us) w in
      let b = and_parts (is_within (of_terms next)) (sum_of_products_within next ts us) a.1 in
      products_poly next ts (next_poly sum t ts h n a.0 b.0) (later_terms t ts n) b.1

pub product_poly : (p q : Body) → is_poly p ≡ true → is_poly q ≡ true → mul_within p q ≡ true →
    is_poly (body_product p q) ≡ true
product_poly p q h g w =
    products_poly (out-Body q).terms (poly_terms q g) [] (out-Body p).terms zero_poly
    (poly_terms p h) w
