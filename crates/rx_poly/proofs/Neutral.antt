-- 0 plus a polynomial, and 1 times one, are that polynomial, and nothing on the way passes the
-- limits.
use Rattle.std.proofs.Common.{◌≡◌, ◌∙◌, ap, Bool, true, false, ◌&&◌, Some, None, refl, sym, List, [], ◌∷◌, cond, ℤ, pos}
use Rattle.std.proofs.lemmas.Bool.{and_parts, and_from}
use Rattle.std.proofs.lemmas.Option.{same_Some}
use Rattle.rx_poly.proofs.Emptiness.{empty_is}
use Rattle.rx_plain.proofs.Integers.{one-mul-int}
use Rattle.rx_poly.specs.Limits.{of_terms, of_atoms, body_sum, is_within, all_fit, is_small}
use Rattle.rx_poly.specs.Normal.{is_number, is_normal, is_poly}
use Rattle.rx_poly.specs.Order.{atom_cmp, mono_cmp}
use Rattle.rx_poly.specs.Products.{join_sorted, mono_times, term_product, body_product, mul_within, sum_of_products, sum_of_products_within}
use Rattle.rx_poly.specs.Reading.{constant_of}
use Rattle.rx_poly.specs.Terms.{add_terms}
use Rattle.rx_poly.proofs.Levels.{atoms-of_atoms}
use Rattle.rx_poly.proofs.PolyLaws.{poly_terms}
use Rattle.rx_poly.specs.declared.body.Mono.{Mono, out-Mono, roll-Mono, roll-out-Mono}
use Rattle.rx_poly.specs.declared.body.Body.{Body, out-Body, roll-out-Body}

-- the only term of 1
abbrev pub one : List (Mono × ℤ)
one = (of_atoms [], pos 1) ∷ []

one_term : (t : Mono × ℤ) (ts : List (Mono × ℤ)) → is_number (t ∷ ts) ≡ true → t.1 ≡ pos 1 →
    t ∷ ts ≡ one
one_term t [] h e =
    let mono : t.0 ≡ of_atoms [] =
    sym (roll-out-Mono t.0) ∙
    (λ i. roll-Mono (record { atoms = empty_is (out-Mono t.0).atoms h i })) in
    λ i. (mono i, e i) ∷ []
one_term t (u ∷ us) h e = cc

-- the terms of a polynomial that is read as 1
pub one_terms : (ts : List (Mono × ℤ)) → constant_of ts ≡ Some (pos 1) → ts ≡ one
one_terms [] e = cc
one_terms (t ∷ ts) e = by (is_number (t ∷ ts)) refl e
  where
    by : (b : Bool) → is_number (t ∷ ts) ≡ b → cond b (Some t.1) None ≡ Some (pos 1) → t ∷ ts ≡ one
    by true h f = one_term t ts h (same_Some t.1 (pos 1) f)
    by false h f = cc

-- 1 times a monomial
pub one_times : (m : Mono) → mono_times (of_atoms []) m ≡ m
one_times m =
    (λ i. of_atoms (join_sorted atom_cmp (atoms-of_atoms [] i) (out-Mono m).atoms)) ∙
    roll-out-Mono m

-- 1 times each of the terms
one_scaled : (us : List (Mono × ℤ)) → term_product (of_atoms [], pos 1) us ≡ us
one_scaled [] = refl
one_scaled (u ∷ us) = λ i. (one_times u.0 i, one-mul-int u.1 i) ∷ one_scaled us i

-- a polynomial keeps the limits
pub poly_within : (q : Body) → is_poly q ≡ true → is_within q ≡ true
poly_within q h =
    and_from (all_fit (out-Body q).terms) (is_small q) (poly_terms q h).fits
    (and_parts (is_normal q) (is_small q) h).1

-- 1 times a polynomial
pub one_product : (p q : Body) → (out-Body p).terms ≡ one → is_poly q ≡ true →
    (q ≡ body_product p q) × (mul_within p q ≡ true)
one_product p q terms h =
    let us = (out-Body q).terms in
    let form : body_product p q ≡ q =
    (λ i. of_terms (sum_of_products [] (terms i) us)) ∙ (λ i. of_terms (one_scaled us i)) ∙
    roll-out-Body q in
    let within : mul_within p q ≡ true =
    (λ i. sum_of_products_within [] (terms i) us)
    ∙ (λ i. is_within (of_terms (one_scaled us i)) && (is_within (of_terms (one_scaled us i)) &&
    true))
    ∙ (λ i. is_within (roll-out-Body q i) && (is_within (roll-out-Body q i) && true))
    ∙ (λ i. poly_within q h i && (poly_within q h i && true)) in
    (sym form, within)

-- 0 plus a polynomial
pub zero_sum : (p q : Body) → (out-Body p).terms ≡ [] → is_poly q ≡ true →
    (q ≡ body_sum p q) × (is_within (body_sum p q) ≡ true)
zero_sum p q none h =
    let whole : body_sum p q ≡ q =
    (λ i. of_terms (add_terms mono_cmp (none i) (out-Body q).terms)) ∙ roll-out-Body q in
    (sym whole, ap is_within whole ∙ poly_within q h)
