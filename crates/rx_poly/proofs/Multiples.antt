-- A number times one variable, replaced, is that number times what is in its place, and only that
-- can pass the limits.
use Rattle.std.proofs.Common.{◌≡◌, ◌∙◌, ap, ℕ, Bool, true, false, ◌&&◌, refl, sym, List, [], ◌∷◌, map, ℤ, pos, ◌*ℤ◌}
use lib.IntN.{*ℤ_comm}
use Rattle.rx_plain.proofs.Integers.{one-mul-int}
use Rattle.rx_plain.specs.Formed.{kept}
use Rattle.rx_poly.specs.Constants.{number, variable, variable_times}
use Rattle.rx_poly.specs.Limits.{of_terms, of_atoms, is_within, scaled_by}
use Rattle.rx_poly.specs.Normal.{is_poly}
use Rattle.rx_poly.specs.Order.{mono_cmp}
use Rattle.rx_poly.specs.Products.{body_product, mul_within, sum_of_products, sum_of_products_within, term_product}
use Rattle.rx_poly.specs.Substitution.{replaced, times_all, subst_atom, subst_mono}
use Rattle.rx_poly.specs.Terms.{cons_nonzero, is_sparse_sorted, is_zero, times_number}
use Rattle.rx_poly.proofs.Constants.{number-nonzero}
use Rattle.rx_poly.proofs.Levels.{terms-of_terms}
use Rattle.rx_poly.proofs.Neutral.{one_times}
use Rattle.rx_poly.proofs.OrderLemmas.{mono_total}
use Rattle.rx_poly.proofs.PolyLaws.{poly_terms}
use Rattle.rx_poly.proofs.ProductLaws.{nonzero-mul}
use Rattle.rx_poly.proofs.Same.{same_mono}
use Rattle.rx_poly.proofs.Substituting.{well, in_Var, in_mono_is}
use Rattle.rx_poly.proofs.TermLaws.{cons_nonzero-nonzero, listed_parts}
use Rattle.rx_poly.specs.declared.body.Atom.TheVariants.{Var}
use Rattle.rx_poly.specs.declared.body.Mono.{Mono, out-Mono}
use Rattle.rx_poly.specs.declared.body.Body.{Body, out-Body}

-- the product with a number that isn't 0, as a multiple
scaled_terms : (k : ℤ) (us : List (Mono × ℤ)) → is_zero k ≡ false →
    is_sparse_sorted mono_cmp us ≡ true → term_product (of_atoms [], k) us ≡ times_number k us
scaled_terms k [] z h = refl
scaled_terms k (u ∷ us) z h =
    let l = listed_parts mono_cmp mono_total same_mono u us h in
    (λ i. (one_times u.0 i, *ℤ_comm k u.1 i) ∷ scaled_terms k us z l.rest i) ∙
    sym (cons_nonzero-nonzero u.0 (u.1 *ℤ k) (times_number k us) (nonzero-mul u.1 k l.nonzero z))

twice : (b : Bool) → b && (b && true) ≡ b
twice true = refl
twice false = refl

-- a number that isn't 0, times a polynomial
number_product : (k : ℤ) (q : Body) → is_zero k ≡ false → is_poly q ≡ true →
    record {
      form = body_product (number k) q;
      within = true && (true && mul_within (number k) q);
    } ≡ kept is_within (scaled_by k q)
number_product k q z h =
    let us = (out-Body q).terms in
    let ones : (out-Body (number k)).terms ≡ (of_atoms [], k) ∷ [] =
    ap (λ b. (out-Body b).terms) (number-nonzero k z) ∙ terms-of_terms ((of_atoms [], k) ∷ []) in
    let scaled = scaled_terms k us z (poly_terms q h).listed in
    let form : body_product (number k) q ≡ scaled_by k q =
    (λ i. of_terms (sum_of_products [] (ones i) us)) ∙ ap of_terms scaled in
    let within : mul_within (number k) q ≡ is_within (scaled_by k q) =
    (λ i. sum_of_products_within [] (ones i) us) ∙ twice (is_within (of_terms (term_product
    (of_atoms [], k) us))) ∙ ap (λ ts. is_within (of_terms ts)) scaled in
    λ i. record { form = form i; within = within i }

-- a multiple of one variable, replaced
pub multiple_replaced : (ws : List (ℕ × Body)) (n : ℕ) (m : Mono) (k : ℤ) → (out-Mono m).atoms ≡
    Var n ∷ [] → is_zero k ≡ false → is_poly (replaced ws n) ≡ true →
    subst_mono ws m k ≡ kept is_within (scaled_by k (replaced ws n))
multiple_replaced ws n m k is z h =
    in_mono_is ws m k
    ∙ (λ i. times_all (well (number k)) (map (subst_atom ws) (is i)))
    ∙ (λ i. times_all (well (number k)) (in_Var ws n i ∷ []))
    ∙ number_product k (replaced ws n) z h

-- a multiple of the variable itself
pub variable_scaled : (k : ℤ) (n : ℕ) → is_zero k ≡ false → scaled_by k (variable n) ≡
    variable_times k n
variable_scaled k n z =
    let alone = of_atoms (Var n ∷ []) in
    (λ i. of_terms (times_number k (terms-of_terms ((alone, pos 1) ∷ []) i)))
    ∙ (λ i. of_terms (cons_nonzero alone (one-mul-int k i) []))
    ∙ ap of_terms (cons_nonzero-nonzero alone k [] z)
