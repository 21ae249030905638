-- A product that is being formed: the sum so far, and what the terms that are left still add to it.
use Rattle.std.proofs.Common.{◌≡◌, ◌∙◌, ap, subst, Bool, true, false, ◌&&◌, sym, ℕ, suc, ◌+◌, ◌<◌, ◌≤◌, List, [], ◌∷◌, length, drop, get_or, drop_of_length-le, add-one, ℤ}
use Rattle.std.proofs.Math.Seq.{drop-cons}
use Rattle.std.proofs.lemmas.Bool.{and_parts, and_left, and_right}
use Rattle.rx_poly.specs.Limits.{of_terms, body_sum, is_within}
use Rattle.rx_poly.specs.Normal.{is_normal_mono, is_poly}
use Rattle.rx_poly.specs.Order.{mono_cmp}
use Rattle.rx_poly.specs.Products.{term_product, sum_of_products, sum_of_products_within, mul_within, body_product}
use Rattle.rx_poly.specs.Terms.{add_terms, is_sparse_sorted, all_keys, is_zero}
use Rattle.rx_poly.proofs.Levels.{terms-of_terms}
use Rattle.rx_poly.proofs.OrderLemmas.{mono_total}
use Rattle.rx_poly.proofs.PolyLaws.{NormalTerms, poly_terms}
use Rattle.rx_poly.proofs.Same.{same_mono}
use Rattle.rx_poly.proofs.TermLaws.{listed_parts}
use Rattle.rx_poly.specs.declared.body.Mono.{Mono}
use Rattle.rx_poly.specs.declared.body.Body.{Body, out-Body, roll-out-Body}

-- the terms that are left, and what they still decide
pub record Running (sum : Body) (rest us whole : List (Mono × ℤ)) (within : Bool) : Type 0 where
  pub keys : all_keys is_normal_mono rest ≡ true
  pub listed : is_sparse_sorted mono_cmp rest ≡ true
  pub made : sum_of_products (out-Body sum).terms rest us ≡ whole
  pub limits : sum_of_products_within (out-Body sum).terms rest us ≡ within

pub begin : (sum p : Body) (ts us : List (Mono × ℤ)) → ts ≡ (out-Body p).terms → sum ≡ of_terms [] →
    is_poly p ≡ true → Running sum (drop 0 ts) us (sum_of_products [] ts us)
    (sum_of_products_within [] ts us)
begin sum p ts us is e h =
    let n = subst NormalTerms (sym is) (poly_terms p h) in
    let none : (out-Body sum).terms ≡ [] = ap (λ (b : Body). (out-Body b).terms) e ∙
    terms-of_terms [] in
    record {
      keys = n.keys;
      listed = n.listed;
      made = ap (λ s. sum_of_products s ts us) none;
      limits = ap (λ s. sum_of_products_within s ts us) none;
    }

module _ {sum : Body} {whole : List (Mono × ℤ)} {within : Bool} (ts us : List (Mono × ℤ)) (i : ℕ)
    {t : Mono × ℤ} (h : i < length ts) (is : t ≡ get_or ts i t)
    (r : Running sum (drop i ts) us whole within) where
  opened : Running sum (t ∷ drop (suc i) ts) us whole within
  opened =
      subst (λ rest. Running sum rest us whole within)
      (drop-cons ts i t h ∙ ap (λ v. v ∷ drop (suc i) ts) (sym is)) r

  -- the next term has a normal monomial and isn't 0
  pub next_key : is_normal_mono t.0 ≡ true
  next_key =
      (and_parts (is_normal_mono t.0) (all_keys is_normal_mono (drop (suc i) ts)) opened.keys).0

  pub next_nonzero : is_zero t.1 ≡ false
  next_nonzero =
      (listed_parts mono_cmp mono_total same_mono t (drop (suc i) ts) opened.listed).nonzero

  abbrev next_sum : List (Mono × ℤ)
  next_sum = add_terms mono_cmp (out-Body sum).terms (term_product t us)

  limits_are : (is_within (of_terms (term_product t us)) &&
      (is_within (of_terms next_sum) && sum_of_products_within next_sum (drop (suc i) ts) us)) ≡
      within
  limits_are = opened.limits

  -- a product that passes the limits decides
  pub no_product : is_within (of_terms (term_product t us)) ≡ false → within ≡ false
  no_product f =
      sym limits_are ∙ and_left (is_within (of_terms (term_product t us)))
      (is_within (of_terms next_sum) && sum_of_products_within next_sum (drop (suc i) ts) us) f

  module _ {product : Body} (same : product ≡ of_terms (term_product t us)) where
    added_is : body_sum sum product ≡ of_terms next_sum
    added_is =
        ap (λ xs. of_terms (add_terms mono_cmp (out-Body sum).terms xs))
        (ap (λ (b : Body). (out-Body b).terms) same ∙ terms-of_terms (term_product t us))

    -- so does a sum
    pub no_sum : is_within (body_sum sum product) ≡ false → within ≡ false
    no_sum f =
        sym limits_are ∙ and_right (is_within (of_terms (term_product t us)))
        (is_within (of_terms next_sum) && sum_of_products_within next_sum (drop (suc i) ts) us)
        (and_left (is_within (of_terms next_sum))
        (sum_of_products_within next_sum (drop (suc i) ts) us)
        (ap is_within (sym added_is) ∙ f))

    -- both keep the limits: the rest decides
    pub after_sum : {next : Body} → next ≡ body_sum sum product →
        is_within (of_terms (term_product t us)) ≡
        true → is_within (body_sum sum product) ≡ true →
        Running next (drop (i + 1) ts) us whole within
    after_sum {next} e f g =
        let terms : (out-Body next).terms ≡ next_sum =
        ap (λ (b : Body). (out-Body b).terms) (e ∙ added_is) ∙ terms-of_terms next_sum in
        let kept : is_within (of_terms next_sum) ≡ true = ap is_within (sym added_is) ∙ g in
        let rest : sum_of_products_within next_sum (drop (suc i) ts) us ≡ within =
        (λ j. sym f j && (sym kept j && sum_of_products_within next_sum (drop (suc i) ts) us)) ∙
        limits_are in
        subst (λ n. Running next (drop n ts) us whole within) (sym (add-one i)) (record {
          keys =
              (and_parts (is_normal_mono t.0) (all_keys is_normal_mono (drop (suc i) ts))
              opened.keys).1;
          listed =
              (listed_parts mono_cmp mono_total same_mono t (drop (suc i) ts) opened.listed).rest;
          made = ap (λ s. sum_of_products s (drop (suc i) ts) us) terms ∙ opened.made;
          limits = ap (λ s. sum_of_products_within s (drop (suc i) ts) us) terms ∙ rest;
        })

-- nothing is left
pub done_is : (ts us whole : List (Mono × ℤ)) (within : Bool) (sum : Body) (i : ℕ) → length ts ≤ i →
    Running sum (drop i ts) us whole within → (sum ≡ of_terms whole) × (within ≡ true)
done_is ts us whole within sum i h r =
    let all = subst (λ rest. Running sum rest us whole within) (drop_of_length-le ts h) r in
    (sym (roll-out-Body sum) ∙ (λ j. of_terms (all.made j)), sym all.limits)

pub finished : (p q sum : Body) {ts : List (Mono × ℤ)} (i : ℕ) → ts ≡ (out-Body p).terms →
    length ts ≤ i → Running sum (drop i ts) (out-Body q).terms
    (sum_of_products [] ts (out-Body q).terms)
    (sum_of_products_within [] ts (out-Body q).terms) → sum ≡ body_product p q
finished p q sum {ts} i is h r =
    (done_is ts (out-Body q).terms (sum_of_products [] ts (out-Body q).terms)
    (sum_of_products_within [] ts (out-Body q).terms) sum i h r).0
    ∙ ap (λ us. of_terms (sum_of_products [] us (out-Body q).terms)) is

pub within_finished : (p q sum : Body) {ts : List (Mono × ℤ)} (i : ℕ) → ts ≡ (out-Body p).terms →
    length ts ≤ i → Running sum (drop i ts) (out-Body q).terms
    (sum_of_products [] ts (out-Body q).terms)
    (sum_of_products_within [] ts (out-Body q).terms) → mul_within p q ≡ true
within_finished p q sum {ts} i is h r =
    ap (λ us. sum_of_products_within [] us (out-Body q).terms) (sym is)
    ∙ (done_is ts (out-Body q).terms (sum_of_products [] ts (out-Body q).terms)
    (sum_of_products_within [] ts (out-Body q).terms) sum i h r).1
