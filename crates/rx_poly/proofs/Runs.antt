-- A run of terms whose variables stay is added at once: the sum is that of its terms added one by
-- one, and where all sizes together keep the limit, nothing on the way passes the limits unless
-- the sum does.
use Rattle.std.proofs.Common.{◌≡◌, ◌∙◌, ap, subst, ℕ, ◌+◌, ◌≤◌, Bool, true, false, ◌&&◌, refl, sym, List, [], ◌∷◌, ◌++◌, map, ℤ, ◌+ℤ◌, arith, length}
use Rattle.std.specs.Prelude.{nat_le, sum_by}
use Rattle.std.specs.List.{flat_map}
use Rattle.std.specs.Ordering.{is_lt, ordering_reverse}
use Rattle.std.specs.declared.cmp.Ordering.{Ordering}
use Rattle.std.specs.declared.cmp.Ordering.TheVariants.{Less, Equal, Greater}
use Rattle.std.proofs.lemmas.Bool.{and_parts, and_from, and_left, le-leb}
use Rattle.std.proofs.lemmas.List.Sums.{sum_by-cons}
use Rattle.rx_plain.proofs.Lists.{empty_by_length}
use Rattle.rx_poly.proofs.Merging.{with_plus}
use Rattle.std.proofs.lemmas.List.Folds.{list_all-append}
use Rattle.std.proofs.lemmas.List.{map-append}
use Rattle.rx_poly.specs.Constants.{variable}
use Rattle.rx_poly.specs.Limits.{of_terms, body_sum, is_within, is_small, all_fit, fits_i128, greatest, mono_size, mono_depth, body_size, body_depth, is_sum}
use Rattle.rx_plain.specs.Formed.{Formed, kept}
use Rattle.rx_poly.specs.Normal.{is_normal, is_normal_mono, is_poly}
use Rattle.rx_poly.specs.Order.{mono_cmp}
use Rattle.rx_poly.specs.Signs.{with_sign}
use Rattle.rx_poly.specs.Substitution.{plus_formed, replaced, plus_all, subst_mono, subst_body}
use Rattle.rx_poly.specs.Terms.{add_terms, all_keys, cons_nonzero, insert_by, insert_term, is_before, is_sparse_sorted, is_zero}
use Rattle.rx_poly.specs.Variables.{mono_variables}
use Rattle.rx_poly.proofs.Levels.{terms-of_terms, body_size_is, body_depth_is, small_parts}
use Rattle.rx_poly.proofs.Neutral.{poly_within}
use Rattle.rx_poly.proofs.OrderLemmas.{mono_total}
use Rattle.rx_poly.proofs.Pieces.{all_parts}
use Rattle.rx_poly.proofs.PolyLaws.{NormalTerms, combined_terms, poly_terms, poly_of_terms, size-of_terms, depth-of_terms, within_terms, normal_of_terms}
use Rattle.rx_poly.proofs.Prefixes.{SmallTerms, terms-prefix}
use Rattle.rx_poly.proofs.Same.{same_mono}
use Rattle.rx_poly.proofs.Substituting.{Adding, well, term_in, plus_false, after_term, no_sum, plus_begin}
use Rattle.rx_poly.proofs.TermLaws.{Listed, listed_parts, listed_from, listed-add, all_keys-add, before_trans, add-left, add-right, add-both, put_cases, cons_nonzero-nonzero}
use Rattle.rx_poly.proofs.Unchanged.{Stay, term_stays}
use Rattle.rx_poly.specs.declared.body.Mono.{Mono}
use Rattle.rx_poly.specs.declared.body.Body.{Body, out-Body, roll-out-Body}
use Rattle.rx_poly.specs.declared.sign.Sign.TheVariants.{Plus}

abbrev Terms : Type 0
Terms = List (Mono × ℤ)

abbrev sum_of : Terms → Terms → Terms
sum_of = add_terms mono_cmp

-- ---- a term, and then those after it, as one list

-- nothing is added
add-none : (ts : Terms) → is_sparse_sorted mono_cmp ts ≡ true → sum_of ts [] ≡ ts
add-none [] h = refl
add-none (t ∷ ts) h =
    let l = listed_parts mono_cmp mono_total same_mono t ts h in
    add-left mono_cmp mono_total same_mono t ts [] l refl ∙ ap (λ us. t ∷ us) (add-none ts l.rest)

-- a term that comes before what is added stays in front
add-cons : (k : Mono) (c : ℤ) (ss rest : Terms) → is_before mono_cmp k ss ≡ true →
    is_sparse_sorted mono_cmp ss ≡ true → is_before mono_cmp k rest ≡ true →
    sum_of (cons_nonzero k c ss) rest ≡ cons_nonzero k c (sum_of ss rest)
add-cons k c ss rest before listed far = by (is_zero c) refl
  where
    by : (b : Bool) → is_zero c ≡ b → sum_of (cons_nonzero k c ss) rest ≡
        cons_nonzero k c (sum_of ss rest)
    by true e = rw e refl
    by false e =
        ap (λ us. sum_of us rest) (cons_nonzero-nonzero k c ss e)
        ∙ add-left mono_cmp mono_total same_mono (k, c) ss rest
        (record { nonzero = e; before = before; rest = listed }) far
        ∙ sym (cons_nonzero-nonzero k c (sum_of ss rest) e)

module _ (t : Mono × ℤ) (rest : Terms) (l : Listed mono_cmp mono_total same_mono t rest) where
  alone_listed : Listed mono_cmp mono_total same_mono t []
  alone_listed = record { nonzero = l.nonzero; before = refl; rest = refl }

  module _ (s : Mono × ℤ) (ss : Terms) (h : is_sparse_sorted mono_cmp (s ∷ ss) ≡ true) where
    abbrev a : Listed mono_cmp mono_total same_mono s ss
    a = listed_parts mono_cmp mono_total same_mono s ss h

    first_less : (us : Terms) → is_before mono_cmp t.0 us ≡ true → mono_cmp s.0 t.0 ≡ Less →
        sum_of (s ∷ ss) (t ∷ us) ≡ s ∷ sum_of ss (t ∷ us)
    first_less us b e =
        add-left mono_cmp mono_total same_mono s ss (t ∷ us) a
        (and_from (is_lt (mono_cmp s.0 t.0)) (is_before mono_cmp s.0 us) (ap is_lt e)
        (before_trans mono_cmp mono_total same_mono s.0 t.0 us e b))

    first_same : (us : Terms) → mono_cmp s.0 t.0 ≡ Equal → sum_of (s ∷ ss) (t ∷ us) ≡
        cons_nonzero s.0 (s.1 +ℤ t.1) (sum_of ss us)
    first_same us e = add-both mono_cmp mono_total same_mono s t ss us a e

    same_alone : mono_cmp s.0 t.0 ≡ Equal → sum_of (s ∷ ss) (t ∷ []) ≡
        cons_nonzero s.0 (s.1 +ℤ t.1) ss
    same_alone e = first_same [] e ∙ ap (cons_nonzero s.0 (s.1 +ℤ t.1)) (add-none ss a.rest)

    before_both : mono_cmp s.0 t.0 ≡ Greater → is_before mono_cmp t.0 (s ∷ ss) ≡ true
    before_both e =
        let less = mono_total.antisymm t.0 s.0 ∙ ap ordering_reverse e in
        and_from (is_lt (mono_cmp t.0 s.0)) (is_before mono_cmp t.0 ss) (ap is_lt less)
        (before_trans mono_cmp mono_total same_mono t.0 s.0 ss less a.before)

    first_greater : (us : Terms) → mono_cmp s.0 t.0 ≡ Greater → sum_of (s ∷ ss) (t ∷ us) ≡ t ∷
        sum_of (s ∷ ss) us
    first_greater us e =
        add-right mono_cmp mono_total same_mono t (s ∷ ss) us (before_both e)

    greater_alone : mono_cmp s.0 t.0 ≡ Greater → sum_of (s ∷ ss) (t ∷ []) ≡ t ∷ s ∷ ss
    greater_alone e = first_greater [] e ∙ ap (λ us. t ∷ us) (add-none (s ∷ ss) h)

    one_listed : is_sparse_sorted mono_cmp (sum_of (s ∷ ss) (t ∷ [])) ≡ true
    one_listed =
        listed-add mono_cmp mono_total same_mono (s ∷ ss) (t ∷ [])
        (listed_from mono_cmp mono_total same_mono t [] alone_listed)

    next_less : mono_cmp s.0 t.0 ≡ Less → sum_of (sum_of ss (t ∷ [])) rest ≡ sum_of ss (t ∷ rest) →
        sum_of (sum_of (s ∷ ss) (t ∷ [])) rest ≡ sum_of (s ∷ ss) (t ∷ rest)
    next_less e more =
        ap (λ us. sum_of us rest) (first_less [] refl e)
        ∙ add-left mono_cmp mono_total same_mono s (sum_of ss (t ∷ [])) rest
        (listed_parts mono_cmp mono_total same_mono s (sum_of ss (t ∷ []))
        (subst (λ us. is_sparse_sorted mono_cmp us ≡ true) (first_less [] refl e) one_listed))
        (before_trans mono_cmp mono_total same_mono s.0 t.0 rest e l.before)
        ∙ ap (λ us. s ∷ us) more
        ∙ sym (first_less rest l.before e)

    next_same : mono_cmp s.0 t.0 ≡ Equal → sum_of (sum_of (s ∷ ss) (t ∷ [])) rest ≡
        sum_of (s ∷ ss) (t ∷ rest)
    next_same e =
        ap (λ us. sum_of us rest) (same_alone e)
        ∙ add-cons s.0 (s.1 +ℤ t.1) ss rest a.before a.rest
        (subst (λ x. is_before mono_cmp x rest ≡ true) (sym (same_mono s.0 t.0 e)) l.before)
        ∙ sym (first_same rest e)

    next_greater : mono_cmp s.0 t.0 ≡ Greater → sum_of (sum_of (s ∷ ss) (t ∷ [])) rest ≡
        sum_of (s ∷ ss) (t ∷ rest)
    next_greater e =
        ap (λ us. sum_of us rest) (greater_alone e)
        ∙ add-left mono_cmp mono_total same_mono t (s ∷ ss) rest
        (record { nonzero = l.nonzero; before = before_both e; rest = h }) l.before
        ∙ sym (first_greater rest e)

    next_by : (r : Ordering) → mono_cmp s.0 t.0 ≡ r → sum_of (sum_of ss (t ∷ [])) rest ≡
        sum_of ss (t ∷ rest) → sum_of (sum_of (s ∷ ss) (t ∷ [])) rest ≡ sum_of (s ∷ ss) (t ∷ rest)
    next_by Less e more = next_less e more
    next_by Equal e more = next_same e
    next_by Greater e more = next_greater e

    fits_less : mono_cmp s.0 t.0 ≡ Less → fits_i128 s.1 ≡ true →
        all_fit (sum_of ss (t ∷ [])) ≡ true → all_fit (sum_of (s ∷ ss) (t ∷ [])) ≡ true
    fits_less e f more =
        ap all_fit (first_less [] refl e) ∙ and_from (fits_i128 s.1) (all_fit (sum_of ss (t ∷ []))) f
        more

    fits_same : mono_cmp s.0 t.0 ≡ Equal → all_fit ss ≡ true →
        all_fit (sum_of (s ∷ ss) (t ∷ rest)) ≡ true → all_fit (sum_of (s ∷ ss) (t ∷ [])) ≡ true
    fits_same e f whole =
        let c = s.1 +ℤ t.1 in
        ap all_fit (same_alone e) ∙ put_cases (λ us. all_fit us ≡ true) s.0 c ss (λ _. f)
        (λ z. and_from (fits_i128 c) (all_fit ss)
        (and_parts (fits_i128 c) (all_fit (sum_of ss rest))
        (ap all_fit (sym (first_same rest e ∙ cons_nonzero-nonzero s.0 c (sum_of ss rest) z)) ∙
        whole)).0 f)

    fits_greater : mono_cmp s.0 t.0 ≡ Greater → fits_i128 t.1 ≡ true → all_fit (s ∷ ss) ≡ true →
        all_fit (sum_of (s ∷ ss) (t ∷ [])) ≡ true
    fits_greater e f all =
        ap all_fit (greater_alone e) ∙ and_from (fits_i128 t.1) (all_fit (s ∷ ss)) f all

    fits_by : (r : Ordering) → mono_cmp s.0 t.0 ≡ r → fits_i128 t.1 ≡ true → all_fit (s ∷ ss) ≡
        true → (all_fit (sum_of ss (t ∷ rest)) ≡ true → all_fit (sum_of ss (t ∷ [])) ≡ true) →
        all_fit (sum_of (s ∷ ss) (t ∷ rest)) ≡ true → all_fit (sum_of (s ∷ ss) (t ∷ [])) ≡ true
    fits_by Less e f all more whole =
        let p = and_parts (fits_i128 s.1) (all_fit (sum_of ss (t ∷ rest)))
        (ap all_fit (sym (first_less rest l.before e)) ∙ whole) in
        fits_less e p.0 (more p.1)
    fits_by Equal e f all more whole =
        fits_same e (and_parts (fits_i128 s.1) (all_fit ss) all).1 whole
    fits_by Greater e f all more whole = fits_greater e f all

  -- a term is added, and then those after it
  add-next : (ss : Terms) → is_sparse_sorted mono_cmp ss ≡ true →
      sum_of (sum_of ss (t ∷ [])) rest ≡ sum_of ss (t ∷ rest)
  add-next [] h = add-left mono_cmp mono_total same_mono t [] rest alone_listed l.before
  add-next (s ∷ ss) h =
      next_by s ss h (mono_cmp s.0 t.0) refl
      (add-next ss (listed_parts mono_cmp mono_total same_mono s ss h).rest)

  -- where the whole fits, so does the sum with the first term
  fits_first : (ss : Terms) → is_sparse_sorted mono_cmp ss ≡ true → all_fit ss ≡ true →
      fits_i128 t.1 ≡ true → all_fit (sum_of ss (t ∷ rest)) ≡ true →
      all_fit (sum_of ss (t ∷ [])) ≡ true
  fits_first [] h all f whole = and_from (fits_i128 t.1) true f refl
  fits_first (s ∷ ss) h all f whole =
      fits_by s ss h (mono_cmp s.0 t.0) refl f all
      (fits_first ss (listed_parts mono_cmp mono_total same_mono s ss h).rest
      (and_parts (fits_i128 s.1) (all_fit ss) all).1 f) whole

-- ---- the size and the depth of a sum

abbrev size_of : Mono × ℤ → ℕ
size_of t = mono_size t.0

abbrev depth_of : Mono × ℤ → ℕ
depth_of t = mono_depth t.0

size-cons : (k : Mono) (c : ℤ) (us : Terms) → sum_by size_of (cons_nonzero k c us) ≤ mono_size k +
    sum_by size_of us
size-cons k c us =
    put_cases (λ ws. sum_by size_of ws ≤ mono_size k + sum_by size_of us) k c us (λ _. omega arith)
    (λ _. let e = sum_by-cons size_of (k, c) us in omega (arith, e))

size-insert_by : (r : Ordering) (k : Mono) (c : ℤ) (u : Mono × ℤ) (us more : Terms) →
    sum_by size_of more ≤ mono_size k + sum_by size_of us →
    sum_by size_of (insert_by r k c u us more) ≤ mono_size k + sum_by size_of (u ∷ us)
size-insert_by Less k c u us more h = size-cons k c (u ∷ us)
size-insert_by Equal k c u us more h =
    let one = size-cons k (c +ℤ u.1) us in
    let e = sum_by-cons size_of u us in
    omega (arith, one, e)
size-insert_by Greater k c u us more h =
    let e = sum_by-cons size_of u us in
    let f = sum_by-cons size_of u more in
    omega (arith, e, f, h)

size-insert : (k : Mono) (c : ℤ) (us : Terms) → sum_by size_of (insert_term mono_cmp k c us) ≤
    mono_size k + sum_by size_of us
size-insert k c [] = size-cons k c []
size-insert k c (u ∷ us) =
    size-insert_by (mono_cmp k u.0) k c u us (insert_term mono_cmp k c us) (size-insert k c us)

-- a sum is no larger than both together
size-sum : (ts us : Terms) → sum_by size_of (sum_of ts us) ≤ sum_by size_of ts + sum_by size_of us
size-sum [] us = omega arith
size-sum (t ∷ ts) us =
    let one = size-insert t.0 t.1 (sum_of ts us) in
    let more = size-sum ts us in
    let e = sum_by-cons size_of t ts in
    omega (arith, one, more, e)

module _ (n : ℕ) where
  depth-cons : (k : Mono) (c : ℤ) (us : Terms) → mono_depth k ≤ n → greatest depth_of us ≤ n →
      greatest depth_of (cons_nonzero k c us) ≤ n
  depth-cons k c us h g =
      put_cases (λ ws. greatest depth_of ws ≤ n) k c us (λ _. g) (λ _. omega (arith, h, g))

  depth-insert_by : (r : Ordering) (k : Mono) (c : ℤ) (u : Mono × ℤ) (us more : Terms) →
      mono_depth k ≤ n → greatest depth_of (u ∷ us) ≤ n → greatest depth_of more ≤ n →
      greatest depth_of (insert_by r k c u us more) ≤ n
  depth-insert_by Less k c u us more h g m = depth-cons k c (u ∷ us) h g
  depth-insert_by Equal k c u us more h g m = depth-cons k (c +ℤ u.1) us h (omega (arith, g))
  depth-insert_by Greater k c u us more h g m = omega (arith, g, m)

  depth-insert : (k : Mono) (c : ℤ) (us : Terms) → mono_depth k ≤ n → greatest depth_of us ≤ n →
      greatest depth_of (insert_term mono_cmp k c us) ≤ n
  depth-insert k c [] h g = depth-cons k c [] h g
  depth-insert k c (u ∷ us) h g =
      depth-insert_by (mono_cmp k u.0) k c u us (insert_term mono_cmp k c us) h g
      (depth-insert k c us h (omega (arith, g)))

  -- a sum is nested no deeper than the deeper one
  depth-sum : (ts us : Terms) → greatest depth_of ts ≤ n → greatest depth_of us ≤ n →
      greatest depth_of (sum_of ts us) ≤ n
  depth-sum [] us h g = g
  depth-sum (t ∷ ts) us h g =
      depth-insert t.0 t.1 (sum_of ts us) (omega (arith, h))
      (depth-sum ts us (omega (arith, h)) g)

-- ---- runs

-- a run of a polynomial's terms
pub record Run (us : Terms) : Type 0 where
  pub small : SmallTerms us
  pub keys : all_keys is_normal_mono us ≡ true

-- its first term, and those after it
record FirstOf (t : Mono × ℤ) (us : Terms) : Type 0 where
  pub listed : Listed mono_cmp mono_total same_mono t us
  pub normal : is_normal_mono t.0 ≡ true
  pub fits : fits_i128 t.1 ≡ true
  pub size : mono_size t.0 ≤ 4096
  pub depth : mono_depth t.0 ≤ 64
  pub rest : Run us

first_of : (t : Mono × ℤ) (us : Terms) → Run (t ∷ us) → FirstOf t us
first_of t us r =
    let l = listed_parts mono_cmp mono_total same_mono t us r.small.listed in
    let f = and_parts (fits_i128 t.1) (all_fit us) r.small.fits in
    let k = and_parts (is_normal_mono t.0) (all_keys is_normal_mono us) r.keys in
    let e = sum_by-cons size_of t us in
    let size = r.small.size in
    let depth = r.small.depth in
    record {
      listed = l;
      normal = k.0;
      fits = f.0;
      size = omega (arith, e, size);
      depth = omega (arith, depth);
      rest = record {
        small = record {
          listed = l.rest;
          fits = f.1;
          size = omega (arith, e, size);
          depth = omega (arith, depth);
        };
        keys = k.1;
      };
    }

pub run_rest : (t : Mono × ℤ) (us : Terms) → Run (t ∷ us) → Run us
run_rest t us r = (first_of t us r).rest

module _ (ws : List (ℕ × Body)) where
  abbrev names : Mono × ℤ → List ℕ
  names t = mono_variables t.0

  -- one term, added
  one_added : (p : Body) (t : Mono × ℤ) (us : Terms) → Stay ws (mono_variables t.0) → FirstOf t us →
      plus_all (well p) (map (term_in ws) (t ∷ us)) ≡
      plus_all (record {
        form = of_terms (sum_of (out-Body p).terms (t ∷ []));
        within = is_within (of_terms (sum_of (out-Body p).terms (t ∷ [])));
      }) (map (term_in ws) us)
  one_added p t us st f =
      let made : subst_mono ws t.0 t.1 ≡ well (of_terms (t ∷ [])) =
      term_stays ws t.0 t.1 st f.normal f.listed.nonzero f.fits f.size f.depth in
      (λ i. plus_all (record {
        form = body_sum p (made i).form;
        within = true && ((made i).within && is_within (body_sum p (made i).form));
      }) (map (term_in ws) us))
      ∙ (λ i. plus_all (record {
        form = of_terms (sum_of (out-Body p).terms (terms-of_terms (t ∷ []) i));
        within = is_within (of_terms (sum_of (out-Body p).terms (terms-of_terms (t ∷ []) i)));
      }) (map (term_in ws) us))

  -- the sum with one term, where it fits
  record Next (p : Body) (t : Mono × ℤ) (us : Terms) : Type 0 where
    pub normal : NormalTerms (sum_of (out-Body p).terms (t ∷ []))
    pub poly : is_poly (of_terms (sum_of (out-Body p).terms (t ∷ []))) ≡ true
    pub more : sum_of (out-Body (of_terms (sum_of (out-Body p).terms (t ∷ [])))).terms us ≡
        sum_of (out-Body p).terms (t ∷ us)

  next_sum : (p : Body) (t : Mono × ℤ) (us : Terms) → is_poly p ≡ true → FirstOf t us →
      all_fit (sum_of (out-Body p).terms (t ∷ [])) ≡ true →
      is_small (of_terms (sum_of (out-Body p).terms (t ∷ []))) ≡ true → Next p t us
  next_sum p t us h f fit small =
      let ps = (out-Body p).terms in
      let n = poly_terms p h in
      let normal : NormalTerms (sum_of ps (t ∷ [])) = record {
        keys = all_keys-add is_normal_mono mono_cmp ps (t ∷ []) n.keys
            (and_from (is_normal_mono t.0) true f.normal refl);
        fits = fit;
        listed = listed-add mono_cmp mono_total same_mono ps (t ∷ [])
            (listed_from mono_cmp mono_total same_mono t []
            (record { nonzero = f.listed.nonzero; before = refl; rest = refl }));
      } in
      record {
        normal = normal;
        poly = poly_of_terms (sum_of ps (t ∷ [])) normal small;
        more = ap (λ qs. sum_of qs us) (terms-of_terms (sum_of ps (t ∷ []))) ∙
            add-next t us f.listed ps n.listed;
      }

  small_sum : (p : Body) (us : Terms) → is_poly p ≡ true → greatest depth_of us ≤ 64 →
      body_size p + sum_by size_of us ≤ 4096 → is_small (of_terms (sum_of (out-Body p).terms us)) ≡
      true
  small_sum p us h deep together =
      let ps = (out-Body p).terms in
      let q = of_terms (sum_of ps us) in
      let parts = small_parts p (and_parts (is_normal p) (is_small p) h).1 in
      let size = size-of_terms (sum_of ps us) in
      let whole = body_size_is p in
      let sizes = size-sum ps us in
      let depth = depth-of_terms (sum_of ps us) in
      let depths = depth-sum 64 ps us (subst (λ j. j ≤ 64) (body_depth_is p) parts.1) deep in
      and_from (nat_le (body_size q) 4096) (nat_le (body_depth q) 64)
      (le-leb (body_size q) 4096 (omega (arith, size, whole, sizes, together)))
      (le-leb (body_depth q) 64 (omega (arith, depth, depths)))

  -- where the sum with the run fits, it is what its terms make one by one
  pub run_made : (us : Terms) (p : Body) → is_poly p ≡ true → Run us → Stay ws (flat_map names us) →
      body_size p + sum_by size_of us ≤ 4096 → all_fit (sum_of (out-Body p).terms us) ≡ true →
      plus_all (well p) (map (term_in ws) us) ≡ well (of_terms (sum_of (out-Body p).terms us))
  run_made [] p h r st together fit =
      ap well (sym (ap of_terms (add-none (out-Body p).terms (poly_terms p h).listed) ∙
      roll-out-Body p))
  run_made (t ∷ us) p h r st together fit =
      let ps = (out-Body p).terms in
      let f = first_of t us r in
      let n = poly_terms p h in
      let s = all_parts (λ v. replaced ws v ≡ variable v) (mono_variables t.0) (flat_map names us)
      st in
      let e = sum_by-cons size_of t us in
      let one = sum_by-cons size_of t [] in
      let first = fits_first t us f.listed ps n.listed n.fits f.fits fit in
      let small = small_sum p (t ∷ []) h (omega (arith, f.depth)) (omega (arith, e, one, together)) in
      let q = of_terms (sum_of ps (t ∷ [])) in
      let next = next_sum p t us h f first small in
      let size = size-of_terms (sum_of ps (t ∷ [])) in
      let sizes = size-sum ps (t ∷ []) in
      let whole = body_size_is p in
      let within : is_within q ≡ true = poly_within q next.poly in
      one_added p t us s.0 f
      ∙ (λ i. plus_all (record { form = q; within = within i }) (map (term_in ws) us))
      ∙ run_made us q next.poly f.rest s.1 (omega (arith, e, one, size, sizes, whole, together))
      (ap all_fit next.more ∙ fit)
      ∙ ap (λ ts. well (of_terms ts)) next.more

  -- where it passes the limits, so does something on that way
  pub run_fails : (us : Terms) (p : Body) → is_poly p ≡ true → Run us →
      Stay ws (flat_map names us) → is_within (of_terms (sum_of (out-Body p).terms us)) ≡ false →
      (plus_all (well p) (map (term_in ws) us)).within ≡ false
  run_fails [] p h r st fails =
      let same : is_within (of_terms (sum_of (out-Body p).terms [])) ≡ true =
      ap is_within (ap of_terms (add-none (out-Body p).terms (poly_terms p h).listed) ∙
      roll-out-Body p) ∙ poly_within p h in
      let no : true ≡ false = sym same ∙ fails in
      cc
  run_fails (t ∷ us) p h r st fails =
      let f = first_of t us r in
      let s = all_parts (λ v. replaced ws v ≡ variable v) (mono_variables t.0) (flat_map names us)
      st in
      ap (λ (w : Formed Body). w.within) (one_added p t us s.0 f) ∙
      by f (is_within (of_terms (sum_of (out-Body p).terms (t ∷ [])))) refl
      (λ e g. run_fails us (of_terms (sum_of (out-Body p).terms (t ∷ []))) e f.rest s.1 g)
    where
      q : Body
      q = of_terms (sum_of (out-Body p).terms (t ∷ []))

      by : FirstOf t us → (b : Bool) → is_within q ≡ b →
          (is_poly q ≡ true → is_within (of_terms (sum_of (out-Body q).terms us)) ≡ false →
          (plus_all (well q) (map (term_in ws) us)).within ≡ false) →
          (plus_all (record { form = q; within = is_within q }) (map (term_in ws) us)).within ≡ false
      by f false e more =
          plus_false (map (term_in ws) us) (record { form = q; within = is_within q }) e
      by f true e more =
          let parts = and_parts (all_fit (out-Body q).terms) (is_small q) e in
          let next = next_sum p t us h f
          (ap all_fit (sym (terms-of_terms (sum_of (out-Body p).terms (t ∷ [])))) ∙ parts.0) parts.1
          in
          (λ i. (plus_all (record { form = q; within = e i }) (map (term_in ws) us)).within) ∙
          more next.poly (ap (λ ts. is_within (of_terms ts)) next.more ∙ fails)

-- ---- beginnings and ends of runs

pub run_prefix : (ts us : Terms) → Run (ts ++ us) → Run ts
run_prefix ts us r = record {
  small = terms-prefix ts us r.small;
  keys =
      (and_parts (all_keys is_normal_mono ts) (all_keys is_normal_mono us)
      (sym (list_all-append (λ (t : Mono × ℤ). is_normal_mono t.0) ts us) ∙ r.keys)).0;
}

-- a run can be summed
pub run_sum : (us : Terms) → Run us → is_sum us ≡ true
run_sum us r = and_from (is_sparse_sorted mono_cmp us) (all_fit us) r.small.listed r.small.fits

run_suffix : (ts us : Terms) → Run (ts ++ us) → Run us
run_suffix [] us r = r
run_suffix (t ∷ ts) us r = run_suffix ts us (run_rest t (ts ++ us) r)

-- all terms of a polynomial
poly_run : (p : Body) → is_poly p ≡ true → Run (out-Body p).terms
poly_run p h =
    let n = poly_terms p h in
    let parts = small_parts p (and_parts (is_normal p) (is_small p) h).1 in
    record {
      small = record {
        listed = n.listed;
        fits = n.fits;
        size = subst (λ j. j ≤ 4096) (body_size_is p) parts.0;
        depth = subst (λ j. j ≤ 64) (body_depth_is p) parts.1;
      };
      keys = n.keys;
    }

-- what a polynomial and a run make is normal
pub plus_normal : (p : Body) (us : Terms) {ls ts : Terms} → is_poly p ≡ true → is_sum us ≡ true →
    all_keys is_normal_mono us ≡ true → ls ≡ (out-Body p).terms → ts ≡
    sum_of ls (with_sign Plus us) → all_fit (sum_of ls (with_sign Plus us)) ≡ true →
    is_normal (of_terms ts) ≡ true
plus_normal p us {ls} {ts} h s k is made fit =
    let parts = and_parts (is_sparse_sorted mono_cmp us) (all_fit us) s in
    ap (λ xs. is_normal (of_terms xs)) made
    ∙ normal_of_terms _ (combined_terms Plus ls us (subst NormalTerms (sym is) (poly_terms p h))
    (record { keys = k; fits = parts.1; listed = parts.0 }) fit)

-- and it is their sum
pub plus_made : (p : Body) (us : Terms) {ls : Terms} → ls ≡ (out-Body p).terms →
    of_terms (sum_of ls (with_sign Plus us)) ≡ body_sum p (of_terms us)
plus_made p us is =
    λ i. of_terms (sum_of (is i) ((with_plus us ∙ sym (terms-of_terms us)) i))

pub plus_kept : (p : Body) (us : Terms) {ls ts : Terms} → ls ≡ (out-Body p).terms → ts ≡
    sum_of ls (with_sign Plus us) → all_fit (sum_of ls (with_sign Plus us)) ≡ true →
    kept is_small (of_terms ts) ≡ kept is_within (body_sum p (of_terms us))
plus_kept p us {ls} {ts} is made fit =
    let whole = ap of_terms made ∙ plus_made p us is in
    let small : is_small (of_terms ts) ≡ is_within (body_sum p (of_terms us)) =
    sym (within_terms ts ∙ ap (λ b. b && is_small (of_terms ts)) (ap all_fit made ∙ fit)) ∙
    ap is_within whole in
    λ i. record { form = whole i; within = small i }

pub plus_unfit : (p : Body) (us : Terms) {ls : Terms} → ls ≡ (out-Body p).terms →
    all_fit (sum_of ls (with_sign Plus us)) ≡ false → is_within (body_sum p (of_terms us)) ≡ false
plus_unfit p us {ls} is f =
    let ts = sum_of ls (with_sign Plus us) in
    ap is_within (sym (plus_made p us is)) ∙ within_terms ts ∙
    and_left (all_fit ts) (is_small (of_terms ts)) f

-- ---- a walk over the terms

-- the sum so far, plus the terms that are left, is the whole
pub record Left (ws : List (ℕ × Body)) (sum : Body) (rest : Terms) (whole : Formed Body) : Type 0
  where
    pub adding : Adding ws sum rest whole
    pub run : Run rest

pub begin : (ws : List (ℕ × Body)) (p : Body) {sum : Body} {ts : Terms} → is_poly p ≡ true → ts ≡
    (out-Body p).terms → sum ≡ of_terms [] → Left ws sum ts (subst_body ws p)
begin ws p h is e = record {
  adding = plus_begin ws p is e;
  run = subst Run (sym is) (poly_run p h);
}

pub finished : (ws : List (ℕ × Body)) {sum : Body} {rest : Terms} {whole : Formed Body} →
    length rest ≡ 0 → Left ws sum rest whole → well sum ≡ whole
finished ws {sum} {rest} {whole} e l =
    (subst (λ ts. Left ws sum ts whole) (empty_by_length rest e) l).adding.made

module _ (ws : List (ℕ × Body)) {sum : Body} {whole : Formed Body} {rest after : Terms}
    {t : Mono × ℤ} (is : rest ≡ t ∷ after) (l : Left ws sum rest whole) where
  opened : Left ws sum (t ∷ after) whole
  opened = subst (λ ts. Left ws sum ts whole) is l

  pub no_first : (plus_formed sum (subst_mono ws t.0 t.1)).within ≡ false → whole.within ≡ false
  no_first = no_sum ws (t ∷ after) 0 (omega arith) refl opened.adding

  -- one term is added
  pub after_first : {next : Body} → next ≡ (plus_formed sum (subst_mono ws t.0 t.1)).form →
      (plus_formed sum (subst_mono ws t.0 t.1)).within ≡ true → Left ws next after whole
  after_first e f = record {
    adding = after_term ws (t ∷ after) 0 (omega arith) refl opened.adding e f;
    run = run_rest t after opened.run;
  }

plus-append : (done : Formed Body) (ts us : List ((ℤ → Formed Body) × ℤ)) →
    plus_all done (ts ++ us) ≡ plus_all (plus_all done ts) us
plus-append done [] us = refl
plus-append done (t ∷ ts) us =
    plus-append (record {
      form = body_sum done.form (t.0 t.1).form;
      within = done.within && ((t.0 t.1).within && is_within (body_sum done.form (t.0 t.1).form));
    }) ts us

module _ (ws : List (ℕ × Body)) {sum : Body} {whole : Formed Body} {rest : Terms}
    (run others : Terms) (is : rest ≡ run ++ others) (l : Left ws sum rest whole)
    (st : Stay ws (flat_map (names ws) run)) (h : is_poly sum ≡ true) where
  split : Left ws sum (run ++ others) whole
  split = subst (λ ts. Left ws sum ts whole) is l

  both : plus_all (plus_all (well sum) (map (term_in ws) run)) (map (term_in ws) others) ≡ whole
  both =
      sym (ap (plus_all (well sum)) (map-append (term_in ws) run others) ∙
      plus-append (well sum) (map (term_in ws) run) (map (term_in ws) others)) ∙
      split.adding.made

  added : body_sum sum (of_terms run) ≡ of_terms (sum_of (out-Body sum).terms run)
  added = ap (λ ts. of_terms (sum_of (out-Body sum).terms ts)) (terms-of_terms run)

  pub no_run : is_within (body_sum sum (of_terms run)) ≡ false → whole.within ≡ false
  no_run f =
      ap (λ (w : Formed Body). w.within) (sym both) ∙
      plus_false (map (term_in ws) others) (plus_all (well sum) (map (term_in ws) run))
      (run_fails ws run sum h (run_prefix run others split.run) st (ap is_within (sym added) ∙ f))

  -- a run is added
  pub after_run : {next : Body} → body_size sum + sum_by size_of run ≤ 4096 → next ≡
      body_sum sum (of_terms run) → is_within (body_sum sum (of_terms run)) ≡ true →
      Left ws next others whole
  after_run {next} together e f =
      let within = and_parts (all_fit (out-Body (of_terms (sum_of (out-Body sum).terms run))).terms)
      (is_small (of_terms (sum_of (out-Body sum).terms run))) (ap is_within (sym added) ∙ f) in
      let fit = ap all_fit (sym (terms-of_terms (sum_of (out-Body sum).terms run))) ∙ within.0 in
      record {
        adding = record {
          made =
              ap (λ p. plus_all (well p) (map (term_in ws) others)) (e ∙ added)
              ∙ ap (λ w. plus_all w (map (term_in ws) others))
              (sym (run_made ws run sum h (run_prefix run others split.run) st together fit))
              ∙ both;
        };
        run = run_suffix run others split.run;
      }
