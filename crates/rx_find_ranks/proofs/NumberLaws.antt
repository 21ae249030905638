-- Columns of numbers: their instances are the same numbers, so where one is at most the other their
-- rows are plain.
use Rattle.std.proofs.Common.{◌≡◌, ◌∙◌, ap, sym, subst, refl, cond, arith, ℕ, suc, ◌-◌, ◌<◌, ◌≤◌, ◌^◌, Bool, true, false, ◌&&◌, not, Some, None, List, [], ◌∷◌, map, ℤ, pos}
use Rattle.std.specs.Prelude.{◌+ℤ◌, neg_ℤ, int_lt}
use Rattle.std.proofs.lemmas.Bool.{false_from_ne_true, lt-leb, lt-ltb, or_right}
use Rattle.std.proofs.lemmas.Int.{ints}
use Rattle.std.proofs.lemmas.List.Elements.{All-nil}
use Rattle.rx_poly.proofs.ReadingLaws.{itself}
use Rattle.rx_plain.specs.Formed.{Formed}
use Rattle.rx_poly.specs.Constants.{number}
use Rattle.rx_poly.specs.Limits.{body_sum, is_within, of_atoms, of_terms, body_difference}
use Rattle.rx_poly.specs.Normal.{is_empty}
use Rattle.rx_poly.specs.Order.{mono_cmp}
use Rattle.rx_poly.specs.Reading.{constant_of}
use Rattle.rx_poly.specs.Substitution.{subst_atom, subst_body, numbered, plus_all, times_all}
use Rattle.rx_poly.specs.Terms.{add_terms, insert_term, is_zero, negated, insert_by, cons_nonzero}
use Rattle.rx_poly.specs.declared.body.Body.{Body, out-Body}
use Rattle.rx_poly.specs.declared.body.Mono.{Mono}
use Rattle.rx_poly.proofs.Constants.{number_within}
use Rattle.rx_poly.proofs.Levels.{atoms-of_atoms, terms-of_terms}
use Rattle.rx_poly.proofs.Substituting.{in_body_is, in_mono_is, term_in, well}
use Rattle.rx_poly.proofs.TermLaws.{cons_nonzero-nonzero, zero_is}
use Rattle.rx_row.specs.declared.row.Row.{Row}
use Rattle.rx_row.specs.declared.row.Row.TheVariants.{Ge}
use Rattle.rx_row.specs.Membership.{stands_among}
use Rattle.rx_cert.specs.Conditions.{is_evident, is_number_with, is_plain_row}
use Rattle.rx_cert.specs.Depth.{cert_depth}
use Rattle.rx_cert.specs.Variables.{cert_passes}
use Rattle.rx_cert.specs.declared.cert.Cert.{Cert}
use Rattle.rx_cert.proofs.ShowingLaws.{after_plain, begin, finished}
use Rattle.rx_solve.specs.Answers.{AreCertificates}
use Rattle.rx_solve.specs.Bounds.{most_deep}
use Rattle.rx_pairs.specs.Columns.{falls_rows, holds_rows, is_below, is_below_zero}
use Rattle.rx_pairs.specs.declared.pair.Pair.{Pair}
use Rattle.rx_rank.specs.Answers.{IsProved}

abbrev one : Mono
one = of_atoms []

abbrev terms_of : ℤ → List (Mono × ℤ)
terms_of k = cons_nonzero one k []

number_terms : (k : ℤ) → (out-Body (number k)).terms ≡ terms_of k
number_terms k = terms-of_terms (terms_of k)

-- ---- instances

in_terms : (ws : List (ℕ × Body)) (k : ℤ) (b : Bool) → is_zero k ≡ b → is_within (number k) ≡ true
    → plus_all (well (of_terms [])) (map (term_in ws) (terms_of k)) ≡ well (number k)
in_terms ws k true e fits =
    ap (λ c. plus_all (well (of_terms [])) (map (term_in ws) (cond c [] ((one, k) ∷ [])))) e ∙
    ap (λ c. well (of_terms (cond c [] ((one, k) ∷ [])))) (sym e)
in_terms ws k false e fits =
    ap (λ c. plus_all (well (of_terms [])) (map (term_in ws) (cond c [] ((one, k) ∷ [])))) e
    ∙ ap (λ (f : Formed Body). plus_one f) (in_mono_is ws one k ∙
    ap (λ xs. times_all (well (number k)) (map (subst_atom ws) xs)) (atoms-of_atoms []))
    ∙ (λ i. kept_sum (sum i) (is_within (sum i)))
    ∙ ap (λ c. kept_sum (number k) c) fits
  where
    plus_one : Formed Body → Formed Body
    plus_one f =
        record {
          form = body_sum (of_terms []) f.form;
          within = true &&
              (f.within && is_within (body_sum (of_terms []) f.form));
        }

    kept_sum : Body → Bool → Formed Body
    kept_sum b c = record { form = b; within = c }

    sum : body_sum (of_terms []) (number k) ≡ number k
    sum = (λ i. of_terms (add_terms mono_cmp (terms-of_terms [] i) (number_terms k i)))

in_number : (ws : List (ℕ × Body)) (k : ℤ) → is_within (number k) ≡ true →
    subst_body ws (number k) ≡
    well (number k)
in_number ws k fits =
    in_body_is ws (number k) ∙ ap (λ ts. plus_all (well (of_terms [])) (map (term_in ws) ts))
    (number_terms k) ∙ in_terms ws k (is_zero k) refl fits

-- ---- differences

join_terms : (a b : ℤ) (x y : Bool) → is_zero a ≡ x → is_zero b ≡ y → (x ≡ true → y ≡ true)
    → add_terms mono_cmp (terms_of a) (negated (terms_of b)) ≡ terms_of (a +ℤ neg_ℤ b)
join_terms a b true true za zb h =
    (λ i. add_terms mono_cmp (terms_of (zero_is a za i)) (negated (terms_of (zero_is b zb i)))) ∙
    sym (λ i. terms_of (zero_is a za i +ℤ neg_ℤ (zero_is b zb i)))
join_terms a b true false za zb h = let e = h refl in cc
join_terms a b false true za zb h =
    (λ i. add_terms mono_cmp (terms_of a) (negated (terms_of (zero_is b zb i))))
    ∙ ap (λ ts. add_terms mono_cmp ts []) (cons_nonzero-nonzero one a [] za)
    ∙ ap terms_of (let e : a ≡ a +ℤ neg_ℤ (pos 0) = omega (arith, ints) in e)
    ∙ sym (λ i. terms_of (a +ℤ neg_ℤ (zero_is b zb i)))
join_terms a b false false za zb h =
    (λ i. add_terms mono_cmp (cons_nonzero-nonzero one a [] za i)
    (negated (cons_nonzero-nonzero one b [] zb i)))
    ∙ ap (λ r. insert_by r one a (one, neg_ℤ b) [] (insert_term mono_cmp one a [])) (itself one)

difference : (a b : ℤ) → (is_zero a ≡ true → is_zero b ≡ true) →
    body_difference (number a) (number b) ≡
    number (a +ℤ neg_ℤ b)
difference a b h =
    (λ i. of_terms (add_terms mono_cmp (number_terms a i) (negated (number_terms b i))))
    ∙ ap of_terms (join_terms a b (is_zero a) (is_zero b) refl refl h)

pos_nonzero : (m : ℕ) → 0 < m → is_zero (pos m) ≡ false
pos_nonzero m more =
    false_from_ne_true (is_zero (pos m)) (λ e. let z = zero_is (pos m) e in
    absurd (omega (arith, ints, z, more)))

not_zero : (m : ℕ) (b : ℤ) → 0 < m → is_zero (pos m) ≡ true → is_zero b ≡ true
not_zero m b more e = let f = pos_nonzero m more in cc

positive_difference : (m n : ℕ) → n < m → body_difference (number (pos m)) (number (pos n)) ≡
    number (pos (m - n))
positive_difference m n less =
    difference (pos m) (pos n) (not_zero m (pos n) (omega (arith, less)))
    ∙ ap number (let e : pos m +ℤ neg_ℤ (pos n) ≡ pos (m - n) = omega (arith, ints, less) in e)

no_difference : (m : ℕ) → body_difference (number (pos m)) (number (pos m)) ≡ number (pos 0)
no_difference m =
    difference (pos m) (pos m) (λ e. e) ∙ ap number
    (let e : pos m +ℤ neg_ℤ (pos m) ≡ pos 0 = omega (arith, ints) in e)

less_by_one : (m n : ℕ) → n < m → body_difference (number (pos (m - n))) (number (pos 1)) ≡
    number (pos (m - n - 1))
less_by_one m n less =
    difference (pos (m - n)) (pos 1) (not_zero (m - n) (pos 1) (omega (arith, less)))
    ∙ ap number (let e : pos (m - n) +ℤ neg_ℤ (pos 1) ≡ pos (m - n - 1) =
    omega (arith, ints, less) in e)

-- ---- numbers of at least 0

constant_terms : (k : ℤ) (b : Bool) → is_zero k ≡ b → constant_of (terms_of k) ≡ Some k
constant_terms k true e =
    ap (λ c. constant_of (cond c [] ((one, k) ∷ []))) e ∙ ap Some (sym (zero_is k e))
constant_terms k false e =
    ap (λ c. constant_of (cond c [] ((one, k) ∷ []))) e ∙
    ap (λ xs. cond (true && is_empty xs) (Some k) None) (atoms-of_atoms [])

constant_number : (k : ℤ) → constant_of (out-Body (number k)).terms ≡ Some k
constant_number k = ap constant_of (number_terms k) ∙ constant_terms k (is_zero k) refl

not_below : (m : ℕ) → int_lt (pos m) (pos 0) ≡ false
not_below m = lt-leb (suc m) 0 (omega arith)

below_none : (m : ℕ) → is_below_zero (number (pos m)) ≡ false
below_none m = ap is_below (constant_number (pos m)) ∙ not_below m

plain_number : (given : List Row) (m : ℕ) → is_plain_row given (Ge (number (pos m))) ≡ true
plain_number given m =
    or_right (stands_among given (Ge (number (pos m)))) (is_evident (Ge (number (pos m))))
    (ap (is_number_with (λ k. not (int_lt k (pos 0)))) (constant_number (pos m)) ∙
    ap not (not_below m))

fits_pos : (m : ℕ) → m < 2 ^ 127 → is_within (number (pos m)) ≡ true
fits_pos m small = number_within (pos m) ∙ lt-ltb m (2 ^ 127) small

-- ---- the rows

one_plain : (given : List Row) (m : ℕ) → AreCertificates most_deep given (Ge (number (pos m)) ∷ [])
    []
one_plain given m = record {
  shows = let rows = Ge (number (pos m)) ∷ [] in
      finished given rows 1 [] (after_plain given rows 0 (Ge (number (pos m))) [] []
      (plain_number given m) (begin given rows));
  deep = All-nil (λ (cert : Cert). cert_depth cert ≤ most_deep);
  own_variables = λ test h g. All-nil (λ (cert : Cert). cert_passes test cert ≡ true);
}

two_plain : (given : List Row) (m n : ℕ) → AreCertificates most_deep given
    (Ge (number (pos m)) ∷ Ge (number (pos n)) ∷ []) []
two_plain given m n = record {
  shows = let rows = Ge (number (pos m)) ∷ Ge (number (pos n)) ∷ [] in
      finished given rows 2 []
      (after_plain given rows 1 (Ge (number (pos n))) [] [] (plain_number given n)
      (after_plain given rows 0 (Ge (number (pos m))) (Ge (number (pos n)) ∷ []) []
      (plain_number given m) (begin given rows)));
  deep = All-nil (λ (cert : Cert). cert_depth cert ≤ most_deep);
  own_variables = λ test h g. All-nil (λ (cert : Cert). cert_passes test cert ≡ true);
}

abbrev row_if : Body → Bool → Formed (List Row)
row_if b c = record { form = Ge b ∷ []; within = c }

abbrev rows_if : Body → Body → Bool → Formed (List Row)
rows_if a b c = record { form = Ge a ∷ Ge b ∷ []; within = c }

abbrev not_less_at : Bool → Body → Body → Formed (List Row)
not_less_at c l r =
    record {
      form = cond c [] (Ge (body_difference l r) ∷ []);
      within =
          cond c true (is_within (body_difference l r));
    }

abbrev hold_at : Formed Body → Formed Body → Formed (List Row)
hold_at l r = record {
  form = cond (is_below_zero r.form) [] (Ge (body_difference l.form r.form) ∷ []);
  within =
      r.within && cond (is_below_zero r.form) true
      (l.within && is_within (body_difference l.form r.form));
}

abbrev less_at : Body → Body → Formed (List Row)
less_at l d =
    record {
      form = Ge l ∷ Ge (body_difference d (number (pos 1))) ∷ [];
      within = is_within d &&
          is_within (body_difference d (number (pos 1)));
    }

abbrev fall_at : Formed Body → Formed Body → Formed (List Row)
fall_at l r = record {
  form = Ge l.form ∷ Ge (body_difference (body_difference l.form r.form) (number (pos 1))) ∷ [];
  within =
      l.within && (r.within && (is_within (body_difference l.form r.form) &&
      is_within (body_difference (body_difference l.form r.form) (number (pos 1)))));
}

module _ (pair : Pair) where
  proved_by : (rows : Formed (List Row)) (list : List Row) → rows ≡
      record { form = list; within = true } → AreCertificates most_deep pair.phi list []
      → IsProved pair rows []
  proved_by rows list is certified = record {
    within = ap (λ (f : Formed (List Row)). f.within) is;
    certified =
        subst (λ rs. AreCertificates most_deep pair.phi rs [])
        (sym (ap (λ (f : Formed (List Row)). f.form) is)) certified;
  }

  -- equal numbers hold
  pub equal_hold : (m : ℕ) → m < 2 ^ 127 → IsProved pair
      (holds_rows pair (number (pos m)) (number (pos m))) []
  equal_hold m small =
      proved_by (holds_rows pair (number (pos m)) (number (pos m))) (Ge (number (pos 0)) ∷ [])
      ((λ i. hold_at (in_number (numbered pair.left_args) (pos m) (fits_pos m small) i)
      (in_number (numbered pair.right_args) (pos m) (fits_pos m small) i))
      ∙ (λ i. not_less_at (below_none m i) (number (pos m)) (number (pos m)))
      ∙ (λ i. row_if (no_difference m i) (is_within (no_difference m i)))
      ∙ ap (row_if (number (pos 0))) (fits_pos 0 (omega arith)))
      (one_plain pair.phi 0)

  -- and a number falls to a lesser one
  pub less_fall : (m n : ℕ) → m < 2 ^ 127 → n < m →
      IsProved pair (falls_rows pair (number (pos m)) (number (pos n))) []
  less_fall m n small less =
      let rest = less_by_one m n less in
      proved_by (falls_rows pair (number (pos m)) (number (pos n)))
      (Ge (number (pos m)) ∷ Ge (number (pos (m - n - 1))) ∷ [])
      ((λ i. fall_at (in_number (numbered pair.left_args) (pos m) (fits_pos m small) i)
      (in_number (numbered pair.right_args) (pos n) (fits_pos n (omega (arith, small, less)))
      i))
      ∙ (λ i. less_at (number (pos m)) (positive_difference m n less i))
      ∙ (λ i. rows_if (number (pos m)) (rest i)
      (is_within (number (pos (m - n))) && is_within (rest i)))
      ∙ (λ i. rows_if (number (pos m)) (number (pos (m - n - 1)))
      (fits_pos (m - n) (omega (arith, small)) i &&
      fits_pos (m - n - 1) (omega (arith, small)) i)))
      (two_plain pair.phi m (m - n - 1))
