-- Worked cases: no rows, one number that is to be at least 0, and both sides of a disequality.
use Rattle.std.proofs.Common.{◌≡◌, ◌∙◌, ap, subst, sym, refl, cond, ℕ, ◌-◌, length, map, nat_lt, not, true, false, ◌&&◌, Option, Some, None, option_and_then, option_map, List, [], ◌∷◌, ◌++◌, take, ℤ, pos, negsuc}
use Rattle.std.proofs.lemmas.Bool.{and_from}
use Rattle.std.specs.List.{flat_map, fold, list_all}
use Rattle.std.specs.Option.{option_or}
use Rattle.rx_poly.specs.Constants.{number}
use Rattle.rx_poly.specs.Limits.{body_sum, is_within, of_atoms, of_terms, scaled_by}
use Rattle.rx_poly.specs.Normal.{is_empty}
use Rattle.rx_poly.specs.Order.{mono_cmp}
use Rattle.rx_poly.specs.Reading.{constant_of}
use Rattle.rx_poly.specs.Terms.{add_terms, is_zero, times_number}
use Rattle.rx_poly.specs.declared.body.Body.{Body, out-Body}
use Rattle.rx_poly.specs.declared.body.Mono.{Mono}
use Rattle.rx_poly.proofs.Constants.{number-nonzero, number_within}
use Rattle.rx_poly.proofs.Levels.{atoms-of_atoms, terms-of_terms}
use Rattle.rx_row.specs.Negation.{negation}
use Rattle.rx_row.specs.Parts.{parts_within}
use Rattle.rx_row.specs.declared.row.Row.{Row}
use Rattle.rx_row.specs.declared.row.Row.TheVariants.{Ge, Ne}
use Rattle.rx_fm.specs.Content.{coefficients_but_one, variable_coefficients}
use Rattle.rx_fm.specs.Elimination.{Large, eliminate, elimination, first_negative, found, found_or, given, is_below_zero, monomials, nothing, stage, stage_within, with_mono, with_monos}
use Rattle.rx_fm.specs.Numbers.{gcd_with, sizes_fit}
use Rattle.rx_cert.specs.Differences.{one_less}
use Rattle.rx_cert.specs.Findings.{No, Yes, guard, said}
use Rattle.rx_solve.specs.Divisions.{all_ratios, atom_ratios, mono_ratios, pushed_ratio}
use Rattle.rx_solve.specs.Pivots.{first_pivot, least_solvable, pivot_from}
use Rattle.rx_solve.specs.Refuter.{dividing_by, refuted, rounding, rounding_by, solving}
use Rattle.rx_solve.specs.Roundings.{has_sizes, looked_at, roundings, roundings_of, roundings_with}
use Rattle.rx_solve.specs.Sums.{parts_from, sum_found, summing}
use Rattle.rx_solve.specs.declared.divisions.Ratio.{Ratio}
use Rattle.rx_solve.specs.declared.roundings.Rounding.{Rounding}
use Rattle.rx_solve.proofs.Found.{solving_without}
use Rattle.rx_solve.proofs.RatioLaws.{mono_ratios_is, ratios_is}
use Rattle.rx_refuter_laws.specs.Leaves.{AddsRounded, IsOpen, Leaf, TakesSides, TakesSigns}
use Rattle.rx_refuter_laws.specs.Leaves.AddsRounded.{NoRounding}
use Rattle.rx_refuter_laws.specs.Leaves.Substitutes.{NoPivot}
use Rattle.rx_refuter_laws.specs.Leaves.TakesSides.{Above, Below, NoDisequality}
use Rattle.rx_refuter_laws.specs.Leaves.TakesSigns.{NoDividend}
use Rattle.rx_refuter_laws.proofs.Multipliers.{found_is_negative}
use Rattle.rx_refuter_laws.proofs.Polynomials.{fitting_number_poly}

-- ---- no rows

no_rows : refuted [] ≡ No
unfolding solving
no_rows = refl

no_rows_open : IsOpen []
no_rows_open = refl

no_rows_leaf : Leaf [] []
no_rows_leaf = record {
  replaced = [];
  parted = [];
  divided = [];
  values = NoPivot {n = 99} refl;
  sides = NoDisequality;
  signs = NoDividend;
  rounded = NoRounding;
}

-- ---- a disequality: each side is one leaf

first_side : (p : Body) → TakesSides (0 ∷ []) (Ne p ∷ []) (Ne p ∷ Ge (one_less p) ∷ [])
first_side p = Above p refl NoDisequality

second_side : (p : Body) → TakesSides (0 ∷ []) (Ne p ∷ []) (Ne p ∷ negation (Ge p) ∷ [])
second_side p = Below p refl NoDisequality

-- ---- a number that is to be at least 0

abbrev one : Mono
one = of_atoms []

-- one inequality says no value
no_pivot : (q : Body) → first_pivot (Ge q ∷ []) ≡ None
no_pivot q = by (least_solvable q)
  where
    by : (o : Option ℕ) → option_or (option_and_then (λ (x : ℕ). option_map (λ (j : ℕ).
        record { first = 0; second = j; variable = x }) None) o) (pivot_from 1 []) ≡ None
    by None = refl
    by (Some x) = refl

module _ (k : ℤ) (nonzero : is_zero k ≡ false) where
  abbrev rows : List Row
  rows = Ge (number k) ∷ []

  terms_are : (out-Body (number k)).terms ≡ (one, k) ∷ []
  terms_are =
      ap (λ b. (out-Body b).terms) (number-nonzero k nonzero) ∙ terms-of_terms ((one, k) ∷ [])

  no_ratio : all_ratios rows ≡ []
  no_ratio =
      ap (λ rs. fold pushed_ratio [] (rs ++ [])) (ratios_is (number k)
      ∙ ap (flat_map (λ (t : Mono × ℤ). mono_ratios t.0)) terms_are
      ∙ ap (λ rs. rs ++ []) (mono_ratios_is one ∙ ap (flat_map atom_ratios) (atoms-of_atoms [])))

  no_coefficient : variable_coefficients (number k) ≡ []
  no_coefficient =
      ap coefficients_but_one terms_are
      ∙ ap (λ xs. map (λ (t : Mono × ℤ). t.1) (cond (not (is_empty xs)) ((one, k) ∷ []) []))
      (atoms-of_atoms [])

  no_own_rounding : roundings_of 0 (Ge (number k)) ≡ []
  no_own_rounding =
      ap (λ cs. cond (nat_lt 1 (gcd_with 0 cs))
      (roundings_with (pos (gcd_with 0 cs)) 0 (Ge (number k))) []) no_coefficient

  no_rounding : roundings rows ≡ []
  no_rounding = ap (λ rs. take 64 (rs ++ [])) no_own_rounding

  rounds_nothing : rounding rows ≡ summing rows
  rounds_nothing =
      (λ i. guard (sizes_fit (no_coefficient i) &&
      list_all has_sizes (looked_at (64 - length (no_own_rounding i)) []))
      (rounding_by (no_rounding i) rows))

  -- only the sum is left
  only_sum : refuted rows ≡ summing rows
  only_sum =
      solving_without 100 rows (no_pivot (number k))
      ∙ ap (λ rs. dividing_by (take 3 rs) rows) no_ratio ∙ rounds_nothing

  -- the rows are their own leaf
  own_leaf : Leaf rows rows
  own_leaf = record {
    replaced = rows;
    parted = rows;
    divided = rows;
    values = NoPivot {n = 99} (no_pivot (number k));
    sides = NoDisequality;
    signs = subst (λ (rs : List Ratio). TakesSigns (take 3 rs) rows rows) (sym no_ratio) NoDividend;
    rounded = subst (λ (rs : List Rounding). AddsRounded rs rows rows) (sym no_rounding) NoRounding;
  }

  is_number : constant_of (out-Body (number k)).terms ≡ Some k
  is_number =
      ap constant_of terms_are
      ∙ ap (λ xs. cond (is_empty xs) (Some k) None) (atoms-of_atoms [])

  no_monomial : monomials (number k ∷ []) ≡ []
  no_monomial =
      ap (λ ts. with_monos ts []) terms_are
      ∙ ap (λ xs. cond (is_empty xs) [] (with_mono one [])) (atoms-of_atoms [])

first_found : (ps : List Body) (ms : List Mono) (v : List ℤ) → first_negative (given ps) ≡ Some v →
    eliminate 4096 ms (given ps) ≡ found v
first_found ps [] v e = ap (λ o. found_or o nothing) e
first_found ps (m ∷ ms) v e =
    ap (λ o. found_or o (cond (stage_within 4096 m (given ps))
    (eliminate 4096 ms (stage m (given ps))) Large)) e

-- 1 >= 0 isn't refuted, and is an open leaf
one_open : IsOpen (Ge (number (pos 1)) ∷ [])
one_open =
    ap (λ ms. eliminate 4096 ms (given (number (pos 1) ∷ []))) (no_monomial (pos 1) refl)
    ∙ ap (λ o. found_or (cond (is_below_zero o) (Some (pos 1 ∷ [])) None) nothing)
    (is_number (pos 1) refl)

one_not_refuted : refuted (Ge (number (pos 1)) ∷ []) ≡ No
one_not_refuted =
    only_sum (pos 1) refl ∙ ap (sum_found (Ge (number (pos 1)) ∷ [])) one_open

-- -1 >= 0 is refuted
abbrev below : Body
below = number (negsuc 0)

below_found : elimination 4096 (below ∷ []) ≡ found (pos 1 ∷ [])
below_found =
    first_found (below ∷ []) (monomials (below ∷ [])) (pos 1 ∷ [])
    (ap (λ o. cond (is_below_zero o) (Some (pos 1 ∷ [])) None) (is_number (negsuc 0) refl))

once : scaled_by (pos 1) below ≡ below
once = ap (λ ts. of_terms (times_number (pos 1) ts)) (terms_are (negsuc 0) refl)

after_zero : body_sum (number (pos 0)) below ≡ below
after_zero =
    (λ i. of_terms (add_terms mono_cmp (terms-of_terms [] i) (terms_are (negsuc 0) refl i)))

limits_kept : parts_within (Ge below ∷ []) ((0, pos 1) ∷ []) ≡ true
limits_kept =
    (λ i. (is_within (once i) && is_within (body_sum (number (pos 0)) (once i))) && true)
    ∙ (λ i. (is_within below && is_within (after_zero i)) && true)
    ∙ (λ i. (number_within (negsuc 0) i && number_within (negsuc 0) i) && true)

below_refuted : refuted (Ge below ∷ []) ≡ Yes
below_refuted =
    let ps = parts_from 0 (Ge below ∷ []) (pos 1 ∷ []) in
    let negative = found_is_negative 4096 (Ge below ∷ []) (pos 1 ∷ [])
    (and_from _ true (fitting_number_poly (negsuc 0) refl) refl) refl below_found limits_kept in
    only_sum (negsuc 0) refl ∙ ap (sum_found (Ge below ∷ [])) below_found
    ∙ (λ i. guard (limits_kept i) (said (negative i)))
