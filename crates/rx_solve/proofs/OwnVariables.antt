-- What is formed for a certificate has no variables but those of the rows: it passes each test that
-- they pass.
use Rattle.std.proofs.Common.{◌≡◌, ◌∙◌, ap, subst, sym, refl, cond, ℕ, ◌==◌, Bool, true, false, ◌&&◌, Option, Some, None, List, [], ◌∷◌, ◌++◌, slice_get, ℤ, pos, negsuc, unsigned_abs, ◌-ℤ◌}
use Rattle.std.proofs.lemmas.Bool.{and_from, and_parts}
use Rattle.std.proofs.lemmas.List.Elements.{All-weaker}
use Rattle.std.proofs.lemmas.List.Folds.{list_all-append}
use Rattle.std.proofs.lemmas.List.Sums.{AllPass-from_list_all}
use Rattle.std.proofs.lemmas.Option.{get_or_from_slice_get, slice_get_within}
use Rattle.std.specs.Cmp.{signed_Decides}
use Rattle.std.specs.Int.{int_div_euclid}
use Rattle.std.specs.List.{list_all}
use Rattle.std.specs.Ordering.{int_eq}
use Rattle.std.specs.declared.cmp.Ordering.{Ordering}
use Rattle.std.specs.declared.cmp.Ordering.TheVariants.{Less, Equal, Greater}
use Rattle.rx_poly.proofs.Same.{same_mono}
use Rattle.rx_poly.proofs.TermLaws.{all_keys-cons_nonzero}
use Rattle.rx_poly.specs.Constants.{number, variable}
use Rattle.rx_poly.specs.Limits.{body_sum, of_atoms, scaled_by, body_difference}
use Rattle.rx_poly.specs.Order.{mono_cmp}
use Rattle.rx_poly.specs.Reading.{coefficient, found}
use Rattle.rx_poly.specs.Substitution.{replaced}
use Rattle.rx_poly.specs.Terms.{all_keys}
use Rattle.rx_poly.specs.Variables.{uses, variables}
use Rattle.rx_poly.specs.declared.body.Atom.TheVariants.{Var}
use Rattle.rx_poly.specs.declared.body.Mono.{Mono}
use Rattle.rx_poly.specs.declared.body.Body.{Body, out-Body}
use Rattle.rx_poly_laws.specs.Tests.{passes}
use Rattle.rx_poly.proofs.Levels.{atoms-of_atoms}
use Rattle.rx_poly.proofs.VariableLaws.{variables_Var}
use Rattle.rx_poly_laws.proofs.InstanceVariables.{instance_passes}
use Rattle.rx_poly_laws.proofs.TestLaws.{atom_passes, mono_passes, mono_passes_is, passes_is, passes-body_sum, passes-number, passes-of_terms, passes-quotient_of, passes-remainder_of, passes-scaled_by, passes-body_difference, passes-variable}
use Rattle.rx_row.specs.Negation.{negation, opposite}
use Rattle.rx_row.specs.Parts.{are_lawful, poly_of, sum_from, sum_of, with_multiple}
use Rattle.rx_row.specs.Substitution.{subst_row, subst_rows}
use Rattle.rx_row.specs.declared.row.Row.{Row}
use Rattle.rx_row.specs.declared.row.Row.TheVariants.{Ge, Eq, Ne}
use Rattle.rx_cert.specs.Differences.{one_less}
use Rattle.rx_cert.specs.DivisionFacts.{greatest_remainder, nothing_left, quotient_by, remainder_by, rows_at_least_zero, rows_below_zero, without_quotient}
use Rattle.rx_cert.specs.Elimination.{coefficient_of, solution, solution_minus, solution_plus}
use Rattle.rx_cert.specs.Rounding.{can_be_rounded_by, rounded, rounded_terms, rounding_row}
use Rattle.rx_cert.specs.Variables.{row_passes, rows_pass}

module _ (test : ℕ → Bool) where
  -- ---- rows

  -- a row of rows that pass
  pub at_passes : (rows : List Row) (i : ℕ) (row : Row) → rows_pass test rows ≡ true →
      slice_get rows i ≡ Some row → row_passes test row ≡ true
  at_passes rows i row h e =
      subst (λ r. row_passes test r ≡ true) (get_or_from_slice_get rows i row row e)
      (AllPass-from_list_all (row_passes test) rows h i row (slice_get_within rows i row e))

  -- one more row, and several
  pub with_row_passes : (rows : List Row) (row : Row) → rows_pass test rows ≡ true →
      row_passes test row ≡ true → rows_pass test (rows ++ row ∷ []) ≡ true
  with_row_passes rows row h g =
      list_all-append (row_passes test) rows (row ∷ []) ∙
      and_from (rows_pass test rows) (row_passes test row && true) h
      (and_from (row_passes test row) true g refl)

  pub with_rows_pass : (rows more : List Row) → rows_pass test rows ≡ true → rows_pass test more ≡
      true → rows_pass test (rows ++ more) ≡ true
  with_rows_pass rows more h g =
      list_all-append (row_passes test) rows more ∙
      and_from (rows_pass test rows) (rows_pass test more) h g

  -- ---- negations

  pub less_one_passes : (p : Body) → passes test p ≡ true → passes test (one_less p) ≡ true
  less_one_passes p h =
      passes-body_difference test p (number (pos 1)) h (passes-number test (pos 1))

  opposite_passes : (p : Body) → passes test p ≡ true → passes test (opposite p) ≡ true
  opposite_passes p h = passes-scaled_by test (negsuc 0) p h

  pub negation_passes : (row : Row) → row_passes test row ≡ true → row_passes test (negation row) ≡
      true
  negation_passes (Ge p) h =
      passes-body_difference test (opposite p) (number (pos 1)) (opposite_passes p h)
      (passes-number test (pos 1))
  negation_passes (Eq p) h = h
  negation_passes (Ne p) h = h

  -- ---- sums that are rounded

  multiple_passes : (sum : Body) (row : Option Row) (by : ℤ) → passes test sum ≡ true →
      ((r : Row) → row ≡ Some r → row_passes test r ≡ true) →
      passes test (with_multiple sum row by) ≡ true
  multiple_passes sum None by h g = h
  multiple_passes sum (Some row) by h g =
      passes-body_sum test sum (scaled_by by (poly_of row)) h
      (passes-scaled_by test by (poly_of row) (g row refl))

  sum_passes : (rows : List Row) (ps : List (ℕ × ℤ)) (sum : Body) → rows_pass test rows ≡ true →
      passes test sum ≡ true → passes test (sum_from sum rows ps) ≡ true
  sum_passes rows [] sum h g = g
  sum_passes rows (p ∷ ps) sum h g =
      sum_passes rows ps (with_multiple sum (slice_get rows p.0) p.1) h
      (multiple_passes sum (slice_get rows p.0) p.1 g (λ r e. at_passes rows p.0 r h e))

  rounded_keys : (d : ℤ) (ts : List (Mono × ℤ)) → all_keys (mono_passes test) ts ≡ true →
      all_keys (mono_passes test) (rounded_terms d ts) ≡ true
  rounded_keys d [] h = refl
  rounded_keys d (t ∷ ts) h =
      let p = and_parts (mono_passes test t.0) (all_keys (mono_passes test) ts) h in
      all_keys-cons_nonzero (mono_passes test) t.0 (int_div_euclid t.1 d) (rounded_terms d ts) p.0
      (rounded_keys d ts p.1)

  rounded_passes : (d : ℤ) (p : Body) → passes test p ≡ true → passes test (rounded d p) ≡ true
  rounded_passes d p h =
      passes-of_terms test (rounded_terms d (out-Body p).terms) ∙
      rounded_keys d (out-Body p).terms (sym (passes_is test p) ∙ h)

  pub rounding_passes : (rows : List Row) (ps : List (ℕ × ℤ)) (d : ℤ) (row : Row) →
      rows_pass test rows ≡ true → rounding_row d (sum_of rows ps) ≡ Some row →
      row_passes test row ≡ true
  rounding_passes rows ps d row h e = by_lawful (are_lawful rows ps) e
    where
      by_test : (p : Body) → passes test p ≡ true → (b : Bool) →
          cond b (Some (Ge (rounded d p))) None ≡ Some row → row_passes test row ≡ true
      by_test p g true f =
          let same : Ge (rounded d p) ≡ row = cc in
          subst (λ r. row_passes test r ≡ true) same (rounded_passes d p g)
      by_test p g false f = cc

      by_lawful : (b : Bool) → rounding_row d
          (cond b (Some (sum_from (number (pos 0)) rows ps)) None) ≡ Some row →
          row_passes test row ≡ true
      by_lawful true f =
          by_test (sum_from (number (pos 0)) rows ps)
          (sum_passes rows ps (number (pos 0)) h (passes-number test (pos 0)))
          (can_be_rounded_by d (sum_from (number (pos 0)) rows ps)) f
      by_lawful false f = cc

  -- ---- divisions

  quotient_passes : (num : Body) (d : ℤ) → passes test num ≡ true →
      passes test (quotient_by num d) ≡ true
  quotient_passes num d h = passes-quotient_of test num (number d) h (passes-number test d)

  remainder_passes : (num : Body) (d : ℤ) → passes test num ≡ true →
      passes test (remainder_by num d) ≡ true
  remainder_passes num d h = passes-remainder_of test num (number d) h (passes-number test d)

  nothing_left_passes : (num : Body) (d : ℤ) → passes test num ≡ true →
      passes test (nothing_left num d) ≡ true
  nothing_left_passes num d h =
      passes-body_difference test (without_quotient num d) (remainder_by num d)
      (passes-body_difference test num (scaled_by d (quotient_by num d)) h
      (passes-scaled_by test d (quotient_by num d) (quotient_passes num d h)))
      (remainder_passes num d h)

  bound_passes : (d : ℤ) → passes test (greatest_remainder d) ≡ true
  bound_passes d = passes-number test (pos (unsigned_abs d) -ℤ pos 1)

  four_pass : (p q r s : Row) → row_passes test p ≡ true → row_passes test q ≡ true →
      row_passes test r ≡ true → row_passes test s ≡ true → rows_pass test (p ∷ q ∷ r ∷ s ∷ []) ≡
      true
  four_pass p q r s a b c d =
      and_from (row_passes test p) (rows_pass test (q ∷ r ∷ s ∷ [])) a
      (and_from (row_passes test q) (rows_pass test (r ∷ s ∷ [])) b
      (and_from (row_passes test r) (rows_pass test (s ∷ [])) c
      (and_from (row_passes test s) true d refl)))

  pub facts_pass : (num : Body) (d : ℤ) → passes test num ≡ true →
      rows_pass test (rows_at_least_zero num d) ≡ true
  facts_pass num d h =
      four_pass (Ge num) (Eq (nothing_left num d)) (Ge (remainder_by num d))
      (Ge (body_difference (greatest_remainder d) (remainder_by num d)))
      h (nothing_left_passes num d h) (remainder_passes num d h)
      (passes-body_difference test (greatest_remainder d) (remainder_by num d) (bound_passes d)
      (remainder_passes num d h))

  pub facts_below_pass : (num : Body) (d : ℤ) → passes test num ≡ true →
      rows_pass test (rows_below_zero num d) ≡ true
  facts_below_pass num d h =
      four_pass (negation (Ge num)) (Eq (nothing_left num d)) (Ge (opposite (remainder_by num d)))
      (Ge (body_sum (greatest_remainder d) (remainder_by num d)))
      (negation_passes (Ge num) h) (nothing_left_passes num d h)
      (opposite_passes (remainder_by num d) (remainder_passes num d h))
      (passes-body_sum test (greatest_remainder d) (remainder_by num d) (bound_passes d)
      (remainder_passes num d h))

  -- ---- a variable that is replaced

  by_order : (k : Mono) (t : Mono × ℤ) (ts : List (Mono × ℤ)) → mono_passes test t.0 ≡ true →
      ((coefficient k ts ≡ pos 0 → ⊥) → mono_passes test k ≡ true) →
      (r : Ordering) → mono_cmp k t.0 ≡ r → (found r t.1 (coefficient k ts) ≡ pos 0 → ⊥) →
      mono_passes test k ≡ true
  by_order k t ts h rest Less e n = rest n
  by_order k t ts h rest Equal e n =
      subst (λ m. mono_passes test m ≡ true) (sym (same_mono k t.0 e)) h
  by_order k t ts h rest Greater e n = rest n

  -- a monomial with a coefficient is one of the monomials
  coefficient_passes : (k : Mono) (ts : List (Mono × ℤ)) → all_keys (mono_passes test) ts ≡ true →
      (coefficient k ts ≡ pos 0 → ⊥) → mono_passes test k ≡ true
  coefficient_passes k [] h n = absurd (n refl)
  coefficient_passes k (t ∷ ts) h n =
      let p = and_parts (mono_passes test t.0) (all_keys (mono_passes test) ts) h in
      by_order k t ts p.0 (coefficient_passes k ts p.1) (mono_cmp k t.0) refl n

  -- so a variable with a coefficient is one of the variables
  pub variable_passes : (x : ℕ) (p : Body) → passes test p ≡ true →
      (coefficient_of x p ≡ pos 0 → ⊥) → test x ≡ true
  variable_passes x p h n =
      let mono : mono_passes test (of_atoms (Var x ∷ [])) ≡ true =
      coefficient_passes (of_atoms (Var x ∷ [])) (out-Body p).terms (sym (passes_is test p) ∙ h)
      n in
      let atoms : list_all (atom_passes test) (Var x ∷ []) ≡ true =
      sym (mono_passes_is test (of_atoms (Var x ∷ [])) ∙
      ap (list_all (atom_passes test)) (atoms-of_atoms (Var x ∷ []))) ∙ mono in
      let atom : atom_passes test (Var x) ≡ true =
      (and_parts (atom_passes test (Var x)) true atoms).0 in
      (and_parts (test x) true (sym (ap (list_all test) (variables_Var x)) ∙ atom)).0

  plus_passes : (x : ℕ) (rest v : Body) → passes test rest ≡ true → solution_plus x rest ≡ Some v →
      passes test v ≡ true
  plus_passes x rest v h e = by (uses x rest) e
    where
      by : (b : Bool) → cond b None (Some (scaled_by (negsuc 0) rest)) ≡ Some v → passes test v ≡
          true
      by true f = cc
      by false f =
          let same : scaled_by (negsuc 0) rest ≡ v = cc in
          subst (λ p. passes test p ≡ true) same (passes-scaled_by test (negsuc 0) rest h)

  minus_passes : (x : ℕ) (rest v : Body) → passes test rest ≡ true → solution_minus x rest ≡
      Some v → passes test v ≡ true
  minus_passes x rest v h e = by (uses x rest) e
    where
      by : (b : Bool) → cond b None (Some rest) ≡ Some v → passes test v ≡ true
      by true f = cc
      by false f = let same : rest ≡ v = cc in subst (λ p. passes test p ≡ true) same h

  -- a variable whose value p = 0 says is one of p's, and so are those of the value
  pub solution_passes : (x : ℕ) (p v : Body) → passes test p ≡ true → solution x p ≡ Some v →
      (test x ≡ true) × (passes test v ≡ true)
  solution_passes x p v h e =
      by (int_eq (coefficient_of x p) (pos 1)) refl (int_eq (coefficient_of x p) (negsuc 0)) refl e
    where
      by : (b : Bool) → int_eq (coefficient_of x p) (pos 1) ≡ b → (c : Bool) →
          int_eq (coefficient_of x p) (negsuc 0) ≡ c →
          cond b (solution_plus x (body_difference p (variable x)))
          (cond c (solution_minus x (body_sum p (variable x))) None) ≡ Some v → (test x ≡ true) ×
          (passes test v ≡ true)
      by true is c other f =
          let one : coefficient_of x p ≡ pos 1 =
          (signed_Decides (coefficient_of x p) (pos 1)).0 is in
          let own = variable_passes x p h (λ zero. let no : pos 1 ≡ pos 0 = sym one ∙ zero in cc) in (
            own,
            plus_passes x (body_difference p (variable x)) v
                (passes-body_difference test p (variable x) h (passes-variable test x own)) f,
          )
      by false other true is f =
          let one : coefficient_of x p ≡ negsuc 0 =
          (signed_Decides (coefficient_of x p) (negsuc 0)).0 is in
          let own = variable_passes x p h (λ zero. let no : negsuc 0 ≡ pos 0 = sym one ∙ zero in cc)
          in (
            own,
            minus_passes x (body_sum p (variable x)) v
                (passes-body_sum test p (variable x) h (passes-variable test x own)) f,
          )
      by false other false neither f = cc

  replaced_passes : (x : ℕ) (v : Body) → passes test v ≡ true → (n : ℕ) → test n ≡ true →
      passes test (replaced ((x, v) ∷ []) n) ≡ true
  replaced_passes x v h n g = by (x == n)
    where
      by : (b : Bool) → passes test (cond b v (variable n)) ≡ true
      by true = h
      by false = passes-variable test n g

  in_row_passes : (x : ℕ) (v : Body) → passes test v ≡ true → (row : Row) → row_passes test row ≡
      true → row_passes test (subst_row ((x, v) ∷ []) row) ≡ true
  in_row_passes x v h (Ge p) g =
      instance_passes test ((x, v) ∷ []) p (All-weaker (λ n. test n ≡ true)
      (λ n. passes test (replaced ((x, v) ∷ []) n) ≡ true) (replaced_passes x v h) (variables p)
      (AllPass-from_list_all test (variables p) g))
  in_row_passes x v h (Eq p) g =
      instance_passes test ((x, v) ∷ []) p (All-weaker (λ n. test n ≡ true)
      (λ n. passes test (replaced ((x, v) ∷ []) n) ≡ true) (replaced_passes x v h) (variables p)
      (AllPass-from_list_all test (variables p) g))
  in_row_passes x v h (Ne p) g =
      instance_passes test ((x, v) ∷ []) p (All-weaker (λ n. test n ≡ true)
      (λ n. passes test (replaced ((x, v) ∷ []) n) ≡ true) (replaced_passes x v h) (variables p)
      (AllPass-from_list_all test (variables p) g))

  -- rows with a value in place of a variable
  pub in_rows_pass : (x : ℕ) (v : Body) → passes test v ≡ true → (rows : List Row) →
      rows_pass test rows ≡ true → rows_pass test (subst_rows ((x, v) ∷ []) rows) ≡ true
  in_rows_pass x v h [] g = refl
  in_rows_pass x v h (row ∷ rows) g =
      let p = and_parts (row_passes test row) (rows_pass test rows) g in
      and_from (row_passes test (subst_row ((x, v) ∷ []) row))
      (rows_pass test (subst_rows ((x, v) ∷ []) rows)) (in_row_passes x v h row p.0)
      (in_rows_pass x v h rows p.1)
