-- Under an assignment that meets the rows of a goal, the values are those of its places.
use Rattle.std.proofs.Common.{◌≡◌, ◌∙◌, ap, subst, sym, refl, cond, Bool, true, false, ◌==◌, Option, Some, None, List, [], ◌∷◌, ◌++◌, length, map, take, drop, slice_get, ℕ, zero, suc, ℤ, pos, ◌+ℤ◌, ◌*ℤ◌, ◌≤ℤ◌, arith}
use Rattle.std.specs.Prelude.{All, ◌&&◌}
use Rattle.std.specs.List.{cons_option, filter_map}
use Rattle.std.specs.Ordering.{is_eq}
use Rattle.std.proofs.lemmas.Bool.{and_parts}
use Rattle.std.proofs.lemmas.Int.{ints}
use Rattle.std.proofs.lemmas.List.{drop-map, length-map, map-append}
use Rattle.std.proofs.lemmas.List.Elements.{All-append, All-cons, All-head, All-nil, All-tail, All-take}
use Rattle.std.proofs.Math.Seq.{drop-append_seam}
use Rattle.rx_plain.specs.Formed.{Formed}
use Rattle.rx_plain.proofs.Integers.{add-mul-int, zero-mul-int}
use Rattle.rx_poly.proofs.Levels.{value_is}
use Rattle.rx_poly.proofs.OrderLemmas.{equal_is}
use Rattle.rx_poly.proofs.Same.{same_mono}
use Rattle.rx_poly.proofs.TermLaws.{zero_is}
use Rattle.rx_poly.specs.Normal.{is_empty}
use Rattle.rx_poly.specs.Order.{mono_cmp}
use Rattle.rx_poly.specs.Terms.{is_zero}
use Rattle.rx_poly.specs.Value.{mono_value, sum_terms, value}
use Rattle.rx_poly.specs.declared.body.Body.{Body, out-Body}
use Rattle.rx_poly.specs.declared.body.Mono.{Mono}
use Rattle.rx_row.specs.Holds.{AllHold, RowHolds}
use Rattle.rx_row.specs.Parts.{poly_of}
use Rattle.rx_row.specs.Substitution.{subst_row, subst_rows}
use Rattle.rx_row.specs.declared.row.Row.{Row}
use Rattle.rx_row.specs.declared.row.Row.TheVariants.{Ge, Eq, Ne}
use Rattle.rx_cert.specs.Elimination.{are_opposite, of_opposites, solution, zero_of, zero_polynomial}
use Rattle.rx_solve.specs.Bounds.{most_solved}
use Rattle.rx_solve.specs.Pivots.{first_pivot}
use Rattle.rx_solve.specs.declared.pivots.Pivot.{Pivot}
use Rattle.rx_relations.specs.Divisions.{facts_formed}
use Rattle.rx_relations.specs.Holding.{AllZero, Describes}
use Rattle.rx_relations.specs.Values.{equation_of, replaced, replaced_first, values_formed, with_pivot, with_places, with_solution, with_value}
use Rattle.rx_relations.proofs.DivisionLaws.{facts_zero}
use Rattle.rx_relations.proofs.Solving.{value_of_solution, value_replaced}

module _ (a : ℕ → ℤ) where
  -- what an inequality or an equation says; a disequality is left out
  abbrev Says : Row → Type 0
  Says (Ge p) = pos 0 ≤ℤ value a p
  Says (Eq p) = value a p ≡ pos 0
  Says (Ne p) = Unit {0}

  -- the value of the row's polynomial
  abbrev worth : Row → ℤ
  worth row = value a (poly_of row)

  -- ---- what the rows say to be 0

  found_says : (rows : List Row) (at : ℕ) (row : Row) → slice_get rows at ≡ Some row →
      All Says rows → Says row
  found_says [] at row e h = cc
  found_says (r ∷ rs) zero row e h =
      let same : r ≡ row = cc in subst Says same (All-head Says r rs h)
  found_says (r ∷ rs) (suc n) row e h = found_says rs n row e (All-tail Says r rs h)

  opposite_sums : (ts us : List (Mono × ℤ)) → are_opposite ts us ≡ true →
      sum_terms (mono_value a) ts +ℤ sum_terms (mono_value a) us ≡ pos 0
  opposite_sums [] [] e = refl
  opposite_sums [] (u ∷ us) e = cc
  opposite_sums (t ∷ ts) [] e = cc
  opposite_sums (t ∷ ts) (u ∷ us) e =
      let f = mono_value a in
      let p = and_parts (is_eq (mono_cmp t.0 u.0) && is_zero (t.1 +ℤ u.1)) (are_opposite ts us) e in
      let q = and_parts (is_eq (mono_cmp t.0 u.0)) (is_zero (t.1 +ℤ u.1)) p.0 in
      let key : f u.0 ≡ f t.0 =
      ap f (sym (same_mono t.0 u.0 (equal_is (mono_cmp t.0 u.0) q.0))) in
      let here : t.1 *ℤ f t.0 +ℤ u.1 *ℤ f u.0 ≡ pos 0 =
      ap (λ z. t.1 *ℤ f t.0 +ℤ u.1 *ℤ z) key ∙ sym (add-mul-int t.1 u.1 (f t.0)) ∙
      ap (λ z. z *ℤ f t.0) (zero_is (t.1 +ℤ u.1) q.1) ∙ zero-mul-int (f t.0) in
      let rest = opposite_sums ts us p.1 in
      omega (arith, ints)

  cond_some : (b : Bool) (p q : Body) → cond b (Some p) None ≡ Some q → (b ≡ true) × (p ≡ q)
  cond_some true p q e = (refl, cc)
  cond_some false p q e = cc

  opposites_zero : (p : Body) (second : Option Row) (z : Body) → of_opposites p second ≡ Some z →
      pos 0 ≤ℤ value a p → ((q : Body) → second ≡ Some (Ge q) → pos 0 ≤ℤ value a q) →
      value a z ≡ pos 0
  opposites_zero p None z e h g = cc
  opposites_zero p (Some (Eq q)) z e h g = cc
  opposites_zero p (Some (Ne q)) z e h g = cc
  opposites_zero p (Some (Ge q)) z e h g =
      let c = cond_some (are_opposite (out-Body p).terms (out-Body q).terms) p z e in
      let sum : value a p +ℤ value a q ≡ pos 0 = (λ i. value_is a p i +ℤ value_is a q i) ∙
      opposite_sums (out-Body p).terms (out-Body q).terms c.0 in
      let other = g q refl in
      subst (λ x. value a x ≡ pos 0) c.1 (omega (arith, ints))

  zero_said : (rows : List Row) (first second : ℕ) (z : Body) → All Says rows →
      zero_polynomial rows first second ≡ Some z → value a z ≡ pos 0
  zero_said rows first second z says e = by (slice_get rows first) refl e
    where
      by : (o : Option Row) → slice_get rows first ≡ o →
          zero_of (first == second) o (slice_get rows second) ≡ Some z → value a z ≡ pos 0
      by None is f = cc
      by (Some (Ge p)) is f =
          opposites_zero p (slice_get rows second) z f (found_says rows first (Ge p) is says)
          (λ q s. found_says rows second (Ge q) s says)
      by (Some (Eq p)) is f =
          subst (λ x. value a x ≡ pos 0) (cond_some (first == second) p z f).1
          (found_says rows first (Eq p) is says)
      by (Some (Ne p)) is f = cc

  -- ---- rows of the same values, which say as much

  record Same (rows others : List Row) : Type 0 where
    worths : map worth others ≡ map worth rows
    says : All Says others

  row_says : (x : ℕ) (e : Body) → a x ≡ value a e → (row : Row) → Says row →
      Says (subst_row ((x, e) ∷ []) row)
  row_says x e is (Ge p) h = subst (λ z. pos 0 ≤ℤ z) (sym (value_replaced a x e is p)) h
  row_says x e is (Eq p) h = value_replaced a x e is p ∙ h
  row_says x e is (Ne p) h = tt

  row_worth : (x : ℕ) (e : Body) → a x ≡ value a e → (row : Row) →
      worth (subst_row ((x, e) ∷ []) row) ≡ worth row
  row_worth x e is (Ge p) = value_replaced a x e is p
  row_worth x e is (Eq p) = value_replaced a x e is p
  row_worth x e is (Ne p) = value_replaced a x e is p

  same_replaced : (x : ℕ) (e : Body) → a x ≡ value a e → (rows : List Row) → All Says rows →
      Same rows (subst_rows ((x, e) ∷ []) rows)
  same_replaced x e is [] h = record { worths = refl; says = All-nil Says }
  same_replaced x e is (r ∷ rs) h =
      let rest = same_replaced x e is rs (All-tail Says r rs h) in
      record {
        worths = λ i. row_worth x e is r i ∷ rest.worths i;
        says =
            All-cons Says (subst_row ((x, e) ∷ []) r) (subst_rows ((x, e) ∷ []) rs)
            (row_says x e is r (All-head Says r rs h)) rest.says;
      }

  same_with_value : (x : ℕ) (rows : List Row) (p : Body) (o : Option Body) → value a p ≡ pos 0 →
      solution x p ≡ o → All Says rows → Same rows (with_value x rows o).form
  same_with_value x rows p None z e h = record { worths = refl; says = h }
  same_with_value x rows p (Some v) z e h =
      same_replaced x v (value_of_solution a x p v z e) rows h

  same_with_solution : (x : ℕ) (rows : List Row) (o : Option Body) →
      ((p : Body) → o ≡ Some p → value a p ≡ pos 0) → All Says rows →
      Same rows (with_solution x rows o).form
  same_with_solution x rows None z h = record { worths = refl; says = h }
  same_with_solution x rows (Some p) z h =
      same_with_value x rows p (solution x p) (z p refl) refl h

  same_with_pivot : (rows : List Row) (p : Pivot) → All Says rows →
      Same rows (with_pivot rows p).form
  same_with_pivot rows p h =
      same_with_solution p.variable rows (zero_polynomial rows p.first p.second)
      (λ z e. zero_said rows p.first p.second z h e) h

  same_first : (o : Option Pivot) (rest : List Row → Formed (List Row)) (rows : List Row) →
      ((rs : List Row) → All Says rs → Same rs (rest rs).form) → All Says rows →
      Same rows (replaced_first o rest rows).form
  same_first None rest rows f h = record { worths = refl; says = h }
  same_first (Some p) rest rows f h =
      let next = same_with_pivot rows p h in
      let last = f (with_pivot rows p).form next.says in
      record { worths = last.worths ∙ next.worths; says = last.says }

  same_rows : (n : ℕ) (rows : List Row) → All Says rows → Same rows (replaced n rows).form
  unfolding replaced
  same_rows zero rows h = record { worths = refl; says = h }
  same_rows (suc n) rows h = same_first (first_pivot rows) (replaced n) rows (same_rows n) h

  -- ---- the instance

  says_of : (row : Row) → RowHolds a row → Says row
  says_of (Ge p) h = h
  says_of (Eq p) h = h
  says_of (Ne p) h = tt

  all_say : (rows : List Row) → AllHold a rows → All Says rows
  all_say [] h = All-nil Says
  all_say (r ∷ rs) h =
      All-cons Says r rs (says_of r (All-head (RowHolds a) r rs h))
      (all_say rs (All-tail (RowHolds a) r rs h))

  places_say : (places : List Body) → All Says (map Ne places)
  places_say [] = All-nil Says
  places_say (p ∷ ps) = All-cons Says (Ne p) (map Ne ps) tt (places_say ps)

  worths-places : (places : List Body) → map worth (map Ne places) ≡ map (value a) places
  worths-places [] = refl
  worths-places (p ∷ ps) = ap (λ zs. value a p ∷ zs) (worths-places ps)

  values-polys : (rows : List Row) → map (value a) (map poly_of rows) ≡ map worth rows
  values-polys [] = refl
  values-polys (r ∷ rs) = ap (λ zs. worth r ∷ zs) (values-polys rs)

  first_zero : (b : Bool) (p : Body) (ps : List Body) → value a p ≡ pos 0 → AllZero a ps →
      AllZero a (cons_option (cond b None (Some p)) ps)
  first_zero true p ps h g = g
  first_zero false p ps h g = All-cons (λ q. value a q ≡ pos 0) p ps h g

  equations_zero : (rows : List Row) → All Says rows → AllZero a (filter_map equation_of rows)
  equations_zero [] h = All-nil (λ p. value a p ≡ pos 0)
  equations_zero (Ge p ∷ rs) h = equations_zero rs (All-tail Says (Ge p) rs h)
  equations_zero (Ne p ∷ rs) h = equations_zero rs (All-tail Says (Ne p) rs h)
  equations_zero (Eq p ∷ rs) h =
      first_zero (is_empty (out-Body p).terms) p (filter_map equation_of rs)
      (All-head Says (Eq p) rs h) (equations_zero rs (All-tail Says (Eq p) rs h))

  drop_seam : (n : ℕ) (xs ys : List ℤ) → length xs ≡ n → drop n (xs ++ ys) ≡ ys
  drop_seam n xs ys e = ap (λ k. drop k (xs ++ ys)) (sym e) ∙ drop-append_seam xs ys

  -- the values describe the places
  pub described : (rows : List Row) (places : List Body) → AllHold a rows →
      Describes a places (values_formed rows places).form
  described rows places h =
      let whole = with_places rows places in
      let says = All-append Says rows (map Ne places) (all_say rows h) (places_say places) in
      let last = (replaced most_solved whole).form in
      let same = same_rows most_solved whole says in
      let n = length rows in
      let first = filter_map equation_of (take n last) in
      let facts = (facts_formed (map poly_of (drop n last))).form in
      record {
        equations =
            All-append (λ p. value a p ≡ pos 0) first facts
            (equations_zero (take n last) (All-take Says n last same.says))
            (facts_zero a (map poly_of (drop n last)));
        values =
            values-polys (drop n last) ∙ sym (drop-map worth n last) ∙ ap (drop n) same.worths
            ∙ ap (drop n) (map-append worth rows (map Ne places))
            ∙ drop_seam n (map worth rows) (map worth (map Ne places)) (length-map rows worth)
            ∙ worths-places places;
      }
