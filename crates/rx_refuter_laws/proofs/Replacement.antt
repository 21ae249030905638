-- A pivot says the value of its variable, and rows with the value in its place stay rows of
-- polynomials.
use Rattle.std.proofs.Common.{◌≡◌, ◌∙◌, ap, subst, sym, refl, cond, ℕ, zero, suc, ◌==◌, eq-eqb, Bool, true, false, ◌||◌, Option, Some, None, option_and_then, option_map, List, [], ◌∷◌, slice_get, pos, negsuc}
use Rattle.std.proofs.lemmas.Bool.{and_from, and_parts}
use Rattle.std.proofs.lemmas.Option.{same_Some}
use Rattle.std.specs.List.{find}
use Rattle.std.specs.Option.{is_some, option_or}
use Rattle.std.specs.Ordering.{int_eq}
use Rattle.rx_poly.specs.Constants.{variable}
use Rattle.rx_poly.specs.Limits.{body_difference, body_sum, is_small, is_within, scaled_by}
use Rattle.rx_poly.specs.Normal.{is_normal, is_poly}
use Rattle.rx_poly.specs.Substitution.{replaced}
use Rattle.rx_poly.specs.Variables.{uses}
use Rattle.rx_poly.specs.declared.body.Body.{Body, out-Body}
use Rattle.rx_poly.proofs.Constants.{variable_poly}
use Rattle.rx_row.specs.Substitution.{row_within, rows_within, subst_row, subst_rows}
use Rattle.rx_row.specs.declared.row.Row.{Row}
use Rattle.rx_row.specs.declared.row.Row.TheVariants.{Eq, Ge, Ne}
use Rattle.rx_cert.specs.Elimination.{are_opposite, coefficient_of, of_equation, of_opposites, solution, solution_minus, solution_plus, solution_plus_within, solution_within, zero_of, zero_polynomial}
use Rattle.rx_solve.specs.Pivots.{first_pivot, least_solvable, lone_variables, opposite_from, pivot_at, pivot_from}
use Rattle.rx_solve.specs.declared.pivots.Pivot.{Pivot}
use Rattle.rx_refuter_laws.specs.Leaves.{has_poly, have_polys}
use Rattle.rx_refuter_laws.proofs.Places.{StandsFrom, first_there, from_beginning, others_there}
use Rattle.rx_refuter_laws.proofs.Polynomials.{difference_poly, multiple_poly, sum_poly}
use Rattle.rx_refuter_laws.proofs.Substituted.{instance_poly}

-- ---- the value that a pivot says

-- the rows that it names say that a polynomial is 0, and so what the variable is
pub record SaysValue (rows : List Row) (pivot : Pivot) : Type 0 where
  pub zero : Body
  pub value : Body
  pub is_zero : zero_polynomial rows pivot.first pivot.second ≡ Some zero
  pub is_value : solution pivot.variable zero ≡ Some value

some_value : (o : Option Body) → is_some o ≡ true → (value : Body) × (o ≡ Some value)
some_value None e = cc
some_value (Some value) e = (value, refl)

find_passes : {A : Type 0} (test : A → Bool) (xs : List A) (x : A) → find test xs ≡ Some x →
    test x ≡ true
find_passes test [] x e = cc
find_passes {A} test (y ∷ ys) x e = by (test y) refl (λ f. find_passes test ys x f) e
  where
    by : (b : Bool) → test y ≡ b → (find test ys ≡ Some x → test x ≡ true) →
        cond b (Some y) (find test ys) ≡ Some x → test x ≡ true
    by true h rest f = subst (λ z. test z ≡ true) (same_Some y x f) h
    by false h rest f = rest f

-- the row at that place is the opposite inequality
IsOppositeAt : Body → List Row → ℕ → Type 0
IsOppositeAt p rows j =
    (q : Body) × (slice_get rows j ≡ Some (Ge q)) ×
    (are_opposite (out-Body p).terms (out-Body q).terms ≡ true)

unfold_opposite : (p : Body) (rows : List Row) (j : ℕ) → IsOppositeAt p rows j → (q : Body) ×
    (slice_get rows j ≡ Some (Ge q)) × (are_opposite (out-Body p).terms (out-Body q).terms ≡ true)
unfolding IsOppositeAt
unfold_opposite p rows j o = o

opposite_found : (p : Body) (rows : List Row) (i : ℕ) (rest : List Row) (j : ℕ) →
    StandsFrom rows i rest → opposite_from i p rest ≡ Some j → IsOppositeAt p rows j
unfolding IsOppositeAt
opposite_found p rows i [] j h e = cc
opposite_found p rows i (Eq q ∷ rest) j h e =
    opposite_found p rows (suc i) rest j (others_there rows i (Eq q) rest h) e
opposite_found p rows i (Ne q ∷ rest) j h e =
    opposite_found p rows (suc i) rest j (others_there rows i (Ne q) rest h) e
opposite_found p rows i (Ge q ∷ rest) j h e =
    by (are_opposite (out-Body p).terms (out-Body q).terms) refl
    (opposite_found p rows (suc i) rest j (others_there rows i (Ge q) rest h)) e
  where
    here : are_opposite (out-Body p).terms (out-Body q).terms ≡ true → i ≡ j →
        IsOppositeAt p rows j
    here o same =
        (q, subst (λ k. slice_get rows k ≡ Some (Ge q)) same (first_there rows i (Ge q) rest h), o)

    by : (b : Bool) → are_opposite (out-Body p).terms (out-Body q).terms ≡ b →
        (opposite_from (suc i) p rest ≡ Some j → IsOppositeAt p rows j) →
        cond b (Some i) (opposite_from (suc i) p rest) ≡ Some j → IsOppositeAt p rows j
    by true o later f = here o (same_Some i j f)
    by false o later f = later f

module _ (rows : List Row) (i : ℕ) (p : Body) where
  -- the pivot of an equation
  of_one : slice_get rows i ≡ Some (Eq p) → (x : ℕ) → is_some (solution x p) ≡ true →
      SaysValue rows (record { first = i; second = i; variable = x })
  of_one here x s =
      let v = some_value (solution x p) s in
      record {
        zero = p;
        value = v.0;
        is_zero =
            ap (λ o. zero_of (i == i) o (slice_get rows i)) here
            ∙ ap (λ b. of_equation b p) (eq-eqb i i refl);
        is_value = v.1;
      }

  -- the pivot of two opposite inequalities
  of_two : slice_get rows i ≡ Some (Ge p) → (j : ℕ) → IsOppositeAt p rows j → (x : ℕ) →
      is_some (solution x p) ≡ true →
      SaysValue rows (record { first = i; second = j; variable = x })
  of_two here j opposite x s =
      let v = some_value (solution x p) s in
      let o = unfold_opposite p rows j opposite in
      record {
        zero = p;
        value = v.0;
        is_zero =
            ap (λ r. zero_of (i == j) r (slice_get rows j)) here ∙ ap (of_opposites p) o.1
            ∙ ap (λ b. cond b (Some p) None) o.2;
        is_value = v.1;
      }

  solvable : (x : ℕ) → least_solvable p ≡ Some x → is_some (solution x p) ≡ true
  solvable x e = find_passes (λ y. is_some (solution y p)) (lone_variables p) x e

  pivot_of_equation : slice_get rows i ≡ Some (Eq p) → (pivot : Pivot) → (o : Option ℕ) →
      least_solvable p ≡ o →
      option_map (λ (x : ℕ). record { first = i; second = i; variable = x }) o ≡ Some pivot →
      SaysValue rows pivot
  pivot_of_equation here pivot None l e = cc
  pivot_of_equation here pivot (Some x) l e =
      subst (SaysValue rows) (same_Some _ pivot e) (of_one here x (solvable x l))

  pivot_of_inequality : slice_get rows i ≡ Some (Ge p) → (rest : List Row) →
      StandsFrom rows (suc i) rest → (pivot : Pivot) → (x : ℕ) → least_solvable p ≡ Some x →
      (o : Option ℕ) → opposite_from (suc i) p rest ≡ o →
      option_map (λ (j : ℕ). record { first = i; second = j; variable = x }) o ≡ Some pivot →
      SaysValue rows pivot
  pivot_of_inequality here rest h pivot x l None f e = cc
  pivot_of_inequality here rest h pivot x l (Some j) f e =
      subst (SaysValue rows) (same_Some _ pivot e)
      (of_two here j (opposite_found p rows (suc i) rest j h f) x (solvable x l))

  solvable_or_not : slice_get rows i ≡ Some (Ge p) → (rest : List Row) →
      StandsFrom rows (suc i) rest → (pivot : Pivot) → (o : Option ℕ) → least_solvable p ≡ o →
      option_and_then (λ (x : ℕ). option_map (λ (j : ℕ).
      record { first = i; second = j; variable = x }) (opposite_from (suc i) p rest)) o ≡
      Some pivot → SaysValue rows pivot
  solvable_or_not here rest h pivot None l e = cc
  solvable_or_not here rest h pivot (Some x) l e =
      pivot_of_inequality here rest h pivot x l (opposite_from (suc i) p rest) refl e

pivot_here : (rows : List Row) (i : ℕ) (row : Row) (rest : List Row) →
    StandsFrom rows i (row ∷ rest) → (pivot : Pivot) → pivot_at i row rest ≡ Some pivot →
    SaysValue rows pivot
pivot_here rows i (Ne p) rest h pivot e = cc
pivot_here rows i (Eq p) rest h pivot e =
    pivot_of_equation rows i p (first_there rows i (Eq p) rest h) pivot (least_solvable p) refl e
pivot_here rows i (Ge p) rest h pivot e =
    solvable_or_not rows i p (first_there rows i (Ge p) rest h) rest
    (others_there rows i (Ge p) rest h) pivot (least_solvable p) refl e

pivot_found : (rows : List Row) (i : ℕ) (rest : List Row) → StandsFrom rows i rest →
    (pivot : Pivot) → pivot_from i rest ≡ Some pivot → SaysValue rows pivot
pivot_found rows i [] h pivot e = cc
pivot_found rows i (row ∷ rest) h pivot e =
    by (pivot_at i row rest) refl
    (pivot_found rows (suc i) rest (others_there rows i row rest h) pivot) e
  where
    by : (o : Option Pivot) → pivot_at i row rest ≡ o →
        (pivot_from (suc i) rest ≡ Some pivot → SaysValue rows pivot) →
        option_or o (pivot_from (suc i) rest) ≡ Some pivot → SaysValue rows pivot
    by None f later g = later g
    by (Some q) f later g = pivot_here rows i row rest h pivot (f ∙ g)

-- the first pivot says the value of its variable
pub first_says : (rows : List Row) (pivot : Pivot) → first_pivot rows ≡ Some pivot →
    SaysValue rows pivot
first_says rows pivot e = pivot_found rows 0 rows (from_beginning rows) pivot e

-- ---- it is a polynomial

pub standing_poly : (rows : List Row) → have_polys rows ≡ true → (i : ℕ) (row : Row) →
    slice_get rows i ≡ Some row → has_poly row ≡ true
standing_poly [] h i row e = cc
standing_poly (r ∷ rows) h zero row e =
    subst (λ x. has_poly x ≡ true) (same_Some r row e)
    (and_parts (has_poly r) (have_polys rows) h).0
standing_poly (r ∷ rows) h (suc i) row e =
    standing_poly rows (and_parts (has_poly r) (have_polys rows) h).1 i row e

cond_some : (b : Bool) (p q : Body) → cond b (Some p) None ≡ Some q → p ≡ q
cond_some true p q e = same_Some p q e
cond_some false p q e = cc

opposites_poly : (p : Body) (o : Option Row) (z : Body) → of_opposites p o ≡ Some z → is_poly p ≡
    true → is_poly z ≡ true
opposites_poly p None z e h = cc
opposites_poly p (Some (Ge q)) z e h =
    subst (λ x. is_poly x ≡ true)
    (cond_some (are_opposite (out-Body p).terms (out-Body q).terms) p z e) h
opposites_poly p (Some (Eq q)) z e h = cc
opposites_poly p (Some (Ne q)) z e h = cc

zero_poly_of : (rows : List Row) (i j : ℕ) (z : Body) → have_polys rows ≡ true →
    zero_polynomial rows i j ≡ Some z → is_poly z ≡ true
zero_poly_of rows i j z h e = by (slice_get rows i) refl e
  where
    by : (o : Option Row) → slice_get rows i ≡ o → zero_of (i == j) o (slice_get rows j) ≡ Some z →
        is_poly z ≡ true
    by None is f = cc
    by (Some (Ge p)) is f =
        opposites_poly p (slice_get rows j) z f (standing_poly rows h i (Ge p) is)
    by (Some (Eq p)) is f =
        subst (λ x. is_poly x ≡ true) (cond_some (i == j) p z f) (standing_poly rows h i (Eq p) is)
    by (Some (Ne p)) is f = cc

none_or : (b : Bool) (p q : Body) → cond b None (Some p) ≡ Some q → (b ≡ false) × (p ≡ q)
none_or true p q e = cc
none_or false p q e = (refl, same_Some p q e)

plus_poly : (x : ℕ) (rest value : Body) → (is_within rest ≡ true → is_poly rest ≡ true) →
    solution_plus x rest ≡ Some value → solution_plus_within x rest ≡ true → is_poly value ≡ true
plus_poly x rest value h e w =
    let parts = and_parts (is_within rest) (uses x rest || is_within (scaled_by (negsuc 0) rest)) w
    in
    let is = none_or (uses x rest) (scaled_by (negsuc 0) rest) value e in
    let within : is_within (scaled_by (negsuc 0) rest) ≡ true =
    sym (ap (λ b. b || is_within (scaled_by (negsuc 0) rest)) is.0) ∙ parts.1 in
    subst (λ p. is_poly p ≡ true) is.1
    (multiple_poly (negsuc 0) rest (h parts.0) within)

minus_poly : (x : ℕ) (rest value : Body) → (is_within rest ≡ true → is_poly rest ≡ true) →
    solution_minus x rest ≡ Some value → is_within rest ≡ true → is_poly value ≡ true
minus_poly x rest value h e w =
    subst (λ p. is_poly p ≡ true) (none_or (uses x rest) rest value e).1 (h w)

value_poly : (x : ℕ) (p value : Body) → is_poly p ≡ true → solution x p ≡ Some value →
    solution_within x p ≡ true → is_poly value ≡ true
value_poly x p value h e w =
    by (int_eq (coefficient_of x p) (pos 1)) (int_eq (coefficient_of x p) (negsuc 0)) e w
  where
    by : (b c : Bool) → cond b (solution_plus x (body_difference p (variable x)))
        (cond c (solution_minus x (body_sum p (variable x))) None) ≡ Some value →
        cond b (solution_plus_within x (body_difference p (variable x)))
        (cond c (is_within (body_sum p (variable x))) true) ≡ true → is_poly value ≡ true
    by true c f v =
        plus_poly x (body_difference p (variable x)) value
        (difference_poly p (variable x) h (variable_poly x)) f v
    by false true f v =
        minus_poly x (body_sum p (variable x)) value (sum_poly p (variable x) h (variable_poly x)) f
        v
    by false false f v = cc

-- ---- in rows

in_place_poly : (x : ℕ) (value : Body) → is_poly value ≡ true → (n : ℕ) →
    is_poly (replaced ((x, value) ∷ []) n) ≡ true
in_place_poly x value h n = by (x == n)
  where
    by : (b : Bool) → is_poly (cond b value (variable n)) ≡ true
    by true = h
    by false = variable_poly n

module _ (ws : List (ℕ × Body)) (good : (n : ℕ) → is_poly (replaced ws n) ≡ true) where
  row_poly : (row : Row) → has_poly row ≡ true → row_within ws row ≡ true →
      has_poly (subst_row ws row) ≡ true
  row_poly (Ge p) h w = instance_poly ws good p (and_parts (is_normal p) (is_small p) h).0 w
  row_poly (Eq p) h w = instance_poly ws good p (and_parts (is_normal p) (is_small p) h).0 w
  row_poly (Ne p) h w = instance_poly ws good p (and_parts (is_normal p) (is_small p) h).0 w

  rows_poly : (rows : List Row) → have_polys rows ≡ true → rows_within ws rows ≡ true →
      have_polys (subst_rows ws rows) ≡ true
  rows_poly [] h w = refl
  rows_poly (row ∷ rows) h w =
      let p = and_parts (has_poly row) (have_polys rows) h in
      let q = and_parts (row_within ws row) (rows_within ws rows) w in
      and_from (has_poly (subst_row ws row)) (have_polys (subst_rows ws rows))
      (row_poly row p.0 q.0) (rows_poly rows p.1 q.1)

-- the rows with the value in place of the variable are rows of polynomials
pub replaced_polys : (rows : List Row) (i j x : ℕ) (p value : Body) → have_polys rows ≡ true →
    zero_polynomial rows i j ≡ Some p → solution x p ≡ Some value → solution_within x p ≡ true →
    rows_within ((x, value) ∷ []) rows ≡ true →
    have_polys (subst_rows ((x, value) ∷ []) rows) ≡ true
replaced_polys rows i j x p value h z e w v =
    rows_poly ((x, value) ∷ [])
    (in_place_poly x value (value_poly x p value (zero_poly_of rows i j p h z) e w)) rows h v
