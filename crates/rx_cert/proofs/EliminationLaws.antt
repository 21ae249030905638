-- A variable that rows say the value of may be replaced by it: under an assignment that meets them
-- it has that value.
use Rattle.std.proofs.Common.{◌≡◌, ◌∙◌, ap, subst, sym, refl, cond, ℕ, ◌==◌, Bool, true, false, ◌&&◌, eqb-true, Option, Some, None, List, [], ◌∷◌, slice_get, ℤ, pos, negsuc, ◌+ℤ◌, ◌-ℤ◌, ◌*ℤ◌, ◌≤ℤ◌, arith}
use Rattle.std.proofs.lemmas.Int.{ints}
use Rattle.std.proofs.lemmas.Bool.{and_parts}
use Rattle.std.specs.Ordering.{int_eq, is_eq}
use Rattle.rx_poly.proofs.OrderLemmas.{equal_is}
use Rattle.rx_plain.proofs.Integers.{add-mul-int, zero-mul-int}
use Rattle.rx_poly.proofs.Constants.{value-variable}
use Rattle.rx_poly.proofs.Levels.{value_is}
use Rattle.rx_poly.proofs.PolyLaws.{value-body_sum, value-scaled_by, value-body_difference}
use Rattle.rx_poly.proofs.Same.{same_mono}
use Rattle.rx_poly.proofs.TermLaws.{zero_is}
use Rattle.rx_poly.specs.Constants.{variable}
use Rattle.rx_poly.specs.Limits.{body_sum, scaled_by, body_difference}
use Rattle.rx_poly.specs.Order.{mono_cmp}
use Rattle.rx_poly.specs.Substitution.{updated_assignment}
use Rattle.rx_poly.specs.Terms.{is_zero}
use Rattle.rx_poly.specs.Variables.{uses}
use Rattle.rx_poly.specs.Value.{mono_value, sum_terms, value}
use Rattle.rx_poly.specs.declared.body.Mono.{Mono}
use Rattle.rx_poly.specs.declared.body.Body.{Body, out-Body}
use Rattle.rx_row.proofs.SubstitutionLaws.{subst_rows-hold}
use Rattle.rx_row.specs.Holds.{AllHold}
use Rattle.rx_row.specs.Substitution.{subst_rows, rows_within}
use Rattle.rx_row.specs.declared.row.Row.{Row}
use Rattle.rx_row.specs.declared.row.Row.TheVariants.{Ge, Eq, Ne}
use Rattle.rx_cert.specs.Elimination.{are_opposite, coefficient_of, zero_polynomial, of_opposites, replaced_finding, solution, solution_minus, solution_plus, solution_within, solve_finding, zero_of}
use Rattle.rx_cert.proofs.DifferenceLaws.{found_holds}
use Rattle.rx_cert.specs.Findings.{Said, Yes}
use Rattle.rx_cert.proofs.FindingLaws.{within_parts}

-- ---- the polynomial is 0

same_key : (m n : Mono) → is_eq (mono_cmp m n) ≡ true → m ≡ n
same_key m n e = same_mono m n (equal_is (mono_cmp m n) e)

-- opposite sums have opposite values
opposite_sums : (f : Mono → ℤ) (ts us : List (Mono × ℤ)) → are_opposite ts us ≡ true →
    sum_terms f ts +ℤ sum_terms f us ≡ pos 0
opposite_sums f [] [] e = refl
opposite_sums f [] (u ∷ us) e = cc
opposite_sums f (t ∷ ts) [] e = cc
opposite_sums f (t ∷ ts) (u ∷ us) e =
    let p = and_parts (is_eq (mono_cmp t.0 u.0) && is_zero (t.1 +ℤ u.1)) (are_opposite ts us) e in
    let q = and_parts (is_eq (mono_cmp t.0 u.0)) (is_zero (t.1 +ℤ u.1)) p.0 in
    let key : f u.0 ≡ f t.0 = ap f (sym (same_key t.0 u.0 q.0)) in
    let here : t.1 *ℤ f t.0 +ℤ u.1 *ℤ f u.0 ≡ pos 0 =
    ap (λ z. t.1 *ℤ f t.0 +ℤ u.1 *ℤ z) key ∙ sym (add-mul-int t.1 u.1 (f t.0)) ∙
    ap (λ z. z *ℤ f t.0) (zero_is (t.1 +ℤ u.1) q.1) ∙ zero-mul-int (f t.0) in
    let rest = opposite_sums f ts us p.1 in
    omega (arith, ints)

opposite_values : (a : ℕ → ℤ) (p q : Body) → are_opposite (out-Body p).terms (out-Body q).terms ≡
    true → value a p +ℤ value a q ≡ pos 0
opposite_values a p q e =
    (λ i. value_is a p i +ℤ value_is a q i) ∙
    opposite_sums (mono_value a) (out-Body p).terms (out-Body q).terms e

cond_some : (b : Bool) (p q : Body) → cond b (Some p) None ≡ Some q → (b ≡ true) × (p ≡ q)
cond_some true p q e = (refl, cc)
cond_some false p q e = cc

opposites_zero : (a : ℕ → ℤ) (p : Body) (second : Option Row) (z : Body) → of_opposites p second ≡
    Some z → pos 0 ≤ℤ value a p → ((q : Body) → second ≡ Some (Ge q) → pos 0 ≤ℤ value a q) →
    value a z ≡ pos 0
opposites_zero a p None z e h g = cc
opposites_zero a p (Some (Eq q)) z e h g = cc
opposites_zero a p (Some (Ne q)) z e h g = cc
opposites_zero a p (Some (Ge q)) z e h g =
    let c = cond_some (are_opposite (out-Body p).terms (out-Body q).terms) p z e in
    let sum = opposite_values a p q c.0 in
    let other = g q refl in
    subst (λ x. value a x ≡ pos 0) c.1 (omega (arith, ints))

-- what the rows say to be 0 is 0
zero_holds : (a : ℕ → ℤ) (rows : List Row) (first second : ℕ) (z : Body) → AllHold a rows →
    zero_polynomial rows first second ≡ Some z → value a z ≡ pos 0
zero_holds a rows first second z holds e = by (slice_get rows first) refl e
  where
    by : (o : Option Row) → slice_get rows first ≡ o →
        zero_of (first == second) o (slice_get rows second) ≡ Some z → value a z ≡ pos 0
    by None is f = cc
    by (Some (Ge p)) is f =
        opposites_zero a p (slice_get rows second) z f (found_holds a rows first (Ge p) is holds)
        (λ q s. found_holds a rows second (Ge q) s holds)
    by (Some (Eq p)) is f =
        subst (λ x. value a x ≡ pos 0) (cond_some (first == second) p z f).1
        (found_holds a rows first (Eq p) is holds)
    by (Some (Ne p)) is f = cc

-- ---- the variable has the value

-- p = x + rest, so x is -rest
plus_value : (a : ℕ → ℤ) (x : ℕ) (p e : Body) → value a p ≡ pos 0 →
    solution_plus x (body_difference p (variable x)) ≡ Some e → a x ≡ value a e
plus_value a x p e zero f =
    let rest = body_difference p (variable x) in
    let c = cond_none (uses x rest) (scaled_by (negsuc 0) rest) e f in
    let left : value a rest ≡ value a p -ℤ a x = value-body_difference a p (variable x) ∙
    (λ i. value a p -ℤ value-variable a x i) in
    let turned : value a (scaled_by (negsuc 0) rest) ≡ negsuc 0 *ℤ value a rest =
    value-scaled_by a (negsuc 0) rest in
    opposite_of (a x) (value a p) (value a rest) zero left ∙ sym turned ∙ ap (value a) c
  where
    cond_none : (b : Bool) (q r : Body) → cond b None (Some q) ≡ Some r → q ≡ r
    cond_none true q r g = cc
    cond_none false q r g = cc

    opposite_of : (x p r : ℤ) → p ≡ pos 0 → r ≡ p -ℤ x → x ≡ negsuc 0 *ℤ r
    opposite_of x p r g h = omega (arith, ints)

-- p = -x + rest, so x is the rest
minus_value : (a : ℕ → ℤ) (x : ℕ) (p e : Body) → value a p ≡ pos 0 →
    solution_minus x (body_sum p (variable x)) ≡ Some e → a x ≡ value a e
minus_value a x p e zero f =
    let rest = body_sum p (variable x) in
    let left : value a rest ≡ value a p +ℤ a x = value-body_sum a p (variable x) ∙
    (λ i. value a p +ℤ value-variable a x i) in
    rest_of (a x) (value a p) (value a rest) zero left ∙
    ap (value a) (cond_none (uses x rest) rest e f)
  where
    cond_none : (b : Bool) (q r : Body) → cond b None (Some q) ≡ Some r → q ≡ r
    cond_none true q r g = cc
    cond_none false q r g = cc

    rest_of : (x p r : ℤ) → p ≡ pos 0 → r ≡ p +ℤ x → x ≡ r
    rest_of x p r g h = omega (arith, ints)

solution_value : (a : ℕ → ℤ) (x : ℕ) (p e : Body) → value a p ≡ pos 0 → solution x p ≡ Some e →
    a x ≡ value a e
solution_value a x p e zero f =
    by (int_eq (coefficient_of x p) (pos 1)) (int_eq (coefficient_of x p) (negsuc 0)) f
  where
    by : (b c : Bool) → cond b (solution_plus x (body_difference p (variable x)))
        (cond c (solution_minus x (body_sum p (variable x))) None) ≡ Some e → a x ≡ value a e
    by true c g = plus_value a x p e zero g
    by false true g = minus_value a x p e zero g
    by false false g = cc

-- an assignment is what it is with a variable's own value in its place
value_same : (a : ℕ → ℤ) (x : ℕ) (e : Body) → a x ≡ value a e → (n : ℕ) →
    updated_assignment a ((x, e) ∷ []) n ≡
    a n
value_same a x e is n = by (x == n) refl
  where
    by : (b : Bool) → (x == n) ≡ b → value a (cond b e (variable n)) ≡ a n
    by true h = sym is ∙ ap a (eqb-true x n h)
    by false h = value-variable a n

replaced_hold : (a : ℕ → ℤ) (x : ℕ) (e : Body) (rows : List Row) → a x ≡ value a e →
    AllHold a rows → AllHold a (subst_rows ((x, e) ∷ []) rows)
replaced_hold a x e rows is holds =
    (subst_rows-hold a ((x, e) ∷ []) rows).1 (subst (λ (b : ℕ → ℤ). AllHold b rows)
    (λ i n. sym (value_same a x e is n) i) holds)

-- so where the rows with the value are refuted, so are the rows
pub solve_refutes : (a : ℕ → ℤ) (rows : List Row) (first second x : ℕ) (rest : List Row → Said) →
    ((rs : List Row) → rest rs ≡ Yes → AllHold a rs → ⊥) →
    (o : Option Body) → zero_polynomial rows first second ≡ o → solve_finding x o rows rest ≡ Yes →
    AllHold a rows → ⊥
solve_refutes a rows first second x rest f None is e holds = cc
solve_refutes a rows first second x rest f (Some p) is e holds =
    by (solution x p) refl (within_parts (solution_within x p)
    (replaced_finding x (solution x p) rows rest) e).1
  where
    by : (o : Option Body) → solution x p ≡ o → replaced_finding x o rows rest ≡ Yes → ⊥
    by None s g = cc
    by (Some v) s g =
        f (subst_rows ((x, v) ∷ []) rows) (within_parts (rows_within ((x, v) ∷ []) rows)
        (rest (subst_rows ((x, v) ∷ []) rows)) g).1
        (replaced_hold a x v rows (solution_value a x p v
        (zero_holds a rows first second p holds is) s) holds)
