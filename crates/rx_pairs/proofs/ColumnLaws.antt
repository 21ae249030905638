-- What the rows of a column say of its values at a pair, and so what those of a pair say of its
-- ranks.
use Rattle.std.proofs.Common.{◌≡◌, ◌∙◌, ap, subst, sym, refl, cond, arith, inl, inr, ◌<◌, ◌≤◌, ℕ, zero, suc, Bool, true, false, Option, Some, None, List, [], ◌∷◌, ◌++◌, length, map, ℤ, pos, negsuc, ◌≤ℤ◌, ◌-ℤ◌, int_lt, All}
use Rattle.std.proofs.lemmas.Int.{ints}
use Rattle.std.proofs.lemmas.List.Elements.{All-cons, All-head, All-nil, All-tail}
use Rattle.std.proofs.lemmas.Bool.Decides.{leb_tells}
use Rattle.rx_poly.proofs.Constants.{value-number}
use Rattle.rx_poly.proofs.DivisionLaws.{constant_value}
use Rattle.rx_poly.proofs.PolyLaws.{value-body_difference}
use Rattle.rx_poly.proofs.SubstitutedValue.{value-subst_body}
use Rattle.rx_poly.specs.Constants.{number}
use Rattle.rx_poly.specs.Limits.{body_difference}
use Rattle.rx_poly.specs.Reading.{constant_of}
use Rattle.rx_poly.specs.Substitution.{numbered, updated_assignment}
use Rattle.rx_poly.specs.Value.{value}
use Rattle.rx_poly.specs.declared.body.Body.{Body, out-Body}
use Rattle.rx_row.specs.Holds.{AllHold, RowHolds}
use Rattle.rx_row.specs.declared.row.Row.TheVariants.{Ge}
use Rattle.rx_rewriting.specs.Ranks.{FirstLess}
use Rattle.rx_pairs.specs.Columns.{at_left, at_right, falls_rows, holds_rows, is_below, is_below_zero, not_greater}
use Rattle.rx_pairs.specs.Lowering.{lower_rows}
use Rattle.rx_pairs.specs.Ranks.{column}
use Rattle.rx_pairs.specs.declared.pair.Pair.{Pair}

-- what is true of each element of two lists together is true of those of each
pub halves : {A : Type 0} (P : A → Type 0) (xs ys : List A) → All P (xs ++ ys) → All P xs × All P ys
halves P [] ys all = (All-nil P, all)
halves P (x ∷ xs) ys all =
    let rest = halves P xs ys (All-tail P x (xs ++ ys) all) in
    (All-cons P x xs (All-head P x (xs ++ ys) all) rest.0, rest.1)

-- a greater integer has at least the column value of another
column_at_most : (x y : ℤ) → pos 0 ≤ℤ (x -ℤ y) → column y ≤ column x
column_at_most (pos m) (pos n) h = omega (arith, ints, h)
column_at_most (pos m) (negsuc n) h = omega arith
column_at_most (negsuc m) (pos n) h = absurd (omega (arith, ints, h))
column_at_most (negsuc m) (negsuc n) h = omega arith

-- and a greater one, where the greater integer is no less than 0
column_below : (x y : ℤ) → pos 0 ≤ℤ x → pos 0 ≤ℤ ((x -ℤ y) -ℤ pos 1) → column y < column x
column_below (pos m) (pos n) low h = omega (arith, ints, h)
column_below (pos m) (negsuc n) low h = omega arith
column_below (negsuc m) y low h = absurd (omega (arith, ints, low))

-- an integer below 0 has the least
below_zero_column : (y : ℤ) → int_lt y (pos 0) ≡ true → column y ≡ 0
below_zero_column (pos n) h =
    let no : pos 0 ≤ℤ pos n = omega (arith, ints) in absurd (omega (arith, ints, h))
below_zero_column (negsuc n) h = refl

module _ (a : ℕ → ℤ) (pair : Pair) where
  -- the value of a column's polynomial on the left, and on the right
  abbrev on_left : Body → ℤ
  on_left p = value (updated_assignment a (numbered pair.left_args)) p

  abbrev on_right : Body → ℤ
  on_right q = value (updated_assignment a (numbered pair.right_args)) q

  left_value : (p : Body) → value a (at_left pair p).form ≡ on_left p
  left_value p = value-subst_body a (numbered pair.left_args) p

  right_value : (q : Body) → value a (at_right pair q).form ≡ on_right q
  right_value q = value-subst_body a (numbered pair.right_args) q

  difference : (p q : Body) → value a (body_difference (at_left pair p).form (at_right pair q).form)
      ≡
      on_left p -ℤ on_right q
  difference p q =
      value-body_difference a (at_left pair p).form (at_right pair q).form ∙
      (λ i. left_value p i -ℤ right_value q i)

  -- a number below 0 on the right
  number_below : (q : Body) → is_below_zero (at_right pair q).form ≡ true → column (on_right q) ≡ 0
  number_below q h = by_number (constant_of (out-Body (at_right pair q).form).terms) refl h where
    by_number : (o : Option ℤ) → constant_of (out-Body (at_right pair q).form).terms ≡ o →
        is_below o ≡ true → column (on_right q) ≡ 0
    by_number None is h = cc
    by_number (Some k) is h =
        let same = sym (right_value q) ∙ constant_value a (at_right pair q).form k is in
        ap column same ∙ below_zero_column k h

  -- where the rows of a column that is to hold do, its value doesn't rise
  pub column_holds : (p q : Body) → AllHold a (holds_rows pair p q).form → column (on_right q) ≤
      column (on_left p)
  column_holds p q rows = by_test (is_below_zero (at_right pair q).form) refl rows where
    by_test : (b : Bool) → is_below_zero (at_right pair q).form ≡ b →
        AllHold a (cond b [] (not_greater pair p (at_right pair q).form).form)
        → column (on_right q) ≤ column (on_left p)
    by_test true is rows = let none = number_below q is in omega (arith, none)
    by_test false is rows =
        let row = All-head (RowHolds a) (Ge (body_difference (at_left pair p).form
        (at_right pair q).form)) [] rows in
        column_at_most (on_left p) (on_right q) (subst (λ z. pos 0 ≤ℤ z) (difference p q) row)

  -- where those of a column that is to fall do, it falls
  pub column_falls : (p q : Body) → AllHold a (falls_rows pair p q).form → column (on_right q) <
      column (on_left p)
  column_falls p q rows =
      let l = (at_left pair p).form in
      let d = body_difference l (at_right pair q).form in
      let low = All-head (RowHolds a) (Ge l) (Ge (body_difference d (number (pos 1))) ∷ []) rows in
      let rest = All-head (RowHolds a) (Ge (body_difference d (number (pos 1)))) []
      (All-tail (RowHolds a) (Ge l) (Ge (body_difference d (number (pos 1))) ∷ []) rows) in
      let less = value-body_difference a d (number (pos 1)) ∙
      (λ i. difference p q i -ℤ value-number a (pos 1) i) in
      column_below (on_left p) (on_right q) (subst (λ z. pos 0 ≤ℤ z) (left_value p) low)
      (subst (λ z. pos 0 ≤ℤ z) less rest)

  -- the columns' values
  abbrev left_columns : List Body → List ℕ
  left_columns ps = map (λ p. column (on_left p)) ps

  abbrev right_columns : List Body → List ℕ
  right_columns qs = map (λ q. column (on_right q)) qs

  first_less : (m n : ℕ) (ms ns : List ℕ) → m ≤ n → FirstLess ms ns → FirstLess (m ∷ ms) (n ∷ ns)
  first_less m n ms ns h rest = elim (leb_tells n m) [
    | inl most ↦ (let least = most.1 in inr (omega (arith, h, least), rest))
    | inr less ↦ inl less.1
  ]

  -- where the rows of a pair do, the rank on the right is below that on the left
  pub rows_lower : (j : ℕ) (ps qs : List Body) → 0 < j → j ≤ length ps → j ≤ length qs →
      AllHold a (lower_rows pair j ps qs).form
      → FirstLess (right_columns qs) (left_columns ps)
  rows_lower zero ps qs some left right holds = absurd (omega (arith, some))
  rows_lower (suc j) [] qs some left right holds = absurd (omega (arith, left))
  rows_lower (suc j) (p ∷ ps) [] some left right holds = absurd (omega (arith, right))
  rows_lower (suc zero) (p ∷ ps) (q ∷ qs) some left right holds = inl (column_falls p q holds)
  rows_lower (suc (suc j)) (p ∷ ps) (q ∷ qs) some left right holds =
      let both = halves (RowHolds a) (holds_rows pair p q).form (lower_rows pair (suc j) ps qs).form
      holds in
      first_less (column (on_right q)) (column (on_left p)) (right_columns qs) (left_columns ps)
      (column_holds p q both.0) (rows_lower (suc j) ps qs (omega arith) (omega (arith, left))
      (omega (arith, right)) both.1)
