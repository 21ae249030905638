-- The rows of a goal hold exactly where those that it began with do and its arguments are integers
-- of the kind.
use Rattle.std.proofs.Common.{◌≡◌, ◌∙◌, ◌↔◌, ap, sym, subst, ℕ, suc, ◌+◌, true, List, [], ◌∷◌, length, ℤ, pos, negsuc, ◌≤ℤ◌, arith}
use Rattle.std.specs.Prelude.{All}
use Rattle.std.specs.List.{flat_map, range_with_len}
use Rattle.std.proofs.lemmas.Bool.{ltb-true}
use Rattle.std.proofs.lemmas.Int.{ints}
use Rattle.std.proofs.lemmas.List.Elements.{All-cons, All-head, All-nil, All-tail}
use Rattle.rx_poly.specs.Constants.{number, variable}
use Rattle.rx_poly.specs.Limits.{body_sum, scaled_by}
use Rattle.rx_poly.proofs.Constants.{value-number, value-variable}
use Rattle.rx_poly.proofs.PolyLaws.{value-body_sum, value-scaled_by}
use Rattle.rx_row.specs.Holds.{AllHold, RowHolds}
use Rattle.rx_row.specs.Membership.{pushed}
use Rattle.rx_row.specs.declared.row.Row.{Row}
use Rattle.rx_row.specs.declared.row.Row.TheVariants.{Ge}
use Rattle.rx_row.proofs.Membership.{all_hold_pushed}
use Rattle.rx_term.specs.Assigned.{assigned}
use Rattle.c_ast.specs.declared.integers.Integers.{Integers}
use Rattle.c_ast.specs.declared.integers.Integers.TheVariants.{Unbounded, Bits32}
use Rattle.c_meaning.specs.Expressions.{is_int}
use Rattle.rx_code.specs.Bounds.{int_rows, joined_rows, rows_in}
use Rattle.rx_agreement.specs.Agreement.{AreInts}
use Rattle.rx_agreement.proofs.Ranges.{int_between}

-- a 32-bit integer is between the least and the greatest one
int_low : (x : ℤ) → is_int x ≡ true → negsuc 2147483647 ≤ℤ x
int_low (pos n) is = omega (arith, ints)
int_low (negsuc n) is = let h = ltb-true n 2147483648 is in omega (arith, ints, h)

int_high : (x : ℤ) → is_int x ≡ true → x ≤ℤ pos 2147483647
int_high (pos n) is = let h = ltb-true n 2147483648 is in omega (arith, ints, h)
int_high (negsuc n) is = omega (arith, ints)

module _ (α : ℕ → ℤ) where
  abbrev lower : ℕ → Row
  lower v = Ge (body_sum (variable v) (number (pos 2147483648)))

  abbrev upper : ℕ → Row
  upper v = Ge (body_sum (scaled_by (negsuc 0) (variable v)) (number (pos 2147483647)))

  lower_holds : (v : ℕ) → RowHolds α (lower v) ↔ (negsuc 2147483647 ≤ℤ α v)
  lower_holds v =
      let e = value-body_sum α (variable v) (number (pos 2147483648)) in
      let f = value-number α (pos 2147483648) in
      let g = value-variable α v in
      (λ h. omega (arith, ints, e, f, g, h), λ h. omega (arith, ints, e, f, g, h))

  upper_holds : (v : ℕ) → RowHolds α (upper v) ↔ (α v ≤ℤ pos 2147483647)
  upper_holds v =
      let e = value-body_sum α (scaled_by (negsuc 0) (variable v)) (number (pos 2147483647)) in
      let f = value-number α (pos 2147483647) in
      let g = value-variable α v in
      let s = value-scaled_by α (negsuc 0) (variable v) in
      (λ h. omega (arith, ints, e, f, g, s, h), λ h. omega (arith, ints, e, f, g, s, h))

  -- the two rows of a variable and further ones
  two_hold : (v : ℕ) (rows : List Row) → AllHold α (lower v ∷ upper v ∷ rows) ↔
      ((is_int (α v) ≡ true) × AllHold α rows)
  two_hold v rows = (
    λ all. let after = All-tail (RowHolds α) (lower v) (upper v ∷ rows) all in (
      int_between (α v)
          ((lower_holds v).0 (All-head (RowHolds α) (lower v) (upper v ∷ rows) all))
          ((upper_holds v).0 (All-head (RowHolds α) (upper v) rows after)),
      All-tail (RowHolds α) (upper v) rows after,
    ),
    λ both. All-cons (RowHolds α) (lower v) (upper v ∷ rows)
        ((lower_holds v).1 (int_low (α v) both.0))
        (All-cons (RowHolds α) (upper v) rows ((upper_holds v).1 (int_high (α v) both.0)) both.1),
  )

  -- the rows of as many variables as there are integers, from one on
  variables_hold : (k : ℕ) (xs : List ℤ) → ((i : ℕ) → α (k + i) ≡ assigned xs i) →
      AllHold α (flat_map int_rows (range_with_len k (length xs))) ↔
      All (λ x. is_int x ≡ true) xs
  variables_hold k [] is =
      (λ all. All-nil (λ x. is_int x ≡ true), λ all. All-nil (RowHolds α))
  variables_hold k (x ∷ xs) is =
      let here : α k ≡ x = ap α (omega arith) ∙ is 0 in
      let rest = variables_hold (k + 1) xs (λ i. ap α (omega arith) ∙ is (suc i)) in
      let rows = flat_map int_rows (range_with_len (k + 1) (length xs)) in
      let IsInt : ℤ → Type 0 = λ y. is_int y ≡ true in (
        λ all. let both = (two_hold k rows).0 all in
            All-cons IsInt x xs (subst IsInt here both.0) (rest.0 both.1),
        λ all. (two_hold k rows).1 (
          subst IsInt (sym here) (All-head IsInt x xs all),
          rest.1 (All-tail IsInt x xs all),
        ),
      )

  -- rows that are joined hold where both do
  joined_hold : (rows more : List Row) → AllHold α (joined_rows rows more) ↔
      (AllHold α rows × AllHold α more)
  joined_hold rows [] = (λ all. (all, All-nil (RowHolds α)), λ both. both.0)
  joined_hold rows (row ∷ more) =
      let rest = joined_hold (pushed rows row) more in
      let push = all_hold_pushed α rows row in (
        λ all. let both = rest.0 all in let old = push.0 both.0 in
            (old.0, All-cons (RowHolds α) row more old.1 both.1),
        λ both. rest.1 (
          push.1 (both.0, All-head (RowHolds α) row more both.1),
          All-tail (RowHolds α) row more both.1,
        ),
      )

pub bounds_hold : (integers : Integers) (rows : List Row) (arguments : List ℤ) →
    AllHold (assigned arguments) (rows_in integers (length arguments) rows) ↔
    (AllHold (assigned arguments) rows × AreInts integers arguments)
bounds_hold Unbounded rows arguments = (λ all. (all, tt), λ both. both.0)
bounds_hold Bits32 rows arguments =
    let α = assigned arguments in
    let joined = joined_hold α rows (flat_map int_rows (range_with_len 0 (length arguments))) in
    let ints_hold = variables_hold α 0 arguments (λ i. ap α (omega arith)) in (
      λ all. let both = joined.0 all in (both.0, ints_hold.0 both.1),
      λ both. joined.1 (both.0, ints_hold.1 both.1),
    )
