-- What holds is decided by the value of a polynomial; so a row holds exactly where its negation
-- doesn't.
use Rattle.std.proofs.Common.{◌≡◌, ◌∙◌, ◌↔◌, ◌⊎◌, ℕ, ℤ, pos, negsuc, ◌-ℤ◌, ◌*ℤ◌, ◌≤ℤ◌, arith, refl, zero, suc, List, [], ◌∷◌, ◌++◌, Contains}
use Rattle.std.proofs.lemmas.Int.{ints}
use Rattle.std.proofs.lemmas.List.Elements.{All-contains, All-contains_itself, All-push, All-weaker, Contains-append_left, Contains-push}
use mathlib.Core.Logic.{inl, inr}
use Rattle.rx_poly.proofs.Constants.{value-number}
use Rattle.rx_poly.proofs.PolyLaws.{value-scaled_by, value-body_difference}
use Rattle.rx_poly.specs.Constants.{number}
use Rattle.rx_poly.specs.Value.{value}
use Rattle.rx_poly.specs.declared.body.Body.{Body}
use Rattle.rx_row.specs.Holds.{AllHold, RowHolds}
use Rattle.rx_row.specs.Negation.{minus_one_more, negation, opposite}
use Rattle.rx_row.specs.declared.row.Row.{Row}
use Rattle.rx_row.specs.declared.row.Row.TheVariants.{Ge, Eq, Ne}

-- -p - 1 has the value that it says
pub value-minus_one_more : (a : ℕ → ℤ) (p : Body) → value a (minus_one_more p) ≡
    (negsuc 0 *ℤ value a p) -ℤ pos 1
value-minus_one_more a p =
    value-body_difference a (opposite p) (number (pos 1)) ∙
    (λ i. value-scaled_by a (negsuc 0) p i -ℤ value-number a (pos 1) i)

-- a number is below 0 exactly where -z - 1 isn't
at_least_or_below : (z w : ℤ) → w ≡ (negsuc 0 *ℤ z) -ℤ pos 1 → (pos 0 ≤ℤ z) ⊎ (pos 0 ≤ℤ w)
at_least_or_below (pos n) w e = inl (omega (arith, ints))
at_least_or_below (negsuc n) w e = inr (omega (arith, ints))

not_both : (z w : ℤ) → w ≡ (negsuc 0 *ℤ z) -ℤ pos 1 → pos 0 ≤ℤ z → pos 0 ≤ℤ w → ⊥
not_both z w e h g = omega (arith, ints)

-- a number is 0 or not
zero_or_not : (z : ℤ) → (z ≡ pos 0) ⊎ (z ≡ pos 0 → ⊥)
zero_or_not (pos zero) = inl refl
zero_or_not (pos (suc n)) = inr (λ e. omega (arith, ints))
zero_or_not (negsuc n) = inr (λ e. omega (arith, ints))

-- a difference is 0 exactly where both are equal
pub no_difference : (x y z : ℤ) → x ≡ y -ℤ z → (x ≡ pos 0) ↔ (y ≡ z)
no_difference x y z is = (λ e. omega (arith, ints), λ e. omega (arith, ints))

-- under an assignment a row or its negation holds
pub holds_or_not : (a : ℕ → ℤ) (row : Row) → RowHolds a row ⊎ RowHolds a (negation row)
holds_or_not a (Ge p) =
    at_least_or_below (value a p) (value a (minus_one_more p)) (value-minus_one_more a p)
holds_or_not a (Eq p) = zero_or_not (value a p)
holds_or_not a (Ne p) = elim (zero_or_not (value a p)) [ inl e ↦ inr e | inr n ↦ inl n ]

-- and not both
pub holds_not_both : (a : ℕ → ℤ) (row : Row) → RowHolds a row → RowHolds a (negation row) → ⊥
holds_not_both a (Ge p) h g =
    not_both (value a p) (value a (minus_one_more p)) (value-minus_one_more a p) h g
holds_not_both a (Eq p) h g = g h
holds_not_both a (Ne p) h g = h g

-- so the negation holds exactly where the row doesn't
pub negation-holds : (a : ℕ → ℤ) (row : Row) → RowHolds a (negation row) ↔ (RowHolds a row → ⊥)
negation-holds a row = (
  (λ g h. holds_not_both a row h g),
  λ n. elim (holds_or_not a row)
      [ inl h ↦ absurd (n h) | inr g ↦ g ],
)

-- rows with one after them hold exactly where they do and it does
pub all_hold-push : (a : ℕ → ℤ) (rows : List Row) (row : Row) →
    AllHold a (rows ++ row ∷ []) ↔ (AllHold a rows × RowHolds a row)
all_hold-push a rows row = (
  λ h. (
    All-weaker (Contains rows) (RowHolds a) (λ x c.
        All-contains (RowHolds a) (rows ++ row ∷ []) x h (Contains-append_left rows (row ∷ []) x c))
        rows (All-contains_itself rows),
    All-contains (RowHolds a) (rows ++ row ∷ []) row h (Contains-push rows row),
  ),
  λ h. All-push (RowHolds a) rows row h.0 h.1,
)

-- where rows hold, so does one that is among them
pub all_hold-contains : (a : ℕ → ℤ) (rows : List Row) (row : Row) → Contains rows row →
    AllHold a rows ↔ (AllHold a rows × RowHolds a row)
all_hold-contains a rows row c = (λ h. (h, All-contains (RowHolds a) rows row h c), λ h. h.0)
