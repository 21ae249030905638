-- A row with polynomials in place of its variables holds where the row holds of the values of
-- these.
use Rattle.std.proofs.Common.{◌≡◌, ◌↔◌, subst, sym, ℕ, ℤ, pos, ◌≤ℤ◌, List, [], ◌∷◌}
use Rattle.std.proofs.lemmas.List.Elements.{All-cons, All-head, All-nil, All-tail}
use Rattle.rx_poly.proofs.SubstitutedValue.{value-subst_body}
use Rattle.rx_poly.specs.Substitution.{updated_assignment}
use Rattle.rx_poly.specs.declared.body.Body.{Body}
use Rattle.rx_row.specs.Holds.{AllHold, RowHolds}
use Rattle.rx_row.specs.Substitution.{subst_row, subst_rows}
use Rattle.rx_row.specs.declared.row.Row.{Row}
use Rattle.rx_row.specs.declared.row.Row.TheVariants.{Ge, Eq, Ne}

-- what holds of a number holds of one that is the same
same_number : (P : ℤ → Type 0) {y z : ℤ} → y ≡ z → P y ↔ P z
same_number P e = (λ h. subst P e h, λ h. subst P (sym e) h)

-- substitution and assignment commute: in a row
pub subst_row-holds : (a : ℕ → ℤ) (ws : List (ℕ × Body)) (row : Row) →
    RowHolds a (subst_row ws row) ↔ RowHolds (updated_assignment a ws) row
subst_row-holds a ws (Ge p) = same_number (λ z. pos 0 ≤ℤ z) (value-subst_body a ws p)
subst_row-holds a ws (Eq p) = same_number (λ z. z ≡ pos 0) (value-subst_body a ws p)
subst_row-holds a ws (Ne p) = same_number (λ z. z ≡ pos 0 → ⊥) (value-subst_body a ws p)

-- and in all rows of a list
pub subst_rows-hold : (a : ℕ → ℤ) (ws : List (ℕ × Body)) (rows : List Row) →
    AllHold a (subst_rows ws rows) ↔ AllHold (updated_assignment a ws) rows
subst_rows-hold a ws [] =
    (λ h. All-nil (RowHolds (updated_assignment a ws)), λ h. All-nil (RowHolds a))
subst_rows-hold a ws (r ∷ rs) =
    let here = subst_row-holds a ws r in
    let more = subst_rows-hold a ws rs in (
      λ h. All-cons (RowHolds (updated_assignment a ws)) r rs
          (here.0 (All-head (RowHolds a) (subst_row ws r) (subst_rows ws rs) h))
          (more.0 (All-tail (RowHolds a) (subst_row ws r) (subst_rows ws rs) h)),
      λ h. All-cons (RowHolds a) (subst_row ws r) (subst_rows ws rs)
          (here.1 (All-head (RowHolds (updated_assignment a ws)) r rs h))
          (more.1 (All-tail (RowHolds (updated_assignment a ws)) r rs h)),
    )
