-- Under an assignment at which p is not 0, p - 1 is at least 0 or -p - 1 is.
use Rattle.std.proofs.Common.{◌≡◌, ◌∙◌, ap, subst, refl, ◌⊎◌, ℕ, zero, suc, Option, Some, None, List, [], ◌∷◌, ◌++◌, slice_get, ℤ, pos, negsuc, ◌-ℤ◌, ◌≤ℤ◌, arith}
use mathlib.Core.Logic.{inl, inr}
use Rattle.std.proofs.lemmas.Int.{ints}
use Rattle.std.proofs.lemmas.Option.{get_or_from_slice_get, slice_get_within}
use Rattle.rx_poly.proofs.Constants.{value-number}
use Rattle.rx_poly.proofs.PolyLaws.{value-body_difference}
use Rattle.rx_poly.specs.Constants.{number}
use Rattle.rx_poly.specs.Limits.{is_within}
use Rattle.rx_poly.specs.Value.{value}
use Rattle.rx_poly.specs.declared.body.Body.{Body}
use Rattle.rx_row.proofs.RowLaws.{all_hold-push, holds_or_not}
use Rattle.rx_row.specs.Holds.{AllHold, RowHolds}
use Rattle.rx_row.specs.Negation.{negation, negation_within}
use Rattle.rx_row.specs.declared.row.Row.{Row}
use Rattle.rx_row.specs.declared.row.Row.TheVariants.{Ge, Eq, Ne}
use Rattle.rx_cert.specs.Differences.{differ_finding, disequal, one_less}
use Rattle.rx_cert.specs.Findings.{Said, Yes, guard}
use Rattle.rx_cert.proofs.FindingLaws.{both_parts, within_parts}

-- a row that is found among rows that hold holds
pub found_holds : (a : ℕ → ℤ) (rows : List Row) (at : ℕ) (row : Row) → slice_get rows at ≡
    Some row → AllHold a rows → RowHolds a row
found_holds a rows at row is holds =
    subst (RowHolds a) (get_or_from_slice_get rows at row row is)
    (holds at row (slice_get_within rows at row is))

-- a number of at least 0 that isn't 0 is at least 1
at_least_one : (z w : ℤ) → w ≡ z -ℤ pos 1 → pos 0 ≤ℤ z → (z ≡ pos 0 → ⊥) → pos 0 ≤ℤ w
at_least_one (pos zero) w e h n = absurd (n refl)
at_least_one (pos (suc k)) w e h n = omega (arith, ints)
at_least_one (negsuc k) w e h n = absurd (omega (arith, ints))

above_or_below : (a : ℕ → ℤ) (p : Body) → RowHolds a (Ne p) → RowHolds a (Ge (one_less p)) ⊎
    RowHolds a (negation (Ge p))
above_or_below a p differs =
    let e : value a (one_less p) ≡ value a p -ℤ pos 1 = value-body_difference a p (number (pos 1)) ∙
    (λ i. value a p -ℤ value-number a (pos 1) i) in
    elim (holds_or_not a (Ge p)) [
      | inl h ↦ inl (at_least_one (value a p) (value a (one_less p)) e h differs)
      | inr h ↦ inr h
    ]

disequal_is : (o : Option Row) (p : Body) → disequal o ≡ Some p → o ≡ Some (Ne p)
disequal_is None p e = cc
disequal_is (Some (Ge q)) p e = cc
disequal_is (Some (Eq q)) p e = cc
disequal_is (Some (Ne q)) p e = let same : q ≡ p = cc in ap (λ x. Some (Ne x)) same

-- so where both cases are refuted, so are the rows
pub differ_refutes : (a : ℕ → ℤ) (rows : List Row) (at : ℕ) (above below : List Row → Said) →
    ((rs : List Row) → above rs ≡ Yes → AllHold a rs → ⊥) →
    ((rs : List Row) → below rs ≡ Yes → AllHold a rs → ⊥) →
    (o : Option Body) → disequal (slice_get rows at) ≡ o → differ_finding o rows above below ≡ Yes →
    AllHold a rows → ⊥
differ_refutes a rows at above below f g None is e holds = cc
differ_refutes a rows at above below f g (Some p) is e holds =
    let parts = both_parts (guard (is_within (one_less p)) (above (rows ++ Ge (one_less p) ∷ [])))
    (guard (negation_within (Ge p)) (below (rows ++ negation (Ge p) ∷ []))) e in
    let first = within_parts (is_within (one_less p)) (above (rows ++ Ge (one_less p) ∷ [])) parts.0
    in
    let second = within_parts (negation_within (Ge p)) (below (rows ++ negation (Ge p) ∷ []))
    parts.1 in
    elim (above_or_below a p (found_holds a rows at (Ne p) (disequal_is (slice_get rows at) p is)
    holds)) [
      | inl h ↦ f (rows ++ Ge (one_less p) ∷ []) first.1
          ((all_hold-push a rows (Ge (one_less p))).1 (holds, h))
      | inr h ↦ g (rows ++ negation (Ge p) ∷ []) second.1
          ((all_hold-push a rows (negation (Ge p))).1 (holds, h))
    ]
