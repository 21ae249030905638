-- The law of certificates: where one refutes rows, no assignment of integers meets them. By
-- induction on the certificate, one lemma for each kind.
use Rattle.std.proofs.Common.{◌≡◌, ◌∙◌, ap, subst, sym, refl, cond, ℕ, Bool, true, false, IsTrue, Option, Some, None, Result, Ok, Err, IfOk, List, [], ◌∷◌, ◌++◌, slice_get, ℤ}
use mathlib.Core.Logic.{inl, inr}
use Rattle.rx_poly.specs.Terms.{is_zero}
use Rattle.rx_poly.specs.declared.body.Body.{Body}
use Rattle.rx_poly.specs.declared.poly_end.PolyEnd.{PolyEnd}
use Rattle.rx_row.proofs.RowLaws.{all_hold-push, holds_or_not}
use Rattle.rx_row.specs.Holds.{AllHold, RowHolds}
use Rattle.rx_row.specs.Negation.{negation, negation_within}
use Rattle.rx_row.specs.Parts.{parts_within, sum_of}
use Rattle.rx_row.specs.declared.row.Row.{Row}
use Rattle.rx_row.specs.declared.row.Row.TheVariants.{Ge}
use Rattle.rx_cert.specs.Differences.{disequal}
use Rattle.rx_cert.specs.Elimination.{zero_polynomial}
use Rattle.rx_cert.specs.Examination.{examined, verdict, level, row_finding}
use Rattle.rx_cert.specs.Findings.{Said, Yes, said, and_also, with_row, guard}
use Rattle.rx_cert.specs.Rounding.{rounding_row, can_be_rounded_by, rounded}
use Rattle.rx_cert.specs.declared.cert.Cert.{Cert, Cert-F, roll-Cert, map-Cert, fold-roll-Cert, ind-Cert}
use Rattle.rx_cert.proofs.DifferenceLaws.{differ_refutes}
use Rattle.rx_cert.proofs.DivisionLaws.{division_refutes}
use Rattle.rx_cert.proofs.EliminationLaws.{solve_refutes}
use Rattle.rx_cert.proofs.FindingLaws.{both_parts, within_parts}
use Rattle.rx_cert.proofs.RoundingLaws.{rounded_holds}
use Rattle.rx_cert.proofs.SumLaws.{sum_holds, sum_refutes}

-- what a certificate finds refutes the rows that it is found of, at an assignment
abbrev Refutes : (ℕ → ℤ) → (List Row → Said) → Type 0
Refutes a found = (rows : List Row) → found rows ≡ Yes → AllHold a rows → ⊥

rounding_refutes : (a : ℕ → ℤ) (rows : List Row) (ps : List (ℕ × ℤ)) (d : ℤ)
    (rest : List Row → Said) → Refutes a rest →
    guard (parts_within rows ps) (with_row rows (rounding_row d (sum_of rows ps)) rest) ≡ Yes →
    AllHold a rows → ⊥
rounding_refutes a rows ps d rest f e holds =
    by_sum (sum_of rows ps) refl (within_parts (parts_within rows ps)
    (with_row rows (rounding_row d (sum_of rows ps)) rest) e).1
  where
    by_test : (p : Body) → sum_of rows ps ≡ Some p → (b : Bool) → can_be_rounded_by d p ≡ b →
        with_row rows (cond b (Some (Ge (rounded d p))) None) rest ≡ Yes → ⊥
    by_test p s true t g =
        f (rows ++ Ge (rounded d p) ∷ []) g ((all_hold-push a rows (Ge (rounded d p))).1
        (holds, rounded_holds a d p t (sum_holds a rows ps p holds s)))
    by_test p s false t g = cc

    by_sum : (o : Option Body) → sum_of rows ps ≡ o → with_row rows (rounding_row d o) rest ≡ Yes →
        ⊥
    by_sum None s g = cc
    by_sum (Some p) s g = by_test p s (can_be_rounded_by d p) refl g

split_refutes : (a : ℕ → ℤ) (rows : List Row) (row : Row)
    (holds_found fails_found : List Row → Said) → Refutes a holds_found → Refutes a fails_found →
    and_also (holds_found (rows ++ row ∷ [])) (guard (negation_within row)
    (fails_found (rows ++ negation row ∷ []))) ≡ Yes → AllHold a rows → ⊥
split_refutes a rows row holds_found fails_found f g e holds =
    let parts = both_parts (holds_found (rows ++ row ∷ []))
    (guard (negation_within row) (fails_found (rows ++ negation row ∷ []))) e in
    let second = within_parts (negation_within row) (fails_found (rows ++ negation row ∷ []))
    parts.1 in
    elim (holds_or_not a row) [
      | inl h ↦ f (rows ++ row ∷ []) parts.0 ((all_hold-push a rows row).1 (holds, h))
      | inr h ↦ g (rows ++ negation row ∷ []) second.1
          ((all_hold-push a rows (negation row)).1 (holds, h))
    ]

module _ (a : ℕ → ℤ) where
  abbrev RefutesRows : Cert → Type 0
  RefutesRows cert = Refutes a (examined cert)

  abbrev Part : Type 0
  Part = (cert : Cert) × RefutesRows cert

  -- the level without its proofs, and what the certificates inside find
  abbrev bare : Cert-F Part → Cert-F Cert
  bare = map-Cert Part Cert (λ (p : Part). p.0)

  abbrev found : Cert-F Part → Cert-F (List Row → Said)
  found y = map-Cert Cert (List Row → Said) examined (bare y)

  at_level : (y : Cert-F Part) → Refutes a (level (found y))
  at_level (Cert-F.Sum ps) rows e holds = sum_refutes a rows ps e holds
  at_level (Cert-F.Cut ps d rest) rows e holds =
      rounding_refutes a rows ps d (examined rest.0) rest.1 e holds
  at_level (Cert-F.Split row first second) rows e holds =
      split_refutes a rows row (examined first.0) (examined second.0) first.1 second.1 e holds
  at_level (Cert-F.Differ at above below) rows e holds =
      differ_refutes a rows at (examined above.0) (examined below.0) above.1 below.1
      (disequal (slice_get rows at)) refl e holds
  at_level (Cert-F.Solve first second x rest) rows e holds =
      solve_refutes a rows first second x (examined rest.0) rest.1
      (zero_polynomial rows first second) refl e holds
  at_level (Cert-F.DivFacts num d above below) rows e holds =
      division_refutes a rows num d (examined above.0) (examined below.0) above.1 below.1
      (is_zero d) refl e holds

  step : (x : Cert-F Cert) (y : Cert-F Part) → bare y ≡ x → RefutesRows (roll-Cert x)
  step x y is = subst (λ z. RefutesRows (roll-Cert z)) is
      (subst (Refutes a) (sym (fold-roll-Cert (List Row → Said) level (bare y))) (at_level y))

  by_induction : (cert : Cert) → RefutesRows cert
  by_induction = ind-Cert RefutesRows step

-- where a certificate refutes rows, no assignment of integers meets them
pub refuted : (rows : List Row) (cert : Cert) → verdict rows cert ≡ Yes → (a : ℕ → ℤ) →
    AllHold a rows → ⊥
refuted rows cert e a holds = by_induction a cert rows e holds

-- so a row that rows show holds wherever they do
pub shown_holds : (rows : List Row) (row : Row) (cert : Cert) → row_finding rows row cert ≡ Yes →
    (a : ℕ → ℤ) → AllHold a rows → RowHolds a row
shown_holds rows row cert e a holds =
    elim (holds_or_not a row) [
      | inl h ↦ h
      | inr h ↦ absurd (refuted (rows ++ negation row ∷ []) cert
          (within_parts (negation_within row) (verdict (rows ++ negation row ∷ []) cert) e).1 a
          ((all_hold-push a rows (negation row)).1 (holds, h)))
    ]

-- the same of an answer
pub answer_refuted : (r : Result Bool PolyEnd) (rows lent : List Row) (cert : Cert) → lent ≡ rows →
    IfOk r (λ b. verdict lent cert ≡ said b) →
    IfOk r (λ b. IsTrue b → (a : ℕ → ℤ) → AllHold a rows → ⊥)
answer_refuted (Ok b) rows lent cert same e =
    λ is a holds. refuted rows cert (ap (λ rs. verdict rs cert) (sym same) ∙ e ∙ ap said is) a holds
answer_refuted (Err x) rows lent cert same e = tt

pub answer_shown : (r : Result Bool PolyEnd) (rows lent : List Row) (row : Row) (cert : Cert) →
    lent ≡ rows → IfOk r (λ b. row_finding lent row cert ≡ said b) →
    IfOk r (λ b. IsTrue b → (a : ℕ → ℤ) → AllHold a rows → RowHolds a row)
answer_shown (Ok b) rows lent row cert same e =
    λ is a holds. shown_holds rows row cert (ap (λ rs. row_finding rs row cert) (sym same) ∙ e ∙
    ap said is) a holds
answer_shown (Err x) rows lent row cert same e = tt
