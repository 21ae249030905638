-- Where the refuter finds that rows are refuted, they have a certificate, at most 174 deep and with
-- no variables but theirs.
use Rattle.std.proofs.Common.{◌≡◌, ap, ◌∙◌, refl, sym, arith, cond, ℕ, zero, suc, ◌+◌, ◌≤◌, Bool, true, false, Option, Some, None, List, [], ◌∷◌, ◌++◌, take, length, slice_get, ℤ}
use Rattle.std.proofs.lemmas.Bool.{and_parts}
use Rattle.std.proofs.lemmas.List.Folds.{list_all-append}
use Rattle.std.specs.List.{list_all}
use Rattle.rx_plain.proofs.Lists.{all_taken}
use Rattle.rx_poly.specs.Limits.{is_within}
use Rattle.rx_poly.specs.Terms.{is_zero}
use Rattle.rx_poly.specs.declared.body.Body.{Body}
use Rattle.rx_row.specs.Negation.{negation, negation_within}
use Rattle.rx_row.specs.Parts.{parts_within, sum_of}
use Rattle.rx_row.specs.Substitution.{subst_rows, rows_within}
use Rattle.rx_row.specs.declared.row.Row.{Row}
use Rattle.rx_row.specs.declared.row.Row.TheVariants.{Ge}
use Rattle.rx_cert.specs.Differences.{differ_finding, disequal, one_less}
use Rattle.rx_cert.specs.DivisionFacts.{at_least_zero_within, below_zero_within, rows_at_least_zero, rows_below_zero}
use Rattle.rx_cert.specs.Elimination.{replaced_finding, solution, solution_within, solve_finding, zero_polynomial}
use Rattle.rx_cert.specs.Examination.{level}
use Rattle.rx_cert.specs.Findings.{Said, Yes, No, and_also, with_row, guard}
use Rattle.rx_cert.specs.Rounding.{rounding_row}
use Rattle.rx_cert.specs.Variables.{row_passes, rows_pass}
use Rattle.rx_cert.specs.declared.cert.Cert.{Cert, Cert-F}
use Rattle.rx_cert.specs.declared.cert.Cert.TheVariants.{Sum, Cut, Differ, Solve, DivFacts}
use Rattle.rx_row.specs.Holds.{AllHold}
use Rattle.rx_cert.specs.Showing.{all_shown}
use Rattle.rx_cert.proofs.ConditionLaws.{conditions_hold}
use Rattle.rx_cert.proofs.FindingLaws.{both_parts, within_parts}
use Rattle.rx_cert.proofs.Law.{refuted as unmet}
use Rattle.rx_cert.proofs.ShowingLaws.{shown_have_certificates}
use Rattle.rx_fm.specs.Elimination.{EliminationEnd, Large, nothing, found, elimination}
use Rattle.rx_solve.specs.Answers.{IsCertificate}
use Rattle.rx_solve.specs.Disequalities.{disequalities_from}
use Rattle.rx_solve.specs.Divisions.{all_ratios, ratio_passes}
use Rattle.rx_solve.specs.Pivots.{first_pivot}
use Rattle.rx_solve.specs.Refuter.{differing, differing_at, dividing, dividing_by, refuted, rounding, rounding_by, solving, solving_with}
use Rattle.rx_solve.specs.Roundings.{roundings, roundings_from, roundings_within}
use Rattle.rx_solve.specs.Sums.{all_nonnegative, opposite_within, parts_from, sum_found, summing}
use Rattle.rx_solve.specs.declared.divisions.Ratio.{Ratio}
use Rattle.rx_solve.specs.declared.pivots.Pivot.{Pivot}
use Rattle.rx_solve.specs.declared.roundings.Rounding.{Rounding}
use Rattle.rx_solve.proofs.Certificates.{cut_certificate, differ_certificate, division_certificate, solve_certificate, sum_certificate, wider}
use Rattle.rx_solve.proofs.RatioLaws.{all_ratios_pass}

-- the rows have a certificate, at most so deep
abbrev Certified : ℕ → List Row → Type 0
Certified most rows = (cert : Cert) × IsCertificate most rows cert

-- what is known of a phase: rows that it finds refuted have a certificate
abbrev Finds : ℕ → (List Row → Said) → Type 0
Finds most says = (rows : List Row) → says rows ≡ Yes → Certified most rows

roomy : {few many : ℕ} {rows : List Row} → few ≤ many → Certified few rows → Certified many rows
roomy h (cert, c) = (cert, wider h c)

pub few_taken : {A : Type 0} (n : ℕ) (xs : List A) → length (take n xs) ≤ n
few_taken zero xs = omega arith
few_taken (suc n) [] = omega arith
few_taken (suc n) (x ∷ xs) = let h = few_taken n xs in omega (arith, h)

-- ---- sums and roundings

sum_finds : Finds 1 summing
sum_finds rows e =
    by (elimination 4096 (all_nonnegative rows))
    (within_parts (list_all opposite_within rows)
    (sum_found rows (elimination 4096 (all_nonnegative rows))) e).1
  where
    by : (o : EliminationEnd) → sum_found rows o ≡ Yes → Certified 1 rows
    by Large h = cc
    by nothing h = cc
    by (found ms) h = (Sum (parts_from 0 rows ms), sum_certificate rows (parts_from 0 rows ms) h)

cut_finds : (most : ℕ) (says : List Row → Said) → Finds most says → (ps : List (ℕ × ℤ)) (d : ℤ) →
    Finds (most + 1) (level (Cert-F.Cut ps d says))
cut_finds most says next ps d rows e = by (rounding_row d (sum_of rows ps)) refl parts.1
  where
    parts : (parts_within rows ps ≡ true) × (with_row rows (rounding_row d (sum_of rows ps)) says ≡
        Yes)
    parts =
        within_parts (parts_within rows ps) (with_row rows (rounding_row d (sum_of rows ps)) says) e

    by : (o : Option Row) → rounding_row d (sum_of rows ps) ≡ o → with_row rows o says ≡ Yes →
        Certified (most + 1) rows
    by None is h = cc
    by (Some row) is h =
        let c = next (rows ++ row ∷ []) h in (
          Cut ps d c.0,
          cut_certificate most rows ps d row c.0 parts.0 is c.1,
        )

rounding_by_finds : (rs : List Rounding) → Finds (length rs + 1) (rounding_by rs)
rounding_by_finds [] rows e = sum_finds rows e
rounding_by_finds (r ∷ rs) rows e =
    roomy (omega arith) (cut_finds (length rs + 1) (rounding_by rs) (rounding_by_finds rs)
    ((r.at, r.by) ∷ []) r.divisor rows e)

rounding_finds : Finds 65 rounding
rounding_finds rows e =
    let few = few_taken 64 (roundings_from 0 rows) in
    roomy (omega (arith, few)) (rounding_by_finds (roundings rows) rows
    (within_parts (roundings_within rows) (rounding_by (roundings rows) rows) e).1)

-- ---- divisions

-- the dividends have no variables but those of the rows
abbrev Own : List Ratio → List Row → Type 0
Own rs rows =
    (test : ℕ → Bool) → rows_pass test rows ≡ true → list_all (ratio_passes test) rs ≡ true

own_longer : (rs : List Ratio) (rows more : List Row) → Own rs rows → Own rs (rows ++ more)
own_longer rs rows more own test h =
    own test (and_parts (rows_pass test rows) (rows_pass test more)
    (sym (list_all-append (row_passes test) rows more) ∙ h)).0

dividing_by_finds : (rs : List Ratio) (rows : List Row) → Own rs rows → dividing_by rs rows ≡ Yes →
    Certified (length rs + 65) rows
dividing_by_finds [] rows own e = roomy (omega arith) (rounding_finds rows e)
dividing_by_finds (r ∷ rs) rows own e =
    by (dividing_by_finds rs (rows ++ rows_at_least_zero r.num r.den)
    (own_longer rs rows (rows_at_least_zero r.num r.den) rest))
    (dividing_by_finds rs (rows ++ rows_below_zero r.num r.den)
    (own_longer rs rows (rows_below_zero r.num r.den) rest)) (is_zero r.den) refl e
  where
    rest : Own rs rows
    rest test h = (and_parts (ratio_passes test r) (list_all (ratio_passes test) rs) (own test h)).1

    by : (dividing_by rs (rows ++ rows_at_least_zero r.num r.den) ≡ Yes →
        Certified (length rs + 65) (rows ++ rows_at_least_zero r.num r.den)) →
        (dividing_by rs (rows ++ rows_below_zero r.num r.den) ≡ Yes →
        Certified (length rs + 65) (rows ++ rows_below_zero r.num r.den)) →
        (b : Bool) → is_zero r.den ≡ b →
        cond b No (and_also (guard (at_least_zero_within r.num r.den)
        (dividing_by rs (rows ++ rows_at_least_zero r.num r.den)))
        (guard (below_zero_within r.num r.den)
        (dividing_by rs (rows ++ rows_below_zero r.num r.den)))) ≡ Yes →
        Certified (length (r ∷ rs) + 65) rows
    by f g true z h = cc
    by f g false z h =
        let two = both_parts (guard (at_least_zero_within r.num r.den)
        (dividing_by rs (rows ++ rows_at_least_zero r.num r.den)))
        (guard (below_zero_within r.num r.den)
        (dividing_by rs (rows ++ rows_below_zero r.num r.den))) h in
        let first = within_parts (at_least_zero_within r.num r.den)
        (dividing_by rs (rows ++ rows_at_least_zero r.num r.den)) two.0 in
        let second = within_parts (below_zero_within r.num r.den)
        (dividing_by rs (rows ++ rows_below_zero r.num r.den)) two.1 in
        let a = f first.1 in
        let b = g second.1 in
        roomy (omega arith) (
          DivFacts r.num r.den a.0 b.0,
          division_certificate (length rs + 65) rows r.num r.den a.0 b.0 z first.0 second.0
              (λ test k. (and_parts (ratio_passes test r) (list_all (ratio_passes test) rs)
              (own test k)).0) a.1 b.1,
        )

dividing_finds : Finds 68 dividing
dividing_finds rows e =
    let few = few_taken 3 (all_ratios rows) in
    roomy (omega (arith, few)) (dividing_by_finds (take 3 (all_ratios rows)) rows
    (λ test h. all_taken (ratio_passes test) 3 (all_ratios rows)
    (all_ratios_pass test rows h)) e)

-- ---- disequalities

differ_finds : (most : ℕ) (says : List Row → Said) → Finds most says → (i : ℕ) →
    Finds (most + 1) (level (Cert-F.Differ i says says))
differ_finds most says next i rows e = by (disequal (slice_get rows i)) refl e
  where
    by : (o : Option Body) → disequal (slice_get rows i) ≡ o → differ_finding o rows says says ≡
        Yes → Certified (most + 1) rows
    by None is h = cc
    by (Some p) is h =
        let two = both_parts (guard (is_within (one_less p)) (says (rows ++ Ge (one_less p) ∷ [])))
        (guard (negation_within (Ge p)) (says (rows ++ negation (Ge p) ∷ []))) h in
        let first = within_parts (is_within (one_less p)) (says (rows ++ Ge (one_less p) ∷ []))
        two.0 in
        let second = within_parts (negation_within (Ge p)) (says (rows ++ negation (Ge p) ∷ []))
        two.1 in
        let a = next (rows ++ Ge (one_less p) ∷ []) first.1 in
        let b = next (rows ++ negation (Ge p) ∷ []) second.1 in
        (Differ i a.0 b.0, differ_certificate most rows i p a.0 b.0 is first.0 second.0 a.1 b.1)

differing_at_finds : (is : List ℕ) → Finds (length is + 68) (differing_at is)
differing_at_finds [] rows e = roomy (omega arith) (dividing_finds rows e)
differing_at_finds (i ∷ is) rows e =
    roomy (omega arith) (differ_finds (length is + 68) (differing_at is) (differing_at_finds is) i
    rows e)

differing_finds : Finds 74 differing
differing_finds rows e =
    let few = few_taken 6 (disequalities_from 0 rows) in
    roomy (omega (arith, few)) (differing_at_finds (take 6 (disequalities_from 0 rows)) rows e)

-- ---- variables that rows say the value of

solve_finds : (most : ℕ) (says : List Row → Said) → Finds most says → (i j x : ℕ) →
    Finds (most + 1) (level (Cert-F.Solve i j x says))
solve_finds most says next i j x rows e = by (zero_polynomial rows i j) refl e
  where
    by : (o : Option Body) → zero_polynomial rows i j ≡ o → solve_finding x o rows says ≡ Yes →
        Certified (most + 1) rows
    by None is h = cc
    by (Some p) is h = by_value (solution x p) refl parts.1
      where
        parts : (solution_within x p ≡ true) × (replaced_finding x (solution x p) rows says ≡ Yes)
        parts = within_parts (solution_within x p) (replaced_finding x (solution x p) rows says) h

        by_value : (v : Option Body) → solution x p ≡ v → replaced_finding x v rows says ≡ Yes →
            Certified (most + 1) rows
        by_value None value g = cc
        by_value (Some v) value g =
            let then = within_parts (rows_within ((x, v) ∷ []) rows)
            (says (subst_rows ((x, v) ∷ []) rows)) g in
            let c = next (subst_rows ((x, v) ∷ []) rows) then.1 in
            (Solve i j x c.0, solve_certificate most rows i j x p v c.0 is parts.0 value then.0 c.1)

pub solving_none : (rows : List Row) → solving 0 rows ≡ differing rows
unfolding solving
solving_none rows = refl

pub solving_next : (n : ℕ) (rows : List Row) → solving (suc n) rows ≡
    solving_with (first_pivot rows) (solving n) rows
unfolding solving
solving_next n rows = refl

-- where no row says the value of a variable none is replaced
pub solving_without : (n : ℕ) (rows : List Row) → first_pivot rows ≡ None → solving n rows ≡
    differing rows
solving_without zero rows is = solving_none rows
solving_without (suc n) rows is = solving_next n rows ∙ ap (λ o. solving_with o (solving n) rows) is

solved_or_not : (n : ℕ) (rows : List Row) → Finds (n + 74) (solving n) → (o : Option Pivot) →
    solving_with o (solving n) rows ≡ Yes → Certified (suc n + 74) rows
solved_or_not n rows next None h = roomy (omega arith) (differing_finds rows h)
solved_or_not n rows next (Some p) h =
    roomy (omega arith) (solve_finds (n + 74) (solving n) next p.first p.second p.variable rows h)

solving_finds : (n : ℕ) → Finds (n + 74) (solving n)
unfolding solving
solving_finds zero rows e = roomy (omega arith) (differing_finds rows e)
solving_finds (suc n) rows e = solved_or_not n rows (solving_finds n) (first_pivot rows) e

-- rows that are refuted have a certificate
pub refuted_has_certificate : (rows : List Row) → refuted rows ≡ Yes → (cert : Cert) ×
    IsCertificate 174 rows cert
refuted_has_certificate rows e = solving_finds 100 rows e

-- so no integers meet them
pub refuted_is_met_by_none : (rows : List Row) → refuted rows ≡ Yes → (a : ℕ → ℤ) → AllHold a rows →
    ⊥
refuted_is_met_by_none rows e a holds =
    let c = refuted_has_certificate rows e in unmet rows c.0 c.1.refutes a holds

-- and rows that are shown hold wherever the given ones do
pub shown_hold : (given rows : List Row) → all_shown refuted given rows ≡ Yes → (a : ℕ → ℤ) →
    AllHold a given → AllHold a rows
shown_hold given rows e a holds =
    let certs = shown_have_certificates given refuted
    (λ rs h. let c = refuted_has_certificate rs h in (c.0, c.1.refutes)) rows e in
    conditions_hold given rows certs.0 certs.1 a holds
