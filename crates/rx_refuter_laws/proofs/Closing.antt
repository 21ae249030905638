-- All leaves of rows that are refuted are closed.
use Rattle.std.proofs.Common.{◌≡◌, ◌∙◌, ap, sym, refl, cond, ℕ, zero, suc, Bool, true, false, Some, List, [], ◌∷◌, ◌++◌, slice_get, take}
use Rattle.std.specs.List.{list_all}
use Rattle.rx_poly.specs.Limits.{is_within}
use Rattle.rx_poly.specs.Terms.{is_zero}
use Rattle.rx_poly.specs.declared.body.Body.{Body}
use Rattle.rx_row.specs.Negation.{negation, negation_within}
use Rattle.rx_row.specs.Parts.{parts_within, sum_of}
use Rattle.rx_row.specs.Substitution.{rows_within, subst_rows}
use Rattle.rx_row.specs.declared.row.Row.{Row}
use Rattle.rx_row.specs.declared.row.Row.TheVariants.{Ge}
use Rattle.rx_fm.specs.Elimination.{EliminationEnd, Large, elimination, found, nothing}
use Rattle.rx_cert.specs.Differences.{differ_finding, disequal, one_less}
use Rattle.rx_cert.specs.DivisionFacts.{at_least_zero_within, below_zero_within, rows_at_least_zero, rows_below_zero}
use Rattle.rx_cert.specs.Elimination.{replaced_finding, solution, solution_within, solve_finding}
use Rattle.rx_cert.specs.Findings.{No, Said, Yes, and_also, with_row}
use Rattle.rx_cert.specs.Rounding.{rounding_row}
use Rattle.rx_cert.proofs.FindingLaws.{both_parts, within_parts}
use Rattle.rx_solve.specs.Disequalities.{disequalities_from}
use Rattle.rx_solve.specs.Divisions.{all_ratios}
use Rattle.rx_solve.specs.Refuter.{differing, differing_at, dividing, dividing_by, refuted, rounding, rounding_by, solving, solving_with}
use Rattle.rx_solve.specs.Roundings.{roundings, roundings_within}
use Rattle.rx_solve.specs.Sums.{all_nonnegative, opposite_within, sum_found, summing}
use Rattle.rx_solve.specs.declared.divisions.Ratio.{Ratio}
use Rattle.rx_solve.specs.declared.roundings.Rounding.{Rounding}
use Rattle.rx_solve.proofs.Found.{solving_next, solving_none}
use Rattle.rx_refuter_laws.specs.Leaves.{AddsRounded, IsClosed, Leaf, Substitutes, TakesSides, TakesSigns}
use Rattle.rx_refuter_laws.specs.Leaves.TakesSigns.{AtLeastZero, BelowZero, NoDividend}
use Rattle.rx_refuter_laws.specs.Leaves.TakesSides.{Above, Below, NoDisequality}
use Rattle.rx_refuter_laws.specs.Leaves.Substitutes.{EnoughSubstituted, NoPivot, OneSubstituted}
use Rattle.rx_refuter_laws.specs.Leaves.AddsRounded.{NoRounding, OneRounded}
use Rattle.rx_refuter_laws.proofs.Sides.{above_said, at_least_zero_said, below_said, below_zero_said}

summing_closed : (rows : List Row) → summing rows ≡ Yes → IsClosed rows
summing_closed rows e =
    by (elimination 4096 (all_nonnegative rows)) refl (within_parts (list_all opposite_within rows)
    (sum_found rows (elimination 4096 (all_nonnegative rows))) e).1
  where
    by : (o : EliminationEnd) → elimination 4096 (all_nonnegative rows) ≡ o → sum_found rows o ≡
        Yes → IsClosed rows
    by Large is f = cc
    by nothing is f = cc
    by (found ms) is f = (ms, is)

rounding_by_closed : (rs : List Rounding) (rows leaf : List Row) → AddsRounded rs rows leaf →
    rounding_by rs rows ≡ Yes → IsClosed leaf
rounding_by_closed [] rows leaf NoRounding e = summing_closed leaf e
rounding_by_closed (r ∷ rs) rows leaf (OneRounded row made rest) e =
    let part = (r.at, r.by) ∷ [] in
    let parts = within_parts (parts_within rows part)
    (with_row rows (rounding_row r.divisor (sum_of rows part)) (rounding_by rs)) e in
    rounding_by_closed rs (rows ++ row ∷ []) leaf rest
    (ap (λ o. with_row rows o (rounding_by rs)) (sym made) ∙ parts.1)

rounding_closed : (rows leaf : List Row) → AddsRounded (roundings rows) rows leaf → rounding rows ≡
    Yes → IsClosed leaf
rounding_closed rows leaf r e =
    rounding_by_closed (roundings rows) rows leaf r
    (within_parts (roundings_within rows) (rounding_by (roundings rows) rows) e).1

-- both signs of a dividend are refuted, so what comes next is, whichever was taken
ratio_closed : (r : Ratio) (rs : List Ratio) (rows divided : List Row) →
    ((more : List Row) → TakesSigns rs more divided → dividing_by rs more ≡ Yes → rounding divided ≡
    Yes) → TakesSigns (r ∷ rs) rows divided →
    (at_least_zero_said r rows (dividing_by rs) ≡ Yes) ×
    (below_zero_said r rows (dividing_by rs) ≡ Yes) → rounding divided ≡ Yes
ratio_closed r rs rows divided next (AtLeastZero rest) both =
    let more = rows ++ rows_at_least_zero r.num r.den in
    next more rest
    (within_parts (at_least_zero_within r.num r.den) (dividing_by rs more) both.0).1
ratio_closed r rs rows divided next (BelowZero rest) both =
    let more = rows ++ rows_below_zero r.num r.den in
    next more rest (within_parts (below_zero_within r.num r.den) (dividing_by rs more) both.1).1

both_signs : (r : Ratio) (rows : List Row) (next : List Row → Said) (b : Bool) →
    cond b No (and_also (at_least_zero_said r rows next) (below_zero_said r rows next)) ≡ Yes →
    (at_least_zero_said r rows next ≡ Yes) × (below_zero_said r rows next ≡ Yes)
both_signs r rows next true e = cc
both_signs r rows next false e =
    both_parts (at_least_zero_said r rows next) (below_zero_said r rows next) e

dividing_by_closed : (rs : List Ratio) (rows divided : List Row) → TakesSigns rs rows divided →
    dividing_by rs rows ≡ Yes → rounding divided ≡ Yes
dividing_by_closed [] rows divided NoDividend e = e
dividing_by_closed (r ∷ rs) rows divided step e =
    ratio_closed r rs rows divided (λ more d f. dividing_by_closed rs more divided d f) step
    (both_signs r rows (dividing_by rs) (is_zero r.den) e)

-- both sides of a disequality are refuted
both_sides : (i : ℕ) (rows : List Row) (next : List Row → Said) (p : Body) →
    disequal (slice_get rows i) ≡ Some p →
    differ_finding (disequal (slice_get rows i)) rows next next ≡ Yes →
    (next (rows ++ Ge (one_less p) ∷ []) ≡ Yes) × (next (rows ++ negation (Ge p) ∷ []) ≡ Yes)
both_sides i rows next p there e =
    let both = both_parts (above_said p rows next) (below_said p rows next)
    (ap (λ o. differ_finding o rows next next) (sym there) ∙ e) in (
      (within_parts (is_within (one_less p)) (next (rows ++ Ge (one_less p) ∷ [])) both.0).1,
      (within_parts (negation_within (Ge p)) (next (rows ++ negation (Ge p) ∷ [])) both.1).1,
    )

differing_at_closed : (is : List ℕ) (rows parted : List Row) → TakesSides is rows parted →
    differing_at is rows ≡ Yes → dividing parted ≡ Yes
differing_at_closed [] rows parted NoDisequality e = e
differing_at_closed (i ∷ is) rows parted (Above p there rest) e =
    differing_at_closed is (rows ++ Ge (one_less p) ∷ []) parted rest
    (both_sides i rows (differing_at is) p there e).0
differing_at_closed (i ∷ is) rows parted (Below p there rest) e =
    differing_at_closed is (rows ++ negation (Ge p) ∷ []) parted rest
    (both_sides i rows (differing_at is) p there e).1

solving_closed : (n : ℕ) (rows replaced : List Row) → Substitutes n rows replaced → solving n rows ≡
    Yes → differing replaced ≡ Yes
solving_closed zero rows replaced EnoughSubstituted e = sym (solving_none replaced) ∙ e
solving_closed (suc n) rows replaced (NoPivot is) e =
    ap (λ o. solving_with o (solving n) replaced) (sym is) ∙ sym (solving_next n replaced) ∙ e
solving_closed (suc n) rows replaced (OneSubstituted pivot p value is zero_is value_is rest) e =
    let x = pivot.variable in
    let with = (x, value) ∷ [] in
    let whole : solving_with (Some pivot) (solving n) rows ≡ Yes =
    ap (λ o. solving_with o (solving n) rows) (sym is) ∙ sym (solving_next n rows) ∙ e in
    let first = within_parts (solution_within x p)
    (replaced_finding x (solution x p) rows (solving n))
    (ap (λ o. solve_finding x o rows (solving n)) (sym zero_is) ∙ whole) in
    let second = within_parts (rows_within with rows) (solving n (subst_rows with rows))
    (ap (λ o. replaced_finding x o rows (solving n)) (sym value_is) ∙ first.1) in
    solving_closed n (subst_rows with rows) replaced rest second.1

-- all leaves of rows that are refuted are closed
pub closed_leaves : (rows leaf : List Row) → refuted rows ≡ Yes → Leaf rows leaf → IsClosed leaf
closed_leaves rows leaf e l =
    rounding_closed l.divided leaf l.rounded
    (dividing_by_closed (take 3 (all_ratios l.parted)) l.parted l.divided l.signs
    (differing_at_closed (take 6 (disequalities_from 0 l.replaced)) l.replaced l.parted l.sides
    (solving_closed 100 rows l.replaced l.values e)))
