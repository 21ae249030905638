-- Rows that aren't refuted, within the limits, have an open leaf: phase by phase, the last first.
use Rattle.std.proofs.Common.{◌≡◌, ◌∙◌, ap, sym, refl, cond, ℕ, zero, suc, true, ◌⊎◌, inl, inr, All, Option, Some, None, List, [], ◌∷◌, ◌++◌, slice_get, take, pos}
use Rattle.std.proofs.lemmas.Bool.{and_parts, not-true}
use Rattle.std.proofs.lemmas.List.Elements.{All-cons, All-head, All-nil, All-tail, All-take, All-weaker}
use Rattle.std.specs.List.{list_all}
use Rattle.rx_poly.specs.Constants.{number}
use Rattle.rx_poly.specs.Limits.{is_within}
use Rattle.rx_poly.specs.Normal.{is_poly}
use Rattle.rx_poly.specs.Terms.{is_zero}
use Rattle.rx_poly.specs.declared.body.Body.{Body}
use Rattle.rx_row.specs.Negation.{negation, negation_within}
use Rattle.rx_row.specs.Parts.{parts_within, sum_of}
use Rattle.rx_row.specs.Substitution.{rows_within, subst_rows}
use Rattle.rx_row.specs.declared.row.Row.{Row}
use Rattle.rx_row.specs.declared.row.Row.TheVariants.{Eq, Ge, Ne}
use Rattle.rx_fm.specs.Elimination.{EliminationEnd, Large, elimination, found, nothing}
use Rattle.rx_fm.proofs.Exactness.{none}
use Rattle.rx_cert.specs.Differences.{differ_finding, disequal, one_less}
use Rattle.rx_cert.specs.DivisionFacts.{at_least_zero_within, below_zero_within, rows_at_least_zero, rows_below_zero}
use Rattle.rx_cert.specs.Elimination.{replaced_finding, solution, solution_within, solve_finding}
use Rattle.rx_cert.specs.Findings.{No, and_also, said, with_row}
use Rattle.rx_cert.specs.Rounding.{rounding_row}
use Rattle.rx_cert.specs.Sums.{is_negative}
use Rattle.rx_solve.specs.Disequalities.{disequalities_from}
use Rattle.rx_solve.specs.Divisions.{all_ratios, has_polynomial}
use Rattle.rx_solve.specs.Pivots.{first_pivot}
use Rattle.rx_solve.specs.Refuter.{differing, differing_at, dividing, dividing_by, refuted, rounding, rounding_by, solving, solving_with}
use Rattle.rx_solve.specs.Roundings.{roundings, roundings_within}
use Rattle.rx_solve.specs.Sums.{all_nonnegative, opposite_within, parts_from, sum_found, summing}
use Rattle.rx_solve.specs.declared.divisions.Ratio.{Ratio}
use Rattle.rx_solve.specs.declared.pivots.Pivot.{Pivot}
use Rattle.rx_solve.specs.declared.roundings.Rounding.{Rounding}
use Rattle.rx_solve.proofs.Found.{solving_next, solving_none}
use Rattle.rx_refuter_laws.specs.Leaves.{AddsRounded, HasNoMultipliers, HasOpenLeaf, IsOpen, Substitutes, TakesSides, TakesSigns, has_poly, have_polys}
use Rattle.rx_refuter_laws.specs.Leaves.TakesSigns.{AtLeastZero, BelowZero, NoDividend}
use Rattle.rx_refuter_laws.specs.Leaves.TakesSides.{Above, Below, NoDisequality}
use Rattle.rx_refuter_laws.specs.Leaves.Substitutes.{EnoughSubstituted, NoPivot, OneSubstituted}
use Rattle.rx_refuter_laws.specs.Leaves.AddsRounded.{NoRounding, OneRounded}
use Rattle.rx_refuter_laws.proofs.DivisionRows.{at_least_zero_polys, below_zero_polys, less_one_more_poly}
use Rattle.rx_refuter_laws.proofs.Divisors.{first_sound, has_divisor, is_sound}
use Rattle.rx_refuter_laws.proofs.Findings.{guarded_no, one_no}
use Rattle.rx_refuter_laws.proofs.Multipliers.{found_is_negative, nonnegative_polys}
use Rattle.rx_refuter_laws.proofs.Places.{StandsFrom, first_there, from_beginning, one_more, others_there, polys_longer, still_there}
use Rattle.rx_refuter_laws.proofs.Polynomials.{difference_poly, fitting_number_poly}
use Rattle.rx_refuter_laws.proofs.Replacement.{first_says, replaced_polys, standing_poly}
use Rattle.rx_refuter_laws.proofs.Roundable.{Roundable, all_roundable, rounded_row, rounded_row_poly, row_made, still_roundable}
use Rattle.rx_refuter_laws.proofs.Sides.{above_said, at_least_zero_said, below_said, below_zero_said}

-- ---- the sum

-- the elimination finds nothing there, and there is nothing
abbrev Ends : List Row → Type 0
Ends leaf = IsOpen leaf × HasNoMultipliers leaf

summing_ends : (rows : List Row) → have_polys rows ≡ true → summing rows ≡ No → Ends rows
summing_ends rows h e = by (elimination 4096 (all_nonnegative rows)) refl parts.1
  where
    parts : (list_all opposite_within rows ≡ true) ×
        (sum_found rows (elimination 4096 (all_nonnegative rows)) ≡ No)
    parts =
        guarded_no (list_all opposite_within rows)
        (sum_found rows (elimination 4096 (all_nonnegative rows))) e

    by : (o : EliminationEnd) → elimination 4096 (all_nonnegative rows) ≡ o → sum_found rows o ≡ No
        → Ends rows
    by Large is f = cc
    by nothing is f =
        (is, none 4096 (all_nonnegative rows) (nonnegative_polys rows h parts.0) is)
    by (found ms) is f =
        let ps = parts_from 0 rows ms in
        let sum = guarded_no (parts_within rows ps) (said (is_negative (sum_of rows ps))) f in
        let negative = found_is_negative 4096 rows ms h parts.0 is sum.0 in
        let no : said true ≡ No = ap said (sym negative) ∙ sum.1 in
        cc

-- ---- roundings

abbrev AfterDividing : List Row → Type 0
AfterDividing rows = (leaf : List Row) × AddsRounded (roundings rows) rows leaf × Ends leaf

rounding_by_ends : (rs : List Rounding) (rows : List Row) → have_polys rows ≡ true →
    All (Roundable rows) rs → rounding_by rs rows ≡ No →
    (leaf : List Row) × AddsRounded rs rows leaf × Ends leaf
rounding_by_ends [] rows h a e = (rows, NoRounding, summing_ends rows h e)
rounding_by_ends (r ∷ rs) rows h a e =
    let first = All-head (Roundable rows) r rs a in
    let row = rounded_row rows r first in
    let made = row_made rows r first in
    let part = (r.at, r.by) ∷ [] in
    let parts = guarded_no (parts_within rows part)
    (with_row rows (rounding_row r.divisor (sum_of rows part)) (rounding_by rs)) e in
    let next : rounding_by rs (rows ++ row ∷ []) ≡ No =
    ap (λ o. with_row rows o (rounding_by rs)) (sym made) ∙ parts.1 in
    let rest = rounding_by_ends rs (rows ++ row ∷ [])
    (one_more rows row h (rounded_row_poly rows r first parts.0))
    (All-weaker (Roundable rows) (Roundable (rows ++ row ∷ []))
    (λ x. still_roundable rows (row ∷ []) x) rs (All-tail (Roundable rows) r rs a)) next in
    (rest.0, OneRounded row made rest.1, rest.2)

rounding_ends : (rows : List Row) → have_polys rows ≡ true → rounding rows ≡ No →
    AfterDividing rows
rounding_ends rows h e =
    rounding_by_ends (roundings rows) rows h (all_roundable rows h)
    (guarded_no (roundings_within rows) (rounding_by (roundings rows) rows) e).1

-- ---- ratios

abbrev AfterParting : List Row → Type 0
AfterParting rows =
    (divided : List Row) × TakesSigns (take 3 (all_ratios rows)) rows divided ×
    AfterDividing divided

-- one sign of a dividend has an open leaf
ratio_ends : (r : Ratio) (rs : List Ratio) (rows : List Row) → have_polys rows ≡ true →
    has_polynomial r ≡ true →
    ((more : List Row) → have_polys more ≡ true → dividing_by rs more ≡ No →
    (divided : List Row) × TakesSigns rs more divided × AfterDividing divided) →
    (at_least_zero_said r rows (dividing_by rs) ≡ No) ⊎
    (below_zero_said r rows (dividing_by rs) ≡ No) →
    (divided : List Row) × TakesSigns (r ∷ rs) rows divided × AfterDividing divided
ratio_ends r rs rows h own next (inl f) =
    let facts = rows_at_least_zero r.num r.den in
    let parts = guarded_no (at_least_zero_within r.num r.den) (dividing_by rs (rows ++ facts)) f in
    let rest = next (rows ++ facts) (polys_longer rows facts h
    (at_least_zero_polys r.num r.den own parts.0)) parts.1 in
    (rest.0, AtLeastZero rest.1, rest.2)
ratio_ends r rs rows h own next (inr f) =
    let facts = rows_below_zero r.num r.den in
    let parts = guarded_no (below_zero_within r.num r.den) (dividing_by rs (rows ++ facts)) f in
    let rest = next (rows ++ facts) (polys_longer rows facts h
    (below_zero_polys r.num r.den own parts.0)) parts.1 in
    (rest.0, BelowZero rest.1, rest.2)

dividing_by_ends : (rs : List Ratio) (rows : List Row) → have_polys rows ≡ true →
    list_all is_sound rs ≡ true → dividing_by rs rows ≡ No →
    (divided : List Row) × TakesSigns rs rows divided × AfterDividing divided
dividing_by_ends [] rows h s e = (rows, NoDividend, rounding_ends rows h e)
dividing_by_ends (r ∷ rs) rows h s e =
    ratio_ends r rs rows h own.1 (λ more g f. dividing_by_ends rs more g sound.1 f)
    (one_no (at_least_zero_said r rows (dividing_by rs)) (below_zero_said r rows (dividing_by rs))
    both)
  where
    sound : (is_sound r ≡ true) × (list_all is_sound rs ≡ true)
    sound = and_parts (is_sound r) (list_all is_sound rs) s

    own : (has_divisor r ≡ true) × (has_polynomial r ≡ true)
    own = and_parts (has_divisor r) (has_polynomial r) sound.0

    both : and_also (at_least_zero_said r rows (dividing_by rs))
        (below_zero_said r rows (dividing_by rs)) ≡ No
    both =
        ap (λ b. cond b No (and_also (at_least_zero_said r rows (dividing_by rs))
        (below_zero_said r rows (dividing_by rs)))) (sym (not-true (is_zero r.den) own.0)) ∙ e

dividing_ends : (rows : List Row) → have_polys rows ≡ true → dividing rows ≡ No →
    AfterParting rows
dividing_ends rows h e =
    dividing_by_ends (take 3 (all_ratios rows)) rows h (first_sound 3 rows h) e

-- ---- disequalities

abbrev AfterReplacing : List Row → Type 0
AfterReplacing rows =
    (parted : List Row) × TakesSides (take 6 (disequalities_from 0 rows)) rows parted ×
    AfterParting parted

-- a disequality has that number
Differs : List Row → ℕ → Type 0
Differs rows i = (p : Body) × (slice_get rows i ≡ Some (Ne p))

differs_at : (rows : List Row) (i : ℕ) → Differs rows i → (p : Body) ×
    (slice_get rows i ≡ Some (Ne p))
unfolding Differs
differs_at rows i d = d

still_differs : (rows more : List Row) (i : ℕ) → Differs rows i → Differs (rows ++ more) i
unfolding Differs
still_differs rows more i d = (d.0, still_there rows more i (Ne d.0) d.1)

first_differs : (rows : List Row) (i : ℕ) (p : Body) (rest : List Row) →
    StandsFrom rows i (Ne p ∷ rest) → Differs rows i
unfolding Differs
first_differs rows i p rest h = (p, first_there rows i (Ne p) rest h)

all_differ : (rows : List Row) (i : ℕ) (rest : List Row) → StandsFrom rows i rest →
    All (Differs rows) (disequalities_from i rest)
all_differ rows i [] h = All-nil (Differs rows)
all_differ rows i (Ge p ∷ rest) h =
    all_differ rows (suc i) rest (others_there rows i (Ge p) rest h)
all_differ rows i (Eq p ∷ rest) h =
    all_differ rows (suc i) rest (others_there rows i (Eq p) rest h)
all_differ rows i (Ne p ∷ rest) h =
    All-cons (Differs rows) i (disequalities_from (suc i) rest) (first_differs rows i p rest h)
    (all_differ rows (suc i) rest (others_there rows i (Ne p) rest h))

-- one side of a disequality has an open leaf
side_ends : (i : ℕ) (is : List ℕ) (rows : List Row) (p : Body) → have_polys rows ≡ true →
    is_poly p ≡ true → disequal (slice_get rows i) ≡ Some p →
    ((row : Row) → has_poly row ≡ true → differing_at is (rows ++ row ∷ []) ≡ No →
    (parted : List Row) × TakesSides is (rows ++ row ∷ []) parted × AfterParting parted) →
    (above_said p rows (differing_at is) ≡ No) ⊎ (below_said p rows (differing_at is) ≡ No) →
    (parted : List Row) × TakesSides (i ∷ is) rows parted × AfterParting parted
side_ends i is rows p h poly there next (inl f) =
    let parts = guarded_no (is_within (one_less p))
    (differing_at is (rows ++ Ge (one_less p) ∷ [])) f in
    let rest = next (Ge (one_less p))
    (difference_poly p (number (pos 1)) poly (fitting_number_poly (pos 1) refl) parts.0) parts.1 in
    (rest.0, Above p there rest.1, rest.2)
side_ends i is rows p h poly there next (inr f) =
    let parts = guarded_no (negation_within (Ge p))
    (differing_at is (rows ++ negation (Ge p) ∷ [])) f in
    let rest = next (negation (Ge p)) (less_one_more_poly p poly parts.0) parts.1 in
    (rest.0, Below p there rest.1, rest.2)

differing_at_ends : (is : List ℕ) (rows : List Row) → have_polys rows ≡ true →
    All (Differs rows) is → differing_at is rows ≡ No →
    (parted : List Row) × TakesSides is rows parted × AfterParting parted
differing_at_ends [] rows h a e = (rows, NoDisequality, dividing_ends rows h e)
differing_at_ends (i ∷ is) rows h a e =
    by (differs_at rows i (All-head (Differs rows) i is a))
    (λ row g f. differing_at_ends is (rows ++ row ∷ []) (one_more rows row h g) (later row) f)
  where
    later : (row : Row) → All (Differs (rows ++ row ∷ [])) is
    later row =
        All-weaker (Differs rows) (Differs (rows ++ row ∷ []))
        (λ j. still_differs rows (row ∷ []) j) is (All-tail (Differs rows) i is a)

    by : (p : Body) × (slice_get rows i ≡ Some (Ne p)) →
        ((row : Row) → has_poly row ≡ true → differing_at is (rows ++ row ∷ []) ≡ No →
        (parted : List Row) × TakesSides is (rows ++ row ∷ []) parted × AfterParting parted) →
        (parted : List Row) × TakesSides (i ∷ is) rows parted × AfterParting parted
    by (p, is_there) next =
        let there : disequal (slice_get rows i) ≡ Some p = ap disequal is_there in
        side_ends i is rows p h (standing_poly rows h i (Ne p) is_there) there next
        (one_no (above_said p rows (differing_at is)) (below_said p rows (differing_at is))
        (ap (λ o. differ_finding o rows (differing_at is) (differing_at is)) (sym there) ∙ e))

differing_ends : (rows : List Row) → have_polys rows ≡ true → differing rows ≡ No →
    AfterReplacing rows
differing_ends rows h e =
    differing_at_ends (take 6 (disequalities_from 0 rows)) rows h
    (All-take (Differs rows) 6 (disequalities_from 0 rows)
    (all_differ rows 0 rows (from_beginning rows))) e

-- ---- variables that rows say the value of

-- the rows with the value in place of the variable have an open leaf
replaced_ends : (n : ℕ) (rows : List Row) → have_polys rows ≡ true →
    ((more : List Row) → have_polys more ≡ true → solving n more ≡ No →
    (replaced : List Row) × Substitutes n more replaced × AfterReplacing replaced) →
    (o : Option Pivot) → first_pivot rows ≡ o → solving_with o (solving n) rows ≡ No →
    (replaced : List Row) × Substitutes (suc n) rows replaced × AfterReplacing replaced
replaced_ends n rows h next None is f = (rows, NoPivot is, differing_ends rows h f)
replaced_ends n rows h next (Some pivot) is f =
    let x = pivot.variable in
    let says = first_says rows pivot is in
    let zero = says.zero in
    let value = says.value in
    let with = (x, value) ∷ [] in
    let first = guarded_no (solution_within x zero)
    (replaced_finding x (solution x zero) rows (solving n))
    (ap (λ o. solve_finding x o rows (solving n)) (sym says.is_zero) ∙ f) in
    let second = guarded_no (rows_within with rows) (solving n (subst_rows with rows))
    (ap (λ o. replaced_finding x o rows (solving n)) (sym says.is_value) ∙ first.1) in
    let rest = next (subst_rows with rows)
    (replaced_polys rows pivot.first pivot.second x zero value h says.is_zero says.is_value first.0
    second.0) second.1 in
    (rest.0, OneSubstituted pivot zero value is says.is_zero says.is_value rest.1, rest.2)

solving_ends : (n : ℕ) (rows : List Row) → have_polys rows ≡ true → solving n rows ≡ No →
    (replaced : List Row) × Substitutes n rows replaced × AfterReplacing replaced
solving_ends zero rows h e =
    (rows, EnoughSubstituted, differing_ends rows h (sym (solving_none rows) ∙ e))
solving_ends (suc n) rows h e =
    replaced_ends n rows h (λ more g f. solving_ends n more g f) (first_pivot rows) refl
    (sym (solving_next n rows) ∙ e)

-- rows that aren't refuted have an open leaf
pub open_leaf : (rows : List Row) → have_polys rows ≡ true → refuted rows ≡ No → HasOpenLeaf rows
open_leaf rows h e =
    let replaced = solving_ends 100 rows h e in
    let parted = replaced.2 in
    let divided = parted.2 in
    let leaf = divided.2 in
    record {
      leaf = leaf.0;
      reached = record {
        replaced = replaced.0;
        parted = parted.0;
        divided = divided.0;
        values = replaced.1;
        sides = parted.1;
        signs = divided.1;
        rounded = leaf.1;
      };
      is_open = leaf.2.0;
      no_multipliers = leaf.2.1;
    }
