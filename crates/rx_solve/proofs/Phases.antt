-- One step of a phase: a certificate for the rows that come next is one for the rows, and what is
-- found of them is found.
use Rattle.std.proofs.Common.{◌≡◌, ◌∙◌, ap, refl, subst, sym, arith, cond, Bool, ℕ, suc, ◌+◌, ◌≤◌, true, false, ◌&&◌, Option, Some, None, option_map, Result, Ok, Err, IfOk, IfSome, List, [], ◌∷◌, ◌++◌, length, slice_get, take, ℤ}
use Rattle.std.proofs.lemmas.Bool.{and_from, and_parts}
use Rattle.std.specs.List.{list_all}
use Rattle.rx_plain.specs.Formed.{Formed}
use Rattle.rx_poly.specs.Limits.{body_sum, is_within, body_difference}
use Rattle.rx_poly.specs.Terms.{is_zero}
use Rattle.rx_poly.specs.declared.body.Body.{Body}
use Rattle.rx_row.specs.Negation.{negation, negation_within, opposite}
use Rattle.rx_cert.specs.Differences.{above, below, differ_finding, disequal, one_less}
use Rattle.rx_row.specs.declared.row.Row.TheVariants.{Ge}
use Rattle.rx_cert.specs.DivisionFacts.{at_least_zero_within, below_zero_within, division_formed, division_within, facts_at_least_zero, facts_below_zero, greatest_remainder, remainder_by, rows_at_least_zero, rows_below_zero}
use Rattle.rx_cert.proofs.FindingLaws.{within_parts}
use Rattle.rx_cert.specs.Elimination.{replaced_finding, solution, solution_within, solve_finding, zero_polynomial}
use Rattle.rx_cert.specs.Examination.{verdict, level}
use Rattle.rx_cert.specs.declared.cert.Cert.TheOpen.{Cert-F}
use Rattle.rx_row.specs.Substitution.{rows_with, rows_within, subst_rows}
use Rattle.rx_row.specs.Holds.{AllHold, RowHolds}
use Rattle.rx_cert.proofs.Law.{refuted as unmet, shown_holds}
use Rattle.rx_cert.specs.Showing.{negation_said}
use Rattle.rx_solve.specs.Bounds.{most_deep}
use Rattle.rx_solve.specs.Shown.{NegationAnswers}
use Rattle.rx_solve.specs.Pivots.{first_pivot}
use Rattle.rx_solve.specs.declared.pivots.Pivot.{Pivot}
use Rattle.rx_row.specs.Parts.{parts_within, sum_of}
use Rattle.rx_row.specs.declared.row.Row.{Row}
use Rattle.rx_cert.specs.Findings.{Said, Yes, No, Beyond, and_also, with_row, guard}
use Rattle.rx_cert.specs.Rounding.{rounding_row}
use Rattle.rx_cert.specs.declared.cert.Cert.{Cert}
use Rattle.rx_cert.specs.declared.cert.Cert.TheVariants.{Cut, Differ, DivFacts, Solve}
use Rattle.rx_fm.specs.declared.fm_end.FmEnd.{FmEnd}
use Rattle.rx_fm.specs.declared.fm_end.FmEnd.TheVariants.{Large}
use Rattle.rx_solve.specs.Answers.{Answers, AnswersFor, BranchAnswers, IsCertificate, formed_said, one_formed}
use Rattle.rx_solve.specs.Divisions.{AreRatiosOf, all_ratios, ratio_passes}
use Rattle.rx_solve.specs.Disequalities.{disequalities_from}
use Rattle.rx_solve.specs.declared.divisions.Ratio.{Ratio}
use Rattle.rx_solve.specs.Refuter.{differing, differing_at, refuted, solving, solving_with, dividing, dividing_by, rounding, rounding_by}
use Rattle.rx_solve.specs.Roundings.{roundings, roundings_from, roundings_within}
use Rattle.rx_solve.specs.declared.roundings.Rounding.{Rounding}
use Rattle.rx_solve.proofs.Certificates.{cut_certificate, differ_certificate, division_certificate, solve_certificate, wider}
use Rattle.rx_solve.proofs.Found.{few_taken, solving_next, solving_none, solving_without}

-- an answer of a phase is one of a phase that finds the same, with room to spare
pub same_answers : (says other : List Row → Said) (few many : ℕ) (rows : List Row)
    (r : Result (Option Cert) FmEnd) → says rows ≡ other rows → few ≤ many →
    AnswersFor says few rows r → AnswersFor other many rows r
same_answers says other few many rows (Ok None) e h a = sym e ∙ a
same_answers says other few many rows (Ok (Some cert)) e h a = (sym e ∙ a.0, wider h a.1)
same_answers says other few many rows (Err x) e h a = λ large. sym e ∙ a large

-- ---- roundings

module _ (r : Rounding) (rest : List Rounding) (rows : List Row) (row : Row) where
  abbrev part : List (ℕ × ℤ)
  part = (r.at, r.by) ∷ []

  rounded_found : parts_within rows part ≡ true → rounding_row r.divisor (sum_of rows part) ≡
      Some row → rounding_by (r ∷ rest) rows ≡ rounding_by rest (rows ++ row ∷ [])
  rounded_found keeps made =
      ap (λ b. guard b (with_row rows (rounding_row r.divisor (sum_of rows part))
      (rounding_by rest))) keeps
      ∙ ap (λ o. with_row rows o (rounding_by rest)) made

  -- what is found of the rows with the rounded one is found of the rows
  pub rounding_step : (lent : List Row) (o : Option Row) (found whole : Option Cert) → lent ≡ rows →
      (o ≡ rounding_row r.divisor (sum_of lent part)) × (parts_within lent part ≡ true) → o ≡
      Some row → AnswersFor (rounding_by rest) (length rest + 1) (rows ++ row ∷ []) (Ok found) →
      whole ≡ option_map (λ c. Cut part r.divisor c) found →
      AnswersFor (rounding_by (r ∷ rest)) (length rest + 2) rows (Ok whole)
  rounding_step lent o found whole same forms some answer made =
      subst (λ (w : Option Cert). AnswersFor (rounding_by (r ∷ rest)) (length rest + 2) rows (Ok w))
      (sym made) (by found answer)
    where
      keeps : parts_within rows part ≡ true
      keeps = ap (λ rs. parts_within rs part) (sym same) ∙ forms.1

      row_is : rounding_row r.divisor (sum_of rows part) ≡ Some row
      row_is = ap (λ rs. rounding_row r.divisor (sum_of rs part)) (sym same) ∙ sym forms.0 ∙ some

      by : (f : Option Cert) → AnswersFor (rounding_by rest) (length rest + 1) (rows ++ row ∷ [])
          (Ok f) → AnswersFor (rounding_by (r ∷ rest)) (length rest + 2) rows
          (Ok (option_map (λ c. Cut part r.divisor c) f))
      by None a = rounded_found keeps row_is ∙ a
      by (Some cert) a = (
        rounded_found keeps row_is ∙ a.0,
        wider (omega arith)
            (cut_certificate (length rest + 1) rows part r.divisor row cert keeps row_is a.1),
      )

-- all roundings of the rows
pub rounding_answers : (rows lent : List Row) (rs : List Rounding) (r : Result (Option Cert) FmEnd)
    → rs ≡ roundings rows → roundings_within rows ≡ true → lent ≡ rows →
    AnswersFor (rounding_by rs) (length rs + 1) lent r → AnswersFor rounding 65 rows r
rounding_answers rows lent rs r is keeps same a =
    let few = few_taken 64 (roundings_from 0 rows) in
    let count : length rs ≤ 64 = subst (λ (xs : List Rounding). length xs ≤ 64) (sym is) few in
    same_answers (rounding_by rs) rounding (length rs + 1) 65 rows r
    (ap (λ xs. rounding_by xs rows) is ∙ ap (λ b. guard b (rounding_by (roundings rows) rows))
    (sym keeps)) (omega (arith, count))
    (subst (λ (xs : List Row). AnswersFor (rounding_by rs) (length rs + 1) xs r) same a)

-- ---- ratios

module _ (num : Body) (d : ℤ) (rest : List Ratio) (rows : List Row) where
  abbrev ratio : Ratio
  ratio = record { num = num; den = d }

  -- the facts of a division whose parts are formed
  abbrev facts : Body × Body × Body → Formed (List Row)
  facts t = facts_at_least_zero num t.0 t.1 t.2

  abbrev facts_below : Body × Body × Body → Formed (List Row)
  facts_below t = facts_below_zero num t.0 t.1 t.2

  abbrev Branch : Formed (List Row) → Option Cert → Type 0
  Branch more o = BranchAnswers (dividing_by rest) (length rest + 65) rows more (Ok o)

  -- what is found of both sides, one after the other, is found of the rows
  sides_said : is_zero d ≡ false → division_within num d ≡ true →
      dividing_by (ratio ∷ rest) rows ≡
      and_also (formed_said (dividing_by rest) rows (facts (division_formed num d).form))
      (formed_said (dividing_by rest) rows (facts_below (division_formed num d).form))
  sides_said zero keeps =
      ap (λ c. cond c No (and_also (guard (at_least_zero_within num d)
      (dividing_by rest (rows ++ rows_at_least_zero num d)))
      (guard (below_zero_within num d) (dividing_by rest (rows ++ rows_below_zero num d))))) zero
      ∙ (λ i. and_also (guard (keeps i && above) (dividing_by rest
      (rows ++ rows_at_least_zero num d))) (guard (negation_within (Ge num) && (keeps i && below))
      (dividing_by rest (rows ++ rows_below_zero num d))))
    where
      above : Bool
      above = is_within (body_difference (greatest_remainder d) (remainder_by num d))

      below : Bool
      below =
          is_within (opposite (remainder_by num d)) &&
          is_within (body_sum (greatest_remainder d) (remainder_by num d))

  -- both sides are refuted, so the rows are
  both_sides : (pos neg : Cert) → AreRatiosOf (ratio ∷ rest) rows → is_zero d ≡ false →
      division_within num d ≡ true → Branch (facts (division_formed num d).form) (Some pos) →
      Branch (facts_below (division_formed num d).form) (Some neg) →
      IsCertificate (length rest + 66) rows (DivFacts num d pos neg)
  both_sides pos neg own zero keeps a b =
      let above = is_within (body_difference (greatest_remainder d) (remainder_by num d)) in
      let below = is_within (opposite (remainder_by num d)) &&
      is_within (body_sum (greatest_remainder d) (remainder_by num d)) in
      let first = within_parts above (dividing_by rest (rows ++ rows_at_least_zero num d)) a.0 in
      let second = within_parts (negation_within (Ge num) && below)
      (dividing_by rest (rows ++ rows_below_zero num d)) b.0 in
      let parts = and_parts (negation_within (Ge num)) below second.0 in
      let first_keeps : at_least_zero_within num d ≡ true =
      and_from (division_within num d) above keeps first.0 in
      let second_keeps : below_zero_within num d ≡ true =
      and_from (negation_within (Ge num)) (division_within num d && below) parts.0
      (and_from (division_within num d) below keeps parts.1) in
      wider (omega arith) (division_certificate (length rest + 65) rows num d pos neg zero
      first_keeps second_keeps
      (λ test h. (and_parts (ratio_passes test ratio) (list_all (ratio_passes test) rest)
      (own.own test h)).0) a.1 b.1)

  -- what is known where the first side is refuted
  module _ (parts : Body × Body × Body) (lent : List Row) (first : Option Cert) (pos : Cert)
      (second : Result (Option Cert) FmEnd) (zero : is_zero d ≡ false) (is : parts ≡
      (division_formed num d).form) (keeps : division_within num d ≡ true) (same : lent ≡ rows)
      (first_is : first ≡ Some pos) (a : Branch (facts parts) first)
      (b : BranchAnswers (dividing_by rest) (length rest + 65) lent (facts_below parts) second)
    where
      first_side : Branch (facts (division_formed num d).form) (Some pos)
      first_side =
          subst (λ (t : Body × Body × Body). Branch (facts t) (Some pos)) is
          (subst (λ (o : Option Cert). Branch (facts parts) o) first_is a)

      second_side : BranchAnswers (dividing_by rest) (length rest + 65) rows
          (facts_below (division_formed num d).form) second
      second_side =
          subst (λ (t : Body × Body × Body). BranchAnswers (dividing_by rest) (length rest + 65) rows
          (facts_below t) second) is
          (subst (λ (rs : List Row). BranchAnswers (dividing_by rest) (length rest + 65) rs
          (facts_below parts) second) same b)

      -- the second decides
      second_said : dividing_by (ratio ∷ rest) rows ≡
          formed_said (dividing_by rest) rows (facts_below (division_formed num d).form)
      second_said =
          sides_said zero keeps ∙
          ap (λ f. and_also f (formed_said (dividing_by rest) rows
          (facts_below (division_formed num d).form))) first_side.0

      pub division_beyond : second ≡ Err Large → dividing_by (ratio ∷ rest) rows ≡ Beyond
      division_beyond large =
          second_said ∙ subst (λ (r : Result (Option Cert) FmEnd).
          BranchAnswers (dividing_by rest) (length rest + 65) rows
          (facts_below (division_formed num d).form) r) large second_side refl

      pub division_step : AreRatiosOf (ratio ∷ rest) rows → (both : Option (Cert × Cert))
          (whole : Option Cert) → second ≡ Ok (option_map (λ x. x.1) both) →
          IfSome both (λ x. x.0 ≡ pos) → whole ≡ option_map (λ x. DivFacts num d x.0 x.1) both →
          AnswersFor (dividing_by (ratio ∷ rest)) (length rest + 66) rows (Ok whole)
      division_step own both whole found first_same made =
          subst (λ (w : Option Cert). AnswersFor (dividing_by (ratio ∷ rest)) (length rest + 66) rows
          (Ok w)) (sym made) (by both first_same
          (subst (λ (r : Result (Option Cert) FmEnd). BranchAnswers (dividing_by rest)
          (length rest + 65) rows (facts_below (division_formed num d).form) r) found second_side))
        where
          by : (o : Option (Cert × Cert)) → IfSome o (λ x. x.0 ≡ pos) →
              Branch (facts_below (division_formed num d).form) (option_map (λ x. x.1) o) →
              AnswersFor (dividing_by (ratio ∷ rest)) (length rest + 66) rows
              (Ok (option_map (λ x. DivFacts num d x.0 x.1) o))
          by None f h = second_said ∙ h
          by (Some x) f h = (
            second_said ∙ h.0,
            subst (λ (c : Cert). IsCertificate (length rest + 66) rows (DivFacts num d c x.1)) (sym f)
                (both_sides pos x.1 own zero keeps first_side h),
          )

  -- a dividend that is the same
  pub same_dividend : (other : Body) (r : Result (Option Cert) FmEnd) → num ≡ other →
      AnswersFor (dividing_by (ratio ∷ rest)) (length rest + 66) rows r →
      AnswersFor (dividing_by (record { num = other; den = d } ∷ rest)) (length rest + 66) rows r
  same_dividend other r is a =
      subst (λ (p : Body). AnswersFor (dividing_by (record { num = p; den = d } ∷ rest))
      (length rest + 66) rows r) is a

-- the first ratios of the rows
pub dividing_answers : (rows lent : List Row) (rs : List Ratio) (r : Result (Option Cert) FmEnd) →
    rs ≡ take 3 (all_ratios lent) → lent ≡ rows →
    AnswersFor (dividing_by rs) (length rs + 65) rows r → AnswersFor dividing 68 rows r
dividing_answers rows lent rs r first same a =
    let own : rs ≡ take 3 (all_ratios rows) = first ∙ ap (λ xs. take 3 (all_ratios xs)) same in
    let few = few_taken 3 (all_ratios rows) in
    let count : length rs ≤ 3 = subst (λ (xs : List Ratio). length xs ≤ 3) (sym own) few in
    same_answers (dividing_by rs) dividing (length rs + 65) 68 rows r
    (ap (λ xs. dividing_by xs rows) own) (omega (arith, count)) a

-- ---- disequalities

module _ (i : ℕ) (rest : List ℕ) (rows : List Row) (p : Body) where
  abbrev Side : Formed Row → Option Cert → Type 0
  Side row o = BranchAnswers (differing_at rest) (length rest + 68) rows (one_formed row) (Ok o)

  -- what is known where the first side is refuted
  module _ (lent : List Row) (first : Option Cert) (pos : Cert)
      (second : Result (Option Cert) FmEnd) (is : disequal (slice_get rows i) ≡ Some p)
      (same : lent ≡ rows) (first_is : first ≡ Some pos) (a : Side (above p) first)
      (b : BranchAnswers (differing_at rest) (length rest + 68) lent (one_formed (below p)) second)
    where
      one : Side (above p) (Some pos)
      one = subst (λ (o : Option Cert). Side (above p) o) first_is a

      other : BranchAnswers (differing_at rest) (length rest + 68) rows (one_formed (below p)) second
      other =
          subst (λ (rs : List Row). BranchAnswers (differing_at rest) (length rest + 68) rs
          (one_formed (below p)) second) same b

      -- the second decides
      other_said : differing_at (i ∷ rest) rows ≡
          formed_said (differing_at rest) rows (one_formed (below p))
      other_said =
          ap (λ o. differ_finding o rows (differing_at rest) (differing_at rest)) is ∙
          ap (λ f. and_also f (formed_said (differing_at rest) rows (one_formed (below p)))) one.0

      pub difference_beyond : second ≡ Err Large → differing_at (i ∷ rest) rows ≡ Beyond
      difference_beyond large =
          other_said ∙ subst (λ (r : Result (Option Cert) FmEnd).
          BranchAnswers (differing_at rest) (length rest + 68) rows (one_formed (below p)) r) large
          other refl

      both_differ : (neg : Cert) → Side (below p) (Some neg) →
          IsCertificate (length rest + 69) rows (Differ i pos neg)
      both_differ neg h =
          let first = within_parts (is_within (one_less p))
          (differing_at rest (rows ++ Ge (one_less p) ∷ [])) one.0 in
          let second = within_parts (negation_within (Ge p))
          (differing_at rest (rows ++ negation (Ge p) ∷ [])) h.0 in
          wider (omega arith) (differ_certificate (length rest + 68) rows i p pos neg is first.0
          second.0 one.1 h.1)

      pub difference_step : (both : Option (Cert × Cert)) (whole : Option Cert) → second ≡
          Ok (option_map (λ x. x.1) both) → IfSome both (λ x. x.0 ≡ pos) → whole ≡
          option_map (λ x. Differ i x.0 x.1) both →
          AnswersFor (differing_at (i ∷ rest)) (length rest + 69) rows (Ok whole)
      difference_step both whole found first_same made =
          subst (λ (w : Option Cert). AnswersFor (differing_at (i ∷ rest)) (length rest + 69) rows
          (Ok w)) (sym made) (by both first_same
          (subst (λ (r : Result (Option Cert) FmEnd). BranchAnswers (differing_at rest)
          (length rest + 68) rows (one_formed (below p)) r) found other))
        where
          by : (o : Option (Cert × Cert)) → IfSome o (λ x. x.0 ≡ pos) →
              Side (below p) (option_map (λ x. x.1) o) →
              AnswersFor (differing_at (i ∷ rest)) (length rest + 69) rows
              (Ok (option_map (λ x. Differ i x.0 x.1) o))
          by None f h = other_said ∙ h
          by (Some x) f h = (
            other_said ∙ h.0,
            subst (λ (c : Cert). IsCertificate (length rest + 69) rows (Differ i c x.1)) (sym f)
                (both_differ x.1 h),
          )

-- the first disequalities of the rows
pub differing_answers : (rows lent : List Row) (is : List ℕ) (r : Result (Option Cert) FmEnd) → is ≡
    take 6 (disequalities_from 0 lent) → lent ≡ rows →
    AnswersFor (differing_at is) (length is + 68) rows r → AnswersFor differing 74 rows r
differing_answers rows lent is r first same a =
    let own : is ≡ take 6 (disequalities_from 0 rows) = first ∙
    ap (λ xs. take 6 (disequalities_from 0 xs)) same in
    let few = few_taken 6 (disequalities_from 0 rows) in
    let count : length is ≤ 6 = subst (λ (xs : List ℕ). length xs ≤ 6) (sym own) few in
    same_answers (differing_at is) differing (length is + 68) 74 rows r
    (ap (λ xs. differing_at xs rows) own) (omega (arith, count)) a

-- ---- variables that rows say the value of

-- no variable is replaced any more
pub no_more_solved : (n : ℕ) (rows lent : List Row) (r : Result (Option Cert) FmEnd) → n ≡ 0 →
    AnswersFor differing 74 rows r → AnswersFor (solving n) (n + 74) rows r
no_more_solved n rows lent r zero a =
    same_answers differing (solving n) 74 (n + 74) rows r
    (sym (solving_none rows) ∙ ap (λ k. solving k rows) (sym zero)) (omega arith) a

solved_or_not : (n : ℕ) (rows : List Row) (o : Option Pivot) → first_pivot rows ≡ o → (m : ℕ) → n ≡
    suc m → solving n rows ≡ solving_with o (solving m) rows
solved_or_not n rows o is m count =
    ap (λ k. solving k rows) count ∙ solving_next m rows ∙
    ap (λ q. solving_with q (solving m) rows) is

-- no row says the value of a variable
pub none_solved : (n : ℕ) (rows lent : List Row) (o : Option Pivot) (r : Result (Option Cert) FmEnd)
    → lent ≡ rows → o ≡ first_pivot lent → o ≡ None → AnswersFor differing 74 rows r →
    AnswersFor (solving n) (n + 74) rows r
none_solved n rows lent o r same found none a =
    same_answers differing (solving n) 74 (n + 74) rows r
    (sym (solving_without n rows (sym (found ∙ ap first_pivot same) ∙ none))) (omega arith) a

-- one does
pub one_solved : (n m : ℕ) (rows lent other : List Row) (o : Option Pivot) (p : Pivot)
    (r : Result (Option Cert) FmEnd) → n ≡ suc m → lent ≡ rows → other ≡ rows → o ≡
    first_pivot lent → o ≡ Some p →
    AnswersFor (level (Cert-F.Solve p.first p.second p.variable (solving m))) (m + 75) other r →
    AnswersFor (solving n) (n + 74) rows r
one_solved n m rows lent other o p r count same again found some a =
    same_answers (level (Cert-F.Solve p.first p.second p.variable (solving m))) (solving n) (m + 75)
    (n + 74) rows r
    (sym (solved_or_not n rows (Some p) (sym (found ∙ ap first_pivot same) ∙ some) m count))
    (omega (arith, count))
    (subst (λ (rs : List Row). AnswersFor (level
    (Cert-F.Solve p.first p.second p.variable (solving m))) (m + 75) rs r) again a)

-- an answer about the changed rows, once they are formed
pub formed_answer : (says : List Row → Said) (most : ℕ) (more : Formed (List Row))
    (changed : List Row) (r : Result (Option Cert) FmEnd) → changed ≡ more.form → more.within ≡ true →
    AnswersFor says most changed r → BranchAnswers says most [] more r
formed_answer says most more changed r is keeps a =
    by r (subst (λ (rs : List Row). AnswersFor says most rs r) is a)
  where
    said : formed_said says [] more ≡ says more.form
    said = ap (λ b. guard b (says more.form)) keeps

    by : (q : Result (Option Cert) FmEnd) → AnswersFor says most more.form q →
        BranchAnswers says most [] more q
    by (Ok None) h = said ∙ h
    by (Ok (Some cert)) h = (said ∙ h.0, h.1)
    by (Err e) h = λ large. said ∙ h large

-- what is found with the value in place of the variable
module _ (i j x : ℕ) (says : List Row → Said) (most : ℕ) (rows : List Row) (p v : Body)
    (zero : zero_polynomial rows i j ≡ Some p) (value : solution x p ≡ Some v)
    (keeps : solution_within x p ≡ true) where
  pub replaced_said : level (Cert-F.Solve i j x says) rows ≡
      formed_said says [] (rows_with ((x, v) ∷ []) rows)
  replaced_said =
      ap (λ o. solve_finding x o rows says) zero ∙
      (λ i. guard (keeps i) (replaced_finding x (value i) rows says))

  pub replaced_answer : (many : ℕ) → most + 1 ≤ many → (found whole : Option Cert) →
      BranchAnswers says most [] (rows_with ((x, v) ∷ []) rows) (Ok found) → whole ≡
      option_map (λ c. Solve i j x c) found →
      AnswersFor (level (Cert-F.Solve i j x says)) many rows (Ok whole)
  replaced_answer many spare found whole answer made =
      subst (λ (w : Option Cert). AnswersFor (level (Cert-F.Solve i j x says)) many rows (Ok w))
      (sym made) (by found answer)
    where
      by : (f : Option Cert) → BranchAnswers says most [] (rows_with ((x, v) ∷ []) rows) (Ok f) →
          AnswersFor (level (Cert-F.Solve i j x says)) many rows
          (Ok (option_map (λ c. Solve i j x c) f))
      by None a = replaced_said ∙ a
      by (Some cert) a =
          let made = within_parts (rows_within ((x, v) ∷ []) rows)
          (says (subst_rows ((x, v) ∷ []) rows)) a.0 in (
            replaced_said ∙ a.0,
            wider spare (solve_certificate most rows i j x p v cert zero keeps value made.0 a.1),
          )

-- ---- what answers mean

pub answer_unmet : (r : Result (Option Cert) FmEnd) (rows : List Row) → Answers rows r →
    IfOk r (λ o. IfSome o (λ c. (a : ℕ → ℤ) → AllHold a rows → ⊥))
answer_unmet (Ok None) rows h = tt
answer_unmet (Ok (Some cert)) rows h = λ a holds. unmet rows cert h.1.refutes a holds
answer_unmet (Err e) rows h = tt

pub negation_shows : (rows : List Row) (row : Row) (o : Option Cert) (cert : Cert) → o ≡ Some cert →
    NegationAnswers rows row (Ok o) → (a : ℕ → ℤ) → AllHold a rows → RowHolds a row
negation_shows rows row o cert is h a holds =
    let c : (negation_said refuted rows row ≡ Yes) ×
    IsCertificate most_deep (rows ++ negation row ∷ []) cert =
    subst (λ (f : Option Cert). NegationAnswers rows row (Ok f)) is h in
    let keeps = within_parts (negation_within row) (refuted (rows ++ negation row ∷ [])) c.0 in
    shown_holds rows row cert (ap (λ b. guard b (verdict (rows ++ negation row ∷ []) cert)) keeps.0
    ∙ c.1.refutes) a holds
