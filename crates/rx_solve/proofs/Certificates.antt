-- A certificate for the rows that come next makes one for the rows: one lemma for each kind.
use Rattle.std.proofs.Common.{◌≡◌, ◌∙◌, ap, subst, refl, arith, cond, ℕ, ◌+◌, ◌==◌, ◌≤◌, Bool, true, false, ◌&&◌, Option, Some, None, List, [], ◌∷◌, ◌++◌, slice_get, ℤ}
use Rattle.std.proofs.lemmas.Bool.{and_from}
use Rattle.rx_poly.specs.Limits.{is_within}
use Rattle.rx_poly.specs.Terms.{is_zero}
use Rattle.rx_poly.specs.declared.body.Body.{Body, out-Body}
use Rattle.rx_poly_laws.specs.Tests.{passes}
use Rattle.rx_row.specs.Negation.{negation, negation_within}
use Rattle.rx_row.specs.Parts.{parts_within, sum_of}
use Rattle.rx_row.specs.Substitution.{subst_rows, rows_within}
use Rattle.rx_row.specs.declared.row.Row.{Row}
use Rattle.rx_row.specs.declared.row.Row.TheVariants.{Ge, Eq, Ne}
use Rattle.rx_cert.specs.Differences.{differ_finding, disequal, one_less}
use Rattle.rx_cert.specs.DivisionFacts.{at_least_zero_within, below_zero_within, rows_at_least_zero, rows_below_zero}
use Rattle.rx_cert.specs.Elimination.{are_opposite, of_opposites, replaced_finding, solution, solution_within, solve_finding, zero_of, zero_polynomial}
use Rattle.rx_cert.specs.Examination.{examined}
use Rattle.rx_cert.specs.Findings.{Said, Yes, No, and_also, with_row, guard}
use Rattle.rx_cert.specs.Rounding.{rounding_row}
use Rattle.rx_cert.specs.Sums.{sum_finding}
use Rattle.rx_cert.specs.Variables.{cert_passes, rows_pass}
use Rattle.rx_cert.specs.declared.cert.Cert.{Cert}
use Rattle.rx_cert.specs.declared.cert.Cert.TheVariants.{Sum, Cut, Differ, Solve, DivFacts}
use Rattle.rx_cert.proofs.Equations.{depth_cut, depth_differ, depth_division, depth_solve, depth_sum, finding_cut, finding_differ, finding_division, finding_solve, finding_sum, passes_cut, passes_differ, passes_division, passes_solve, passes_sum}
use Rattle.rx_solve.specs.Answers.{IsCertificate}
use Rattle.rx_solve.proofs.OwnVariables.{at_passes, facts_below_pass, facts_pass, in_rows_pass, less_one_passes, negation_passes, rounding_passes, solution_passes, with_row_passes, with_rows_pass}

-- what is found after what keeps the limits
pub within_yes : {b : Bool} {later : Said} → b ≡ true → later ≡ Yes → guard b later ≡ Yes
within_yes {b} {later} e h = ap (λ c. guard c later) e ∙ h

-- and of two parts
pub both_yes : {before later : Said} → before ≡ Yes → later ≡ Yes → and_also before later ≡ Yes
both_yes {before} {later} e h = ap (λ c. and_also c later) e ∙ h

-- room to spare does no harm
pub wider : {few many : ℕ} {rows : List Row} {cert : Cert} → few ≤ many →
    IsCertificate few rows cert → IsCertificate many rows cert
wider {few} {many} h c =
    let less = c.deep in record {
      refutes = c.refutes;
      deep = omega (arith, h, less);
      own_variables = c.own_variables;
    }

pub sum_certificate : (rows : List Row) (ps : List (ℕ × ℤ)) → sum_finding rows ps ≡ Yes →
    IsCertificate 1 rows (Sum ps)
sum_certificate rows ps e = let deep = depth_sum ps in record {
  refutes = finding_sum rows ps ∙ e;
  deep = omega (arith, deep);
  own_variables = λ test h. passes_sum test ps;
}

module _ (most : ℕ) (rows : List Row) where
  pub cut_certificate : (ps : List (ℕ × ℤ)) (d : ℤ) (row : Row) (rest : Cert) →
      parts_within rows ps ≡ true → rounding_row d (sum_of rows ps) ≡ Some row →
      IsCertificate most (rows ++ row ∷ []) rest → IsCertificate (most + 1) rows (Cut ps d rest)
  cut_certificate ps d row rest keeps made c =
      let deep = depth_cut ps d rest in
      let less = c.deep in
      record {
        refutes =
            finding_cut rows ps d rest ∙ within_yes keeps
            (ap (λ r. with_row rows r (examined rest)) made ∙ c.refutes);
        deep = omega (arith, deep, less);
        own_variables =
            λ test h. passes_cut test ps d rest ∙
            c.own_variables test (with_row_passes test rows row h
            (rounding_passes test rows ps d row h made));
      }

  disequal_passes : (test : ℕ → Bool) (i : ℕ) (p : Body) → disequal (slice_get rows i) ≡ Some p →
      rows_pass test rows ≡ true → passes test p ≡ true
  disequal_passes test i p e h = by (slice_get rows i) refl e
    where
      by : (o : Option Row) → slice_get rows i ≡ o → disequal o ≡ Some p → passes test p ≡ true
      by None is f = cc
      by (Some (Ge q)) is f = cc
      by (Some (Eq q)) is f = cc
      by (Some (Ne q)) is f =
          let same : q ≡ p = cc in subst (λ r. passes test r ≡ true) same
          (at_passes test rows i (Ne q) h is)

  pub differ_certificate : (i : ℕ) (p : Body) (first second : Cert) → disequal (slice_get rows i) ≡
      Some p → is_within (one_less p) ≡ true → negation_within (Ge p) ≡ true →
      IsCertificate most (rows ++ Ge (one_less p) ∷ []) first →
      IsCertificate most (rows ++ negation (Ge p) ∷ []) second →
      IsCertificate (most + 1) rows (Differ i first second)
  differ_certificate i p first second is keeps keeps_too a b =
      let deep = depth_differ i first second in
      let less = a.deep in
      let less_too = b.deep in
      record {
        refutes = finding_differ rows i first second
            ∙ ap (λ q. differ_finding q rows (examined first) (examined second)) is
            ∙ both_yes (within_yes keeps a.refutes) (within_yes keeps_too b.refutes);
        deep = omega (arith, deep, less, less_too);
        own_variables = λ test h.
            let own = disequal_passes test i p is h in
            passes_differ test i first second
            ∙ and_from (cert_passes test first) (cert_passes test second)
            (a.own_variables test (with_row_passes test rows (Ge (one_less p)) h
            (less_one_passes test p own)))
            (b.own_variables test (with_row_passes test rows (negation (Ge p)) h
            (negation_passes test (Ge p) own)));
      }

  zero_passes : (test : ℕ → Bool) (i j : ℕ) (p : Body) → zero_polynomial rows i j ≡ Some p →
      rows_pass test rows ≡ true → passes test p ≡ true
  zero_passes test i j p e h = by (slice_get rows i) refl e
    where
      same_some : (b : Bool) (q : Body) → cond b (Some q) None ≡ Some p → q ≡ p
      same_some true q f = cc
      same_some false q f = cc

      opposed : (q : Body) (o : Option Row) → of_opposites q o ≡ Some p → q ≡ p
      opposed q None f = cc
      opposed q (Some (Ge r)) f = same_some (are_opposite (out-Body q).terms (out-Body r).terms) q f
      opposed q (Some (Eq r)) f = cc
      opposed q (Some (Ne r)) f = cc

      by : (o : Option Row) → slice_get rows i ≡ o → zero_of (i == j) o (slice_get rows j) ≡
          Some p → passes test p ≡ true
      by None is f = cc
      by (Some (Ge q)) is f =
          subst (λ r. passes test r ≡ true) (opposed q (slice_get rows j) f)
          (at_passes test rows i (Ge q) h is)
      by (Some (Eq q)) is f =
          subst (λ r. passes test r ≡ true) (same_some (i == j) q f)
          (at_passes test rows i (Eq q) h is)
      by (Some (Ne q)) is f = cc

  pub solve_certificate : (i j x : ℕ) (p v : Body) (rest : Cert) → zero_polynomial rows i j ≡
      Some p → solution_within x p ≡ true → solution x p ≡ Some v → rows_within ((x, v) ∷ []) rows ≡
      true →
      IsCertificate most (subst_rows ((x, v) ∷ []) rows) rest →
      IsCertificate (most + 1) rows (Solve i j x rest)
  solve_certificate i j x p v rest zero keeps value keeps_too c =
      let deep = depth_solve i j x rest in
      let less = c.deep in
      record {
        refutes = finding_solve rows i j x rest
            ∙ ap (λ w. solve_finding x w rows (examined rest)) zero
            ∙ within_yes keeps (ap (λ w. replaced_finding x w rows (examined rest)) value ∙
            within_yes keeps_too c.refutes);
        deep = omega (arith, deep, less);
        own_variables = λ test h.
            let own = solution_passes test x p v (zero_passes test i j p zero h) value in
            passes_solve test i j x rest ∙ and_from (test x) (cert_passes test rest) own.0
            (c.own_variables test (in_rows_pass test x v own.1 rows h));
      }

  pub division_certificate : (num : Body) (d : ℤ) (first second : Cert) → is_zero d ≡ false →
      at_least_zero_within num d ≡ true → below_zero_within num d ≡ true →
      ((test : ℕ → Bool) → rows_pass test rows ≡ true → passes test num ≡ true) →
      IsCertificate most (rows ++ rows_at_least_zero num d) first →
      IsCertificate most (rows ++ rows_below_zero num d) second →
      IsCertificate (most + 1) rows (DivFacts num d first second)
  division_certificate num d first second is keeps keeps_too own a b =
      let deep = depth_division num d first second in
      let less = a.deep in
      let less_too = b.deep in
      record {
        refutes = finding_division rows num d first second
            ∙ ap (λ c. cond c No (and_also (guard (at_least_zero_within num d)
            (examined first (rows ++ rows_at_least_zero num d)))
            (guard (below_zero_within num d)
            (examined second (rows ++ rows_below_zero num d))))) is
            ∙ both_yes (within_yes keeps a.refutes) (within_yes keeps_too b.refutes);
        deep = omega (arith, deep, less, less_too);
        own_variables = λ test h.
            passes_division test num d first second
            ∙ and_from (passes test num) (cert_passes test first && cert_passes test second)
            (own test h)
            (and_from (cert_passes test first) (cert_passes test second)
            (a.own_variables test (with_rows_pass test rows (rows_at_least_zero num d) h
            (facts_pass test num d (own test h))))
            (b.own_variables test (with_rows_pass test rows (rows_below_zero num d) h
            (facts_below_pass test num d (own test h)))));
      }
