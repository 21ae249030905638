-- A sum of rows that hold is at least 0, so a negative one refutes them.
use Rattle.std.proofs.Common.{◌≡◌, subst, refl, cond, ℕ, Bool, true, false, Option, Some, None, List, ℤ, pos, negsuc, ◌≤ℤ◌, int_lt, arith}
use Rattle.std.proofs.lemmas.Int.{ints}
use Rattle.std.proofs.lemmas.Bool.{ltb-true}
use Rattle.rx_poly.proofs.DivisionLaws.{constant_value}
use Rattle.rx_poly.specs.Constants.{number}
use Rattle.rx_poly.specs.Reading.{constant_of}
use Rattle.rx_poly.specs.Value.{value}
use Rattle.rx_poly.specs.declared.body.Body.{Body, out-Body}
use Rattle.rx_row.specs.Holds.{AllHold}
use Rattle.rx_row.specs.Parts.{are_lawful, parts_within, sum_from, sum_of}
use Rattle.rx_row.specs.declared.row.Row.{Row}
use Rattle.rx_row.proofs.PartLaws.{lawful_sum}
use Rattle.rx_cert.specs.Findings.{Yes, said}
use Rattle.rx_cert.specs.Sums.{is_below_zero, is_negative, sum_finding}
use Rattle.rx_cert.proofs.FindingLaws.{said_yes, within_parts}

-- a sum of parts of rows that hold has a value of at least 0
pub sum_holds : (a : ℕ → ℤ) (rows : List Row) (ps : List (ℕ × ℤ)) (p : Body) → AllHold a rows →
    sum_of rows ps ≡ Some p → pos 0 ≤ℤ value a p
sum_holds a rows ps p holds e = by (are_lawful rows ps) refl e
  where
    by : (b : Bool) → are_lawful rows ps ≡ b →
        cond b (Some (sum_from (number (pos 0)) rows ps)) None ≡ Some p → pos 0 ≤ℤ value a p
    by true h f =
        let same : sum_from (number (pos 0)) rows ps ≡ p = cc in
        subst (λ q. pos 0 ≤ℤ value a q) same (lawful_sum a rows ps h holds)
    by false h f = cc

-- a number below 0 is not at least 0
below_contradicts : (o : Option ℤ) (z : ℤ) → ((k : ℤ) → o ≡ Some k → z ≡ k) → is_below_zero o ≡
    true → pos 0 ≤ℤ z → ⊥
below_contradicts None z worth h g = cc
below_contradicts (Some k) z worth h g =
    let same = worth k refl in
    let below = k_below k h in
    omega (arith, ints)
  where
    k_below : (k : ℤ) → int_lt k (pos 0) ≡ true → k ≤ℤ negsuc 0
    k_below (pos n) e = absurd (omega (arith, ltb-true n 0 e))
    k_below (negsuc n) e = omega (arith, ints)

negative_contradicts : (a : ℕ → ℤ) (o : Option Body) →
    ((p : Body) → o ≡ Some p → pos 0 ≤ℤ value a p) → is_negative o ≡ true → ⊥
negative_contradicts a None holds h = cc
negative_contradicts a (Some p) holds h =
    below_contradicts (constant_of (out-Body p).terms) (value a p) (λ k e. constant_value a p k e) h
    (holds p refl)

-- rows with a negative sum are met by no assignment
pub sum_refutes : (a : ℕ → ℤ) (rows : List Row) (ps : List (ℕ × ℤ)) → sum_finding rows ps ≡ Yes →
    AllHold a rows → ⊥
sum_refutes a rows ps e holds =
    let found = within_parts (parts_within rows ps) (said (is_negative (sum_of rows ps))) e in
    negative_contradicts a (sum_of rows ps) (λ p s. sum_holds a rows ps p holds s)
    (said_yes (is_negative (sum_of rows ps)) found.1)
