-- What comparisons over points are answered by: which statuses, and what a difference means.
use Rattle.std.proofs.Common.{◌≡◌, ◌<◌, ◌≤◌, ◌∙◌, ℕ, Bool, true, false, List, length, nat_lt, inl, inr, refl, sym, ap, arith}
use Rattle.std.proofs.lemmas.Bool.{le-ltb, lt-ltb}
use Rattle.std.specs.Prelude.{MatchBool}
use Rattle.c_front.specs.declared.pairs.Compared.{Compared}
use Rattle.c_front.specs.declared.stages.Next.TheVariants.{Goes}
use Rattle.c_refute.specs.declared.findings.Compared as comparison
use Rattle.c_refute.specs.declared.findings.Compared.TheVariants as found
use Rattle.c_refute.specs.Points.{IsComparison, finding_at}
use Rattle.rx_command.specs.Commands.{Functions}
use Rattle.rx_command.specs.declared.command.Extent.{Extent}
use Rattle.rx_report.specs.declared.answer.Answer.{Answer}
use Rattle.rx_report.specs.declared.answer.Answer.TheVariants.{Line, Found}
use Rattle.rx_report.specs.declared.ends.Status.TheVariants as Ends
use Rattle.rx_report.specs.declared.verdicts.Verdict.{Verdict}
use Rattle.rx_report.specs.declared.verdicts.Verdict.TheVariants as Said
use Rattle.rx_report.specs.Ends.{found_status, status_in, status_of}
use Rattle.rx_cli.specs.Problems.{front_stage}
use Rattle.rx_cli.specs.Refutations.{IsFound, IsRefuted, OnPoints, Refutes, arity_in, most_points, points_in}
use Rattle.rx_cli.proofs.Checked.{status_refused}
use Rattle.rx_cli.proofs.Refuted.{difference_refutes}

-- no comparison has the status of equivalence
found_never : (c : comparison.Compared) → found_status c ≡ Ends.Equivalent → ⊥
found_never (found.Different arguments first second) e = cc
found_never (found.Alike points undecided) e = cc

module _ (f : Functions) (extent : Extent) (source : List ℕ) (answer : Answer) where
  refused : (verdict : Verdict) → answer ≡ Line verdict → status_of verdict ≡ Ends.Refused →
      status_in answer ≡ Ends.Refused
  refused verdict is status = ap status_in is ∙ status

  -- with a refusal the status is that of refusals
  module _ (compared : Compared) where
    by_count : (many : Bool) → MatchBool many (answer ≡ Line (Said.Box (arity_in compared)))
        (IsFound compared extent answer) → status_in answer ≡ Ends.Equivalent → ⊥
    by_count true is says =
        let no : Ends.Refused ≡ Ends.Equivalent = sym (ap status_in is) ∙ says in
        absurd (let none : ⊥ = cc in none)
    by_count false (c, comparison, is) says = found_never c (sym (ap status_in is) ∙ says)

    differs : front_stage f source (Goes compared) → (many : Bool) →
        MatchBool many (answer ≡ Line (Said.Box (arity_in compared)))
        (IsFound compared extent answer) → status_in answer ≡ Ends.Different → Refutes source f
    differs front true is says =
        let no : Ends.Refused ≡ Ends.Different = sym (ap status_in is) ∙ says in
        absurd (let none : ⊥ = cc in none)
    differs front false (found.Different arguments first second, difference, is) says =
        difference_refutes f source compared extent.side extent.rounds arguments first second front
        difference
    differs front false (found.Alike alike undecided, none, is) says =
        let no : Ends.Unknown ≡ Ends.Different = sym (ap status_in is) ∙ says in
        absurd (let none : ⊥ = cc in none)

  pub never_equivalent : IsRefuted f extent source answer → status_in answer ≡ Ends.Equivalent → ⊥
  never_equivalent (inl (verdict, (refusal, front, v_is), is)) says =
      let no : Ends.Refused ≡ Ends.Equivalent =
      sym (ap status_in is ∙ (ap status_of v_is ∙ status_refused refusal)) ∙ says in
      absurd (let none : ⊥ = cc in none)
  never_equivalent (inr (compared, front, on)) says =
      by_count compared (nat_lt most_points (length (points_in compared extent.side))) on says

  -- a difference is a counterexample
  pub different_refutes : IsRefuted f extent source answer → status_in answer ≡ Ends.Different →
      Refutes source f
  different_refutes (inl (verdict, (refusal, front, v_is), is)) says =
      let no : Ends.Refused ≡ Ends.Different =
      sym (ap status_in is ∙ (ap status_of v_is ∙ status_refused refusal)) ∙ says in
      absurd (let none : ⊥ = cc in none)
  different_refutes (inr (compared, front, on)) says =
      differs compared front (nat_lt most_points (length (points_in compared extent.side))) on says

-- what a comparison answers
module _ (compared : Compared) (extent : Extent) where
  pub on_found : (c : comparison.Compared)
      → IsComparison (finding_at compared.two.program compared.two.first compared.two.second
      compared.precondition extent.rounds) (points_in compared extent.side) c
      → (most_points < length (points_in compared extent.side) → ⊥) →
      OnPoints compared extent (Found c)
  on_found c is few =
      let most : length (points_in compared extent.side) ≤ most_points = omega (arith, few) in
      rw (le-ltb most_points (length (points_in compared extent.side)) most) (c, is, refl)

  pub on_many : (n : ℕ) → n ≡ arity_in compared → most_points <
      length (points_in compared extent.side) → OnPoints compared extent (Line (Said.Box n))
  on_many n is many =
      rw (lt-ltb most_points (length (points_in compared extent.side)) many)
      (ap (λ m. Line (Said.Box m)) is)
