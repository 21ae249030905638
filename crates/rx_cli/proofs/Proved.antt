-- Where a search answers that the functions are equal, it gives a proof, and they agree.
use Rattle.std.proofs.Common.{◌≡◌, ◌∙◌, ℕ, List, inl, inr, sym, ap, subst}
use Rattle.c_front.specs.declared.stages.Next.TheVariants.{Goes}
use Rattle.rx_command.specs.Commands.{Functions}
use Rattle.rx_command.specs.declared.command.Effort.{Effort}
use Rattle.rx_search.specs.Search.{Searched, NoRanks, LargeRanks, Closed, Large, Spent, NoPlan}
use Rattle.rx_moves.specs.Moves.{Move}
use Rattle.rx_report.specs.declared.answer.Answer.{Answer}
use Rattle.rx_report.specs.declared.answer.Answer.TheVariants.{Line}
use Rattle.rx_report.specs.declared.ends.Status.TheVariants as Ends
use Rattle.rx_cli.specs.declared.problems.Problem.{Problem}
use Rattle.rx_report.specs.declared.verdicts.Verdict.{Verdict}
use Rattle.rx_report.specs.declared.verdicts.Verdict.TheVariants as Said
use Rattle.rx_cli.specs.Agreement.{Agrees}
use Rattle.rx_report.specs.Reports.{text_in}
use Rattle.rx_report.specs.Ends.{status_in, status_of}
use Rattle.rx_cli.specs.Problems.{asked}
use Rattle.rx_cli.specs.Proofs.{IsProofText, IsProved, OnSearched}
use Rattle.rx_cli.specs.Searches.{sought}
use Rattle.rx_cli.proofs.Checked.{never_asked}
use Rattle.rx_cli.proofs.Sound.{problem_agrees}

module _ (answer : Answer) (says : status_in answer ≡ Ends.Equivalent) where
  pub status_is : (verdict : Verdict) → answer ≡ Line verdict → status_of verdict ≡ Ends.Equivalent
  status_is verdict is = sym (ap status_in is) ∙ says

  -- the answer is the text of an accepted log
  pub searched_proof : (problem : Problem) (effort : Effort) (s : Searched) →
      OnSearched problem effort s answer
      → (moves : List Move) × IsProofText problem moves (text_in answer)
  searched_proof problem effort NoRanks is =
      let no : Ends.Unknown ≡ Ends.Equivalent = status_is Said.NoRanks is in
      absurd (let none : ⊥ = cc in none)
  searched_proof problem effort (LargeRanks rows) is =
      let no : Ends.Large ≡ Ends.Equivalent = status_is Said.LargeSearch is in
      absurd (let none : ⊥ = cc in none)
  searched_proof problem effort (Closed moves) (text, proof, is) =
      (moves, subst (IsProofText problem moves) (sym (ap text_in is)) proof)
  searched_proof problem effort (Large path rows) is =
      let no : Ends.Large ≡ Ends.Equivalent = status_is Said.LargeSearch is in
      absurd (let none : ⊥ = cc in none)
  searched_proof problem effort Spent is =
      let no : Ends.Unknown ≡ Ends.Equivalent = status_is (Said.Visits effort.budget) is in
      absurd (let none : ⊥ = cc in none)
  searched_proof problem effort NoPlan is =
      let no : Ends.Unknown ≡ Ends.Equivalent = status_is (Said.Depth effort.depth) is in
      absurd (let none : ⊥ = cc in none)

module _ (f : Functions) (source : List ℕ) (answer : Answer)
    (says : status_in answer ≡ Ends.Equivalent) where
  -- it is one for the problem that both functions pose
  pub proved_text : (effort : Effort) → IsProved f effort source answer
      → (problem : Problem) × asked f source (Goes problem) ×
      ((moves : List Move) × IsProofText problem moves (text_in answer))
  proved_text effort (inl (verdict, ended, is)) =
      absurd (never_asked verdict (status_is answer says verdict is) f source ended)
  proved_text effort (inr (problem, found, on)) = (
    problem,
    found,
    searched_proof answer says problem effort
        (sought problem.rules problem.goal effort.depth effort.budget) on,
  )

  -- both functions agree
  pub proved_agrees : (effort : Effort) → IsProved f effort source answer → Agrees source f
  proved_agrees effort proved =
      let (problem, (compared, front, is), (moves, proof)) = proved_text effort proved in
      problem_agrees f source compared problem front is proof.log proof.accepted
