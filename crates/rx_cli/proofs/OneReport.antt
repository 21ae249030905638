-- Words have one verdict, and one report but for what shows the steps of a proof, over files whose
-- contents are known and that find no fault.
use Rattle.std.proofs.Common.{◌≡◌, ◌∙◌, ◌⊎◌, ℕ, zero, suc, Bool, true, false, List, length, nat_lt, Option, Some, None, inl, inr, refl, sym, ap, subst}
use Rattle.std.specs.Prelude.{MatchBool, ⊤}
use Rattle.c_front.specs.declared.stages.Next.{Next}
use Rattle.c_front.specs.declared.stages.Next.TheVariants.{Ends, Goes}
use Rattle.c_front.proofs.OneCondition.{one_whole}
use Rattle.c_front.proofs.StageLaws.{IsOne, one_before}
use Rattle.c_front.specs.Front.{count_in}
use Rattle.rx_check.proofs.Pairs.{one_verdict}
use Rattle.c_ast.specs.declared.integers.Integers.{Integers}
use Rattle.rx_code.specs.Bounds.{rows_in}
use Rattle.rx_code.specs.Translation.{goal_at}
use Rattle.rx_code.proofs.CodeLawsTranslations.{not_beyond, one_translation, translation_made}
use Rattle.rx_command.specs.Commands.{Check, Command, Compare, Comparison, Demo, Find, Functions, Induction, Prove, Refute, Replay, Rules, Translate, command_of}
use Rattle.rx_command.specs.declared.command.Effort.{Effort}
use Rattle.rx_io.specs.Outside.{Names}
use Rattle.rx_log.specs.declared.log.Log.{Log}
use Rattle.rx_logtext.proofs.OneReading.{never_both, one_bad_line, one_log}
use Rattle.rx_search.specs.Search.{Searched, NoRanks, LargeRanks, Closed, Large, Spent, NoPlan}
use Rattle.rx_moves.specs.Moves.{Move}
use Rattle.rx_term.specs.WellMade.{IsWellMade}
use Rattle.rx_term.specs.declared.rule.Equation.{Equation}
use Rattle.rx_term.specs.declared.rule_set.RuleParts.{RuleParts}
use Rattle.c_front.proofs.Options.{none_some, same_some}
use Rattle.rx_report.specs.declared.answer.Answer.{Answer}
use Rattle.rx_report.specs.declared.answer.Answer.TheVariants.{Line, Proof, RuleText, Found}
use Rattle.rx_report.specs.declared.ends.Status.{Status}
use Rattle.rx_report.specs.declared.ends.Status.TheVariants as Ends
use Rattle.rx_cli.specs.declared.problems.Problem.{Problem}
use Rattle.rx_report.specs.declared.verdicts.Verdict.{Verdict}
use Rattle.rx_report.specs.declared.verdicts.Verdict.TheVariants as Said
use Rattle.rx_cli.specs.Answers.{AnswersSoundly, IsDone, IsInductionDone, OnComparison, OnInduction, OnSource, file_in, functions_in}
use Rattle.rx_report.specs.Reports.{text_in}
use Rattle.rx_cli.specs.Checks.{IsChecked, OnLog, OnRead, OnText, longest_log}
use Rattle.rx_report.specs.Ends.{status_in}
use Rattle.c_front.specs.declared.pairs.Compared.{Compared}
use Rattle.c_refute.proofs.OneComparison.{one_comparison}
use Rattle.c_refute.specs.Points.{finding_at}
use Rattle.rx_command.specs.declared.command.Extent.{Extent}
use Rattle.rx_cli.specs.Refutations.{IsFound, IsRefuted, OnPoints, arity_in, most_points, points_in}
use Rattle.rx_cli.specs.Examples.{IsShown, IsStatus, IsTally, example_effort, example_functions, example_source, verdict_on, with_status}
use Rattle.rx_cli.specs.declared.examples.Tally.{Tally}
use Rattle.rx_cli.specs.Inductions.{IsReplayed, IsSought, OnCoverage, of_induction}
use Rattle.rx_cli.specs.Problems.{asked, front_stage, longest_source, posed, problem_stage, rows_of}
use Rattle.rx_cli.specs.Translations.{IsWritten, OnWriting}
use Rattle.rx_find_cover.specs.Coverable.{coverage}
use Rattle.rx_rulefile.proofs.MadeRules.{made}
use Rattle.rx_rulefile.proofs.OneReading as reading
use Rattle.rx_rulefile.specs.RuleTexts.{first_unmade}
use Rattle.rx_cli.specs.Run.{Reports}
use Rattle.rx_cli.specs.Proofs.{AreOne, AreProofs, IsProofText, IsProved, OnProblem, OnSearched}
use Rattle.rx_cli.specs.Searches.{sought}
use Rattle.rx_report.specs.Verdicts.{of_log_verdict, verdict_of}
use Rattle.rx_cli.proofs.Ready.{ready}

-- two verdicts that are equal to one
equal_verdicts : (v w x : Verdict) → v ≡ x → w ≡ x → v ≡ w
equal_verdicts v w x v_is w_is = v_is ∙ sym w_is

-- it is a proof
abbrev IsProof : Answer → Type 0
IsProof (Line verdict) = ⊥
IsProof (Proof text) = ⊤
IsProof (RuleText text) = ⊥
IsProof (Found found) = ⊥

proof_status : (a : Answer) → IsProof a → status_in a ≡ Ends.Equivalent
proof_status (Line verdict) is = absurd is
proof_status (Proof text) is = refl
proof_status (RuleText text) is = absurd is
proof_status (Found found) is = absurd is

-- two answers are one, but for proofs of which this holds
abbrev AreAlike : Type 0 → Answer → Answer → Type 0
AreAlike Twice a b = (a ≡ b) ⊎ (IsProof a × (IsProof b × Twice))

alike_if : (P Q : Type 0) (a b : Answer) → (P → Q) → AreAlike P a b → AreAlike Q a b
alike_if P Q a b then_so (inl is) = inl is
alike_if P Q a b then_so (inr (first, (second, p))) = inr (first, (second, then_so p))

alike_status : (P : Type 0) (a b : Answer) → AreAlike P a b → status_in a ≡ status_in b
alike_status P a b (inl is) = ap status_in is
alike_status P a b (inr (first, (second, p))) = proof_status a first ∙ sym (proof_status b second)

alike_verdicts : (P : Type 0) (v w : Verdict) → AreAlike P (Line v) (Line w) → v ≡ w
alike_verdicts P v w (inl is) = cc
alike_verdicts P v w (inr (first, both)) = absurd first

equal_answers : (P : Type 0) (a b c : Answer) → a ≡ c → b ≡ c → AreAlike P a b
equal_answers P a b c a_is b_is = inl (a_is ∙ sym b_is)

alike_lines : (P : Type 0) (a b : Answer) (v w : Verdict) → a ≡ Line v → b ≡ Line w → v ≡ w →
    AreAlike P a b
alike_lines P a b v w a_is b_is same =
    inl (a_is ∙ (ap (λ (verdict : Verdict). Line verdict) same ∙ sym b_is))

-- ---- stages

one_front_stage : (f : Functions) → IsOne (front_stage f)
one_front_stage f source (Ends v) (Ends w) (r, p, v_is) (s, q, w_is) =
    v_is ∙ (ap verdict_of (one_whole f.integers source f.first f.second f.precondition (Ends r)
    (Ends s) p q) ∙
    sym w_is)
one_front_stage f source (Ends v) (Goes c) (r, p, v_is) q =
    one_whole f.integers source f.first f.second f.precondition (Ends r) (Goes c) p q
one_front_stage f source (Goes c) (Ends w) p (s, q, w_is) =
    one_whole f.integers source f.first f.second f.precondition (Goes c) (Ends s) p q
one_front_stage f source (Goes c) (Goes d) p q =
    one_whole f.integers source f.first f.second f.precondition (Goes c) (Goes d) p q

no_both : (b : Bool) → b ≡ true → b ≡ false → ⊥
no_both b holds fails = let e : true ≡ false = sym holds ∙ fails in cc

one_problem : (integers : Integers) → IsOne (problem_stage integers)
one_problem integers c (Ends v) (Ends w) (inl (beyond, v_is)) (inl (again, w_is)) =
    equal_verdicts v w Said.LargeTranslate v_is w_is
one_problem integers c (Ends v) (Ends w) (inl (beyond, v_is)) (inr (t, within, w_is)) =
    absurd (not_beyond integers c.two.program c.two.first c.two.second t.rules t.first t.second t.is
    beyond)
one_problem integers c (Ends v) (Ends w) (inr (t, within, v_is)) (inl (beyond, w_is)) =
    absurd (not_beyond integers c.two.program c.two.first c.two.second t.rules t.first t.second t.is
    beyond)
one_problem integers c (Ends v) (Ends w) (inr (t, within, v_is)) (inr (u, again, w_is)) =
    equal_verdicts v w Said.LargePre v_is w_is
one_problem integers c (Ends v) (Goes q) (inl (beyond, v_is)) is =
    not_beyond integers c.two.program c.two.first c.two.second q.rules is.first is.second
    is.translated
    beyond
one_problem integers c (Ends v) (Goes q) (inr (t, beyond, v_is)) is =
    no_both (rows_of c.precondition).within is.within beyond
one_problem integers c (Goes q) (Ends w) is (inl (beyond, w_is)) =
    not_beyond integers c.two.program c.two.first c.two.second q.rules is.first is.second
    is.translated
    beyond
one_problem integers c (Goes q) (Ends w) is (inr (t, beyond, w_is)) =
    no_both (rows_of c.precondition).within is.within beyond
one_problem integers c (Goes q) (Goes r) is too =
    let same = one_translation integers c.two.program c.two.first c.two.second q.rules r.rules
    is.first
    is.second too.first too.second is.translated too.translated in
    let goals : q.goal ≡ r.goal = is.goal
    ∙ ((λ i. goal_at (same.first_same i) (same.second_same i) (count_in c.two.program c.two.first)
    (rows_in integers (count_in c.two.program c.two.first) (rows_of c.precondition).form)) ∙
    sym too.goal) in
    λ i. record { rules = same.parts_same i; goal = goals i }

pub one_asked : (f : Functions) → IsOne (asked f)
one_asked f = one_before (front_stage f) (problem_stage f.integers) (one_front_stage f)
    (one_problem f.integers)

-- ---- rule texts

-- one number is that of the first rule that isn't well made
same_rule : (parts other : RuleParts) (goal wanted : Equation) (m n : ℕ) → parts ≡ other → goal ≡
    wanted → first_unmade parts goal ≡ Some m → first_unmade other wanted ≡ Some n → m ≡ n
same_rule parts other goal wanted m n p g first second =
    let path : first_unmade parts goal ≡ first_unmade other wanted =
    λ i. first_unmade (p i) (g i) in same_some first (path ∙ second)

none_unmade : (parts other : RuleParts) (goal wanted : Equation) (m : ℕ) → parts ≡ other → goal ≡
    wanted → first_unmade parts goal ≡ Some m → first_unmade other wanted ≡ None → ⊥
none_unmade parts other goal wanted m p g first second =
    let path : first_unmade parts goal ≡ first_unmade other wanted =
    λ i. first_unmade (p i) (g i) in none_some (path ∙ second) first

pub one_posed : IsOne posed
one_posed source (Ends v) (Ends w) (inl (m, bad, v_is)) (inl (n, too, w_is)) =
    v_is ∙ (ap Said.RuleLine (reading.one_bad_line source m n bad too) ∙ sym w_is)
one_posed source (Ends v) (Ends w) (inl (m, bad, v_is)) (inr (parts, goal, k, text, unmade, w_is)) =
    absurd (reading.never_both source parts goal m text bad)
one_posed source (Ends v) (Ends w) (inr (parts, goal, k, text, unmade, v_is)) (inl (n, bad, w_is)) =
    absurd (reading.never_both source parts goal n text bad)
one_posed source (Ends v) (Ends w) (inr (parts, goal, k, text, unmade, v_is))
    (inr (other, wanted, l, again, too, w_is)) =
    let same = reading.one source parts other goal wanted text again in
    v_is ∙ (ap Said.NotMade (same_rule parts other goal wanted k l same.0 same.1 unmade too) ∙
    sym w_is)
one_posed source (Ends v) (Goes q) (inl (m, bad, v_is)) (text, none) =
    reading.never_both source q.rules q.goal m text bad
one_posed source (Ends v) (Goes q) (inr (parts, goal, k, text, unmade, v_is)) (again, none) =
    let same = reading.one source parts q.rules goal q.goal text again in
    none_unmade parts q.rules goal q.goal k same.0 same.1 unmade none
one_posed source (Goes q) (Ends w) (text, none) (inl (n, bad, w_is)) =
    reading.never_both source q.rules q.goal n text bad
one_posed source (Goes q) (Ends w) (again, none) (inr (parts, goal, k, text, unmade, w_is)) =
    let same = reading.one source parts q.rules goal q.goal text again in
    none_unmade parts q.rules goal q.goal k same.0 same.1 unmade none
one_posed source (Goes q) (Goes r) (text, none) (again, too) =
    let same = reading.one source q.rules r.rules q.goal r.goal text again in
    λ i. record { rules = same.0 i; goal = same.1 i }

-- ---- logs

-- the rules of a problem are well made
pub problem_made : (f : Functions) (source : List ℕ) (problem : Problem) →
    asked f source (Goes problem) → IsWellMade problem.rules
problem_made f source problem (c, front, is) =
    translation_made f.integers c.two.program (ready f.integers source f.first f.second
    f.precondition c front).scoped
    c.two.first c.two.second problem.rules is.first is.second is.translated

module _ (problem : Problem) (made : IsWellMade problem.rules) (v w : Verdict) where
  one_on_log : (log : Log) → OnLog problem log v → OnLog problem log w → v ≡ w
  one_on_log log (said, has, v_is) (other, too, w_is) =
      let (verdict, is, only) = one_verdict problem.rules problem.goal log in
      let same : said ≡ other = only said has ∙ sym (only other too) in
      v_is ∙ (ap of_log_verdict same ∙ sym w_is)

  one_on_text : (bytes : List ℕ) → OnText problem bytes v → OnText problem bytes w → v ≡ w
  one_on_text bytes (inl (m, bad, v_is)) (inl (n, too, w_is)) =
      v_is ∙ (ap Said.Line (one_bad_line bytes m n bad too) ∙ sym w_is)
  one_on_text bytes (inl (m, bad, v_is)) (inr (log, read, on)) =
      absurd (never_both bytes log m read bad)
  one_on_text bytes (inr (log, read, on)) (inl (n, bad, w_is)) =
      absurd (never_both bytes log n read bad)
  one_on_text bytes (inr (log, read, on)) (inr (other, again, too)) =
      one_on_log other (subst (λ l. OnLog problem l v) (one_log bytes log other read again) on) too

  one_by_length : (bytes : List ℕ) (long : Bool) →
      MatchBool long (v ≡ Said.LongLog) (OnText problem bytes v) →
      MatchBool long (w ≡ Said.LongLog) (OnText problem bytes w) → v ≡ w
  one_by_length bytes true v_is w_is = equal_verdicts v w Said.LongLog v_is w_is
  one_by_length bytes false on too = one_on_text bytes on too

  one_on_read : (log : Option (List ℕ)) → OnRead problem log v → OnRead problem log w → v ≡ w
  one_on_read None v_is w_is = equal_verdicts v w Said.ReadFault v_is w_is
  one_on_read (Some bytes) on too = one_by_length bytes (nat_lt longest_log (length bytes)) on too

pub one_checked : (f : Functions) (source : List ℕ) (log : Option (List ℕ)) (v w : Verdict) →
    IsChecked f source log v → IsChecked f source log w → v ≡ w
one_checked f source log v w (inl p) (inl q) = one_asked f source (Ends v) (Ends w) p q
one_checked f source log v w (inl p) (inr (r, q, on)) =
    absurd (one_asked f source (Ends v) (Goes r) p q)
one_checked f source log v w (inr (r, q, on)) (inl p) =
    absurd (one_asked f source (Goes r) (Ends w) q p)
one_checked f source log v w (inr (q, p, on)) (inr (r, too, other)) =
    let same : q ≡ r = one_asked f source (Goes q) (Goes r) p too in
    one_on_read r (problem_made f source r too) v w log
    (subst (λ (z : Problem). OnRead z log v) same on) other

pub one_replayed : (source : List ℕ) (log : Option (List ℕ)) (v w : Verdict) →
    IsReplayed source log v → IsReplayed source log w → v ≡ w
one_replayed source log v w (inl p) (inl q) = one_posed source (Ends v) (Ends w) p q
one_replayed source log v w (inl p) (inr (r, q, on)) =
    absurd (one_posed source (Ends v) (Goes r) p q)
one_replayed source log v w (inr (r, q, on)) (inl p) =
    absurd (one_posed source (Goes r) (Ends w) q p)
one_replayed source log v w (inr (q, p, (said, on, v_is))) (inr (r, too, (told, other, w_is))) =
    let same : q ≡ r = one_posed source (Goes q) (Goes r) p too in
    let one : said ≡ told = one_on_read r (made r.rules r.goal too.1).0 said told log
    (subst (λ (z : Problem). OnRead z log said) same on) other in
    v_is ∙ (ap of_induction one ∙ sym w_is)

-- a text that poses what two functions pose is judged by a log as these are
pub judged_alike : (f : Functions) (source text : List ℕ) (problem : Problem)
    (log : Option (List ℕ)) (v : Verdict) → asked f source (Goes problem) →
    posed text (Goes problem) → IsChecked f source log v → IsReplayed text log (of_induction v)
judged_alike f source text problem log v found poses (inl ended) =
    absurd (one_asked f source (Ends v) (Goes problem) ended found)
judged_alike f source text problem log v found poses (inr (other, again, on)) =
    let same : other ≡ problem = one_asked f source (Goes other) (Goes problem) again found in
    inr (problem, poses, (v, subst (λ (z : Problem). OnRead z log v) same on, refl))

-- and back
pub judged_back : (f : Functions) (source text : List ℕ) (problem : Problem)
    (log : Option (List ℕ)) (w : Verdict) → asked f source (Goes problem) →
    posed text (Goes problem) → IsReplayed text log w →
    (v : Verdict) × IsChecked f source log v × (w ≡ of_induction v)
judged_back f source text problem log w found poses (inl ended) =
    absurd (one_posed text (Ends w) (Goes problem) ended poses)
judged_back f source text problem log w found poses (inr (other, again, (v, on, is))) =
    let same : other ≡ problem = one_posed text (Goes other) (Goes problem) again poses in
    (v, inr (problem, found, subst (λ (z : Problem). OnRead z log v) same on), is)

-- ---- proofs

-- both texts are those of logs with the same moves, accepted for the problem that a text poses
record AreFound (stage : List ℕ → Next Verdict Problem → Type 0) (effort : Effort)
    (source t v : List ℕ) : Type 0 where
  pub problem : Problem
  pub moves : List Move
  pub is_posed : stage source (Goes problem)
  pub is_closed : sought problem.rules problem.goal effort.depth effort.budget ≡ Closed moves
  pub first : IsProofText problem moves t
  pub second : IsProofText problem moves v

module _ (stage : List ℕ → Next Verdict Problem → Type 0) (effort : Effort) (source : List ℕ)
    (a b : Answer) where
  abbrev Proofs : Type 0
  Proofs = AreFound stage effort source (text_in a) (text_in b)

  module _ (problem : Problem) (found : stage source (Goes problem)) where
    one_searched : (s : Searched) → sought problem.rules problem.goal effort.depth effort.budget
        ≡ s → OnSearched problem effort s a → OnSearched problem effort s b → AreAlike Proofs a b
    one_searched NoRanks comes a_is b_is = equal_answers Proofs a b (Line Said.NoRanks) a_is b_is
    one_searched (LargeRanks rows) comes a_is b_is =
        equal_answers Proofs a b (Line Said.LargeSearch) a_is b_is
    one_searched (Closed moves) comes (t, p, a_is) (v, q, b_is) = inr (
      subst IsProof (sym a_is) tt,
      (
        subst IsProof (sym b_is) tt,
        record {
          problem = problem;
          moves = moves;
          is_posed = found;
          is_closed = comes;
          first = subst (IsProofText problem moves) (sym (ap text_in a_is)) p;
          second = subst (IsProofText problem moves) (sym (ap text_in b_is)) q;
        },
      ),
    )
    one_searched (Large path rows) comes a_is b_is =
        equal_answers Proofs a b (Line Said.LargeSearch) a_is b_is
    one_searched Spent comes a_is b_is =
        equal_answers Proofs a b (Line (Said.Visits effort.budget)) a_is b_is
    one_searched NoPlan comes a_is b_is =
        equal_answers Proofs a b (Line (Said.Depth effort.depth)) a_is b_is

    one_on_problem : OnProblem problem effort a → OnProblem problem effort b → AreAlike Proofs a b
    one_on_problem on other =
        one_searched (sought problem.rules problem.goal effort.depth effort.budget) refl on other

    one_covered : (covered noted : Bool) → MatchBool covered (OnProblem problem effort a)
        (MatchBool noted (a ≡ Line Said.LargeSearch) (a ≡ Line Said.NoCover)) →
        MatchBool covered (OnProblem problem effort b)
        (MatchBool noted (b ≡ Line Said.LargeSearch) (b ≡ Line Said.NoCover)) →
        AreAlike Proofs a b
    one_covered true noted on other = one_on_problem on other
    one_covered false true a_is b_is =
        equal_answers Proofs a b (Line Said.LargeSearch) a_is b_is
    one_covered false false a_is b_is = equal_answers Proofs a b (Line Said.NoCover) a_is b_is

module _ (effort : Effort) (source : List ℕ) (a b : Answer) where
  one_proved : (f : Functions) → IsProved f effort source a → IsProved f effort source b →
      AreAlike (AreFound (asked f) effort source (text_in a) (text_in b)) a b
  one_proved f (inl (v, p, a_is)) (inl (w, q, b_is)) =
      alike_lines (AreFound (asked f) effort source (text_in a) (text_in b)) a b v w a_is b_is
      (one_asked f source (Ends v) (Ends w) p q)
  one_proved f (inl (v, p, a_is)) (inr (r, q, on)) =
      absurd (one_asked f source (Ends v) (Goes r) p q)
  one_proved f (inr (r, q, on)) (inl (w, p, b_is)) =
      absurd (one_asked f source (Goes r) (Ends w) q p)
  one_proved f (inr (q, p, on)) (inr (r, too, other)) =
      let same : q ≡ r = one_asked f source (Goes q) (Goes r) p too in
      one_on_problem (asked f) effort source a b r too
      (subst (λ (z : Problem). OnProblem z effort a) same on) other

  one_sought : IsSought effort source a → IsSought effort source b →
      AreAlike (AreFound posed effort source (text_in a) (text_in b)) a b
  one_sought (inl (v, p, a_is)) (inl (w, q, b_is)) =
      alike_lines (AreFound posed effort source (text_in a) (text_in b)) a b v w a_is b_is
      (one_posed source (Ends v) (Ends w) p q)
  one_sought (inl (v, p, a_is)) (inr (r, q, on)) =
      absurd (one_posed source (Ends v) (Goes r) p q)
  one_sought (inr (r, q, on)) (inl (w, p, b_is)) =
      absurd (one_posed source (Goes r) (Ends w) q p)
  one_sought (inr (q, p, on)) (inr (r, too, other)) =
      let same : q ≡ r = one_posed source (Goes q) (Goes r) p too in
      one_covered posed effort source a b r too (coverage r.rules).covered
      (coverage r.rules).noted
      (subst (λ (z : Problem). OnCoverage (coverage z.rules) z effort a) same on) other

-- ---- texts of rules

module _ (f : Functions) (source : List ℕ) (a b : Answer) where
  one_writing : {P : Type 0} (problem : Problem) → OnWriting problem a → OnWriting problem b →
      AreAlike P a b
  one_writing {P} problem (inl (t, p, a_is)) (inl (v, q, b_is)) =
      equal_answers P a b (RuleText v) (a_is ∙ ap RuleText (p.poses.0.is ∙ sym q.poses.0.is)) b_is
  one_writing problem (inl (t, p, a_is)) (inr (none, b_is)) = absurd (none t p)
  one_writing problem (inr (none, a_is)) (inl (v, q, b_is)) = absurd (none v q)
  one_writing {P} problem (inr (none, a_is)) (inr (too, b_is)) =
      equal_answers P a b (Line Said.LargeRules) a_is b_is

  one_written : {P : Type 0} → IsWritten f source a → IsWritten f source b → AreAlike P a b
  one_written {P} (inl (v, p, a_is)) (inl (w, q, b_is)) =
      alike_lines P a b v w a_is b_is (one_asked f source (Ends v) (Ends w) p q)
  one_written (inl (v, p, a_is)) (inr (r, q, on)) =
      absurd (one_asked f source (Ends v) (Goes r) p q)
  one_written (inr (r, q, on)) (inl (w, p, b_is)) =
      absurd (one_asked f source (Goes r) (Ends w) q p)
  one_written (inr (q, p, on)) (inr (r, too, other)) =
      let same : q ≡ r = one_asked f source (Goes q) (Goes r) p too in
      one_writing r (subst (λ (z : Problem). OnWriting z a) same on) other

-- ---- answers

-- ---- comparisons over points

module _ (f : Functions) (extent : Extent) (source : List ℕ) (a b : Answer) where
  one_by_count : {P : Type 0} (compared : Compared) (many : Bool) →
      MatchBool many (a ≡ Line (Said.Box (arity_in compared))) (IsFound compared extent a)
      → MatchBool many (b ≡ Line (Said.Box (arity_in compared))) (IsFound compared extent b) →
      AreAlike P a b
  one_by_count {P} compared true a_is b_is =
      equal_answers P a b (Line (Said.Box (arity_in compared))) a_is b_is
  one_by_count {P} compared false (c, p, a_is) (d, q, b_is) =
      let same : c ≡ d = one_comparison (finding_at compared.two.program compared.two.first
      compared.two.second compared.precondition extent.rounds) (points_in compared extent.side)
      c d p q in
      equal_answers P a b (Found d) (a_is ∙ ap Found same) b_is

  one_refuted : {P : Type 0} → IsRefuted f extent source a → IsRefuted f extent source b →
      AreAlike P a b
  one_refuted {P} (inl (v, p, a_is)) (inl (w, q, b_is)) =
      alike_lines P a b v w a_is b_is (one_front_stage f source (Ends v) (Ends w) p q)
  one_refuted (inl (v, p, a_is)) (inr (d, q, on)) =
      absurd (one_front_stage f source (Ends v) (Goes d) p q)
  one_refuted (inr (c, p, on)) (inl (w, q, b_is)) =
      absurd (one_front_stage f source (Goes c) (Ends w) p q)
  one_refuted (inr (c, p, on)) (inr (d, q, too)) =
      let same : c ≡ d = one_front_stage f source (Goes c) (Goes d) p q in
      one_by_count d (nat_lt most_points (length (points_in d extent.side)))
      (subst (λ (z : Compared). OnPoints z extent a) same on) too

-- ---- examples

one_status_of : (k : ℕ) (s u : Status) → IsStatus k s → IsStatus k u → s ≡ u
one_status_of k s u (a, p, s_is) (b, q, u_is) =
    let alike = one_proved example_effort (example_source k) a b example_functions p q in
    s_is ∙ (alike_status (AreFound (asked example_functions) example_effort (example_source k)
    (text_in a) (text_in b)) a b alike ∙ sym u_is)

one_tally : (k : ℕ) (t u : Tally) → IsTally k t → IsTally k u → t ≡ u
one_tally zero t u t_is u_is = t_is ∙ sym u_is
one_tally (suc k) t u (before, p, (s, s_is, t_is)) (again, q, (r, r_is, u_is)) =
    t_is ∙ (ap (λ b. with_status b s) (one_tally k before again p q) ∙
    (ap (with_status again) (one_status_of k s r s_is r_is) ∙ sym u_is))

one_verdict_shown : (pairs : ℕ) (v w : Verdict) → IsShown pairs v → IsShown pairs w → v ≡ w
one_verdict_shown pairs v w (t, t_is, v_is) (u, u_is, w_is) =
    v_is ∙ (ap (verdict_on pairs) (one_tally pairs t u t_is u_is) ∙ sym w_is)

-- two texts are those of proofs that a command is answered by
abbrev AreProofsOf : Comparison → List ℕ → List ℕ → List ℕ → Type 0
AreProofsOf (Prove f effort) source t v = AreFound (asked f) effort source t v
AreProofsOf (Check f name) source t v = ⊥
AreProofsOf (Refute f extent) source t v = ⊥

-- the same of what was read in the place of the source
abbrev AreProofsOn : Comparison → Option (List ℕ) → List ℕ → List ℕ → Type 0
AreProofsOn command given t v =
    (source : List ℕ) × (given ≡ Some source) × AreProofsOf command source t v

-- those of the equation of a rule text
abbrev AreInductionsOf : Induction → List ℕ → List ℕ → List ℕ → Type 0
AreInductionsOf (Find file effort) source t v = AreFound posed effort source t v
AreInductionsOf (Replay file name) source t v = ⊥

-- the same of what was read in the place of the rule text
abbrev AreInductionsOn : Induction → Option (List ℕ) → List ℕ → List ℕ → Type 0
AreInductionsOn task given t v =
    (source : List ℕ) × (given ≡ Some source) × AreInductionsOf task source t v

-- the same of what is held
abbrev AreProofsFor : Names → Command → List ℕ → List ℕ → Type 0
AreProofsFor names (Compare command) t v =
    AreProofsOn command (names (functions_in command).file) t v
AreProofsFor names (Rules task) t v = AreInductionsOn task (names (file_in task)) t v
AreProofsFor names other t v = ⊥

abbrev AreProofsIn : Names → Option Command → List ℕ → List ℕ → Type 0
AreProofsIn names o t v =
    (command : Command) × (o ≡ Some command) × AreProofsFor names command t v

module _ (a b : Answer) where
  one_done : (command : Comparison) (source : List ℕ) (log : Option (List ℕ)) →
      IsDone command source log a → IsDone command source log b →
      AreAlike (AreProofsOf command source (text_in a) (text_in b)) a b
  one_done (Prove f effort) source log p q = one_proved effort source a b f p q
  one_done (Refute f extent) source log p q = one_refuted f extent source a b p q
  one_done (Check f name) source log (v, p, a_is) (w, q, b_is) =
      alike_lines ⊥ a b v w a_is b_is (one_checked f source log v w p q)

  one_by_size : (command : Comparison) (source : List ℕ) (log : Option (List ℕ)) (long : Bool) →
      MatchBool long (a ≡ Line Said.LongSource) (IsDone command source log a)
      → MatchBool long (b ≡ Line Said.LongSource) (IsDone command source log b) →
      AreAlike (AreProofsOn command (Some source) (text_in a) (text_in b)) a b
  one_by_size command source log true a_is b_is =
      equal_answers (AreProofsOn command (Some source) (text_in a) (text_in b)) a b
      (Line Said.LongSource) a_is b_is
  one_by_size command source log false p q =
      alike_if (AreProofsOf command source (text_in a) (text_in b))
      (AreProofsOn command (Some source) (text_in a) (text_in b)) a b
      (λ proofs. (source, refl, proofs)) (one_done command source log p q)

  one_on_source : (command : Comparison) (source log : Option (List ℕ)) →
      OnComparison command source log a → OnComparison command source log b →
      AreAlike (AreProofsOn command source (text_in a) (text_in b)) a b
  one_on_source command None log a_is b_is =
      equal_answers (AreProofsOn command None (text_in a) (text_in b)) a b (Line Said.ReadFault)
      a_is b_is
  one_on_source command (Some source) log p q =
      one_by_size command source log (nat_lt longest_source (length source)) p q

  one_induced : (task : Induction) (log : Option (List ℕ)) (source : List ℕ) →
      IsInductionDone task source log a → IsInductionDone task source log b →
      AreAlike (AreInductionsOf task source (text_in a) (text_in b)) a b
  one_induced (Find file effort) log source p q = one_sought effort source a b p q
  one_induced (Replay file name) log source (v, p, a_is) (w, q, b_is) =
      alike_lines ⊥ a b v w a_is b_is (one_replayed source log v w p q)

  one_by_text : (P : List ℕ → Type 0) (done : List ℕ → Answer → Type 0) (source : List ℕ)
      (long : Bool) → (done source a → done source b → AreAlike (P source) a b) →
      MatchBool long (a ≡ Line Said.LongSource) (done source a) →
      MatchBool long (b ≡ Line Said.LongSource) (done source b) →
      AreAlike ((text : List ℕ) × (Some source ≡ Some text) × P text) a b
  one_by_text P done source true one a_is b_is =
      equal_answers ((text : List ℕ) × (Some source ≡ Some text) × P text) a b
      (Line Said.LongSource) a_is b_is
  one_by_text P done source false one p q =
      alike_if (P source) ((text : List ℕ) × (Some source ≡ Some text) × P text) a b
      (λ proofs. (source, refl, proofs)) (one p q)

  one_by_source : (P : List ℕ → Type 0) (done : List ℕ → Answer → Type 0) →
      ((source : List ℕ) → done source a → done source b → AreAlike (P source) a b) →
      (given : Option (List ℕ)) → OnSource done given a → OnSource done given b →
      AreAlike ((text : List ℕ) × (given ≡ Some text) × P text) a b
  one_by_source P done one None a_is b_is =
      equal_answers ((text : List ℕ) × (None ≡ Some text) × P text) a b (Line Said.ReadFault)
      a_is b_is
  one_by_source P done one (Some source) p q =
      one_by_text P done source (nat_lt longest_source (length source)) (one source) p q

  one_shown : {P : Type 0} (pairs : ℕ) → (v : Verdict) × IsShown pairs v × (a ≡ Line v) →
      (w : Verdict) × IsShown pairs w × (b ≡ Line w) → AreAlike P a b
  one_shown {P} pairs (v, p, a_is) (w, q, b_is) =
      alike_lines P a b v w a_is b_is (one_verdict_shown pairs v w p q)

  -- what is read for a command is what the names hold
  module _ (names : Names) where
    one_held : (command : Comparison) (source log : Option (List ℕ)) → source ≡
        names (functions_in command).file → OnComparison command source log a →
        OnComparison command source log b
        → AreAlike (AreProofsIn names (Some (Compare command)) (text_in a) (text_in b)) a b
    one_held command source log held p q =
        alike_if (AreProofsOn command source (text_in a) (text_in b))
        (AreProofsIn names (Some (Compare command)) (text_in a) (text_in b)) a b
        (λ proofs. (
          Compare command,
          refl,
          subst (λ s. AreProofsOn command s (text_in a) (text_in b)) held
              proofs,
        )) (one_on_source command source log p q)

    one_task : (task : Induction) (source log : Option (List ℕ)) → source ≡
        names (file_in task) → OnInduction task source log a → OnInduction task source log b
        → AreAlike (AreProofsIn names (Some (Rules task)) (text_in a) (text_in b)) a b
    one_task task source log held p q =
        alike_if (AreInductionsOn task source (text_in a) (text_in b))
        (AreProofsIn names (Some (Rules task)) (text_in a) (text_in b)) a b
        (λ proofs. (
          Rules task,
          refl,
          subst (λ s. AreInductionsOn task s (text_in a) (text_in b)) held
              proofs,
        ))
        (one_by_source (λ text. AreInductionsOf task text (text_in a) (text_in b))
        (λ text said. IsInductionDone task text log said) (one_induced task log) source p q)

    -- what is done with one text, is done with the other
    same_source : (c : Answer) (done : List ℕ → Answer → Type 0) (s t : Option (List ℕ)) → s ≡ t →
        OnSource done s c → OnSource done t c
    same_source c done s t same = subst (λ (z : Option (List ℕ)). OnSource done z c) same

    one_answer : (o : Option Command) → AnswersSoundly (Some names) o a →
        AnswersSoundly (Some names) o b →
        AreAlike (AreProofsIn names o (text_in a) (text_in b)) a b
    one_answer None p q =
        equal_answers (AreProofsIn names None (text_in a) (text_in b)) a b (Line Said.Usage) p.is
        q.is
    one_answer (Some (Demo pairs)) p q = one_shown pairs p.is q.is
    one_answer (Some (Rules (Find file effort))) p q =
        one_task (Find file effort) q.given.source q.given.log q.is_given.0
        (same_source a (IsSought effort) p.given.source q.given.source
        (p.is_given.0 ∙ sym q.is_given.0) p.is) q.is
    one_answer (Some (Rules (Replay file name))) p q =
        let logs : p.given.log ≡ q.given.log = p.is_given.1 ∙ sym q.is_given.1 in
        one_task (Replay file name) q.given.source q.given.log q.is_given.0
        (subst (λ l. OnInduction (Replay file name) q.given.source l a) logs
        (same_source a (λ text said. IsInductionDone (Replay file name) text p.given.log said)
        p.given.source q.given.source (p.is_given.0 ∙ sym q.is_given.0) p.is)) q.is
    one_answer (Some (Translate f)) p q =
        alike_if ((text : List ℕ) × (q.given.source ≡ Some text) × ⊥)
        (AreProofsIn names (Some (Translate f)) (text_in a) (text_in b)) a b
        (λ none. absurd none.2)
        (one_by_source (λ text. ⊥) (IsWritten f) (λ source. one_written f source a b)
        q.given.source
        (same_source a (IsWritten f) p.given.source q.given.source (p.is_given ∙ sym q.is_given)
        p.is) q.is)
    one_answer (Some (Compare (Prove f effort))) p q =
        let sources : p.given.source ≡ q.given.source = p.is_given.0 ∙ sym q.is_given.0 in
        one_held (Prove f effort) q.given.source q.given.log q.is_given.0
        (by_prove f effort p.given.source q.given.source p.given.log q.given.log sources p.is)
        q.is
      where
        by_prove : (f : Functions) (effort : Effort) (s t l m : Option (List ℕ)) → s ≡ t →
            OnComparison (Prove f effort) s l a → OnComparison (Prove f effort) t m a
        by_prove f effort None None l m same is = is
        by_prove f effort None (Some t) l m same is = let no : ⊥ = cc in absurd no
        by_prove f effort (Some s) None l m same is = let no : ⊥ = cc in absurd no
        by_prove f effort (Some s) (Some t) l m same is =
            subst (λ (z : Option (List ℕ)). OnComparison (Prove f effort) z m a) same is
    one_answer (Some (Compare (Refute f extent))) p q =
        let sources : p.given.source ≡ q.given.source = p.is_given.0 ∙ sym q.is_given.0 in
        one_held (Refute f extent) q.given.source q.given.log q.is_given.0
        (by_refute f extent p.given.source q.given.source p.given.log q.given.log sources p.is)
        q.is
      where
        by_refute : (f : Functions) (extent : Extent) (s t l m : Option (List ℕ)) → s ≡ t →
            OnComparison (Refute f extent) s l a → OnComparison (Refute f extent) t m a
        by_refute f extent None None l m same is = is
        by_refute f extent None (Some t) l m same is = let no : ⊥ = cc in absurd no
        by_refute f extent (Some s) None l m same is = let no : ⊥ = cc in absurd no
        by_refute f extent (Some s) (Some t) l m same is =
            subst (λ (z : Option (List ℕ)). OnComparison (Refute f extent) z m a) same is
    one_answer (Some (Compare (Check f name))) p q =
        let sources : p.given.source ≡ q.given.source = p.is_given.0 ∙ sym q.is_given.0 in
        let logs : p.given.log ≡ q.given.log = p.is_given.1 ∙ sym q.is_given.1 in
        one_held (Check f name) q.given.source q.given.log q.is_given.0
        (subst (λ l. OnComparison (Check f name) q.given.source l a) logs
        (subst (λ s. OnComparison (Check f name) s p.given.log a) sources p.is)) q.is

-- ---- reports

-- so the words ask for a proof
asks_proof : (names : Names) (words : List (List ℕ)) (t v : List ℕ) →
    AreProofsIn names (command_of words) t v → AreProofs names words t v
asks_proof names words t v (Compare (Prove f effort), asks, (source, held, found)) = record {
  command = Compare (Prove f effort);
  effort = effort;
  problem = found.problem;
  moves = found.moves;
  asks = asks;
  poses = (source, held, found.is_posed, refl);
  is_closed = found.is_closed;
  first = found.first;
  second = found.second;
}
asks_proof names words t v (Rules (Find file effort), asks, (source, held, found)) = record {
  command = Rules (Find file effort);
  effort = effort;
  problem = found.problem;
  moves = found.moves;
  asks = asks;
  poses = (source, held, found.is_posed, refl);
  is_closed = found.is_closed;
  first = found.first;
  second = found.second;
}
asks_proof names words t v (Compare (Check f name), asks, (source, held, never)) = absurd never
asks_proof names words t v (Compare (Refute f extent), asks, (source, held, never)) = absurd never
asks_proof names words t v (Rules (Replay file name), asks, (source, held, never)) = absurd never
asks_proof names words t v (Translate f, asks, never) = absurd never
asks_proof names words t v (Demo pairs, asks, never) = absurd never

module _ (names : Names) (words : List (List ℕ)) (s u : Status) (t v : List ℕ) where
  one_text : (a b : Answer) → s ≡ status_in a → t ≡ text_in a → v ≡ text_in b →
      AreAlike (AreProofsIn names (command_of words) (text_in a) (text_in b)) a b →
      AreOne names words s t v
  one_text a b is_s is_t is_v (inl is) = inl (is_t ∙ (ap text_in is ∙ sym is_v))
  one_text a b is_s is_t is_v (inr (first, (second, proofs))) =
      inr (
        is_s ∙ proof_status a first,
        asks_proof names words t v
            (subst (λ z. AreProofsIn names (command_of words) t z) (sym is_v)
            (subst (λ z. AreProofsIn names (command_of words) z (text_in b)) (sym is_t) proofs)),
      )

  one_report : Reports (Some names) ⊥ words s t → Reports (Some names) ⊥ words u v → (s ≡ u) ×
      AreOne names words s t v
  one_report (a, inl p, (is_s, is_t)) (b, inl q, (is_u, is_v)) =
      let both = one_answer a b names (command_of words) p q in
      let statuses = alike_status (AreProofsIn names (command_of words) (text_in a) (text_in b)) a b
      both in
      (is_s ∙ (statuses ∙ sym is_u), one_text a b is_s is_t is_v both)
  one_report (a, inl p, (is_s, is_t)) (b, inr (some, fault, line), (is_u, is_v)) = absurd fault
  one_report (a, inr (some, fault, line), (is_s, is_t)) (b, q, (is_u, is_v)) = absurd fault

-- a report that is no read fault is one without faults
pub report_without_faults : (names : Names) (fault : Type 0) (words : List (List ℕ)) (s : Status)
    (t : List ℕ) → (s ≡ Ends.ReadFault → ⊥) → Reports (Some names) fault words s t →
    Reports (Some names) ⊥ words s t
report_without_faults names fault words s t other (answer, inl to, report) =
    (answer, inl to, report)
report_without_faults names fault words s t other (answer, inr (some, failed, line), (is, text)) =
    absurd (other (is ∙ ap status_in line))

-- two reports of the words have one status, and one text but for proofs
pub one_status : (names : Names) (words : List (List ℕ)) (s u : Status) (t v : List ℕ) →
    Reports (Some names) ⊥ words s t → Reports (Some names) ⊥ words u v → s ≡ u
one_status names words s u t v p q = (one_report names words s u t v p q).0

pub one_for_words : (names : Names) (words : List (List ℕ)) (s u : Status) (t v : List ℕ) →
    Reports (Some names) ⊥ words s t → Reports (Some names) ⊥ words u v → AreOne names words s t v
one_for_words names words s u t v p q = (one_report names words s u t v p q).1

-- words have one verdict
pub one_verdict_for_words : (names : Names) (words : List (List ℕ)) (v w : Verdict) →
    AnswersSoundly (Some names) (command_of words) (Line v) →
    AnswersSoundly (Some names) (command_of words) (Line w) → v ≡ w
one_verdict_for_words names words v w p q =
    alike_verdicts (AreProofsIn names (command_of words) (text_in (Line v)) (text_in (Line w))) v w
    (one_answer (Line v) (Line w) names (command_of words) p q)
