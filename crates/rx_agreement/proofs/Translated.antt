-- The rules of each translation agree with the meaning of its program.
use Rattle.std.proofs.Common.{◌≡◌, ◌∙◌, ap, sym, subst, refl, true, ℕ, zero, suc, ◌≤◌, Some, List, length, ℤ, arith}
use Rattle.std.specs.Prelude.{slice_get}
use Rattle.rx_rewriting.specs.Terms as stack
use Rattle.rx_rewriting.specs.Terms.{Fits, Ground, IsResult, Relation, TermSet}
use Rattle.rx_rewriting.specs.Steps.{Go, IsSingleValued, Reaches, Stop}
use Rattle.rx_rewriting.specs.Premises.{ResultsAreNormal, ClosedUnder}
use Rattle.rx_rewriting.proofs.UniqueResults.{convertible_results_equal}
use Rattle.rx_term.specs.Meaning.{Instance, ground_at, signature, values}
use Rattle.rx_term.specs.declared.rule_set.RuleParts.{RuleParts}
use Rattle.rx_term.specs.declared.term.Sym.{Sym}
use Rattle.rx_term.proofs.PairedLaws.{single_valued}
use Rattle.rx_term.proofs.RuleLaws.{results_rest, steps_fit}
use Rattle.rx_row.specs.Holds.{AllHold}
use Rattle.rx_row.specs.declared.row.Row.{Row}
use Rattle.rx_term.specs.Assigned.{assigned}
use Rattle.rx_term.specs.WellMade.{variables_from}
use Rattle.rx_term.specs.declared.term.Term.TheVariants.{Call}
use Rattle.rx_term.proofs.AssignedLaws.{values-assigned}
use Rattle.rx_term.proofs.Equations.{ground-Call}
use Rattle.c_ast.specs.Scoped.{is_scoped, parameter_counts}
use Rattle.c_ast.specs.declared.integers.Integers.{Integers}
use Rattle.c_ast.specs.declared.integers.Integers.TheVariants.{Unbounded, Bits32}
use Rattle.c_ast.specs.declared.program.Resolved.{Resolved}
use Rattle.c_meaning.specs.Outcomes.{Division, Range, Failure, Outcome, Value, Error, IsAnswer}
use Rattle.rx_code.specs.Programs.{entry_of, program_code}
use Rattle.rx_code.specs.Reached.{IsFirst, IsSecond, Reached}
use Rattle.rx_code.specs.Rules.{failure_codes}
use Rattle.rx_code.specs.Translation.{IsTranslation, goal_at}
use Rattle.rx_code.specs.declared.code.Code.{Code}
use Rattle.rx_code.proofs.CodeLawsTranslations.{entry_declared, failure_count, reached_entry, translation_carries, translation_does, translation_made, translation_paired}
use Rattle.rx_agreement.specs.Agreement.{AgreeOn, ReachConvertible, ReturnAlike, code_of, result_of}
use Rattle.rx_agreement.proofs.Agreement.{carried_code_agrees}

-- what is reached from an inside term is inside
reached_inside : (inside : TermSet) (R : Relation) → ClosedUnder inside R → (s t : Ground) →
    inside s →
    Reaches R s t → inside t
reached_inside inside R stays s t is Stop = is
reached_inside inside R stays s t is (Go {t = u} step rest) =
    reached_inside inside R stays u t (stays s u is step) rest

-- each failure of a rule set is the code of an error
error_of : (integers : Integers) (c : ℕ) → 1 ≤ c → c ≤ length (failure_codes integers) →
    (e : Failure) × (code_of e ≡ c)
error_of Unbounded c low high = (Division, omega (arith, low, high))
error_of Bits32 zero low high = absurd (omega (arith, low))
error_of Bits32 (suc zero) low high = (Division, refl)
error_of Bits32 (suc (suc zero)) low high = (Range, refl)
error_of Bits32 (suc (suc (suc c))) low high = absurd (omega (arith, high))

module _ (integers : Integers) (program : Resolved) (scoped : is_scoped program ≡ true) (f g : ℕ)
    (parts : RuleParts)
    (first second : Sym) (t : IsTranslation integers program f g parts first second) where
  abbrev code : Code
  code = (program_code integers program t.functions).form

  abbrev R : Relation
  R = Instance parts.rules

  -- each reached function agrees with its entry
  pub reached_agree : (h : ℕ) → Reached program f g h →
      AgreeOn integers program parts.rules h (entry_of code.entries h)
  reached_agree h reached arguments count =
      carried_code_agrees integers program code
      (translation_carries integers program scoped f g parts first second t)
      parts
      (translation_made integers program scoped f g parts first second t)
      (translation_paired integers program scoped f g parts first second t)
      (translation_does integers program scoped f g parts first second t)
      h (entry_of code.entries h) (reached_entry integers program scoped f g parts first second t h
      (length arguments) reached count) arguments count

  pub first_agrees : AgreeOn integers program parts.rules f first.0
  first_agrees =
      subst (AgreeOn integers program parts.rules f) (sym (ap (λ (s : Sym). s.0) t.first_is))
      (reached_agree f IsFirst)

  pub second_agrees : AgreeOn integers program parts.rules g second.0
  second_agrees =
      subst (AgreeOn integers program parts.rules g) (sym (ap (λ (s : Sym). s.0) t.second_is))
      (reached_agree g IsSecond)

  single : IsSingleValued R
  single =
      single_valued parts (translation_made integers program scoped f g parts first second t)
      (translation_paired integers program scoped f g parts first second t)

  rest : ResultsAreNormal R
  rest = results_rest parts (translation_made integers program scoped f g parts first second t)

  -- a result that the first entry reaches is that of an outcome
  answer_of : (arguments : List ℤ) → slice_get (parameter_counts program.functions) f ≡
      Some (length arguments) → (u : Ground) → IsResult u →
      Reaches R (stack.Call first.0 arguments) u
      → (r : Outcome ℤ) × IsAnswer r × (u ≡ result_of r)
  answer_of arguments count u result reached =
      let entry = ap (λ (s : Sym). s.0) t.first_is in
      let declared : Fits (signature parts) (stack.Call first.0 arguments) =
      subst (λ s. Fits (signature parts) (stack.Call s arguments)) (sym entry)
      (entry_declared integers program scoped f g parts first second t f (length arguments) IsFirst
      count) in
      let fits = reached_inside (Fits (signature parts)) R
      (steps_fit parts (translation_made integers program scoped f g parts first second t))
      (stack.Call first.0 arguments) u declared reached in
      go u result fits
    where
      go : (u : Ground) → IsResult u → Fits (signature parts) u → (r : Outcome ℤ) × IsAnswer r ×
          (u ≡ result_of r)
      go (stack.Return k) result fits = (Value k, tt, refl)
      go (stack.Fail c) result fits =
          let count = failure_count integers program scoped f g parts first second t in
          let e = error_of integers c fits.0 (subst (λ n. c ≤ n) count fits.1) in
          (Error e.0, tt, ap stack.Fail (sym e.1))
      go (stack.Call s xs) result fits = absurd result
      go (stack.Frame s xs inner) result fits = absurd result

  -- results that are convertible are one, and both functions return it
  pub return_alike : (arguments : List ℤ) → slice_get (parameter_counts program.functions) f ≡
      Some (length arguments) → slice_get (parameter_counts program.functions) g ≡
      Some (length arguments)
      → ReachConvertible parts.rules (stack.Call first.0 arguments) (stack.Call second.0 arguments)
      → ReturnAlike integers program f g arguments
  return_alike arguments count also ends =
      let same = convertible_results_equal R single rest ends.left ends.right ends.left_result
      ends.right_result ends.convertible in
      let answer = answer_of arguments count ends.left ends.left_result ends.left_reached in
      let left = subst (Reaches R (stack.Call first.0 arguments)) answer.2 ends.left_reached in
      let right = subst (Reaches R (stack.Call second.0 arguments)) (sym same ∙ answer.2)
      ends.right_reached in
      record {
        outcome = answer.0;
        first = (first_agrees arguments count answer.0 answer.1).1 left;
        second = (second_agrees arguments also answer.0 answer.1).1 right;
      }

  -- the sides of the goal at integers are the calls of the two entries
  side_is : (a : Sym) (n : ℕ) (arguments : List ℤ) → length arguments ≡ n →
      ground_at (assigned arguments) (Call a (variables_from 0 n)) ≡ stack.Call a.0 arguments
  side_is a n arguments long =
      ground-Call (assigned arguments) a (variables_from 0 n)
      ∙ ap (stack.Call a.0) (ap (λ k. values (assigned arguments) (variables_from 0 k)) (sym long) ∙
      values-assigned arguments)

  -- where both sides of the goal reach convertible results at all assignments that meet its rows,
  -- both functions return alike on all integers that do
  pub goal_alike : (n : ℕ) (rows : List Row) → slice_get (parameter_counts program.functions) f ≡
      Some n → slice_get (parameter_counts program.functions) g ≡ Some n
      → ((a : ℕ → ℤ) → AllHold a rows → ReachConvertible parts.rules
      (ground_at a (goal_at first second n rows).left)
      (ground_at a (goal_at first second n rows).right))
      → (arguments : List ℤ) → length arguments ≡ n → AllHold (assigned arguments) rows →
      ReturnAlike integers program f g arguments
  goal_alike n rows count also ends arguments long meets =
      let left = side_is first n arguments long in
      let right = side_is second n arguments long in
      let P : Ground → Ground → Type 0 = λ s t. ReachConvertible parts.rules s t in
      let counted : Some n ≡ Some (length arguments) = ap Some (sym long) in
      return_alike arguments (count ∙ counted) (also ∙ counted)
      (subst (λ s. P s (stack.Call second.0 arguments)) left
      (subst (P (ground_at (assigned arguments) (goal_at first second n rows).left)) right
      (ends (assigned arguments) meets)))
