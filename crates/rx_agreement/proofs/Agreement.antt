-- Compiled code whose instructions are done by paired rules agrees with the meaning of the program
-- that it carries.
use Rattle.std.proofs.Common.{◌≡◌, ℕ, zero, suc, ◌+◌, ◌<◌, ◌↔◌, Some, List, [], ◌∷◌, length, map, sym, ap, subst, ◌∙◌, arith}
use Rattle.std.specs.Prelude.{Contains, slice_get}
use Rattle.std.proofs.lemmas.Option.{same_Some}
use Rattle.rx_rewriting.specs.Terms as stack
use Rattle.rx_rewriting.specs.Steps.{Reaches}
use Rattle.c_ast.specs.declared.integers.Integers.{Integers}
use Rattle.c_meaning.specs.Programs.{Returns}
use Rattle.rx_term.specs.Meaning.{Instance}
use Rattle.rx_term.specs.Paired.{IsPaired}
use Rattle.rx_term.specs.WellMade.{IsWellMade}
use Rattle.rx_term.specs.declared.rule_set.RuleParts.{RuleParts}
use Rattle.rx_term.proofs.PairedLaws.{single_valued}
use Rattle.rx_term.proofs.RuleLaws.{results_rest}
use Rattle.c_ast.specs.declared.program.Function.{Function}
use Rattle.c_ast.specs.declared.program.Resolved.{Resolved}
use Rattle.rx_code.specs.Programs.{entry_of}
use Rattle.rx_code.specs.Carried.{CarriesProgram, TakesCall, acts_in}
use Rattle.rx_code.specs.Codes.{HasCode}
use Rattle.rx_code.specs.Doing.{DoAll}
use Rattle.rx_code.specs.declared.code.Code.{Code}
use Rattle.rx_code.proofs.ProgramCode.{mapped_at}
use Rattle.rx_agreement.specs.Agreement.{AgreeOn, result_of}
use Rattle.rx_agreement.proofs.Loops.{loops, total}
use Rattle.rx_agreement.proofs.Programs.{IsCompiled, agree}

-- a number above the loops of each body
abbrev above_all : List Function → ℕ
above_all [] = 1
above_all (f ∷ fs) = suc (total (map loops f.body)) + above_all fs

above : (fs : List Function) (f : ℕ) (function : Function) → slice_get fs f ≡ Some function →
    total (map loops function.body) < above_all fs
above [] f function is = absurd cc
above (g ∷ fs) zero function is =
    let same = ap (λ (k : Function). total (map loops k.body)) (same_Some g function is) in
    omega (arith, same)
above (g ∷ fs) (suc f) function is = let h = above fs f function is in omega (arith, h)

above_none : (fs : List Function) → 0 < above_all fs
above_none [] = omega arith
above_none (f ∷ fs) = omega arith

module _ (integers : Integers) (program : Resolved) (code : Code)
    (carries : CarriesProgram integers program code) where
  compiled : (f count : ℕ) → TakesCall program code f count →
      IsCompiled integers (acts_in code) (TakesCall program code) program (entry_of code.entries) f
      count
  compiled f count called =
      let there = carries f called.symbol called.begins in
      record {
        function = there.function;
        stands = there.stands;
        counted =
            same_Some count (length there.function.params)
            (sym called.parameters ∙ mapped_at (λ (g : Function). length g.params) program.functions
            f there.function there.stands);
        code =
            subst (λ s. HasCode integers (acts_in code) (TakesCall program code) there.function s)
            (sym there.is_entry) there.carried;
      }

  pub carried_code_agrees : (parts : RuleParts) → IsWellMade parts → IsPaired parts →
      DoAll integers (Instance parts.rules) (entry_of code.entries) (acts_in code)
      → (f symbol : ℕ) → Contains code.entries (f, symbol) →
      AgreeOn integers program parts.rules f symbol
  carried_code_agrees parts made paired does f symbol begins arguments count r answer =
      let R = Instance parts.rules in
      let called : TakesCall program code f (length arguments) =
      record { symbol = symbol; begins = begins; parameters = count } in
      let is_entry = (carries f symbol begins).is_entry in
      let Agrees : ℕ → Type 0 = λ s. Returns integers program f arguments r ↔ Reaches R
      (stack.Call s arguments) (result_of r) in
      subst Agrees is_entry
      (agree integers R program (entry_of code.entries) (TakesCall program code) (acts_in code) does
      compiled
      (above_all program.functions) (above program.functions) (above_none program.functions)
      (single_valued parts made paired) (results_rest parts made) f arguments called r answer)
