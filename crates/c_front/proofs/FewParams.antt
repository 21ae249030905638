-- A program that the parser answers has functions of few parameters.
use Rattle.std.proofs.Common.{◌≡◌, ℕ, zero, suc, ◌<◌, ◌^◌, true, false, List, [], ◌∷◌, length, nat_lt, Option, Some, None, Ok, slice_get, refl, sym, subst, arith}
use Rattle.std.specs.Bool.{if◌then◌else◌}
use Rattle.std.proofs.lemmas.Bool.{ltb-false}
use Rattle.std.proofs.lemmas.List.Elements.{All-cons}
use Rattle.c_ast.specs.declared.program.Function.{Function}
use Rattle.c_ast.specs.declared.program.Program.{Program}
use Rattle.c_parse.specs.Answers.{long_function, long_prototype, earlier, too_many}
use Rattle.c_ast.specs.declared.program.Resolved.{Resolved}
use Rattle.c_lex.specs.declared.token.Token.{Token}
use Rattle.c_names.specs.Expressions.{count_at}
use Rattle.c_scope.specs.Programs.{scope_of}
use Rattle.c_front.specs.Steps.{HaveFewParams}
use Rattle.c_front.proofs.FrontEndLaws.{counts_at}
use Rattle.std.proofs.lemmas.Option.{none-some}

-- where no function has more than 16 parameters, they can be counted
few_functions : (fs : List Function) → long_function fs ≡ None → HaveFewParams fs
few_functions [] is = λ k d h. omega (arith, h)
few_functions (f ∷ fs) is =
    elim (nat_lt 16 (length f.params)) as (λ b. nat_lt 16 (length f.params) ≡ b →
    (if b then Some f.name else long_function fs) ≡ None → HaveFewParams (f ∷ fs)) [
      | true ↦ (λ _ e. absurd (none-some _ (sym e)))
      | false ↦ (λ low e. let h = ltb-false 16 (length f.params) low in
          All-cons (λ (g : Function). length g.params < 2 ^ 32) f fs (omega (arith, h))
          (few_functions fs e))
    ] refl is

-- where neither of two tokens is there, the first isn't
earlier_none : (x y : Option ℕ) → earlier x y ≡ None → x ≡ None
earlier_none None y h = refl
earlier_none (Some x) None h = absurd (none-some _ (sym h))
earlier_none (Some x) (Some y) h = absurd (none-some _ (sym h))

pub few : (p : Program) → too_many p ≡ None → HaveFewParams p.functions
few p is =
    few_functions p.functions (earlier_none (long_function p.functions)
    (long_prototype p.prototypes) is)

-- so has each place, and each place of the resolved program
few_at : (fs : List Function) → HaveFewParams fs → (i : ℕ) → count_at (slice_get fs i) < 2 ^ 32
few_at [] few zero = omega arith
few_at [] few (suc i) = omega arith
few_at (f ∷ fs) few zero = few 0 f (omega arith)
few_at (f ∷ fs) few (suc i) = few_at fs (λ k d h. few (suc k) d (omega (arith, h))) i

pub resolved_few : (source : List ℕ) (tokens : List Token) (program : Program) (resolved : Resolved)
    → scope_of source tokens program ≡ Ok resolved → HaveFewParams program.functions
    → (i : ℕ) → count_at (slice_get resolved.functions i) < 2 ^ 32
resolved_few source tokens program resolved scoped few i =
    subst (λ n. n < 2 ^ 32) (sym (counts_at source tokens program resolved scoped i))
    (few_at program.functions few i)
