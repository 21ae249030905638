-- What the front end hands on is ready to be translated.
use Rattle.std.proofs.Common.{◌≡◌, ◌∙◌, ℕ, List, length, Option, Some, None, sym, ap, subst}
use Rattle.std.specs.Prelude.{slice_get, option_map}
use Rattle.std.proofs.lemmas.Option.{slice_get-map}
use Rattle.c_front.proofs.Options.{same_some}
use Rattle.c_ast.specs.declared.expr.Expr.{Expr}
use Rattle.c_ast.specs.declared.integers.Integers.{Integers}
use Rattle.c_ast.specs.declared.program.Function.{Function}
use Rattle.c_ast.specs.Scoped.{parameter_counts}
use Rattle.c_names.specs.Expressions.{count_at}
use Rattle.c_scope.proofs.Preconditions.{row_form_kept}
use Rattle.c_scope.proofs.Programs.{resolved_is_scoped}
use Rattle.c_front.specs.declared.pairs.Compared.{Compared}
use Rattle.c_front.specs.declared.pairs.TwoFunctions.{TwoFunctions}
use Rattle.c_front.specs.declared.stages.Next.TheVariants.{Goes}
use Rattle.c_front.specs.Conditions.{comparison, condition_stage, params_at, whole_front}
use Rattle.c_front.specs.Front.{count_in, front}
use Rattle.c_front.specs.FrontEnd.{AreComparable}
use Rattle.c_front.proofs.FewParams.{few, resolved_few}
use Rattle.c_front.proofs.Readings.{reading_of}
use Rattle.rx_translate.specs.Arity.{AritiesDiffer}
use Rattle.rx_cli.specs.Steps.{HasRowForm, IsReady}

-- the number of parameters of the function at a place, in both words for it
counted : (functions : List Function) (place : ℕ) (f : Function) (n : ℕ) →
    slice_get functions place ≡ Some f → length f.params ≡ n →
    slice_get (parameter_counts functions) place ≡ Some n
counted functions place f n there is =
    slice_get-map (λ (g : Function). length g.params) functions place
    ∙ (ap (option_map (λ (g : Function). length g.params)) there ∙ ap Some is)

module _ (integers : Integers) (source first second : List ℕ) (two : TwoFunctions)
    (left right : Function)
    (are : AreComparable integers source first second two left right) where
  first_count : length left.params ≡ count_in two.program two.first
  first_count = sym (ap count_at are.are_named.is_left)

  -- two comparable functions are ready, with a precondition that is a row form
  comparable_ready : (pre : Option Expr) → HasRowForm pre → IsReady (comparison two pre)
  comparable_ready pre form = let well = are.are_named.is in record {
    scoped =
        resolved_is_scoped source are.are_named.tokens are.are_named.program two.program
        well.scoped;
    first_counts = counted two.program.functions two.first left _ are.are_named.is_left first_count;
    second_counts =
        counted two.program.functions two.second right _ are.are_named.is_right
        (sym are.counts ∙ first_count);
    few =
        resolved_few source are.are_named.tokens are.are_named.program two.program well.scoped
        (few are.are_named.program well.is.spelled.2) two.first;
    row_form = form;
  }

module _ (integers : Integers) (source first second : List ℕ) where
  by_condition : (pre : Option (List ℕ)) (two : TwoFunctions) (compared : Compared) →
      front integers source first second (Goes two) →
      condition_stage source pre two (Goes compared) →
      IsReady compared
  by_condition None two compared named is =
      let (left, right, are) = reading_of integers source first second (Goes two) named in
      subst IsReady (sym is) (comparable_ready integers source first second two left right are None
      tt)
  by_condition (Some bytes) two compared named
      (text, program, pre, (tokens, lexed, (read, (same, answers), resolved)), is) =
      let (left, right, are) = reading_of integers source first second (Goes two) named in
      let kept = row_form_kept source text.tokens (params_at text.program.functions two.first) bytes
      read.tokens read.pre pre resolved in
      subst IsReady (sym is) (comparable_ready integers source first second two left right are
      (Some pre)
      (kept ∙ answers.1.1))

  pub ready : (pre : Option (List ℕ)) (compared : Compared) →
      whole_front integers source first second pre (Goes compared) → IsReady compared
  ready pre compared (two, named, condition) = by_condition pre two compared named condition

-- such functions have equally many parameters
pub arities_agree : (compared : Compared) → IsReady compared → (m n : ℕ) →
    AritiesDiffer compared.two.program compared.two.first compared.two.second m n → ⊥
arities_agree compared is m n arities =
    arities.differ (same_some arities.first is.first_counts ∙
    sym (same_some arities.second is.second_counts))
