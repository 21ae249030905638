-- What is known of two functions from the steps that translate them.
use Rattle.std.proofs.Common.{◌≡◌, ◌≢◌, ◌∙◌, ap, sym, refl, true, false, ◌&&◌, ℕ, ◌<◌, Some, List, length, get_or}
use Rattle.std.specs.Prelude.{slice_get}
use Rattle.std.specs.List.{list_all}
use Rattle.std.proofs.lemmas.Bool.{and_left, and_right}
use Rattle.std.proofs.lemmas.Option.{same_Some}
use Rattle.rx_plain.specs.Formed.{Formed}
use Rattle.c_ast.specs.declared.integers.Integers.{Integers}
use Rattle.c_ast.specs.Scoped.{is_scoped}
use Rattle.c_ast.specs.declared.program.Function.{Function}
use Rattle.c_ast.specs.declared.program.Resolved.{Resolved}
use Rattle.rx_term.specs.WellMade.{IsWellMade}
use Rattle.rx_term.specs.declared.rule_set.RuleParts.{RuleParts}
use Rattle.rx_code.specs.Programs.{entry_of, places_code, program_code}
use Rattle.rx_code.specs.Reached.{AreReached}
use Rattle.rx_code.specs.Rules.{instruction_within, parts_of, symbol}
use Rattle.rx_code.specs.Translation.{IsBeyond, IsTranslation}
use Rattle.rx_code.specs.declared.code.Code.{Code}
use Rattle.rx_code.proofs.ProgramCode.{mapped_at}
use Rattle.rx_code.proofs.CodeLawsTranslations.{translation_made}
use Rattle.rx_translate.specs.Arity.{AritiesDiffer, HasParameters}
use Rattle.rx_translate.specs.Parts.{parts_formed}
use Rattle.rx_translate.proofs.Walks.{function_read}

module _ (integers : Integers) (program : Resolved) (f g : ℕ) (fs : List ℕ)
    (reached : AreReached program f g fs) where
  -- the code is too large
  pub code_beyond : (places_code integers program.functions fs 0).within ≡ false →
      IsBeyond integers program f g
  code_beyond large = record {
    functions = fs;
    reached = reached;
    beyond =
        and_left (program_code integers program fs).within
        (list_all instruction_within (program_code integers program fs).form.instructions) large;
  }

  module _ (c : Code) (compiled : (c ≡ (places_code integers program.functions fs 0).form) ×
      ((places_code integers program.functions fs 0).within ≡ true)) where
    -- or something that is formed for the rules
    pub parts_beyond : (parts_formed integers c).within ≡ false → IsBeyond integers program f g
    parts_beyond large = record {
      functions = fs;
      reached = reached;
      beyond =
          and_right (program_code integers program fs).within
          (list_all instruction_within (program_code integers program fs).form.instructions)
          (ap (λ (d : Code). list_all instruction_within d.instructions) (sym compiled.0) ∙ large);
    }

    module _ (first_there : f < length program.functions)
        (second_there : g < length program.functions) (parts : RuleParts)
        (formed : (parts ≡ (parts_formed integers c).form) ×
        ((parts_formed integers c).within ≡ true)) where
      pub is_translation : (n m : ℕ) → n ≡ entry_of c.entries f → m ≡ entry_of c.entries g →
          IsTranslation integers program f g parts (symbol n) (symbol m)
      is_translation n m first_is second_is = record {
        first_there = first_there;
        second_there = second_there;
        functions = fs;
        reached = reached;
        within =
            ap (λ b. b &&
            list_all instruction_within (program_code integers program fs).form.instructions)
            compiled.1 ∙
            ap (λ (d : Code). list_all instruction_within d.instructions) (sym compiled.0) ∙
            formed.1;
        parts_are = formed.0 ∙ ap (parts_of integers) compiled.0;
        first_is = ap symbol (first_is ∙ ap (λ (d : Code). entry_of d.entries f) compiled.0);
        second_is = ap symbol (second_is ∙ ap (λ (d : Code). entry_of d.entries g) compiled.0);
      }

      pub parts_made : is_scoped program ≡ true → IsWellMade parts
      parts_made scoped =
          translation_made integers program scoped f g parts (symbol (entry_of c.entries f))
          (symbol (entry_of c.entries g))
          (is_translation (entry_of c.entries f) (entry_of c.entries g) refl refl)

-- the code is that of the functions and the places that are borrowed
pub compiled_is : (integers : Integers) (functions program_functions : List Function)
    (lent fs : List ℕ) (c : Code) →
    functions ≡ program_functions → lent ≡ fs
    → (c ≡ (places_code integers functions lent 0).form) ×
    ((places_code integers functions lent 0).within ≡ true) →
    (c ≡ (places_code integers program_functions fs 0).form) ×
    ((places_code integers program_functions fs 0).within ≡ true)
compiled_is integers functions program_functions lent fs c same also compiled =
    let is : places_code integers functions lent 0 ≡
    places_code integers program_functions fs 0 = λ i.
    places_code integers (same i) (also i) 0 in (
      compiled.0 ∙ ap (λ (d : Formed Code). d.form) is,
      sym (ap (λ (d : Formed Code). d.within) is) ∙
          compiled.1,
    )

-- ---- numbers of parameters

has_parameters : (program : Resolved) (functions : List Function) (f : ℕ) (function : Function) →
    functions ≡ program.functions → f < length functions → function ≡ get_or functions f function
    → HasParameters program f (length function.params)
has_parameters program functions f function same below is =
    mapped_at (λ (h : Function). length h.params) program.functions f function
    (sym (ap (λ (hs : List Function). slice_get hs f) same) ∙
    function_read functions f function below is)

module _ (program : Resolved) (functions : List Function) (f g : ℕ) (one other : Function)
    (same : functions ≡ program.functions) (first_there : f < length functions)
    (second_there : g < length functions)
    (is_one : one ≡ get_or functions f one) (is_other : other ≡ get_or functions g other) where
  first_has : HasParameters program f (length one.params)
  first_has = has_parameters program functions f one same first_there is_one

  second_has : HasParameters program g (length other.params)
  second_has = has_parameters program functions g other same second_there is_other

  pub no_difference : length one.params ≡ length other.params → (m n : ℕ) →
      AritiesDiffer program f g m n → ⊥
  no_difference equal m n differ =
      differ.differ (same_Some m (length one.params) (sym differ.first ∙ first_has) ∙ equal ∙
      same_Some (length other.params) n (sym second_has ∙ differ.second))

  pub differences : length one.params ≢ length other.params → (m n : ℕ) → m ≡ length one.params →
      n ≡ length other.params → AritiesDiffer program f g m n
  differences unequal m n is_m is_n = record {
    first = first_has ∙ ap (λ (k : ℕ). Some k) (sym is_m);
    second = second_has ∙ ap (λ (k : ℕ). Some k) (sym is_n);
    differ = λ e. unequal (sym is_m ∙ e ∙ is_n);
  }

  pub the_numbers : (m n : ℕ) → AritiesDiffer program f g m n → (m ≡ length one.params) ×
      (n ≡ length other.params)
  the_numbers m n differ = (
    same_Some m (length one.params) (sym differ.first ∙ first_has),
    same_Some n (length other.params) (sym differ.second ∙ second_has),
  )
