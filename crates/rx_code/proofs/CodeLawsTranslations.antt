-- What is known of each translation, and that there is one alone.
use Rattle.std.proofs.Common.{◌≡◌, ◌∙◌, ap, sym, subst, refl, true, false, true≢false, inl, inr, ℕ, ◌<◌, Some, List, [], ◌∷◌, length, arith}
use Rattle.std.specs.Prelude.{All, Contains, slice_get}
use Rattle.std.specs.List.{list_all}
use Rattle.std.proofs.lemmas.Bool.{and_parts}
use Rattle.std.specs.Option.{option_map}
use Rattle.std.proofs.lemmas.Option.{slice_get-map}
use Rattle.std.proofs.lemmas.List.Elements.{All-contains}
use Rattle.rx_rewriting.specs.Terms.{Declares}
use Rattle.rx_term.specs.Meaning.{Instance, signature, symbol_of}
use Rattle.rx_row.specs.declared.row.Row.{Row}
use Rattle.rx_term.specs.Fitting.{is_declared, term_fits}
use Rattle.rx_term.specs.declared.term.Term.TheVariants.{Call}
use Rattle.rx_term.proofs.Equations.{fits-Call}
use Rattle.rx_term.proofs.VariableTests.{length-variables_from}
use Rattle.rx_term.specs.Paired.{IsPaired}
use Rattle.rx_term.specs.WellMade.{IsWellMade, variables_from}
use Rattle.rx_term.specs.declared.rule_set.RuleParts.{RuleParts}
use Rattle.rx_term.specs.declared.term.Sym.{Sym}
use Rattle.rx_plain.proofs.Kept.{first_one, first_or_other, other_one}
use Rattle.c_ast.specs.declared.integers.Integers.{Integers}
use Rattle.c_ast.specs.Scoped.{is_scoped, parameter_counts}
use Rattle.c_ast.specs.declared.program.Function.{Function}
use Rattle.c_ast.specs.declared.program.Resolved.{Resolved}
use Rattle.rx_code.specs.Programs.{entry_of, program_code}
use Rattle.rx_code.specs.Reached.{AreReached, IsFirst, IsSecond, IsRising, Reached, next_number}
use Rattle.rx_code.specs.Rules.{failure_codes, instruction_within, info_at, parts_of, symbol}
use Rattle.rx_code.specs.Translation.{IsBeyond, IsTranslation, goal_at, rules_of}
use Rattle.rx_code.specs.declared.code.Code.{Code}
use Rattle.rx_code.specs.declared.point.Opening.{Opening}
use Rattle.rx_code.specs.Carried.{CarriesProgram, acts_in}
use Rattle.rx_code.specs.Doing.{DoAll}
use Rattle.rx_code.proofs.Elements.{no_element}
use Rattle.rx_code.proofs.Made.{declared, symbol_at, whole_made}
use Rattle.rx_code.proofs.Paired.{whole_paired}
use Rattle.rx_code.proofs.ProgramCode.{entries_opened, entry_first, has_entry, program_carried, program_whole, was_at}
use Rattle.rx_code.proofs.Standing.{rules_do_all}
use Rattle.rx_code.proofs.Whole.{IsWhole}

module _ (integers : Integers) (program : Resolved) (scoped : is_scoped program ≡ true) (f g : ℕ)
    (parts : RuleParts) (first second : Sym)
    (t : IsTranslation integers program f g parts first second) where
  -- the code of the translation
  abbrev code : Code
  code = (program_code integers program t.functions).form

  both_within : ((program_code integers program t.functions).within ≡ true) ×
      (list_all instruction_within code.instructions ≡ true)
  both_within =
      and_parts (program_code integers program t.functions).within
      (list_all instruction_within code.instructions) t.within

  pub translation_whole : IsWhole integers code
  translation_whole =
      program_whole integers program scoped f g t.functions t.reached both_within.0 both_within.1

  pub translation_carries : CarriesProgram integers program code
  translation_carries =
      program_carried integers program scoped f g t.functions t.reached both_within.0 both_within.1

  pub translation_made : IsWellMade parts
  translation_made =
      subst IsWellMade (sym t.parts_are) (whole_made integers code translation_whole)

  pub translation_paired : IsPaired parts
  translation_paired =
      subst IsPaired (sym t.parts_are) (whole_paired integers code translation_whole)

  pub translation_does : DoAll integers (Instance parts.rules) (entry_of code.entries)
      (acts_in code)
  translation_does =
      let P : RuleParts → Type 0 = λ ps. DoAll integers (Instance ps.rules) (entry_of code.entries)
      (acts_in code) in
      subst P (sym t.parts_are) (rules_do_all integers code translation_whole)

  -- a reached function that is there has its entry
  pub reached_entry : (h count : ℕ) → Reached program f g h →
      slice_get (parameter_counts program.functions) h ≡ Some count →
      Contains code.entries (h, entry_of code.entries h)
  reached_entry h count reached is =
      let found = was_at (λ (k : Function). length k.params) program.functions h count is in
      let entry = has_entry integers program.functions t.functions 0 h found.0
      ((t.reached.members h).1 reached) found.1 in
      subst (λ (s : ℕ). Contains code.entries (h, s))
      (sym (entry_first integers program.functions t.functions 0 t.reached.in_order h entry.0
      entry.1))
      entry.1

  -- the entry of a reached function is declared as a point with as many arguments as the function
  -- has parameters
  pub entry_declared : (h count : ℕ) → Reached program f g h →
      slice_get (parameter_counts program.functions) h ≡ Some count →
      Declares (signature parts) (entry_of code.entries h) false count
  entry_declared h count reached is =
      let entry = entry_of code.entries h in
      let opened = entries_opened integers program scoped f g t.functions t.reached both_within.0
      both_within.1 h count (record {
        symbol = entry;
        begins = reached_entry h count reached is;
        parameters = is;
      }) in
      let P : RuleParts → Type 0 = λ ps. Declares (signature ps) entry false count in
      subst P (sym t.parts_are)
      (slice_get-map symbol_of (parts_of integers code).symbols entry
      ∙ ap (option_map symbol_of) (symbol_at integers code entry ∙
      ap (option_map (λ (o : Opening). info_at code (entry, o))) opened))

  -- the call of the entry on variables fits
  pub entry_fits : (h count : ℕ) → Reached program f g h →
      slice_get (parameter_counts program.functions) h ≡ Some count →
      term_fits parts (Call (symbol (entry_of code.entries h)) (variables_from 0 count)) ≡ true
  entry_fits h count reached is =
      let entry = entry_of code.entries h in
      let opened = entries_opened integers program scoped f g t.functions t.reached both_within.0
      both_within.1 h count (record {
        symbol = entry;
        begins = reached_entry h count reached is;
        parameters = is;
      }) in
      fits-Call parts (symbol entry) (variables_from 0 count)
      ∙ ap (is_declared parts.symbols (symbol entry) false) (length-variables_from 0 count)
      ∙ ap (λ (ps : RuleParts). is_declared ps.symbols (symbol entry) false count) t.parts_are
      ∙ declared integers code entry count false opened

  pub left_fits : (n : ℕ) (rows : List Row) → slice_get (parameter_counts program.functions) f ≡
      Some n → term_fits parts (goal_at first second n rows).left ≡ true
  left_fits n rows is =
      ap (λ (a : Sym). term_fits parts (Call a (variables_from 0 n))) t.first_is ∙
      entry_fits f n IsFirst is

  pub right_fits : (n : ℕ) (rows : List Row) → slice_get (parameter_counts program.functions) g ≡
      Some n → term_fits parts (goal_at first second n rows).right ≡ true
  right_fits n rows is =
      ap (λ (a : Sym). term_fits parts (Call a (variables_from 0 n))) t.second_is ∙
      entry_fits g n IsSecond is

  -- there are as many failures as codes of the kind
  pub failure_count : parts.fails ≡ length (failure_codes integers)
  failure_count = ap (λ (ps : RuleParts). ps.fails) t.parts_are

-- ---- one translation

-- two rising lists with the same members are one
same_head : (n m : ℕ) (ns ms : List ℕ) → All (λ k. n < k) ns → All (λ k. m < k) ms →
    Contains (m ∷ ms) n → Contains (n ∷ ns) m → n ≡ m
same_head n m ns ms above_n above_m n_there m_there =
    elim (first_or_other m ms n n_there) [
      | inl same ↦ sym same
      | inr later ↦ elim (first_or_other n ns m m_there) [
        | inl same ↦ same
        | inr later_too ↦ (let h = All-contains (λ k. m < k) ms n above_m later in let i =
            All-contains (λ k. n < k) ns m above_n later_too in absurd (omega (arith, h, i)))
      ]
    ]

rest_within : (n m : ℕ) (ns ms : List ℕ) → n ≡ m → All (λ k. n < k) ns →
    ((k : ℕ) → Contains (n ∷ ns) k → Contains (m ∷ ms) k) → (k : ℕ) → Contains ns k → Contains ms k
rest_within n m ns ms same above inside k there =
    elim (first_or_other m ms k (inside k (other_one n ns k there))) [
      | inl is ↦ (let h = All-contains (λ j. n < j) ns k above there in
          absurd (omega (arith, h, is, same)))
      | inr later ↦ later
    ]

same_members : (ns ms : List ℕ) → IsRising ns → IsRising ms →
    ((k : ℕ) → Contains ns k → Contains ms k) → ((k : ℕ) → Contains ms k → Contains ns k) → ns ≡ ms
same_members [] [] rising also inside back = refl
same_members [] (m ∷ ms) rising also inside back = absurd (no_element m (back m (first_one m ms)))
same_members (n ∷ ns) [] rising also inside back = absurd (no_element n (inside n (first_one n ns)))
same_members (n ∷ ns) (m ∷ ms) (next_number _ _ above_n rising) (next_number _ _ above_m also)
    inside back =
    let same = same_head n m ns ms above_n above_m (inside n (first_one n ns))
    (back m (first_one m ms)) in
    let rest = same_members ns ms rising also (rest_within n m ns ms same above_n inside)
    (rest_within m n ms ns (sym same) above_m back) in
    (λ i. same i ∷ rest i)

pub same_functions : (program : Resolved) (f g : ℕ) (fs gs : List ℕ) → AreReached program f g fs →
    AreReached program f g gs → fs ≡ gs
same_functions program f g fs gs one two =
    same_members fs gs one.in_order two.in_order
    (λ k there. (two.members k).1 ((one.members k).0 there))
    (λ k there. (one.members k).1 ((two.members k).0 there))

-- the functions decide on the parts and on both symbols
pub record SameTranslation (parts others : RuleParts) (first second third fourth : Sym) : Type 0
  where
    pub parts_same : parts ≡ others
    pub first_same : first ≡ third
    pub second_same : second ≡ fourth

pub one_translation : (integers : Integers) (program : Resolved) (f g : ℕ)
    (parts others : RuleParts)
    (first second third fourth : Sym) → IsTranslation integers program f g parts first second →
    IsTranslation integers program f g others third fourth
    → SameTranslation parts others first second third fourth
one_translation integers program f g parts others first second third fourth one two =
    let same = same_functions program f g one.functions two.functions one.reached two.reached in
    record {
      parts_same = one.parts_are ∙ ap (λ fs. (rules_of integers program fs).form) same ∙
          sym two.parts_are;
      first_same =
          one.first_is ∙ ap (λ fs. symbol (entry_of
          (program_code integers program fs).form.entries f)) same
          ∙ sym two.first_is;
      second_same =
          one.second_is ∙ ap (λ fs. symbol
          (entry_of (program_code integers program fs).form.entries g)) same
          ∙ sym two.second_is;
    }

-- what is within the limits isn't beyond them
pub not_beyond : (integers : Integers) (program : Resolved) (f g : ℕ) (parts : RuleParts)
    (first second : Sym) →
    IsTranslation integers program f g parts first second → IsBeyond integers program f g → ⊥
not_beyond integers program f g parts first second t beyond =
    let same = same_functions program f g t.functions beyond.functions t.reached beyond.reached in
    true≢false (sym t.within ∙ ap (λ fs. (rules_of integers program fs).within) same ∙
    beyond.beyond)
