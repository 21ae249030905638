-- The stages say what the causes say: each answer of the front end, by the facts of the text.
use Rattle.std.proofs.Common.{◌≡◌, ◌≢◌, ℕ, Bool, List, length, Option, Some, None, Result, Ok, Err, inl, inr, slice_get, refl, sym, ap, subst, ◌∙◌}
use Rattle.std.specs.Bool.{if◌then◌else◌}
use Rattle.std.proofs.lemmas.Bool.Decides.{eqb_tells}
use Rattle.c_lex.specs.declared.token.Token.{Token}
use Rattle.c_lex.specs.Tokens.{tokens_of}
use Rattle.c_ast.specs.declared.program.Function.{Function}
use Rattle.c_ast.specs.declared.integers.Integers.{Integers}
use Rattle.c_ast.specs.declared.program.Resolved.{Resolved}
use Rattle.c_parse.specs.Answers.{Answers}
use Rattle.c_names.specs.declared.error.ScopeEnd.{ScopeEnd}
use Rattle.c_names.specs.Expressions.{count_at}
use Rattle.c_scope.specs.Programs.{scope_of}
use Rattle.c_front.specs.declared.pairs.TwoFunctions.{TwoFunctions}
use Rattle.c_front.specs.declared.refusals.Refusal.{Refusal}
use Rattle.c_front.specs.declared.refusals.Refusal.TheVariants.{Lex, Parse, Scope, WideLiteral, NoFunction, Arity, PreLex, PreParse, PreName}
use Rattle.c_front.specs.declared.stages.Next.{Next}
use Rattle.c_front.specs.declared.stages.Next.TheVariants.{Ends, Goes}
use Rattle.c_front.specs.declared.texts.ProgramText.{ProgramText}
use Rattle.c_front.specs.declared.texts.ResolvedText.{ResolvedText}
use Rattle.c_front.specs.Front.{count_in, count_stage, front, two_at, where_narrow, with_counts, with_names}
use Rattle.c_front.specs.FrontEnd.{AreNamed, IsProgram, IsReading, IsRefused, IsWellFormed, missing, place_in}
use Rattle.c_front.specs.Literals.{first_wide}
use Rattle.c_front.proofs.FrontEndLaws.{comparable, counts_at, other_counts}

-- what the names were resolved to
pub names_ok : (text : ProgramText) (r : Result Resolved ScopeEnd) (known : ResolvedText) →
    with_names text r ≡ Ok known → (r ≡ Ok known.resolved) × (known.text ≡ text)
names_ok text (Ok resolved) known is =
    let same : record { text = text; resolved = resolved } ≡ known = cc in
    (ap (λ (k : ResolvedText). Ok k.resolved) same, sym (ap (λ (k : ResolvedText). k.text) same))
names_ok text (Err fault) known is = let no : ⊥ = cc in absurd no

names_err : (text : ProgramText) (r : Result Resolved ScopeEnd) (fault : ScopeEnd) →
    with_names text r ≡ Err fault → r ≡ Err fault
names_err text (Ok resolved) fault is = let no : ⊥ = cc in absurd no
names_err text (Err other) fault is = let same : other ≡ fault = cc in ap Err same

-- a text whose numbers are integers of the kind
narrow_ok : (found : ResolvedText) (o : Option ℕ) (known : ResolvedText) → where_narrow found o ≡
    Ok known → (o ≡ None) × (found ≡ known)
narrow_ok found None known is = (refl, cc)
narrow_ok found (Some token) known is = let no : ⊥ = cc in absurd no

narrow_err : (found : ResolvedText) (o : Option ℕ) (token : ℕ) → where_narrow found o ≡ Err token →
    o ≡ Some token
narrow_err found None token is = let no : ⊥ = cc in absurd no
narrow_err found (Some other) token is = let same : other ≡ token = cc in ap Some same

-- the functions at two places
pub two_ok : (resolved : Resolved) (o p : Option ℕ) (two : TwoFunctions) → two_at resolved o p ≡
    Ok two → (two.program ≡ resolved) × (o ≡ Some two.first) × (p ≡ Some two.second)
two_ok resolved None p two is = let no : ⊥ = cc in absurd no
two_ok resolved (Some i) None two is = let no : ⊥ = cc in absurd no
two_ok resolved (Some i) (Some j) two is =
    let same : record { program = resolved; first = i; second = j } ≡ two = cc in (
      sym (ap (λ (t : TwoFunctions). t.program) same),
      ap (λ (t : TwoFunctions). Some t.first) same,
      ap (λ (t : TwoFunctions). Some t.second) same,
    )

two_err : (resolved : Resolved) (o p : Option ℕ) (name : ℕ) → two_at resolved o p ≡ Err name →
    missing o p ≡ Some name
two_err resolved None p name is = let same : 1 ≡ name = cc in ap Some same
two_err resolved (Some i) None name is = let same : 2 ≡ name = cc in ap Some same
two_err resolved (Some i) (Some j) name is = let no : ⊥ = cc in absurd no

err_two : (resolved : Resolved) (o p : Option ℕ) (name : ℕ) → missing o p ≡ Some name →
    two_at resolved o p ≡ Err name
err_two resolved None p name is = let same : 1 ≡ name = cc in ap Err same
err_two resolved (Some i) None name is = let same : 2 ≡ name = cc in ap Err same
err_two resolved (Some i) (Some j) name is = let no : ⊥ = cc in absurd no

-- two numbers that are equal or differ
module _ (two : TwoFunctions) (m n : ℕ) where
  abbrev by_test : Bool → Result TwoFunctions Refusal
  by_test b = if b then Ok two else Err (Arity m n)

  pub counts_ok : (t : TwoFunctions) → with_counts two m n ≡ Ok t → (two ≡ t) × (m ≡ n)
  counts_ok t is = elim (eqb_tells m n) as (λ _. (two ≡ t) × (m ≡ n)) [
    | inl (test, same) ↦ (let both : Ok two ≡ Ok t = sym (ap by_test test) ∙ is in
        (let e : two ≡ t = cc in e, same))
    | inr (test, differ) ↦ (let both : Err (Arity m n) ≡ Ok t = sym (ap by_test test) ∙ is in
        absurd (let no : ⊥ = cc in no))
  ]

  pub counts_err : (refusal : Refusal) → with_counts two m n ≡ Err refusal → (Arity m n ≡ refusal) ×
      (m ≢ n)
  counts_err refusal is = elim (eqb_tells m n) as (λ _. (Arity m n ≡ refusal) × (m ≢ n)) [
    | inl (test, same) ↦ (let both : Ok two ≡ Err refusal = sym (ap by_test test) ∙ is in
        absurd (let no : ⊥ = cc in no))
    | inr (test, differ) ↦ (let both : Err (Arity m n) ≡ Err refusal = sym (ap by_test test) ∙ is in
        (let e : Arity m n ≡ refusal = cc in e, differ))
  ]

  pub ok_counts : m ≡ n → with_counts two m n ≡ Ok two
  ok_counts same = elim (eqb_tells m n) as (λ _. with_counts two m n ≡ Ok two) [
    | inl (test, too) ↦ ap by_test test
    | inr (test, differ) ↦ absurd (differ same)
  ]

  pub err_counts : m ≢ n → with_counts two m n ≡ Err (Arity m n)
  err_counts differ = elim (eqb_tells m n) as (λ _. with_counts two m n ≡ Err (Arity m n)) [
    | inl (test, same) ↦ absurd (differ same)
    | inr (test, too) ↦ ap by_test test
  ]

-- the tokens and the program that the stages found are those of the text
is_program : (source : List ℕ) (tokens : List Token) (text : ProgramText) → tokens_of source ≡
    Ok tokens → text.tokens ≡ tokens → Answers tokens (Ok text.program) →
    IsProgram source text.tokens text.program
is_program source tokens text lexed same spelled = record {
  lexed = lexed ∙ ap Ok (sym same);
  spelled = subst (λ ts. Answers ts (Ok text.program)) (sym same) spelled;
}

module _ (integers : Integers) (source first second : List ℕ) where
  -- the functions that the stages name are named by the text
  module _ (tokens : List Token) (text : ProgramText) (known : ResolvedText) (two : TwoFunctions)
      (lexed : tokens_of source ≡ Ok tokens) (same : text.tokens ≡ tokens)
      (spelled : Answers tokens (Ok text.program))
      (scoped : with_names text (scope_of source text.tokens text.program) ≡ Ok known)
      (narrow : first_wide integers known.text.tokens ≡ None)
      (named : two_at known.resolved (place_in source known.text.tokens known.text.program first)
      (place_in source known.text.tokens known.text.program second) ≡ Ok two) where
    well : IsWellFormed integers source text.tokens text.program two.program
    well = record {
      is = is_program source tokens text lexed same spelled;
      scoped =
          (names_ok text (scope_of source text.tokens text.program) known scoped).0 ∙
          ap Ok (sym (two_ok known.resolved _ _ two named).0);
      narrow =
          subst (λ (t : ProgramText). first_wide integers t.tokens ≡ None)
          (names_ok text (scope_of source text.tokens text.program) known scoped).1 narrow;
    }

    counted_as : (i : ℕ) → count_in two.program i ≡ count_at (slice_get text.program.functions i)
    counted_as i = counts_at source text.tokens text.program two.program well.scoped i

    place : (name : List ℕ) (i : ℕ) → place_in source known.text.tokens known.text.program name ≡
        Some i → place_in source text.tokens text.program name ≡ Some i
    place name i is =
        sym (ap (λ (t : ProgramText). place_in source t.tokens t.program name)
        (names_ok text (scope_of source text.tokens text.program) known scoped).1) ∙ is

    first_is : place_in source text.tokens text.program first ≡ Some two.first
    first_is = place first two.first (two_ok known.resolved _ _ two named).1

    second_is : place_in source text.tokens text.program second ≡ Some two.second
    second_is = place second two.second (two_ok known.resolved _ _ two named).2

    pub reading_by_counts : (x : Next Refusal TwoFunctions) → count_stage two x →
        IsReading integers source first second x
    reading_by_counts (Ends refusal) (found, is, is_found) =
        let e = counts_err two (count_in two.program two.first) (count_in two.program two.second)
        found is in
        subst (λ r. IsReading integers source first second (Ends r)) (e.0 ∙ sym is_found)
        (other_counts integers source text.tokens text.program two.program well first second
        two.first
        two.second first_is second_is (count_in two.program two.first)
        (count_in two.program two.second)
        (counted_as two.first) (counted_as two.second) e.1)
    reading_by_counts (Goes t) is =
        let e = counts_ok two (count_in two.program two.first) (count_in two.program two.second) t
        is in
        subst (λ r. IsReading integers source first second (Goes r)) e.0
        (comparable integers source text.tokens text.program two.program well first second two.first
        two.second first_is second_is (count_in two.program two.first)
        (count_in two.program two.second)
        (counted_as two.first) (counted_as two.second) e.1)

  narrow_none : (found known : ResolvedText) →
      (first_wide integers found.text.tokens ≡ None) × (found ≡ known) →
      first_wide integers known.text.tokens ≡ None
  narrow_none found known (few, same) =
      subst (λ (k : ResolvedText). first_wide integers k.text.tokens ≡ None) same few

  -- what the stages say is so of the text
  pub reading_of : (x : Next Refusal TwoFunctions) → front integers source first second x →
      IsReading integers source first second x
  reading_of (Ends refusal) (inl (fault, lexed, is)) =
      subst (IsRefused integers source first second) (sym is) lexed
  reading_of (Ends refusal) (inr (tokens, lexed, inl (end, answers, other, is))) =
      subst (IsRefused integers source first second) (sym is) (tokens, lexed, answers, other)
  reading_of (Ends refusal) (inr (
    tokens,
    lexed,
    inr (text, (same, spelled), inl (fault, scoped, is)),
  )) =
      subst (IsRefused integers source first second) (sym is) (
        text.tokens,
        text.program,
        is_program source tokens text lexed same spelled,
        names_err text (scope_of source text.tokens text.program) fault scoped,
      )
  reading_of (Ends refusal) (inr (
    tokens,
    lexed,
    inr (text, (same, spelled), inr (found, scoped, inl (token, wide, is))),
  )) =
      let named = names_ok text (scope_of source text.tokens text.program) found scoped in
      let here : first_wide integers text.tokens ≡ Some token =
      subst (λ (t : ProgramText). first_wide integers t.tokens ≡ Some token) named.1
      (narrow_err found _ token wide) in
      subst (IsRefused integers source first second) (sym is) (
        text.tokens,
        text.program,
        found.resolved,
        is_program source tokens text lexed same spelled,
        named.0,
        here,
      )
  reading_of (Ends refusal) (inr (
    tokens,
    lexed,
    inr (text, (same, spelled), inr (found, scoped, inr (known, narrow, inl (name, named, is)))),
  )) =
      let kept = narrow_ok found _ known narrow in
      let all = names_ok text (scope_of source text.tokens text.program) known
      (scoped ∙ ap Ok kept.1) in
      let lacks = two_err known.resolved _ _ name named in
      let here : missing (place_in source text.tokens text.program first)
      (place_in source text.tokens text.program second) ≡ Some name =
      subst (λ (t : ProgramText). missing (place_in source t.tokens t.program first)
      (place_in source t.tokens t.program second) ≡ Some name) all.1 lacks in
      let few : first_wide integers text.tokens ≡ None =
      subst (λ (t : ProgramText). first_wide integers t.tokens ≡ None)
      (ap (λ (k : ResolvedText). k.text) kept.1 ∙ all.1) kept.0 in
      subst (IsRefused integers source first second) (sym is) (
        text.tokens,
        text.program,
        known.resolved,
        record {
          is = is_program source tokens text lexed same spelled;
          scoped = all.0;
          narrow = few;
        },
        here,
      )
  reading_of (Ends refusal) (inr (
    tokens,
    lexed,
    inr (
      text,
      (same, spelled),
      inr (found, scoped, inr (known, narrow, inr (two, named, counted))),
    ),
  )) =
      let kept = narrow_ok found _ known narrow in
      reading_by_counts tokens text known two lexed same spelled (scoped ∙ ap Ok kept.1)
      (narrow_none found known kept) named (Ends refusal) counted
  reading_of (Goes t) (
    tokens,
    lexed,
    (
      text,
      (same, spelled),
      (found, scoped, (known, narrow, (two, named, counted))),
    ),
  ) =
      let kept = narrow_ok found _ known narrow in
      reading_by_counts tokens text known two lexed same spelled (scoped ∙ ap Ok kept.1)
      (narrow_none found known kept) named (Goes t) counted

  -- the stages up to the names
  named_so : (two : TwoFunctions) (left right : Function)
      (are : AreNamed integers source first second two left right) (x : Next Refusal TwoFunctions)
      → count_stage two x → front integers source first second x
  named_so two left right are x counted = go x counted
    where
      text : ProgramText
      text = record { tokens = are.tokens; program = are.program }

      known : ResolvedText
      known = record { text = text; resolved = two.program }

      scoped : with_names text (scope_of source are.tokens are.program) ≡ Ok known
      scoped = ap (with_names text) are.is.scoped

      narrow : where_narrow known (first_wide integers are.tokens) ≡ Ok known
      narrow = ap (where_narrow known) are.is.narrow

      named : two_at two.program (place_in source are.tokens are.program first)
          (place_in source are.tokens are.program second) ≡ Ok two
      named = λ i. two_at two.program (are.first_stands i) (are.second_stands i)

      go : (x : Next Refusal TwoFunctions) → count_stage two x →
          front integers source first second x
      go (Ends refusal) counted =
          inr (
            are.tokens,
            are.is.is.lexed,
            inr (
              text,
              (refl, are.is.is.spelled),
              inr
                  (known, scoped, inr (known, narrow, inr (two, named, counted))),
            ),
          )
      go (Goes t) counted = (
        are.tokens,
        are.is.is.lexed,
        (
          text,
          (refl, are.is.is.spelled),
          (known, scoped, (known, narrow, (two, named, counted))),
        ),
      )

  -- what is so of the text, the stages say
  pub front_of : (x : Next Refusal TwoFunctions) → IsReading integers source first second x →
      front integers source first second x
  front_of (Ends (Lex fault)) is = inl (fault, is, refl)
  front_of (Ends (Parse end)) (tokens, lexed, answers, other) =
      inr (tokens, lexed, inl (end, answers, other, refl))
  front_of (Ends (Scope fault)) (tokens, program, is, wrong) =
      let text : ProgramText = record { tokens = tokens; program = program } in
      inr (
        tokens,
        is.lexed,
        inr (
          text,
          (refl, is.spelled),
          inl (fault, ap (with_names text) wrong, refl),
        ),
      )
  front_of (Ends (WideLiteral token)) (tokens, program, resolved, is, scoped, wide) =
      let text : ProgramText = record { tokens = tokens; program = program } in
      let known : ResolvedText = record { text = text; resolved = resolved } in
      inr (
        tokens,
        is.lexed,
        inr (
          text,
          (refl, is.spelled),
          inr (
            known,
            ap (with_names text) scoped,
            inl (token, ap (where_narrow known) wide, refl),
          ),
        ),
      )
  front_of (Ends (NoFunction name)) (tokens, program, resolved, well, lacks) =
      let text : ProgramText = record { tokens = tokens; program = program } in
      let known : ResolvedText = record { text = text; resolved = resolved } in
      inr (
        tokens,
        well.is.lexed,
        inr (
          text,
          (refl, well.is.spelled),
          inr (
            known,
            ap (with_names text) well.scoped,
            inr (
              known,
              ap (where_narrow known) well.narrow,
              inl (name, err_two resolved _ _ name lacks, refl),
            ),
          ),
        ),
      )
  front_of (Ends (Arity m n)) (two, left, right, are, is_m, is_n, differ) =
      let p : count_in two.program two.first ≡ m = ap count_at are.is_left ∙ is_m in
      let q : count_in two.program two.second ≡ n = ap count_at are.is_right ∙ is_n in
      named_so two left right are (Ends (Arity m n))
      (Arity m n, (λ i. with_counts two (p i) (q i)) ∙ err_counts two m n differ, refl)
  front_of (Ends (PreLex fault)) is = absurd is
  front_of (Ends (PreParse end)) is = absurd is
  front_of (Ends (PreName token)) is = absurd is
  front_of (Goes two) (left, right, are) =
      let p : count_in two.program two.first ≡ length left.params =
      ap count_at are.are_named.is_left in
      let q : count_in two.program two.second ≡ length right.params =
      ap count_at are.are_named.is_right in
      named_so two left right are.are_named (Goes two)
      (ok_counts two _ _ (p ∙ (are.counts ∙ sym q)))
