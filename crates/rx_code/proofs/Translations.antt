-- There is a translation: that of the program of the example that calls and tests; and there is a
-- program that is beyond the limits.
use Rattle.std.proofs.Common.{◌≡◌, ◌∙◌, ap, sym, subst, refl, true, ◌&&◌, ◌⊎◌, inl, inr, ℕ, ◌<◌, Some, List, [], ◌∷◌, pos, arith}
use Rattle.std.specs.Prelude.{Contains, slice_get}
use Rattle.std.specs.List.{list_all, range_with_len}
use Rattle.std.proofs.lemmas.List.Elements.{All-cons, All-nil}
use Rattle.rx_plain.specs.Formed.{Formed}
use Rattle.c_ast.specs.declared.integers.Integers.{Integers}
use Rattle.c_ast.specs.declared.integers.Integers.TheVariants.{Unbounded, Bits32}
use Rattle.c_ast.specs.declared.program.Function.{Function}
use Rattle.c_ast.proofs.CallEquations.{calls-Lit, calls-Var, calls-Apply, calls_in-If, calls_in-Return}
use Rattle.rx_plain.proofs.Kept.{first_or_other, first_one, other_one}
use Rattle.rx_term.specs.declared.rule_set.RuleParts.{RuleParts}
use Rattle.rx_code.specs.Example.{calls, calls_parts, ranged_calls_parts, caller, called, unused, crowded}
use Rattle.rx_code.specs.Programs.{entry_of}
use Rattle.rx_code.specs.Reached.{AreReached, ByCall, IsFirst, IsSecond, no_number, next_number, Reached, calls_of}
use Rattle.rx_code.specs.Rules.{instruction_within, parts_of, symbol}
use Rattle.rx_code.specs.Translation.{IsBeyond, IsTranslation, rules_of}
use Rattle.rx_code.specs.declared.code.Code.{Code}
use Rattle.rx_code.proofs.Computing.{apply, argument, if_else, lit, no_argument, no_part, no_statement, returns, statement, var}
use Rattle.rx_code.proofs.Example.{last_two}

-- the two functions that are reached
abbrev both : List ℕ
both = 1 ∷ 2 ∷ []

-- membership of numbers
abbrev IsIn : List ℕ → ℕ → Type 0
IsIn ns n = Contains ns n

caller_calls : calls_of caller ≡ 2 ∷ []
caller_calls = simp (calls_in-Return, calls-Apply, calls-Var) refl

called_calls : calls_of called ≡ []
called_calls = simp (calls_in-If, calls_in-Return, calls-Lit, calls-Var) refl

no_number_in : (x : ℕ) → IsIn [] x → ⊥
no_number_in x h = omega (arith, h)

is_one : (xs : List ℕ) (y x : ℕ) → xs ≡ y ∷ [] → Contains xs x → x ≡ y
is_one xs y x is among =
    elim (first_or_other y [] x (subst (λ (ys : List ℕ). Contains ys x) is among))
    [ inl same ↦ sym same | inr other ↦ absurd (no_number_in x other) ]

is_none : (xs : List ℕ) (x : ℕ) → xs ≡ [] → Contains xs x → ⊥
is_none xs x is among = no_number_in x (subst (λ (ys : List ℕ). Contains ys x) is among)

-- what one of the two calls is one of the two
stays : (h k : ℕ) (f : Function) → Contains both h → slice_get calls.functions h ≡ Some f →
    Contains (calls_of f) k → Contains both k
stays h k f among stands calls_it = by (first_or_other 1 (2 ∷ []) h among) where
  there : (n : ℕ) (g : Function) → n ≡ h → slice_get calls.functions n ≡ Some g → g ≡ f
  there n g same is =
      let e : Some g ≡ Some f = sym is ∙ ap (slice_get calls.functions) same ∙ stands in cc

  second_case : (2 ≡ h) ⊎ IsIn [] h → Contains both k
  second_case (inl same) =
      absurd (is_none (calls_of f) k (ap calls_of (sym (there 2 called same refl)) ∙ called_calls)
      calls_it)
  second_case (inr other) = absurd (no_number_in h other)

  by : (1 ≡ h) ⊎ Contains (2 ∷ []) h → Contains both k
  by (inl same) =
      let two : k ≡ 2 = is_one (calls_of f) 2 k
      (ap calls_of (sym (there 1 caller same refl)) ∙ caller_calls) calls_it in
      subst (λ n. Contains both n) (sym two) (other_one 1 (2 ∷ []) 2 (first_one 2 []))
  by (inr other) = second_case (first_or_other 2 [] h other)

one_of_both : (h : ℕ) → Reached calls 1 2 h → Contains both h
one_of_both h IsFirst = first_one 1 (2 ∷ [])
one_of_both h IsSecond = other_one 1 (2 ∷ []) 2 (first_one 2 [])
one_of_both h (ByCall g k f reached stands among) = stays g k f (one_of_both g reached) stands among

reached_both : (h : ℕ) → Contains both h → Reached calls 1 2 h
reached_both h among = by (first_or_other 1 (2 ∷ []) h among) where
  second_case : (2 ≡ h) ⊎ IsIn [] h → Reached calls 1 2 h
  second_case (inl same) = subst (Reached calls 1 2) same IsSecond
  second_case (inr other) = absurd (no_number_in h other)

  by : (1 ≡ h) ⊎ Contains (2 ∷ []) h → Reached calls 1 2 h
  by (inl same) = subst (Reached calls 1 2) same IsFirst
  by (inr other) = second_case (first_or_other 2 [] h other)

are_reached : AreReached calls 1 2 both
are_reached = record {
  in_order =
      next_number 1 (2 ∷ []) (All-cons (λ k. 1 < k) 2 [] (omega arith) (All-nil (λ k. 1 < k)))
      (next_number 2 [] (All-nil (λ k. 2 < k)) no_number);
  members = λ h. (reached_both h, one_of_both h);
}

-- what code is translated to
abbrev of_code : Integers → Formed Code → Formed RuleParts
of_code integers c =
    record {
      form = parts_of integers c.form;
      within = c.within && list_all instruction_within
          c.form.instructions;
    }

translated : rules_of Unbounded calls both ≡ record { form = calls_parts; within = true }
translated = ap (of_code Unbounded) (
    last_two Unbounded unused caller called
    (statement (returns (apply 2 (argument (var 0) no_argument))) no_statement)
    (statement (if_else (var 0) (returns (var 0)) no_part)
    (statement (returns (lit (pos 1))) no_statement)))

ranged_translated : rules_of Bits32 calls both ≡
    record { form = ranged_calls_parts; within = true }
ranged_translated = ap (of_code Bits32) (
    last_two Bits32 unused caller called
    (statement (returns (apply 2 (argument (var 0) no_argument))) no_statement)
    (statement (if_else (var 0) (returns (var 0)) no_part)
    (statement (returns (lit (pos 1))) no_statement)))

pub calls_translated : IsTranslation Unbounded calls 1 2 calls_parts (symbol 0) (symbol 4)
calls_translated =
    let whole = last_two Unbounded unused caller called
    (statement (returns (apply 2 (argument (var 0) no_argument))) no_statement)
    (statement (if_else (var 0) (returns (var 0)) no_part)
    (statement (returns (lit (pos 1))) no_statement)) in
    record {
      first_there = omega arith;
      second_there = omega arith;
      functions = both;
      reached = are_reached;
      within = ap (λ (r : Formed RuleParts). r.within) translated;
      parts_are = sym (ap (λ (r : Formed RuleParts). r.form) translated);
      first_is = sym (ap (λ (c : Formed Code). symbol (entry_of c.form.entries 1)) whole);
      second_is = sym (ap (λ (c : Formed Code). symbol (entry_of c.form.entries 2)) whole);
    }

pub ranged_calls_translated : IsTranslation Bits32 calls 1 2 ranged_calls_parts (symbol 0)
    (symbol 4)
ranged_calls_translated =
    let whole = last_two Bits32 unused caller called
    (statement (returns (apply 2 (argument (var 0) no_argument))) no_statement)
    (statement (if_else (var 0) (returns (var 0)) no_part)
    (statement (returns (lit (pos 1))) no_statement)) in
    record {
      first_there = omega arith;
      second_there = omega arith;
      functions = both;
      reached = are_reached;
      within = ap (λ (r : Formed RuleParts). r.within) ranged_translated;
      parts_are = sym (ap (λ (r : Formed RuleParts). r.form) ranged_translated);
      first_is = sym (ap (λ (c : Formed Code). symbol (entry_of c.form.entries 1)) whole);
      second_is = sym (ap (λ (c : Formed Code). symbol (entry_of c.form.entries 2)) whole);
    }

-- ---- beyond the limits

alone : (h : ℕ) → Reached crowded 0 0 h → IsIn (0 ∷ []) h
alone h IsFirst = first_one 0 []
alone h IsSecond = first_one 0 []
alone h (ByCall g k f reached stands among) =
    absurd (calls_nothing (first_or_other 0 [] g (alone g reached))) where
      calls_nothing : (0 ≡ g) ⊎ IsIn [] g → ⊥
      calls_nothing (inl same) =
          let crowd : Function = record { name = 1; params = range_with_len 0 129; body = [] } in
          let is : Some crowd ≡ Some f = ap (slice_get crowded.functions) same ∙ stands in
          let same_body : f ≡ crowd = cc in
          is_none (calls_of f) k (ap calls_of same_body) among
      calls_nothing (inr other) = no_number_in g other

alone_reached : (h : ℕ) → IsIn (0 ∷ []) h → Reached crowded 0 0 h
alone_reached h among = by (first_or_other 0 [] h among) where
  by : (0 ≡ h) ⊎ IsIn [] h → Reached crowded 0 0 h
  by (inl same) = subst (Reached crowded 0 0) same IsFirst
  by (inr other) = absurd (no_number_in h other)

pub crowded_beyond : IsBeyond Unbounded crowded 0 0
crowded_beyond = record {
  functions = 0 ∷ [];
  reached = record {
    in_order = next_number 0 [] (All-nil (λ k. 0 < k)) no_number;
    members = λ h. (alone_reached h, alone h);
  };
  beyond = refl;
}
