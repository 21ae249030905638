-- The example has a translation by 32-bit integers; so its entry reaches the sum, or the failure of
-- the range error.
use Rattle.std.proofs.Common.{◌≡◌, ◌∙◌, ap, sym, subst, refl, true, false, not, ◌&&◌, ◌⊎◌, inl, inr, ℕ, ◌+◌, ◌<◌, max, Some, List, [], ◌∷◌, length, ℤ, pos, negsuc, ◌+ℤ◌, ◌*ℤ◌, neg_ℤ, arith}
use Rattle.std.specs.Prelude.{Contains, slice_get, sum_by}
use Rattle.std.specs.List.{list_all}
use Rattle.std.specs.Ordering.{is_lt}
use Rattle.std.specs.declared.cmp.Ordering.TheVariants.{Less, Equal}
use Rattle.std.proofs.lemmas.List.Elements.{All-nil}
use Rattle.std.proofs.lemmas.List.Sums.{sum_by-cons}
use Rattle.rx_plain.specs.Formed.{Formed}
use Rattle.rx_plain.specs.Graded.{graded_cmp}
use Rattle.rx_plain.proofs.Kept.{first_one, first_or_other}
use Rattle.rx_poly.specs.Constants.{number}
use Rattle.rx_poly.specs.Limits.{atom_depth, atom_size, atom_size_level, body_difference, body_size_level, fits_i128, greatest, is_within, mono_depth, mono_size, mono_size_level, of_atoms, of_terms, scaled_by}
use Rattle.rx_poly.specs.Order.{atom_cmp, mono_cmp}
use Rattle.rx_poly.specs.Terms.{add_terms, cons_nonzero, insert_by, insert_term, is_zero, negated, times_number}
use Rattle.rx_poly.specs.declared.body.Atom.{fold_out-Atom}
use Rattle.rx_poly.specs.declared.body.Atom.TheVariants.{Var, outs-Var}
use Rattle.rx_poly.specs.declared.body.Body.{Body}
use Rattle.rx_poly.specs.declared.body.Mono.{Mono}
use Rattle.rx_poly.proofs.Levels.{atoms-of_atoms, depth_Var, mono_depth_is, mono_size_is, terms-of_terms}
use Rattle.rx_poly.proofs.OrderLemmas.{mono_cmp_is}
use Rattle.rx_poly.proofs.Prefixes.{terms_within}
use Rattle.rx_poly.proofs.TermLaws.{cons_nonzero-nonzero}
use Rattle.rx_rewriting.specs.Terms as stack
use Rattle.rx_rewriting.specs.Steps.{Reaches}
use Rattle.rx_term.specs.Meaning.{Instance}
use Rattle.c_ast.specs.Scoped.{is_scoped}
use Rattle.c_ast.specs.declared.expr.BinOp.TheVariants as bin
use Rattle.c_ast.specs.declared.integers.Integers.TheVariants.{Bits32}
use Rattle.c_ast.specs.declared.program.Function.{Function}
use Rattle.c_ast.proofs.CallEquations.{calls-Lit, calls-Var, calls-Binary, calls_in-Return}
use Rattle.c_ast.proofs.ScopedEquations.{scoped_equations}
use Rattle.c_meaning.specs.Outcomes.{Range, Value, Error}
use Rattle.c_meaning.specs.Programs.{Returns}
use Rattle.c_meaning.proofs.Equations.{equations}
use Rattle.rx_code.specs.Pieces.{append_code, no_code}
use Rattle.rx_code.specs.Programs.{body_code, entry_of, places_code, program_code}
use Rattle.rx_code.specs.Reached.{AreReached, ByCall, IsFirst, IsSecond, Reached, calls_of, next_number, no_number}
use Rattle.rx_code.specs.Rules.{instruction_within, parts_of, symbol}
use Rattle.rx_code.specs.Statements.{Compiled}
use Rattle.rx_code.specs.Translation.{IsTranslation}
use Rattle.rx_code.specs.declared.code.Code.{Code}
use Rattle.rx_code.proofs.Computing.{StmtsAre, binary, lit, no_statement, returns, statement, var}
use Rattle.rx_code.proofs.Elements.{no_element}
use Rattle.rx_agreement.specs.Agreement.{AgreeOn}
use Rattle.rx_agreement.specs.RangeExample.{example, example_code, example_parts, next, sum, too_great, too_small}
use Rattle.rx_agreement.proofs.Translated.{first_agrees}

pub example_scoped : is_scoped example ≡ true
example_scoped = simp scoped_equations

-- ---- it calls nothing

next_calls : calls_of next ≡ []
next_calls = simp (calls_in-Return, calls-Binary, calls-Lit, calls-Var) refl

alone : (h k : ℕ) (f : Function) → Contains (0 ∷ []) h → slice_get example.functions h ≡ Some f →
    Contains (calls_of f) k → Contains (0 ∷ []) k
alone h k f among stands calls_it = by (first_or_other 0 [] h among) where
  there : (n : ℕ) → 0 ≡ n → slice_get example.functions n ≡ Some f → next ≡ f
  there n same is =
      let e : Some next ≡ Some f = ap (slice_get example.functions) same ∙ is in cc

  by : (0 ≡ h) ⊎ Contains [] h → Contains (0 ∷ []) k
  by (inl same) =
      let calls = ap calls_of (sym (there h same stands)) ∙ next_calls in
      absurd (no_element k (subst (λ (ns : List ℕ). Contains ns k) calls calls_it))
  by (inr other) = absurd (no_element h other)

one_alone : (h : ℕ) → Reached example 0 0 h → Contains (0 ∷ []) h
one_alone h IsFirst = first_one 0 []
one_alone h IsSecond = first_one 0 []
one_alone h (ByCall g k f reached stands among) =
    alone g k f (one_alone g reached) stands among

reached_one : (h : ℕ) → Contains (0 ∷ []) h → Reached example 0 0 h
reached_one h among = by (first_or_other 0 [] h among) where
  by : (0 ≡ h) ⊎ Contains [] h → Reached example 0 0 h
  by (inl same) = subst (Reached example 0 0) same IsFirst
  by (inr other) = absurd (no_element h other)

are_reached : AreReached example 0 0 (0 ∷ [])
are_reached = record {
  in_order = next_number 0 [] (All-nil (λ k. 0 < k)) no_number;
  members = λ h. (reached_one h, one_alone h);
}

-- ---- polynomials of the variable: a x + c

-- the monomials x and 1
abbrev x : Mono
x = of_atoms (Var 0 ∷ [])

abbrev one : Mono
one = of_atoms []

abbrev line : ℤ → ℤ → Body
line a c = of_terms ((x, a) ∷ (one, c) ∷ [])

x_first : mono_cmp x one ≡ Less
x_first =
    mono_cmp_is x one ∙
    (λ i. graded_cmp atom_cmp (atoms-of_atoms (Var 0 ∷ []) i) (atoms-of_atoms [] i))

one_same : mono_cmp one one ≡ Equal
one_same =
    mono_cmp_is one one ∙
    (λ i. graded_cmp atom_cmp (atoms-of_atoms [] i) (atoms-of_atoms [] i))

sum_is : sum ≡ line (pos 1) (pos 1)
sum_is =
    (λ i. of_terms (add_terms mono_cmp (terms-of_terms ((x, pos 1) ∷ []) i)
    (terms-of_terms ((one, pos 1) ∷ []) i)))
    ∙ ap (λ r. of_terms (insert_by r x (pos 1) (one, pos 1) [] ((x, pos 1) ∷ []))) x_first

-- a number taken away
difference_is : (a c k : ℤ) → is_zero a ≡ false → is_zero (c +ℤ neg_ℤ k) ≡ false →
    body_difference (line a c) (of_terms ((one, k) ∷ [])) ≡ line a (c +ℤ neg_ℤ k)
difference_is a c k some left =
    (λ i. of_terms (add_terms mono_cmp (terms-of_terms ((x, a) ∷ (one, c) ∷ []) i)
    (negated (terms-of_terms ((one, k) ∷ []) i))))
    ∙ ap (λ r. of_terms (insert_term mono_cmp x a
    (insert_by r one c (one, neg_ℤ k) [] (cons_nonzero one c [])))) one_same
    ∙ ap (λ ts. of_terms (insert_term mono_cmp x a ts))
    (cons_nonzero-nonzero one (c +ℤ neg_ℤ k) [] left)
    ∙ ap (λ r. of_terms (insert_by r x a (one, c +ℤ neg_ℤ k) [] (cons_nonzero x a []))) x_first
    ∙ ap of_terms (cons_nonzero-nonzero x a ((one, c +ℤ neg_ℤ k) ∷ []) some)

-- the signs reversed
opposite_is : (a c : ℤ) → is_zero (a *ℤ negsuc 0) ≡ false → is_zero (c *ℤ negsuc 0) ≡ false →
    scaled_by (negsuc 0) (line a c) ≡ line (a *ℤ negsuc 0) (c *ℤ negsuc 0)
opposite_is a c some left =
    (λ i. of_terms (times_number (negsuc 0) (terms-of_terms ((x, a) ∷ (one, c) ∷ []) i)))
    ∙ ap (λ ts. of_terms (cons_nonzero x (a *ℤ negsuc 0) ts))
    (cons_nonzero-nonzero one (c *ℤ negsuc 0) [] left)
    ∙ ap of_terms (cons_nonzero-nonzero x (a *ℤ negsuc 0) ((one, c *ℤ negsuc 0) ∷ []) some)

x_size : mono_size x ≡ 2
x_size =
    let atom : atom_size (Var 0) ≡ 1 = fold_out-Atom ℕ ℕ ℕ atom_size_level body_size_level
    mono_size_level (Var 0) ∙ rw (outs-Var 0) refl in
    mono_size_is x ∙ ap (λ xs. 1 + sum_by atom_size xs) (atoms-of_atoms (Var 0 ∷ [])) ∙
    ap (λ n. 1 + (0 + n)) atom

one_size : mono_size one ≡ 1
one_size = mono_size_is one ∙ ap (λ xs. 1 + sum_by atom_size xs) (atoms-of_atoms [])

x_depth : mono_depth x ≡ 0
x_depth =
    mono_depth_is x ∙ ap (greatest atom_depth) (atoms-of_atoms (Var 0 ∷ [])) ∙
    ap (λ n. max n 0) (depth_Var 0)

one_depth : mono_depth one ≡ 0
one_depth = mono_depth_is one ∙ ap (greatest atom_depth) (atoms-of_atoms [])

line_within : (a c : ℤ) → is_zero a ≡ false → is_zero c ≡ false → fits_i128 a ≡ true →
    fits_i128 c ≡ true → is_within (line a c) ≡ true
line_within a c some left fits_a fits_c = terms_within ((x, a) ∷ (one, c) ∷ []) (record {
  listed = λ i. not (some i) && ((is_lt (x_first i) && true) && (not (left i) && (true && true)));
  fits = λ i. fits_a i && (fits_c i && true);
  size =
      let e = sum_by-cons (λ (t : Mono × ℤ). mono_size t.0) (x, a) ((one, c) ∷ []) in
      let f = sum_by-cons (λ (t : Mono × ℤ). mono_size t.0) (one, c) [] in
      let g = x_size in
      let h = one_size in
      omega (arith, e, f, g, h);
  depth =
      let e : greatest (λ (t : Mono × ℤ). mono_depth t.0) ((x, a) ∷ (one, c) ∷ []) ≡ 0 =
      (λ i. max (x_depth i) (max (one_depth i) 0)) in
      omega (arith, e);
})

within_as : (p : Body) (a c : ℤ) → p ≡ line a c → is_zero a ≡ false → is_zero c ≡ false →
    fits_i128 a ≡ true → fits_i128 c ≡ true → is_within p ≡ true
within_as p a c is some left fits_a fits_c =
    ap is_within is ∙ line_within a c some left fits_a fits_c

-- ---- what is formed keeps the limits

opposite_sum : scaled_by (negsuc 0) sum ≡ line (negsuc 0) (negsuc 0)
opposite_sum = ap (scaled_by (negsuc 0)) sum_is ∙ opposite_is (pos 1) (pos 1) refl refl

great_is : too_great ≡ line (pos 1) (negsuc 2147483646)
great_is =
    ap (λ p. body_difference p (number (pos 2147483648))) sum_is ∙
    difference_is (pos 1) (pos 1) (pos 2147483648) refl refl

small_is : too_small ≡ line (negsuc 0) (negsuc 2147483649)
small_is =
    ap (λ p. body_difference p (number (pos 2147483649))) opposite_sum ∙
    difference_is (negsuc 0) (negsuc 0) (pos 2147483649) refl refl

opposite_great : scaled_by (negsuc 0) too_great ≡ line (negsuc 0) (pos 2147483647)
opposite_great =
    ap (scaled_by (negsuc 0)) great_is ∙ opposite_is (pos 1) (negsuc 2147483646) refl refl

opposite_small : scaled_by (negsuc 0) too_small ≡ line (pos 1) (pos 2147483650)
opposite_small =
    ap (scaled_by (negsuc 0)) small_is ∙ opposite_is (negsuc 0) (negsuc 2147483649) refl refl

one_more_great : body_difference (scaled_by (negsuc 0) too_great) (number (pos 1)) ≡
    line (negsuc 0) (pos 2147483646)
one_more_great =
    ap (λ p. body_difference p (number (pos 1))) opposite_great ∙
    difference_is (negsuc 0) (pos 2147483647) (pos 1) refl refl

one_more_small : body_difference (scaled_by (negsuc 0) too_small) (number (pos 1)) ≡
    line (pos 1) (pos 2147483649)
one_more_small =
    ap (λ p. body_difference p (number (pos 1))) opposite_small ∙
    difference_is (pos 1) (pos 2147483650) (pos 1) refl refl

sum_within : is_within sum ≡ true
sum_within = within_as sum (pos 1) (pos 1) sum_is refl refl refl refl

opposite_within : is_within (scaled_by (negsuc 0) sum) ≡ true
opposite_within =
    within_as (scaled_by (negsuc 0) sum) (negsuc 0) (negsuc 0) opposite_sum refl refl refl refl

great_within : is_within too_great ≡ true
great_within = within_as too_great (pos 1) (negsuc 2147483646) great_is refl refl refl refl

small_within : is_within too_small ≡ true
small_within = within_as too_small (negsuc 0) (negsuc 2147483649) small_is refl refl refl refl

instructions_within : list_all instruction_within example_code.instructions ≡ true
instructions_within =
    let p = scaled_by (negsuc 0) too_great in
    let q = scaled_by (negsuc 0) too_small in
    let e = within_as p (negsuc 0) (pos 2147483647) opposite_great refl refl refl refl in
    let f = within_as (body_difference p (number (pos 1))) (negsuc 0) (pos 2147483646)
    one_more_great refl refl refl refl in
    let g = within_as q (pos 1) (pos 2147483650) opposite_small refl refl refl refl in
    let h = within_as (body_difference q (number (pos 1))) (pos 1) (pos 2147483649)
    one_more_small refl refl refl refl in
    (λ i. (e i && f i) && ((g i && h i) && true))

-- ---- the code

abbrev single : ℕ → List Compiled → Formed Code
single n ts =
    let c = body_code 0 n ts 0 in
    record { form = append_code c.form no_code; within = c.within && true }

one_code : (f : Function) {ts : List Compiled} → StmtsAre Bits32 f.body ts →
    places_code Bits32 (f ∷ []) (0 ∷ []) 0 ≡ single (length f.params) ts
one_code f p i = single (length f.params) (p.are i)

form_is : (program_code Bits32 example (0 ∷ [])).form ≡ example_code
form_is =
    ap (λ (c : Formed Code). c.form) (one_code next
    (statement (returns (binary bin.Add (var 0) (lit (pos 1)))) no_statement))

within_is : (program_code Bits32 example (0 ∷ [])).within ≡ true
within_is =
    ap (λ (c : Formed Code). c.within) (one_code next
    (statement (returns (binary bin.Add (var 0) (lit (pos 1)))) no_statement))
    ∙ simp (sum_within, opposite_within, great_within, small_within) refl

-- ---- the translation

pub example_translated : IsTranslation Bits32 example 0 0 example_parts (symbol 0) (symbol 0)
example_translated = record {
  first_there = omega arith;
  second_there = omega arith;
  functions = 0 ∷ [];
  reached = are_reached;
  within =
      (λ i. within_is i && list_all instruction_within (form_is i).instructions) ∙
      instructions_within;
  parts_are = sym (ap (λ (c : Code). parts_of Bits32 c) form_is);
  first_is = sym (ap (λ (c : Code). symbol (entry_of c.entries 0)) form_is);
  second_is = sym (ap (λ (c : Code). symbol (entry_of c.entries 0)) form_is);
}

-- ---- what the laws then say

pub inside : Returns Bits32 example 0 (pos 2147483646 ∷ []) (Value (pos 2147483647))
inside = record { enough = 1; outcome = simp equations; is_answer = tt }

pub outside : Returns Bits32 example 0 (pos 2147483647 ∷ []) (Error Range)
outside = record { enough = 1; outcome = simp equations; is_answer = tt }

agrees : AgreeOn Bits32 example example_parts.rules 0 0
agrees =
    first_agrees Bits32 example example_scoped 0 0 example_parts (symbol 0) (symbol 0)
    example_translated

pub greatest_integer : Reaches (Instance example_parts.rules) (stack.Call 0 (pos 2147483646 ∷ []))
    (stack.Return (pos 2147483647))
greatest_integer = (agrees (pos 2147483646 ∷ []) refl (Value (pos 2147483647)) tt).0 inside

pub range_error : Reaches (Instance example_parts.rules) (stack.Call 0 (pos 2147483647 ∷ []))
    (stack.Fail 2)
range_error = (agrees (pos 2147483647 ∷ []) refl (Error Range) tt).0 outside
