-- The example has a translation; so the laws say what its functions return.
use Rattle.std.proofs.Common.{◌≡◌, ◌∙◌, ap, sym, subst, refl, true, false, ◌&&◌, ◌⊎◌, inl, inr, ℕ, ◌+◌, ◌<◌, max, Some, List, [], ◌∷◌, length, ℤ, pos, arith}
use Rattle.std.specs.Prelude.{Contains, int_div, slice_get, sum_by}
use Rattle.std.specs.List.{list_all}
use Rattle.std.proofs.lemmas.List.Elements.{All-cons, All-nil}
use Rattle.std.proofs.lemmas.List.Sums.{sum_by-cons}
use Rattle.rx_plain.specs.Formed.{Formed}
use Rattle.rx_poly.specs.Constants.{number, variable}
use Rattle.rx_poly.specs.Division.{atom_alone, division, parts_of, quotient_of}
use Rattle.rx_poly.specs.Limits.{atom_depth, atom_depth_level, atom_size, atom_size_level, body_depth, body_depth_level, body_size, body_size_level, greatest, is_within, mono_depth_level, mono_size, mono_size_level, of_atoms, of_terms}
use Rattle.rx_poly.specs.Reading.{constant_of}
use Rattle.rx_poly.specs.declared.body.Atom.{Atom, fold_out-Atom}
use Rattle.rx_poly.specs.declared.body.Atom.TheVariants.{Var, Div, outs-Var}
use Rattle.rx_poly.specs.declared.body.Body.{out-Body}
use Rattle.rx_poly.specs.declared.body.Mono.{Mono}
use Rattle.rx_poly.proofs.Constants.{number-nonzero}
use Rattle.rx_poly.proofs.Levels.{atoms-of_atoms, depth_Div, mono_depth_is, mono_size_is, size_Div, terms-of_terms}
use Rattle.rx_poly.proofs.PolyLaws.{depth-of_terms, size-of_terms}
use Rattle.rx_poly.proofs.Prefixes.{term_within}
use Rattle.rx_rewriting.specs.Terms as stack
use Rattle.rx_rewriting.specs.Steps.{Reaches}
use Rattle.rx_term.specs.Meaning.{Instance}
use Rattle.rx_plain.proofs.Kept.{first_one, first_or_other, other_one}
use Rattle.c_ast.specs.RowForms.{Forms, forms, is_row_form, row_of}
use Rattle.c_ast.specs.declared.expr.UnOp.TheVariants as un
use Rattle.c_ast.specs.declared.expr.Expr.TheVariants as expr
use Rattle.c_ast.specs.Scoped.{is_scoped}
use Rattle.c_ast.proofs.FormEquations.{forms-Binary, forms-Lit, forms-Unary, forms-Var}
use Rattle.rx_code.specs.Example.{between}
use Rattle.c_ast.specs.declared.expr.BinOp.TheVariants as bin
use Rattle.c_ast.specs.declared.program.Function.{Function}
use Rattle.c_ast.proofs.CallEquations.{calls-Lit, calls-Var, calls-Binary, calls-Apply, calls_in-Break, calls_in-While, calls_in-Return}
use Rattle.c_ast.proofs.ScopedEquations.{scoped_equations}
use Rattle.c_ast.specs.declared.integers.Integers.{Integers}
use Rattle.c_ast.specs.declared.integers.Integers.TheVariants.{Unbounded}
use Rattle.c_meaning.specs.Outcomes.{Division, Value, Error}
use Rattle.c_meaning.specs.Programs.{Returns}
use Rattle.c_meaning.proofs.Equations.{equations}
use Rattle.rx_code.specs.Pieces.{append_code, after, no_code}
use Rattle.rx_code.specs.Programs.{body_code, entry_of, places_code, program_code}
use Rattle.rx_code.specs.Reached.{AreReached, ByCall, IsFirst, IsSecond, Reached, calls_of, next_number, no_number}
use Rattle.rx_code.specs.Rules as rule_set
use Rattle.rx_code.specs.Rules.{instruction_within, symbol}
use Rattle.rx_code.specs.Statements.{Compiled}
use Rattle.rx_code.specs.Translation.{IsTranslation}
use Rattle.rx_code.specs.declared.code.Code.{Code}
use Rattle.rx_code.proofs.Computing.{StmtsAre, apply, argument, binary, breaks, lit, no_argument, no_statement, returns, statement, var, while_loop}
use Rattle.rx_code.proofs.Elements.{no_element}
use Rattle.rx_agreement.specs.Agreement.{AgreeOn}
use Rattle.rx_agreement.specs.Example.{example, example_code, example_parts, inverse, last}
use Rattle.rx_agreement.proofs.Translated.{first_agrees}

-- ---- the slots and calls are in order

pub example_scoped : is_scoped example ≡ true
example_scoped = simp scoped_equations

-- and a precondition is a row form
pub between_is_row_form : is_row_form between ≡ true
between_is_row_form =
    let zero = expr.Lit (pos 0) in
    let one = expr.Lit (pos 1) in
    let minus_one = expr.Unary un.Minus one in
    let left = expr.Binary bin.Ge (expr.Var 0) zero in
    let right = expr.Binary bin.Le (expr.Var 0) minus_one in
    let minus_form : forms minus_one ≡ record { straight = true; row = false } =
    forms-Unary un.Minus one ∙ (λ i. record
    { straight = true && (forms-Lit (pos 1) i).straight; row = false }) in
    let left_form : (forms left).row ≡ true =
    ap (λ (r : Forms). r.row) (forms-Binary bin.Ge (expr.Var 0) zero) ∙
    (λ i. row_of bin.Ge (forms-Var 0 i) (forms-Lit (pos 0) i)) in
    let right_form : (forms right).row ≡ true =
    ap (λ (r : Forms). r.row) (forms-Binary bin.Le (expr.Var 0) minus_one) ∙
    (λ i. row_of bin.Le (forms-Var 0 i) (minus_form i)) in
    ap (λ (r : Forms). r.row) (forms-Binary bin.AndAlso left right) ∙
    (λ i. left_form i && right_form i)

-- ---- the reached functions

-- both functions, by their places
abbrev pub both : List ℕ
both = 0 ∷ 1 ∷ []

inverse_calls : calls_of inverse ≡ []
inverse_calls = simp (calls_in-Return, calls-Binary, calls-Lit, calls-Var) refl

last_calls : calls_of last ≡ 0 ∷ []
last_calls = simp (calls_in-While, calls_in-Break, calls_in-Return, calls-Apply, calls-Var) refl

no_number_in : (x : ℕ) → Contains [] x → ⊥
no_number_in x h = no_element x h

-- what is called is one of both
stays : (h k : ℕ) (f : Function) → Contains both h → slice_get example.functions h ≡ Some f →
    Contains (calls_of f) k → Contains both k
stays h k f among stands calls_it = by (first_or_other 0 (1 ∷ []) h among) where
  there : (n : ℕ) (g : Function) → n ≡ h → slice_get example.functions n ≡ Some g → g ≡ f
  there n g same is =
      let e : Some g ≡ Some f = sym is ∙ ap (slice_get example.functions) same ∙ stands in cc

  second : (1 ≡ h) ⊎ Contains [] h → Contains both k
  second (inl same) =
      let calls = ap calls_of (sym (there 1 last same refl)) ∙ last_calls in
      elim (first_or_other 0 [] k (subst (λ (ns : List ℕ). Contains ns k) calls calls_it)) [
        | inl is ↦ subst (λ n. Contains both n) is (first_one 0 (1 ∷ []))
        | inr none ↦ absurd (no_number_in k none)
      ]
  second (inr other) = absurd (no_number_in h other)

  by : (0 ≡ h) ⊎ Contains (1 ∷ []) h → Contains both k
  by (inl same) =
      let calls = ap calls_of (sym (there 0 inverse same refl)) ∙ inverse_calls in
      absurd (no_number_in k (subst (λ (ns : List ℕ). Contains ns k) calls calls_it))
  by (inr other) = second (first_or_other 1 [] h other)

one_of_both : (h : ℕ) → Reached example 1 0 h → Contains both h
one_of_both h IsFirst = other_one 0 (1 ∷ []) 1 (first_one 1 [])
one_of_both h IsSecond = first_one 0 (1 ∷ [])
one_of_both h (ByCall g k f reached stands among) = stays g k f (one_of_both g reached) stands among

reached_both : (h : ℕ) → Contains both h → Reached example 1 0 h
reached_both h among = by (first_or_other 0 (1 ∷ []) h among) where
  second : (1 ≡ h) ⊎ Contains [] h → Reached example 1 0 h
  second (inl same) = subst (Reached example 1 0) same IsFirst
  second (inr other) = absurd (no_number_in h other)

  by : (0 ≡ h) ⊎ Contains (1 ∷ []) h → Reached example 1 0 h
  by (inl same) = subst (Reached example 1 0) same IsSecond
  by (inr other) = second (first_or_other 1 [] h other)

are_reached : AreReached example 1 0 both
are_reached = record {
  in_order =
      next_number 0 (1 ∷ []) (All-cons (λ k. 0 < k) 1 [] (omega arith) (All-nil (λ k. 0 < k)))
      (next_number 1 [] (All-nil (λ k. 1 < k)) no_number);
  members = λ h. (reached_both h, one_of_both h);
}

-- ---- the code

-- two functions, from the statements of their bodies
abbrev pair : ℕ → List Compiled → ℕ → List Compiled → Formed Code
pair n ts m us =
    let c = body_code 0 n ts 0 in
    let d = body_code 1 m us (after 0 c.form) in
    record {
      form = append_code c.form (append_code d.form no_code);
      within = c.within &&
          (d.within && true);
    }

pub both_code : (integers : Integers) (f g : Function) {ts us : List Compiled} →
    StmtsAre integers f.body ts → StmtsAre integers g.body us →
    places_code integers (f ∷ g ∷ []) both 0 ≡ pair (length f.params) ts (length g.params) us
both_code integers f g p q i = pair (length f.params) (p.are i) (length g.params) (q.are i)

pub compiled : program_code Unbounded example both ≡ record { form = example_code; within = true }
compiled =
    both_code Unbounded inverse last (statement (returns (binary bin.Div (lit (pos 1)) (var 0)))
    no_statement)
    (statement (while_loop (var 0) (breaks 0))
    (statement (returns (apply 0 (argument (var 0) no_argument))) no_statement))

-- one monomial of one atom, in size and depth
one_term_size : (xs : List Atom) (k : ℤ) → body_size (of_terms ((of_atoms xs, k) ∷ [])) ≡ 1 +
    sum_by atom_size xs
one_term_size xs k =
    let e = size-of_terms ((of_atoms xs, k) ∷ []) in
    let f = sum_by-cons (λ (t : Mono × ℤ). mono_size t.0) (of_atoms xs, k) [] in
    let g = mono_size_is (of_atoms xs) in
    let h = ap (λ ys. 1 + sum_by atom_size ys) (atoms-of_atoms xs) in
    e ∙ f ∙ omega (arith, g, h)

one_term_depth : (xs : List Atom) (k : ℤ) → body_depth (of_terms ((of_atoms xs, k) ∷ [])) ≡
    max (greatest atom_depth xs) 0
one_term_depth xs k =
    depth-of_terms ((of_atoms xs, k) ∷ []) ∙ ap (λ d. max d 0)
    (mono_depth_is (of_atoms xs) ∙ ap (greatest atom_depth) (atoms-of_atoms xs))

quotient_is : quotient_of (number (pos 1)) (variable 0) ≡
    of_terms ((of_atoms (Div (number (pos 1)) (variable 0) ∷ []), pos 1) ∷ [])
quotient_is =
    let n = number (pos 1) in
    let v = variable 0 in
    let n_terms : (out-Body n).terms ≡ (of_atoms [], pos 1) ∷ [] =
    ap (λ b. (out-Body b).terms) (number-nonzero (pos 1) refl) ∙
    terms-of_terms ((of_atoms [], pos 1) ∷ []) in
    let v_terms : (out-Body v).terms ≡ (of_atoms (Var 0 ∷ []), pos 1) ∷ [] =
    terms-of_terms ((of_atoms (Var 0 ∷ []), pos 1) ∷ []) in
    (λ i. division int_div (atom_alone (Div n v))
    (parts_of (constant_of (n_terms i)) (constant_of (v_terms i))))

quotient_within : is_within (quotient_of (number (pos 1)) (variable 0)) ≡ true
quotient_within =
    let n = number (pos 1) in
    let v = variable 0 in
    let one = ap body_size (number-nonzero (pos 1) refl) ∙ one_term_size [] (pos 1) in
    let two = one_term_size (Var 0 ∷ []) (pos 1) in
    let atom : atom_size (Var 0) ≡ 1 = fold_out-Atom ℕ ℕ ℕ atom_size_level body_size_level
    mono_size_level (Var 0) ∙ rw (outs-Var 0) refl in
    let flat = ap body_depth (number-nonzero (pos 1) refl) ∙ one_term_depth [] (pos 1) in
    let low = one_term_depth (Var 0 ∷ []) (pos 1) in
    let atom_low : atom_depth (Var 0) ≡ 0 = fold_out-Atom ℕ ℕ ℕ atom_depth_level body_depth_level
    mono_depth_level (Var 0) ∙ rw (outs-Var 0) refl in
    let size = size_Div n v in
    let depth = depth_Div n v in
    ap is_within quotient_is ∙ term_within (Div n v ∷ []) (pos 1) (record {
      sorted = refl;
      size = omega (arith, one, two, atom, size);
      depth = omega (arith, flat, low, atom_low, depth);
    }) refl

instructions_within : list_all instruction_within example_code.instructions ≡ true
instructions_within = ap (λ b. b && true) quotient_within

-- ---- the translation

pub example_translated : IsTranslation Unbounded example 1 0 example_parts (symbol 3) (symbol 0)
example_translated = record {
  first_there = omega arith;
  second_there = omega arith;
  functions = both;
  reached = are_reached;
  within =
      ap (λ (c : Formed Code). c.within && list_all instruction_within c.form.instructions) compiled
      ∙
      instructions_within;
  parts_are = sym (ap (λ (c : Formed Code). rule_set.parts_of Unbounded c.form) compiled);
  first_is = sym (ap (λ (c : Formed Code). symbol (entry_of c.form.entries 1)) compiled);
  second_is = sym (ap (λ (c : Formed Code). symbol (entry_of c.form.entries 0)) compiled);
}

-- ---- what the laws then say

last_at_one : Returns Unbounded example 1 (pos 1 ∷ []) (Value (pos 1))
last_at_one = record { enough = 2; outcome = simp equations; is_answer = tt }

last_at_zero : Returns Unbounded example 1 (pos 0 ∷ []) (Error Division)
last_at_zero = record { enough = 2; outcome = simp equations; is_answer = tt }

agrees : AgreeOn Unbounded example example_parts.rules 1 3
agrees =
    first_agrees Unbounded example example_scoped 1 0 example_parts (symbol 3) (symbol 0)
    example_translated

pub returned_integer : Reaches (Instance example_parts.rules) (stack.Call 3 (pos 1 ∷ []))
    (stack.Return (pos 1))
returned_integer = (agrees (pos 1 ∷ []) refl (Value (pos 1)) tt).0 last_at_one

pub division_error : Reaches (Instance example_parts.rules) (stack.Call 3 (pos 0 ∷ []))
    (stack.Fail 1)
division_error = (agrees (pos 0 ∷ []) refl (Error Division) tt).0 last_at_zero
