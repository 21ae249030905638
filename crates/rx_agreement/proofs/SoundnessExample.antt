-- The example has a translation, and its two entries are proved equal.
use Rattle.std.proofs.Common.{◌≡◌, ◌∙◌, ap, sym, subst, refl, true, ◌&&◌, ◌||◌, ◌⊎◌, inl, inr, ℕ, ◌<◌, Some, None, Ok, List, [], ◌∷◌, pos, arith}
use Rattle.std.specs.Prelude.{Contains, nat_lt, slice_get}
use Rattle.std.specs.List.{list_all}
use Rattle.std.proofs.lemmas.Bool.{and_from}
use Rattle.std.proofs.lemmas.List.Elements.{All-cons, All-nil}
use Rattle.rx_proofs.proofs.Example.{in_zero, no_width}
use Rattle.rx_agreement.proofs.Example.{both_code}
use Rattle.rx_plain.specs.Formed.{Formed}
use Rattle.rx_poly.specs.Constants.{number}
use Rattle.rx_poly.specs.Limits.{of_terms, body_difference}
use Rattle.rx_poly.specs.Reading.{constant_of}
use Rattle.rx_poly.specs.Terms.{is_zero}
use Rattle.rx_poly.specs.Variables.{uses_below}
use Rattle.rx_poly.proofs.Constants.{zero_within}
use Rattle.rx_poly.proofs.Levels.{terms-of_terms}
use Rattle.rx_poly_laws.proofs.TestLaws.{passes-number}
use Rattle.rx_row.specs.declared.row.Row.{Row}
use Rattle.rx_row.specs.declared.row.Row.TheVariants.{Eq}
use Rattle.rx_cert.specs.Conditions.{is_evident, is_number_with}
use Rattle.rx_cert.specs.Findings.{Yes, and_also}
use Rattle.rx_term.specs.Fitting.{term_fits}
use Rattle.rx_term.specs.Shapes as shape
use Rattle.rx_term.specs.WellMade.{IsMade, IsWellMade, OfPoint, width}
use Rattle.rx_term.specs.declared.rule.Equation.{Equation}
use Rattle.rx_term.specs.declared.term.Sym.{Sym}
use Rattle.rx_term.specs.declared.term.Term.{Term}
use Rattle.rx_term.specs.declared.term.Term.TheVariants.{Call, Return, outs-Call, outs-Return}
use Rattle.rx_term.proofs.Equations.{arguments-Call, arguments-Return, below-Return, depth-Call, depth-Return, fits-Call, fits-Return, subst_term-Return, redex-Call, shape-Call, shape-Return, within-Return}
use Rattle.rx_plain.proofs.Kept.{first_one, first_or_other, other_one}
use Rattle.c_ast.specs.declared.integers.Integers.TheVariants.{Unbounded}
use Rattle.c_ast.specs.declared.program.Function.{Function}
use Rattle.c_ast.specs.Scoped.{is_scoped}
use Rattle.c_ast.proofs.ScopedEquations.{scoped_equations}
use Rattle.c_ast.proofs.CallEquations.{calls-Lit, calls_in-Return}
use Rattle.rx_code.specs.Pieces.{append_code, after, no_code}
use Rattle.rx_code.specs.Programs.{body_code, entry_of}
use Rattle.rx_code.specs.Reached.{AreReached, ByCall, IsFirst, IsSecond, Reached, calls_of, next_number, no_number}
use Rattle.rx_code.specs.Rules.{instruction_within, parts_of, symbol}
use Rattle.rx_code.specs.Statements.{Compiled}
use Rattle.rx_code.specs.Translation.{IsTranslation, goal_at, rules_of}
use Rattle.rx_code.specs.declared.code.Code.{Code}
use Rattle.rx_code.proofs.Computing.{lit, no_statement, returns as returning, statement}
use Rattle.rx_term.specs.declared.rule_set.RuleParts.{RuleParts}
use Rattle.rx_cover.specs.Covering.{Covers, covering, goes_on}
use Rattle.rx_cover.specs.Trees.{tree_finding}
use Rattle.rx_cover.specs.declared.cover_tree.CoverTree.{CoverTree}
use Rattle.rx_cover.specs.declared.cover_tree.CoverTree.TheVariants.{Use}
use Rattle.rx_cover.proofs.Equations.{finding_use}
use Rattle.rx_pairs.specs.Inside.{descends_in, descent_in, is_empty as has_none, listed_before, listing, pairs_in, root_rows}
use Rattle.rx_pairs.specs.Listed.{pairs_by}
use Rattle.rx_pairs.specs.Lowering.{Descends}
use Rattle.rx_pairs.specs.Ranks.{bad_rank}
use Rattle.rx_pairs.specs.declared.listing.Listing.{Listing}
use Rattle.rx_inference.specs.Judging.{Shown, judged}
use Rattle.rx_inference.specs.Kinds.{formed_on}
use Rattle.rx_inference.specs.Pieces.{asking}
use Rattle.rx_inference.specs.States.{State}
use Rattle.rx_inference.specs.declared.step.Delete.TheVariants.{Equal}
use Rattle.rx_inference.specs.declared.step.Side.TheVariants.{Left, Right}
use Rattle.rx_inference.specs.declared.step.Step.TheVariants.{Simplify, Delete}
use Rattle.rx_inference.proofs.FormingLaws.{shown_taken}
use Rattle.rx_proofs.specs.Runs.{IsProof, NoDomains, Run, NoStep, OneMore, start, finished}
use Rattle.rx_agreement.specs.SoundnessExample.{a, b, example, first, second, parts, returns, table}

-- ---- the translation

pub example_scoped : is_scoped example ≡ true
example_scoped = simp scoped_equations

-- both functions, by their places
abbrev both : List ℕ
both = 0 ∷ 1 ∷ []

no_number_in : (x : ℕ) → Contains [] x → ⊥
no_number_in x (k, below, is) = omega arith

a_calls : calls_of a ≡ []
a_calls = simp (calls_in-Return, calls-Lit) refl

b_calls : calls_of b ≡ []
b_calls = simp (calls_in-Return, calls-Lit) refl

-- nothing is called
none_called : (h k : ℕ) (f : Function) → Contains both h → slice_get example.functions h ≡ Some f →
    Contains (calls_of f) k → ⊥
none_called h k f among stands calls_it = by (first_or_other 0 (1 ∷ []) h among) where
  there : (n : ℕ) (g : Function) → n ≡ h → slice_get example.functions n ≡ Some g → g ≡ f
  there n g same is =
      let e : Some g ≡ Some f = sym is ∙ ap (slice_get example.functions) same ∙ stands in cc

  none : calls_of f ≡ [] → ⊥
  none is = no_number_in k (subst (λ (ns : List ℕ). Contains ns k) is calls_it)

  other : (1 ≡ h) ⊎ Contains [] h → ⊥
  other (inl same) = none (ap calls_of (sym (there 1 b same refl)) ∙ b_calls)
  other (inr rest) = no_number_in h rest

  by : (0 ≡ h) ⊎ Contains (1 ∷ []) h → ⊥
  by (inl same) = none (ap calls_of (sym (there 0 a same refl)) ∙ a_calls)
  by (inr rest) = other (first_or_other 1 [] h rest)

one_of_both : (h : ℕ) → Reached example 0 1 h → Contains both h
one_of_both h IsFirst = first_one 0 (1 ∷ [])
one_of_both h IsSecond = other_one 0 (1 ∷ []) 1 (first_one 1 [])
one_of_both h (ByCall g k f reached stands among) =
    absurd (none_called g k f (one_of_both g reached) stands among)

reached_both : (h : ℕ) → Contains both h → Reached example 0 1 h
reached_both h among = by (first_or_other 0 (1 ∷ []) h among) where
  other : (1 ≡ h) ⊎ Contains [] h → Reached example 0 1 h
  other (inl same) = subst (Reached example 0 1) same IsSecond
  other (inr rest) = absurd (no_number_in h rest)

  by : (0 ≡ h) ⊎ Contains (1 ∷ []) h → Reached example 0 1 h
  by (inl same) = subst (Reached example 0 1) same IsFirst
  by (inr rest) = other (first_or_other 1 [] h rest)

are_reached : AreReached example 0 1 both
are_reached = record {
  in_order =
      next_number 0 (1 ∷ []) (All-cons (λ k. 0 < k) 1 [] (omega arith) (All-nil (λ k. 0 < k)))
      (next_number 1 [] (All-nil (λ k. 1 < k)) no_number);
  members = λ h. (reached_both h, one_of_both h);
}

-- two functions, from the statements of their bodies
abbrev pair : ℕ → List Compiled → ℕ → List Compiled → Formed Code
pair n ts m us =
    let c = body_code 0 n ts 0 in
    let d = body_code 1 m us (after 0 c.form) in
    record {
      form = append_code c.form (append_code d.form no_code);
      within = c.within &&
          (d.within && true);
    }

-- what code is translated to
abbrev of_code : Formed Code → Formed RuleParts
of_code c =
    record {
      form = parts_of Unbounded c.form;
      within = c.within && list_all instruction_within
          c.form.instructions;
    }

translated : rules_of Unbounded example both ≡ record { form = parts; within = true }
translated =
    ap of_code (both_code Unbounded a b (statement (returning (lit (pos 0))) no_statement)
    (statement (returning (lit (pos 0))) no_statement))

pub example_translated : IsTranslation Unbounded example 0 1 parts first second
example_translated =
    let whole = both_code Unbounded a b (statement (returning (lit (pos 0))) no_statement)
    (statement (returning (lit (pos 0))) no_statement) in
    record {
      first_there = omega arith;
      second_there = omega arith;
      functions = both;
      reached = are_reached;
      within = ap (λ (r : Formed RuleParts). r.within) translated;
      parts_are = sym (ap (λ (r : Formed RuleParts). r.form) translated);
      first_is = sym (ap (λ (c : Formed Code). symbol (entry_of c.form.entries 0)) whole);
      second_is = sym (ap (λ (c : Formed Code). symbol (entry_of c.form.entries 1)) whole);
    }

-- ---- the rules

abbrev zero : Term
zero = Return (number (pos 0))

returns_made : (s : Sym) → term_fits parts (Call s []) ≡ true → IsMade parts (returns s)
returns_made s fits = record {
  form = OfPoint s 0;
  few = let e = no_width s in omega (arith, e);
  left_fits = fits;
  right_fits = fits-Return parts (number (pos 0));
  right_variables =
      below-Return (width (Call s [])) (number (pos 0)) ∙
      passes-number (λ v. nat_lt v (width (Call s []))) (pos 0);
  row_variables = refl;
}

first_fits : term_fits parts (Call first []) ≡ true
first_fits = fits-Call parts first []

second_fits : term_fits parts (Call second []) ≡ true
second_fits = fits-Call parts second []

example_made : IsWellMade parts
example_made =
    All-cons (IsMade parts) (returns first) (returns (symbol 1) ∷ returns second ∷
    returns (symbol 3) ∷ []) (returns_made first first_fits)
    (All-cons (IsMade parts) (returns (symbol 1)) (returns second ∷ returns (symbol 3) ∷ [])
    (returns_made (symbol 1) (fits-Call parts (symbol 1) []))
    (All-cons (IsMade parts) (returns second) (returns (symbol 3) ∷ [])
    (returns_made second second_fits)
    (All-cons (IsMade parts) (returns (symbol 3)) []
    (returns_made (symbol 3) (fits-Call parts (symbol 3) [])) (All-nil (IsMade parts)))))

covered_0 : tree_finding parts.rules (shape.Call (symbol 0)) (Use 0 []) [] ≡ Yes
covered_0 =
    finding_use parts.rules (shape.Call (symbol 0)) 0 [] [] ∙ rw (shape-Call (symbol 0) []) refl

covered_1 : tree_finding parts.rules (shape.Call (symbol 1)) (Use 1 []) [] ≡ Yes
covered_1 =
    finding_use parts.rules (shape.Call (symbol 1)) 1 [] [] ∙ rw (shape-Call (symbol 1) []) refl

covered_2 : tree_finding parts.rules (shape.Call (symbol 2)) (Use 2 []) [] ≡ Yes
covered_2 =
    finding_use parts.rules (shape.Call (symbol 2)) 2 [] [] ∙ rw (shape-Call (symbol 2) []) refl

covered_3 : tree_finding parts.rules (shape.Call (symbol 3)) (Use 3 []) [] ≡ Yes
covered_3 =
    finding_use parts.rules (shape.Call (symbol 3)) 3 [] [] ∙ rw (shape-Call (symbol 3) []) refl

abbrev trees : List (List CoverTree)
trees = (Use 0 [] ∷ []) ∷ (Use 1 [] ∷ []) ∷ (Use 2 [] ∷ []) ∷ (Use 3 [] ∷ []) ∷ []

example_covered : covering parts trees ≡ Covers
example_covered = (λ i.
    goes_on 0 (and_also (covered_0 i) Yes)
    (goes_on 1 (and_also (covered_1 i) Yes)
    (goes_on 2 (and_also (covered_2 i) Yes)
    (goes_on 3 (and_also (covered_3 i) Yes) Covers))))

-- ---- descent: no rule makes a call

over_nothing : list_all (uses_below 0) (number (pos 0) ∷ []) ≡ true
over_nothing =
    and_from (uses_below 0 (number (pos 0))) true (passes-number (λ v. nat_lt v 0) (pos 0)) refl

table_lawful : bad_rank parts table ≡ None
table_lawful = rw over_nothing refl

no_pairs : (s : Sym) (rows : List Row) →
    pairs_by (record { left = Call s []; right = zero; rows = rows }) ≡ []
no_pairs s rows =
    rw (
      outs-Call s [],
      depth-Call s [],
      depth-Return (number (pos 0)),
      outs-Return (number (pos 0)),
    ) refl

returns_in : (s : Sym) → pairs_in parts (returns s) ≡ record { form = []; within = true }
returns_in s = λ i. record {
  form = no_pairs s (root_rows parts (returns s)).form i;
  within = has_none (no_pairs s [] i) || (root_rows parts (returns s)).within;
}

abbrev nothing : Listing
nothing = record { pairs = []; whole = true }

listed : listing parts parts.rules ≡ nothing
listed = λ i. listed_before (returns_in first i) (listed_before (returns_in (symbol 1) i)
    (listed_before (returns_in second i) (listed_before (returns_in (symbol 3) i) nothing)))

descends : descends_in parts parts.rules table [] ≡ Descends
descends = ap (λ (l : Listing). descent_in table l.whole 0 l.pairs []) listed

-- ---- the run

less_zero : body_difference (number (pos 0)) (number (pos 0)) ≡ of_terms []
less_zero = rw (terms-of_terms []) refl

zero_evident : is_evident (Eq (of_terms [])) ≡ true
zero_evident = ap (is_number_with is_zero) (ap constant_of (terms-of_terms []))

-- one evident row takes no certificate
judged_evident : (r : Row) → is_evident r ≡ true → judged [] [] (asking (r ∷ []) []).asked [] ≡
    Shown
judged_evident r is = rw (is, is) refl

abbrev equal : Term → Term → Equation
equal s t = record { left = s; right = t; rows = [] }

abbrev state : Equation → State
state goal = record { goals = goal ∷ []; hypotheses = [] }

abbrev goal : Equation
goal = goal_at first second 0 []

simplifies_left : formed_on parts goal [] (Simplify Left 0 []) ≡
    Ok (asking [] (equal zero (Call second []) ∷ []))
simplifies_left =
    rw (
      redex-Call first [],
      shape-Call first [],
      arguments-Call first [],
      subst_term-Return [] (number (pos 0)),
      within-Return [] (number (pos 0)),
      in_zero,
    ) refl

simplifies_right : formed_on parts (equal zero (Call second [])) [] (Simplify Right 2 []) ≡
    Ok (asking [] (equal zero zero ∷ []))
simplifies_right =
    rw (
      redex-Call second [],
      shape-Call second [],
      arguments-Call second [],
      subst_term-Return [] (number (pos 0)),
      within-Return [] (number (pos 0)),
      in_zero,
    ) refl

deletes : formed_on parts (equal zero zero) [] (Delete (Equal [])) ≡
    Ok (asking (Eq (of_terms []) ∷ []) [])
deletes =
    rw (shape-Return (number (pos 0)), arguments-Return (number (pos 0)), less_zero, zero_within)
    refl

example_run : Run parts (finished []) (start goal)
example_run =
    OneMore (start goal) (state (equal zero (Call second []))) (Simplify Left 0 [])
    (shown_taken parts (start goal) (Simplify Left 0 [])
    (asking [] (equal zero (Call second []) ∷ [])) simplifies_left refl)
    (OneMore (state (equal zero (Call second []))) (state (equal zero zero)) (Simplify Right 2 [])
    (shown_taken parts (state (equal zero (Call second []))) (Simplify Right 2 [])
    (asking [] (equal zero zero ∷ [])) simplifies_right refl)
    (OneMore (state (equal zero zero)) (finished []) (Delete (Equal []))
    (shown_taken parts (state (equal zero zero)) (Delete (Equal []))
    (asking (Eq (of_terms []) ∷ []) []) deletes
    (judged_evident (Eq (of_terms [])) zero_evident))
    NoStep))

pub example_proof : IsProof parts (goal_at first second 0 []) [] table
example_proof = record {
  made = example_made;
  domains = refl;
  fits = record { left = first_fits; right = second_fits };
  kept = NoDomains refl;
  trees = trees;
  covers = example_covered;
  run = example_run;
  lawful = table_lawful;
  certs = [];
  descends = descends;
}
