-- The example inside a domain is a proof: its certificates, its cover tree, its run.
use Rattle.std.proofs.Common.{◌≡◌, ◌∙◌, ap, refl, arith, ℕ, zero, suc, Bool, true, ◌||◌, if◌then◌else◌, Some, Ok, List, [], ◌∷◌, ◌++◌, length, ℤ, pos, All}
use Rattle.std.specs.Prelude.{◌&&◌, nat_lt}
use Rattle.std.proofs.lemmas.Bool.{and_from, ne_eqb, or_left, or_right}
use Rattle.std.proofs.lemmas.List.Elements.{All-cons, All-nil}
use Rattle.rx_plain.specs.Formed.{Formed, pure}
use Rattle.rx_poly.specs.Constants.{variable}
use Rattle.rx_poly.specs.Limits.{of_atoms, of_terms, body_difference}
use Rattle.rx_poly.specs.Reading.{constant_of}
use Rattle.rx_poly.specs.Substitution.{numbered, replaced, subst_body}
use Rattle.rx_poly.specs.Terms.{is_zero}
use Rattle.rx_poly.specs.Variables.{uses_below, variables}
use Rattle.rx_poly.specs.declared.body.Atom.TheVariants.{Var}
use Rattle.rx_poly.specs.declared.body.Body.{Body}
use Rattle.rx_poly.specs.declared.body.Mono.{Mono}
use Rattle.rx_poly.proofs.Constants.{variable_poly, zero_within}
use Rattle.rx_poly.proofs.Levels.{terms-of_terms}
use Rattle.rx_poly.proofs.ReadingLaws.{itself}
use Rattle.rx_poly.proofs.Unchanged.{unchanged}
use Rattle.rx_poly_laws.proofs.TestLaws.{passes-variable}
use Rattle.rx_row.specs.Membership.{stands_among}
use Rattle.rx_row.specs.Substitution.{row_within}
use Rattle.rx_row.specs.Variables.{rows_use_below}
use Rattle.rx_row.specs.declared.row.Row.{Row}
use Rattle.rx_row.specs.declared.row.Row.TheVariants.{Eq, Ge}
use Rattle.rx_row.proofs.Membership.{contains-stands}
use Rattle.rx_cert.specs.Conditions.{conditions, is_evident, is_number_with, is_plain_row, is_shown}
use Rattle.rx_cert.specs.Findings.{Yes, and_also, guard}
use Rattle.rx_cert.specs.declared.conditions.ConditionsAnswer.TheVariants as conditions_answer
use Rattle.rx_term.specs.Domains.{are_domains, inside_of, inside_rows}
use Rattle.rx_term.specs.Fitting.{term_fits}
use Rattle.rx_term.specs.Shapes as shape
use Rattle.rx_term.specs.Variables.{term_uses_below}
use Rattle.rx_term.specs.WellMade.{IsMade, IsWellMade, OfPoint, width}
use Rattle.rx_term.specs.declared.rule.Equation.{Equation}
use Rattle.rx_term.specs.declared.term.Term.TheVariants.{Return, outs-Call, outs-Return}
use Rattle.rx_term.proofs.Collecting.{inside-Call, inside-Return}
use Rattle.rx_term.proofs.Equations.{arguments-Call, arguments-Return, below-Return, depth-Call, fits-Call, fits-Return, subst_term-Return, redex-Call, shape-Call, shape-Return, within-Return}
use Rattle.rx_domain.specs.Keeping.{Keeps, goal_part, goes_on, keeping, part_finding, root_domain, rule_part}
use Rattle.rx_cover.specs.Covering.{Covers, covering}
use Rattle.rx_cover.specs.Covering.{goes_on as covers_on}
use Rattle.rx_cover.specs.Trees.{tree_finding}
use Rattle.rx_cover.specs.declared.cover_tree.CoverTree.TheVariants.{Use}
use Rattle.rx_cover.proofs.Equations.{finding_use}
use Rattle.rx_pairs.specs.Inside.{descends_in, descent_in, is_empty, listed_before, pairs_in, root_rows}
use Rattle.rx_pairs.specs.Listed.{pairs_by, parts_by}
use Rattle.rx_pairs.specs.Lowering.{Descends}
use Rattle.rx_pairs.specs.declared.pair.Pair.{Pair}
use Rattle.rx_inference.specs.Judging.{Shown, judged, of_conditions}
use Rattle.rx_inference.specs.Kinds.{formed_on}
use Rattle.rx_inference.specs.Pieces.{asking}
use Rattle.rx_inference.specs.declared.formed_step.Asked.TheVariants.{Rows}
use Rattle.rx_inference.specs.declared.formed_step.Under.TheVariants.{Goal}
use Rattle.rx_inference.specs.declared.step.Delete.TheVariants.{Equal}
use Rattle.rx_inference.specs.declared.step.Side.TheVariants.{Left}
use Rattle.rx_inference.specs.declared.step.Step.TheVariants.{Simplify, Delete}
use Rattle.rx_inference.proofs.FormingLaws.{shown_taken}
use Rattle.rx_inference.proofs.JudgingLaws.{one_group}
use Rattle.rx_proofs.specs.Example.{f, at_least_zero, at_variable, bounded, given_back, gives, no_columns}
use Rattle.rx_proofs.specs.Runs.{IsProof, Run, NoStep, OneMore, start, finished}
use Rattle.rx_proofs.specs.Runs as runs

-- ---- the variable

abbrev v : Body
v = variable 0

abbrev ws : List (ℕ × Body)
ws = numbered (v ∷ [])

abbrev row : Row
row = at_least_zero

-- it is put in its own place
stays : (n : ℕ) → replaced ws n ≡ variable n
stays zero = refl
stays (suc n) =
    ap (λ (b : Bool). if b then v else variable (suc n)) (ne_eqb 0 (suc n) (λ e. omega (arith, e)))

all_stay : (ns : List ℕ) → All (λ n. replaced ws n ≡ variable n) ns
all_stay [] = All-nil (λ n. replaced ws n ≡ variable n)
all_stay (n ∷ ns) = All-cons (λ n. replaced ws n ≡ variable n) n ns (stays n) (all_stay ns)

in_place : subst_body ws v ≡ record { form = v; within = true }
in_place = unchanged ws v (variable_poly 0) (all_stay (variables v))

row_formed : row_within ws row ≡ true
row_formed = ap (λ (p : Formed Body). p.within) in_place

over_one : uses_below 1 v ≡ true
over_one = passes-variable (λ n. nat_lt n 1) 0 refl

row_over_one : rows_use_below 1 (row ∷ []) ≡ true
row_over_one = and_from (uses_below 1 v) true over_one refl

-- ---- rows that are plain

stands : is_plain_row (row ∷ []) row ≡ true
stands =
    or_left (stands_among (row ∷ []) row) (is_evident row)
    (contains-stands (row ∷ []) row 0 (omega arith) refl)

-- one plain row takes no certificate
one_plain : (given : List Row) (r : Row) → is_plain_row given r ≡ true →
    conditions given (Some (r ∷ [])) [] ≡ Some conditions_answer.Shown
one_plain given r plain = rw plain refl

row_shown : conditions (row ∷ []) (Some (row ∷ [])) [] ≡ Some conditions_answer.Shown
row_shown = one_plain (row ∷ []) row stands

-- ---- the rule

one_wide : width at_variable ≡ 1
one_wide = ap length (arguments-Call f (v ∷ []))

call_fits : term_fits bounded at_variable ≡ true
call_fits = fits-Call bounded f (v ∷ [])

gives_made : IsMade bounded gives
gives_made = record {
  form = OfPoint f 1;
  few = let e = one_wide in omega (arith, e);
  left_fits = call_fits;
  right_fits = fits-Return bounded v;
  right_variables =
      ap (λ n. term_uses_below n (Return v)) one_wide ∙ below-Return 1 v ∙ over_one;
  row_variables = ap (λ n. rows_use_below n (row ∷ [])) one_wide ∙ row_over_one;
}

bounded_made : IsWellMade bounded
bounded_made = All-cons (IsMade bounded) gives [] gives_made (All-nil (IsMade bounded))

bounded_domains : are_domains bounded.symbols bounded.domains ≡ true
bounded_domains = and_from (rows_use_below 1 (row ∷ [])) true row_over_one refl

-- inside its domain it applies
shape_covered : tree_finding bounded.rules (shape.Call f) (Use 0 []) (row ∷ []) ≡ Yes
shape_covered =
    finding_use bounded.rules (shape.Call f) 0 [] (row ∷ []) ∙
    rw (shape-Call f (v ∷ [])) (ap is_shown row_shown)

bounded_covered : covering bounded ((Use 0 [] ∷ []) ∷ []) ≡ Covers
bounded_covered = λ i. covers_on 0 (and_also (shape_covered i) Yes) Covers

-- ---- what keeps the domain

inside_left : inside_rows bounded at_variable ≡ record { form = row ∷ []; within = true }
inside_left =
    inside-Call bounded f (v ∷ []) ∙
    (λ i. record { form = Ge (in_place i).form ∷ []; within = (in_place i).within && true })

inside_right : inside_rows bounded (Return v) ≡ pure []
inside_right = inside-Return bounded v

asked_is : inside_of bounded given_back ≡ record { form = row ∷ []; within = true }
asked_is = rw (inside_left, inside_right) refl

goal_kept : part_finding (goal_part bounded given_back) [] ≡ Yes
goal_kept =
    ap (λ (asked : Formed (List Row)). guard asked.within
    (is_shown (conditions (row ∷ []) (Some asked.form) []))) asked_is ∙ ap is_shown row_shown

rule_kept : part_finding (rule_part bounded gives) [] ≡ Yes
rule_kept =
    ap (λ (asked : Formed (List Row)). guard asked.within
    (is_shown (conditions (row ∷ [] ++ root_domain bounded gives) (Some asked.form) [])))
    inside_right

bounded_kept : keeping bounded given_back ([] ∷ [] ∷ []) ≡ Keeps
bounded_kept = λ i. goes_on 0 (goal_kept i) (goes_on 1 (rule_kept i) Keeps)

-- ---- it has no pairs

no_parts : (n : ℕ) → parts_by (suc n) at_variable (Return v) ≡ []
no_parts n = rw (depth-Call f (v ∷ []), outs-Return v) refl

no_pairs : (rows : List Row) →
    pairs_by (record { left = at_variable; right = Return v; rows = rows }) ≡ []
no_pairs rows = rw (outs-Call f (v ∷ []), no_parts) refl

none_in : pairs_in bounded gives ≡ record { form = []; within = true }
none_in = λ i. record {
  form = no_pairs (row ∷ [] ++ (root_rows bounded gives).form) i;
  within = is_empty (no_pairs (row ∷ []) i) || (root_rows bounded gives).within;
}

bounded_descends : descends_in bounded (gives ∷ []) no_columns [] ≡ Descends
bounded_descends =
    ap (λ (f : Formed (List Pair)).
    descent_in no_columns (listed_before f (record { pairs = []; whole = true })).whole 0
    (listed_before f (record { pairs = []; whole = true })).pairs []) none_in

-- ---- the run

-- both sides are the argument
abbrev same : Equation
same = record { left = Return v; right = Return v; rows = row ∷ [] }

simplifies : formed_on bounded given_back [] (Simplify Left 0 []) ≡
    Ok (asking (row ∷ []) (same ∷ []))
simplifies =
    rw (
      redex-Call f (v ∷ []),
      shape-Call f (v ∷ []),
      arguments-Call f (v ∷ []),
      subst_term-Return ws v,
      within-Return ws v,
      row_formed,
      in_place,
    ) refl

abbrev one_term : List (Mono × ℤ)
one_term = (of_atoms (Var 0 ∷ []), pos 1) ∷ []

less_itself : body_difference v v ≡ of_terms []
less_itself = rw (terms-of_terms one_term, itself (of_atoms (Var 0 ∷ []))) refl

deletes : formed_on bounded same [] (Delete (Equal [])) ≡ Ok (asking (Eq (of_terms []) ∷ []) [])
deletes = rw (shape-Return v, arguments-Return v, less_itself, zero_within) refl

zero_evident : is_evident (Eq (of_terms [])) ≡ true
zero_evident = ap (is_number_with is_zero) (ap constant_of (terms-of_terms []))

zero_shown : conditions (row ∷ []) (Some (Eq (of_terms []) ∷ [])) [] ≡
    Some conditions_answer.Shown
zero_shown =
    one_plain (row ∷ []) (Eq (of_terms []))
    (or_right (stands_among (row ∷ []) (Eq (of_terms []))) (is_evident (Eq (of_terms [])))
    zero_evident)

-- what is asked under the rows of the goal is shown
shown : (new rows : List Row) →
    conditions (row ∷ []) (Some rows) [] ≡ Some conditions_answer.Shown →
    judged (row ∷ []) new (Rows (record { under = Goal; rows = rows } ∷ [])) [] ≡ Shown
shown new rows e = one_group (row ∷ []) new rows [] ∙ ap of_conditions e

bounded_run : Run bounded (finished []) (start given_back)
bounded_run =
    OneMore (start given_back) (start same) (Simplify Left 0 [])
    (shown_taken bounded (start given_back) (Simplify Left 0 []) (asking (row ∷ []) (same ∷ []))
    simplifies (shown (row ∷ []) (row ∷ []) row_shown))
    (OneMore (start same) (finished []) (Delete (Equal []))
    (shown_taken bounded (start same) (Delete (Equal [])) (asking (Eq (of_terms []) ∷ []) [])
    deletes (shown [] (Eq (of_terms []) ∷ []) zero_shown))
    NoStep)

pub bounded_proof : IsProof bounded given_back [] no_columns
bounded_proof = record {
  made = bounded_made;
  domains = bounded_domains;
  fits = record { left = call_fits; right = fits-Return bounded v };
  kept = runs.Shown ([] ∷ [] ∷ []) bounded_kept;
  trees = (Use 0 [] ∷ []) ∷ [];
  covers = bounded_covered;
  run = bounded_run;
  lawful = refl;
  certs = [];
  descends = bounded_descends;
}
