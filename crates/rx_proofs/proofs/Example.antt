-- The example is a proof: its run, its cover trees, and its rank table.
use Rattle.std.proofs.Common.{◌≡◌, ℕ, true, ◌||◌, if◌then◌else◌, Option, Some, None, Ok, List, [], ◌∷◌, length, refl, ap, ◌∙◌, ℤ, arith, All}
use Rattle.std.proofs.lemmas.List.Elements.{All-cons, All-nil}
use Rattle.std.specs.Prelude.{int_lt, nat_lt, not, pos}
use Rattle.std.specs.List.{list_all}
use Rattle.std.specs.Option.{option_map_or}
use Rattle.std.proofs.lemmas.Bool.{and_from}
use Rattle.std.specs.declared.cmp.Ordering.TheVariants.{Equal as Same}
use Rattle.rx_plain.specs.Formed.{Formed, pure}
use Rattle.rx_poly.specs.Constants.{number, variable}
use Rattle.rx_poly.specs.Limits.{of_atoms, of_terms, body_difference}
use Rattle.rx_poly.specs.Order.{mono_cmp}
use Rattle.rx_poly.specs.Substitution.{subst_body, replaced}
use Rattle.rx_poly.specs.Variables.{uses_below, variables}
use Rattle.rx_poly.specs.Normal.{is_empty}
use Rattle.rx_poly.specs.Reading.{constant_of}
use Rattle.rx_poly.specs.declared.body.Atom.{Atom}
use Rattle.rx_poly.specs.declared.body.Mono.{Mono}
use Rattle.rx_poly.proofs.Constants.{number_poly, number_within, zero_within}
use Rattle.rx_poly.proofs.Levels.{atoms-of_atoms, terms-of_terms}
use Rattle.rx_poly.proofs.OrderLemmas.{mono_cmp_is}
use Rattle.rx_poly.proofs.PolyLaws.{zero_poly}
use Rattle.rx_poly.proofs.Unchanged.{unchanged}
use Rattle.rx_poly_laws.proofs.TestLaws.{passes-number}
use Rattle.rx_row.specs.declared.row.Row.{Row}
use Rattle.rx_row.specs.declared.row.Row.TheVariants.{Ge}
use Rattle.rx_cert.specs.Findings.{Yes, and_also}
use Rattle.rx_cert.specs.Conditions.{conditions, is_evident, is_number_with, is_shown}
use Rattle.rx_cert.specs.declared.conditions.ConditionsAnswer.TheVariants as conditions_answer
use Rattle.rx_term.specs.Fitting.{term_fits}
use Rattle.rx_term.specs.Shapes as shape
use Rattle.rx_term.specs.WellMade.{IsMade, IsWellMade, OfPoint, width}
use Rattle.rx_term.specs.declared.term.Sym.{Sym}
use Rattle.rx_term.specs.declared.term.Term.TheVariants.{Call, Fail}
use Rattle.rx_term.specs.Domains.{rows_at}
use Rattle.rx_term.specs.declared.rule.Rule.{Rule}
use Rattle.rx_term.specs.declared.term.Term.{Term}
use Rattle.rx_term.specs.declared.term.Term.TheVariants.{outs-Call, outs-Fail}
use Rattle.rx_term.proofs.BoundLaws.{bound-Call}
use Rattle.rx_term.proofs.Collecting.{inside-Call}
use Rattle.rx_term.proofs.Equations.{arguments-Call, arguments-Fail, below-Fail, depth-Call, depth-Fail, fits-Call, fits-Fail, subst_term-Call, subst_term-Fail, redex-Call, shape-Call, shape-Fail, within-Call, within-Fail}
use Rattle.rx_cover.specs.Covering.{Covers, covering, goes_on}
use Rattle.rx_cover.specs.Trees.{tree_finding}
use Rattle.rx_cover.specs.declared.cover_tree.CoverTree.TheVariants.{Use}
use Rattle.rx_cover.proofs.Equations.{finding_use}
use Rattle.rx_pairs.specs.Columns.{falls_rows}
use Rattle.rx_pairs.specs.Inside.{descends_in, descent_in, is_empty as has_none, listed_before, listing, pairs_in, root_rows, with_more_rows}
use Rattle.rx_pairs.specs.Listed.{pairs_by, root_part_level, root_part_of}
use Rattle.rx_pairs.specs.Lowering.{Descends, lower_finding, rows_finding, goes_on as descending}
use Rattle.rx_pairs.specs.Pairs.{Part, pair_of, part}
use Rattle.rx_pairs.specs.Ranks.{bad_rank}
use Rattle.rx_pairs.specs.declared.listing.Listing.{Listing}
use Rattle.rx_pairs.specs.declared.pair.Pair.{Pair}
use Rattle.rx_inference.specs.Kinds.{formed_on}
use Rattle.rx_inference.specs.Making.{asking_before}
use Rattle.rx_inference.specs.Pieces.{asking, asking_nothing}
use Rattle.rx_inference.specs.States.{applied}
use Rattle.rx_inference.specs.declared.step.Delete.TheVariants.{Equal}
use Rattle.rx_inference.specs.declared.step.Side.TheVariants.{Left, Right}
use Rattle.rx_inference.specs.declared.step.Step.TheVariants.{Simplify, Expand, Delete, Postulate}
use Rattle.rx_inference.proofs.FormingLaws.{shown_taken}
use Rattle.rx_proofs.specs.Example.{f, g, fails, example, equal, alike, hypothesis, by_hypothesis, knowing, table}
use Rattle.rx_proofs.specs.Runs.{IsProof, NoDomains, Run, NoStep, OneMore, start, finished}

-- ---- the rules

pub no_width : (s : Sym) → width (Call s []) ≡ 0
no_width s = ap length (arguments-Call s [])

fails_made : (s : Sym) → term_fits example (Call s []) ≡ true → IsMade example (fails s)
fails_made s fits = record {
  form = OfPoint s 0;
  few = let e = no_width s in omega (arith, e);
  left_fits = fits;
  right_fits = fits-Fail example 1;
  right_variables = below-Fail (width (Call s [])) 1;
  row_variables = refl;
}

f_fits : term_fits example (Call f []) ≡ true
f_fits = fits-Call example f []

g_fits : term_fits example (Call g []) ≡ true
g_fits = fits-Call example g []

example_made : IsWellMade example
example_made =
    All-cons (IsMade example) (fails f) (fails g ∷ []) (fails_made f f_fits)
    (All-cons (IsMade example) (fails g) [] (fails_made g g_fits) (All-nil (IsMade example)))

f_covered : tree_finding example.rules (shape.Call f) (Use 0 []) [] ≡ Yes
f_covered = finding_use example.rules (shape.Call f) 0 [] [] ∙ rw (shape-Call f []) refl

g_covered : tree_finding example.rules (shape.Call g) (Use 1 []) [] ≡ Yes
g_covered = finding_use example.rules (shape.Call g) 1 [] [] ∙ rw (shape-Call g []) refl

example_covered : covering example ((Use 0 [] ∷ []) ∷ (Use 1 [] ∷ []) ∷ []) ≡ Covers
example_covered =
    (λ i. goes_on 0 (and_also (f_covered i) Yes) (goes_on 1 (and_also (g_covered i) Yes) Covers))

-- ---- ranks

abbrev one_term : List (Mono × ℤ)
one_term = (of_atoms [], pos 1) ∷ []

pub all_stay : (vs : List ℕ) → All (λ v. replaced [] v ≡ variable v) vs
all_stay [] = All-nil (λ v. replaced [] v ≡ variable v)
all_stay (v ∷ vs) = All-cons (λ v. replaced [] v ≡ variable v) v vs refl (all_stay vs)

in_one : subst_body [] (number (pos 1)) ≡ record { form = number (pos 1); within = true }
in_one =
    unchanged [] (number (pos 1)) (number_poly (pos 1) refl refl)
    (all_stay (variables (number (pos 1))))

pub in_zero : subst_body [] (number (pos 0)) ≡ record { form = number (pos 0); within = true }
in_zero = unchanged [] (number (pos 0)) zero_poly (all_stay (variables (number (pos 0))))

same_key : mono_cmp (of_atoms []) (of_atoms []) ≡ Same
same_key = mono_cmp_is (of_atoms []) (of_atoms [])

less_zero : body_difference (number (pos 1)) (number (pos 0)) ≡ number (pos 1)
less_zero = rw (terms-of_terms one_term, terms-of_terms []) refl

less_one : body_difference (number (pos 1)) (number (pos 1)) ≡ of_terms []
less_one = rw (terms-of_terms one_term, same_key) refl

abbrev the_pair : Pair
the_pair = pair_of hypothesis (part f []) (part g [])

falls : falls_rows the_pair (number (pos 1)) (number (pos 0)) ≡
    record { form = Ge (number (pos 1)) ∷ Ge (of_terms []) ∷ []; within = true }
falls = rw (in_one, in_zero, less_zero, number_within (pos 1), less_one, zero_within) refl

one_is : constant_of one_term ≡ Some (pos 1)
one_is = ap (λ (xs : List Atom). if is_empty xs then Some (pos 1) else None) (atoms-of_atoms [])

number_evident : is_evident (Ge (number (pos 1))) ≡ true
number_evident =
    ap (is_number_with (λ k. not (int_lt k (pos 0))))
    (ap constant_of (terms-of_terms one_term) ∙ one_is)

zero_evident : is_evident (Ge (of_terms [])) ≡ true
zero_evident =
    ap (is_number_with (λ k. not (int_lt k (pos 0)))) (ap constant_of (terms-of_terms []))

-- two evident rows take no certificates
both_evident : (r q : Row) → is_evident r ≡ true → is_evident q ≡ true →
    conditions [] (Some (r ∷ q ∷ [])) [] ≡ Some conditions_answer.Shown
both_evident r q one other = rw (one, other) refl

evident : conditions [] (Some (Ge (number (pos 1)) ∷ Ge (of_terms []) ∷ [])) [] ≡
    Some conditions_answer.Shown
evident = both_evident (Ge (number (pos 1))) (Ge (of_terms [])) number_evident zero_evident

lower : lower_finding the_pair table (record { column = 1; certs = [] }) ≡ Yes
lower = ap (λ (rows : Formed (List Row)). rows_finding the_pair rows []) falls ∙ ap is_shown evident

over_nothing : (n : ℕ) (k : ℤ) → list_all (uses_below n) (number k ∷ []) ≡ true
over_nothing n k = and_from (uses_below n (number k)) true (passes-number (λ v. nat_lt v n) k) refl

table_lawful : bad_rank example table ≡ None
table_lawful = rw (over_nothing 0 (pos 1), over_nothing 0 (pos 0)) refl

-- ---- pairs

-- a point that fails has none
no_pairs : (s : Sym) (rows : List Row) →
    pairs_by (record { left = Call s []; right = Fail 1; rows = rows }) ≡ []
no_pairs s rows = rw (outs-Call s [], depth-Call s [], depth-Fail 1, outs-Fail 1) refl

one_pair : pairs_by hypothesis ≡ the_pair ∷ []
one_pair = rw (outs-Call f [], depth-Call f [], depth-Call g [], outs-Call g []) refl

no_root : (s : Sym) → root_part_of (Call s []) ≡ Some (part s [])
no_root s = ap root_part_level (outs-Call s [])

-- no symbol has a domain
no_rows : (rule : Rule) (s : Sym) → rule.left ≡ Call s [] → root_rows example rule ≡ pure []
no_rows rule s is =
    ap (λ (t : Term). option_map_or (λ (r : Part). rows_at example r.symbol.0 r.arguments)
    (root_part_of t) (pure [])) is
    ∙ ap (λ (o : Option Part). option_map_or (λ (r : Part).
    rows_at example r.symbol.0 r.arguments) o (pure [])) (no_root s)

fails_in : (s : Sym) → pairs_in example (fails s) ≡ record { form = []; within = true }
fails_in s = λ i. record {
  form = no_pairs s (root_rows example (fails s)).form i;
  within = has_none (no_pairs s [] i) || (root_rows example (fails s)).within;
}

hypothesis_in : pairs_in example hypothesis ≡ record { form = the_pair ∷ []; within = true }
hypothesis_in =
    ap (λ (rows : Formed (List Row)). record {
      form = pairs_by (with_more_rows hypothesis rows.form);
      within = has_none (pairs_by hypothesis) || rows.within;
    }) (no_rows hypothesis f refl) ∙
    ap (λ (pairs : List Pair). record { form = pairs; within = has_none pairs || true }) one_pair

listed : listing example (fails f ∷ fails g ∷ hypothesis ∷ []) ≡
    record { pairs = the_pair ∷ []; whole = true }
listed = λ i. listed_before (fails_in f i) (listed_before (fails_in g i)
    (listed_before (hypothesis_in i) (record { pairs = []; whole = true })))

descends : descends_in example (fails f ∷ fails g ∷ hypothesis ∷ []) table
    (record { column = 1; certs = [] } ∷ []) ≡ Descends
descends =
    ap (λ (l : Listing). descent_in table l.whole 0 l.pairs (record { column = 1; certs = [] } ∷ []))
    listed ∙ ap (λ found. descending 0 found Descends) lower

-- ---- the run

postulates : formed_on example alike [] (Postulate (Call f []) (Call g []) [] []) ≡
    Ok (asking_before [] alike alike)
postulates =
    rw (
      f_fits,
      g_fits,
      bound-Call f [],
      bound-Call g [],
      inside-Call example f [],
      inside-Call example g [],
    ) refl

expands : formed_on example alike [] (Expand Left true) ≡
    Ok (asking_nothing (equal (Fail 1) (Call g []) ∷ []) (hypothesis ∷ []))
expands =
    rw (
      redex-Call f [],
      shape-Call f [],
      shape-Call g [],
      redex-Call f [],
      subst_term-Fail,
      within-Fail,
    ) refl

simplifies : formed_on example (equal (Fail 1) (Call g [])) (hypothesis ∷ []) (Simplify Right 1 [])
    ≡ Ok (asking [] (equal (Fail 1) (Fail 1) ∷ []))
simplifies = rw (redex-Call g [], shape-Call g [], subst_term-Fail, within-Fail) refl

deletes : formed_on example (equal (Fail 1) (Fail 1)) (hypothesis ∷ []) (Delete (Equal [])) ≡
    Ok (asking [] [])
deletes = rw (shape-Fail 1, arguments-Fail 1) refl

uses : formed_on example alike (hypothesis ∷ []) by_hypothesis ≡
    Ok (asking [] (equal (Call g []) (Call g []) ∷ []))
uses =
    rw (
      shape-Call f [],
      subst_term-Call [] f [],
      subst_term-Call [] g [],
      within-Call [] f [],
      within-Call [] g [],
      arguments-Call f [],
    ) refl

deletes_too : formed_on example (equal (Call g []) (Call g [])) (hypothesis ∷ [])
    (Delete (Equal [])) ≡ Ok (asking [] [])
deletes_too = rw (shape-Call g [], arguments-Call g []) refl

-- the hypothesis is used
pub hypothesis_used : applied example (knowing alike) by_hypothesis ≡
    Ok (knowing (equal (Call g []) (Call g [])))
hypothesis_used =
    shown_taken example (knowing alike) by_hypothesis
    (asking [] (equal (Call g []) (Call g []) ∷ [])) uses refl

-- the example's steps: the goal is postulated, expanded and kept, shown, and then used for itself
example_run : Run example (finished (hypothesis ∷ [])) (start alike)
example_run =
    OneMore (start alike) (record { goals = alike ∷ alike ∷ []; hypotheses = [] })
    (Postulate (Call f []) (Call g []) [] [])
    (shown_taken example (start alike) (Postulate (Call f []) (Call g []) [] [])
    (asking_before [] alike alike) postulates refl)
    (OneMore (record { goals = alike ∷ alike ∷ []; hypotheses = [] })
    (record { goals = equal (Fail 1) (Call g []) ∷ alike ∷ []; hypotheses = hypothesis ∷ [] })
    (Expand Left true)
    (shown_taken example (record { goals = alike ∷ alike ∷ []; hypotheses = [] }) (Expand Left true)
    (asking_nothing (equal (Fail 1) (Call g []) ∷ []) (hypothesis ∷ [])) expands refl)
    (OneMore (record {
      goals = equal (Fail 1) (Call g []) ∷ alike ∷ [];
      hypotheses = hypothesis ∷
          [];
    }) (record {
      goals = equal (Fail 1) (Fail 1) ∷ alike ∷ [];
      hypotheses = hypothesis ∷
          [];
    }) (Simplify Right 1 [])
    (shown_taken example (record {
      goals = equal (Fail 1) (Call g []) ∷ alike ∷ [];
      hypotheses =
          hypothesis ∷ [];
    }) (Simplify Right 1 []) (asking [] (equal (Fail 1) (Fail 1) ∷ []))
    simplifies refl)
    (OneMore (record { goals = equal (Fail 1) (Fail 1) ∷ alike ∷ []; hypotheses = hypothesis ∷ [] })
    (knowing alike) (Delete (Equal []))
    (shown_taken example (record {
      goals = equal (Fail 1) (Fail 1) ∷ alike ∷ [];
      hypotheses =
          hypothesis ∷ [];
    }) (Delete (Equal [])) (asking [] []) deletes refl)
    (OneMore (knowing alike) (knowing (equal (Call g []) (Call g []))) by_hypothesis hypothesis_used
    (OneMore (knowing (equal (Call g []) (Call g []))) (finished (hypothesis ∷ []))
    (Delete (Equal []))
    (shown_taken example (knowing (equal (Call g []) (Call g []))) (Delete (Equal []))
    (asking [] []) deletes_too refl)
    NoStep)))))

pub example_proof : IsProof example alike (hypothesis ∷ []) table
example_proof = record {
  made = example_made;
  domains = refl;
  fits = record { left = f_fits; right = g_fits };
  kept = NoDomains refl;
  trees = (Use 0 [] ∷ []) ∷ (Use 1 [] ∷ []) ∷ [];
  covers = example_covered;
  run = example_run;
  lawful = table_lawful;
  certs = record { column = 1; certs = [] } ∷ [];
  descends = descends;
}
