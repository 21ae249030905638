-- What a hypothesis's variables are set to has no variables but those of the part and of the
-- hypothesis, and so have the rows that are asked.
use Rattle.std.proofs.Common.{◌≡◌, ◌∙◌, ap, subst, sym, refl, cond, ℕ, zero, suc, ◌==◌, Bool, true, false, ◌&&◌, Option, Some, None, List, [], ◌∷◌, ◌++◌, length, pos}
use Rattle.std.specs.Prelude.{nat_le}
use Rattle.std.specs.List.{list_all, zip}
use Rattle.std.proofs.lemmas.Bool.{and_from, and_parts}
use Rattle.std.proofs.lemmas.List.Elements.{All-weaker}
use Rattle.std.proofs.lemmas.List.Folds.{list_all-append}
use Rattle.std.proofs.lemmas.List.Sums.{AllPass-from_list_all}
use Rattle.std.proofs.lemmas.Option.{none-some}
use Rattle.rx_plain.specs.Formed.{map_formed}
use Rattle.rx_poly.proofs.Levels.{atoms-of_atoms}
use Rattle.rx_poly.proofs.ReadingLaws.{is_variable}
use Rattle.rx_poly.proofs.VariableLaws.{variables_Var}
use Rattle.rx_poly.specs.Constants.{variable}
use Rattle.rx_poly.specs.Limits.{of_atoms}
use Rattle.rx_poly.specs.Reading.{variable_of}
use Rattle.rx_poly.specs.Substitution.{subst_body, replaced}
use Rattle.rx_poly.specs.Variables.{variables}
use Rattle.rx_poly.specs.declared.body.Atom.TheVariants.{Var}
use Rattle.rx_poly.specs.declared.body.Body.{Body, out-Body}
use Rattle.rx_poly_laws.specs.Tests.{passes}
use Rattle.rx_poly_laws.proofs.InstanceVariables.{instance_passes}
use Rattle.rx_poly_laws.proofs.TestLaws.{atom_passes, mono_passes, mono_passes_is, passes-of_terms, passes-body_difference, passes-variable}
use Rattle.rx_row.specs.Substitution.{subst_row, subst_rows}
use Rattle.rx_row.specs.declared.row.Row.{Row}
use Rattle.rx_row.specs.declared.row.Row.TheVariants.{Ge, Eq, Ne}
use Rattle.rx_cert.specs.Elimination.{solution}
use Rattle.rx_cert.specs.Variables.{row_passes, rows_pass}
use Rattle.rx_solve.proofs.OwnVariables.{solution_passes, with_rows_pass}
use Rattle.rx_term.proofs.Equations.{Form, AReturn, AFail, ACall, AFrame, arguments-Frame, suffix_at-Frame, form}
use Rattle.rx_term.proofs.KeepingLaws.{arguments_in_term}
use Rattle.rx_term.specs.Differences.{difference}
use Rattle.rx_term.specs.Stacks.{suffix_at, under_frame}
use Rattle.rx_term.specs.Substitution.{subst_polys, subst_term}
use Rattle.rx_term.specs.Variables.{arguments_of}
use Rattle.rx_term.specs.declared.rule.Equation.{Equation}
use Rattle.rx_term.specs.declared.rule.Rule.{Rule}
use Rattle.rx_term.specs.declared.term.Term.{Term, Term-F}
use Rattle.rx_term.specs.declared.term.Term.TheVariants.{outs-Return, outs-Fail, outs-Call}
use Rattle.rx_inference.specs.Pieces.{all_zero, side_of}
use Rattle.rx_inference.specs.declared.step.Side.{Side}
use Rattle.rx_inference.specs.declared.step.Side.TheVariants.{Left, Right}
use Rattle.rx_match.specs.Arguments.{set_by_pairs, set_lone}
use Rattle.rx_match.specs.Equations.{only_one, pass, pass_times, set_by_equation, set_by_row, set_to_value, unset_in}
use Rattle.rx_match.specs.Matching.{asked_rows, matching}
use Rattle.rx_match.specs.Settings.{is_set, set_once, set_to}
use Rattle.rx_match.specs.Uses.{HasOwnVariables, IsShownAt}
use Rattle.rx_match.specs.Variables.{equation_passes, polys_pass, replacement_passes, rule_passes, substitution_passes, term_passes}
use Rattle.rx_match.specs.declared.finding.Use.{Use}

module _ (test : ℕ → Bool) where
  abbrev SubstPass : List (ℕ × Body) → Type 0
  SubstPass ws = substitution_passes test ws ≡ true

  -- ---- settings

  one_passes : (x : ℕ) (p : Body) (ws : List (ℕ × Body)) → test x ≡ true → passes test p ≡ true →
      SubstPass ws → SubstPass ((x, p) ∷ ws)
  one_passes x p ws h k s =
      and_from (replacement_passes test (x, p)) (substitution_passes test ws)
      (and_from (test x) (passes test p) h k) s

  placed_passes : (b : Bool) (x : ℕ) (p : Body) (w : ℕ × Body) (ws : List (ℕ × Body)) →
      SubstPass ((x, p) ∷ w ∷ ws) → SubstPass (w ∷ set_to x p ws)
      → SubstPass (cond b ((x, p) ∷ w ∷ ws) (w ∷ set_to x p ws))
  placed_passes true x p w ws h k = h
  placed_passes false x p w ws h k = k

  set_to_passes : (x : ℕ) (p : Body) (ws : List (ℕ × Body)) → test x ≡ true → passes test p ≡ true →
      SubstPass ws → SubstPass (set_to x p ws)
  set_to_passes x p [] h k s = one_passes x p [] h k refl
  set_to_passes x p (w ∷ ws) h k s =
      let parts = and_parts (replacement_passes test w) (substitution_passes test ws) s in
      placed_passes (nat_le x w.0) x p w ws (one_passes x p (w ∷ ws) h k s)
      (and_from (replacement_passes test w) (substitution_passes test (set_to x p ws)) parts.0
      (set_to_passes x p ws h k parts.1))

  set_once_passes : (x : ℕ) (p : Body) (ws : List (ℕ × Body)) → test x ≡ true → passes test p ≡
      true → SubstPass ws → SubstPass (set_once x p ws)
  set_once_passes x p ws h k s = by (is_set ws x)
    where
      by : (b : Bool) → SubstPass (cond b ws (set_to x p ws))
      by true = s
      by false = set_to_passes x p ws h k s

  -- ---- by arguments

  -- a variable that passes, as a polynomial
  pub variable_test : (n : ℕ) → passes test (variable n) ≡ true → test n ≡ true
  variable_test n h =
      let k = of_atoms (Var n ∷ []) in
      let mono = (and_parts (mono_passes test k) true
      (sym (passes-of_terms test ((k, pos 1) ∷ [])) ∙ h)).0 in
      let atoms : list_all (atom_passes test) (Var n ∷ []) ≡ true =
      sym (mono_passes_is test k ∙ ap (list_all (atom_passes test))
      (atoms-of_atoms (Var n ∷ []))) ∙ mono in
      let atom : atom_passes test (Var n) ≡ true =
      (and_parts (atom_passes test (Var n)) true atoms).0 in
      (and_parts (test n) true (sym (ap (list_all test) (variables_Var n)) ∙ atom)).0

  lone_passes : (q p : Body) (ws : List (ℕ × Body)) (o : Option ℕ) → o ≡
      variable_of (out-Body q).terms → passes test q ≡ true → passes test p ≡ true → SubstPass ws
      → SubstPass (set_lone o p ws)
  lone_passes q p ws None e h k s = s
  lone_passes q p ws (Some x) e h k s =
      let same : q ≡ variable x = (is_variable q x e).0 refl in
      set_once_passes x p ws (variable_test x (subst (λ r. passes test r ≡ true) same h)) k s

  abbrev pairs_pass : List (Body × Body) → Bool
  pairs_pass pairs =
      list_all (λ (pair : Body × Body). passes test pair.0 && passes test pair.1) pairs

  zip_passes : (ps qs : List Body) → polys_pass test ps ≡ true → polys_pass test qs ≡ true →
      pairs_pass (zip ps qs) ≡ true
  zip_passes [] qs h k = refl
  zip_passes (p ∷ ps) [] h k = refl
  zip_passes (p ∷ ps) (q ∷ qs) h k =
      let one = and_parts (passes test p) (polys_pass test ps) h in
      let other = and_parts (passes test q) (polys_pass test qs) k in
      and_from (passes test p && passes test q) (pairs_pass (zip ps qs))
      (and_from (passes test p) (passes test q) one.0 other.0) (zip_passes ps qs one.1 other.1)

  by_pairs_passes : (pairs : List (Body × Body)) (ws : List (ℕ × Body)) → pairs_pass pairs ≡ true →
      SubstPass ws → SubstPass (set_by_pairs pairs ws)
  by_pairs_passes [] ws h s = s
  by_pairs_passes (pair ∷ pairs) ws h s =
      let parts = and_parts (passes test pair.0 && passes test pair.1) (pairs_pass pairs) h in
      let both = and_parts (passes test pair.0) (passes test pair.1) parts.0 in
      by_pairs_passes pairs (set_lone (variable_of (out-Body pair.0).terms) pair.1 ws) parts.1
      (lone_passes pair.0 pair.1 ws (variable_of (out-Body pair.0).terms) refl both.0 both.1 s)

  -- ---- instances

  first_or_later : (b : Bool) (p q : Body) → passes test p ≡ true → passes test q ≡ true →
      passes test (cond b p q) ≡ true
  first_or_later true p q h k = h
  first_or_later false p q h k = k

  replaced_passes : (ws : List (ℕ × Body)) → SubstPass ws → (n : ℕ) → test n ≡ true →
      passes test (replaced ws n) ≡ true
  replaced_passes [] s n h = passes-variable test n h
  replaced_passes (w ∷ ws) s n h =
      let parts = and_parts (replacement_passes test w) (substitution_passes test ws) s in
      first_or_later (w.0 == n) w.1 (replaced ws n)
      (and_parts (test w.0) (passes test w.1) parts.0).1 (replaced_passes ws parts.1 n h)

  instance_of_passes : (ws : List (ℕ × Body)) (p : Body) → SubstPass ws → passes test p ≡ true →
      passes test (subst_body ws p).form ≡ true
  instance_of_passes ws p s h =
      instance_passes test ws p (All-weaker (λ n. test n ≡ true)
      (λ n. passes test (replaced ws n) ≡ true) (replaced_passes ws s) (variables p)
      (AllPass-from_list_all test (variables p) h))

  in_polys_pass : (ws : List (ℕ × Body)) (ps : List Body) → SubstPass ws → polys_pass test ps ≡
      true → polys_pass test (subst_polys ws ps) ≡ true
  in_polys_pass ws [] s h = refl
  in_polys_pass ws (p ∷ ps) s h =
      let parts = and_parts (passes test p) (polys_pass test ps) h in
      and_from (passes test (subst_body ws p).form) (polys_pass test (subst_polys ws ps))
      (instance_of_passes ws p s parts.0) (in_polys_pass ws ps s parts.1)

  in_row_passes : (ws : List (ℕ × Body)) (row : Row) → SubstPass ws → row_passes test row ≡ true →
      row_passes test (subst_row ws row) ≡ true
  in_row_passes ws (Ge p) s h = instance_of_passes ws p s h
  in_row_passes ws (Eq p) s h = instance_of_passes ws p s h
  in_row_passes ws (Ne p) s h = instance_of_passes ws p s h

  in_rows_pass : (ws : List (ℕ × Body)) (rows : List Row) → SubstPass ws → rows_pass test rows ≡
      true → rows_pass test (subst_rows ws rows) ≡ true
  in_rows_pass ws [] s h = refl
  in_rows_pass ws (row ∷ rows) s h =
      let parts = and_parts (row_passes test row) (rows_pass test rows) h in
      and_from (row_passes test (subst_row ws row)) (rows_pass test (subst_rows ws rows))
      (in_row_passes ws row s parts.0) (in_rows_pass ws rows s parts.1)

  -- ---- by equations

  value_passes : (ws : List (ℕ × Body)) (x : ℕ) (p : Body) (o : Option Body) → solution x p ≡ o →
      passes test p ≡ true → SubstPass ws → SubstPass (set_to_value ws x o).form
  value_passes ws x p None e h s = s
  value_passes ws x p (Some v) e h s =
      let own = solution_passes test x p v h e in
      set_to_passes x (subst_body ws v).form ws own.0 (instance_of_passes ws v s own.1) s

  equation_sets : (ws : List (ℕ × Body)) (p : Body) (o : Option ℕ) → passes test p ≡ true →
      SubstPass ws → SubstPass (set_by_equation ws p o).form
  equation_sets ws p None h s = s
  equation_sets ws p (Some x) h s = value_passes ws x p (solution x p) refl h s

  row_sets : (ws : List (ℕ × Body)) (row : Row) → row_passes test row ≡ true → SubstPass ws →
      SubstPass (set_by_row ws row).form
  row_sets ws (Ge p) h s = s
  row_sets ws (Eq p) h s = equation_sets ws p (only_one (unset_in ws p)) h s
  row_sets ws (Ne p) h s = s

  pass_sets : (rows : List Row) (ws : List (ℕ × Body)) → rows_pass test rows ≡ true → SubstPass ws →
      SubstPass (pass rows ws).form
  pass_sets [] ws h s = s
  pass_sets (row ∷ rows) ws h s =
      let parts = and_parts (row_passes test row) (rows_pass test rows) h in
      pass_sets rows (set_by_row ws row).form parts.1 (row_sets ws row parts.0 s)

  times_set : (n : ℕ) (rows : List Row) (ws : List (ℕ × Body)) → rows_pass test rows ≡ true →
      SubstPass ws → SubstPass (pass_times n rows ws).form
  times_set zero rows ws h s = s
  times_set (suc n) rows ws h s = times_set n rows (pass rows ws).form h (pass_sets rows ws h s)

  -- ---- parts of the goal

  abbrev PartPasses : ℕ → Term → Type 0
  PartPasses n t =
      (s : Term) → term_passes test t ≡ true → suffix_at n t ≡ Some s → term_passes test s ≡ true

  part_inside : (n : ℕ) → ((u : Term) → PartPasses n u) → (t : Term) → Form t → PartPasses (suc n) t
  part_inside n further _ (AReturn p) s h e =
      absurd (none-some s (sym (ap (λ (x : Term-F Term). under_frame x (suffix_at n)) (outs-Return p))
      ∙
      e))
  part_inside n further _ (AFail c) s h e =
      absurd (none-some s (sym (ap (λ (x : Term-F Term). under_frame x (suffix_at n)) (outs-Fail c)) ∙
      e))
  part_inside n further _ (ACall f ps) s h e =
      absurd (none-some s (sym (ap (λ (x : Term-F Term). under_frame x (suffix_at n))
      (outs-Call f ps)) ∙
      e))
  part_inside n further _ (AFrame f ps t) s h e =
      let all : polys_pass test (ps ++ arguments_of t) ≡ true =
      sym (ap (polys_pass test) (arguments-Frame f ps t)) ∙ h in
      let both = and_parts (polys_pass test ps) (polys_pass test (arguments_of t))
      (sym (list_all-append (passes test) ps (arguments_of t)) ∙ all) in
      further t s both.1 (sym (suffix_at-Frame n f ps t) ∙ e)

  part_passes : (n : ℕ) (t : Term) → PartPasses n t
  part_passes zero t =
      λ s h e. let same : t ≡ s = cc in subst (λ u. term_passes test u ≡ true) same h
  part_passes (suc n) t = part_inside n (λ u. part_passes n u) t (form t)

  side_passes : (side : Side) (goal : Equation) → equation_passes test goal ≡ true →
      term_passes test (side_of side goal) ≡ true
  side_passes Left goal h =
      (and_parts (term_passes test goal.left)
      (term_passes test goal.right && rows_pass test goal.rows) h).0
  side_passes Right goal h =
      (and_parts (term_passes test goal.right) (rows_pass test goal.rows)
      (and_parts (term_passes test goal.left)
      (term_passes test goal.right && rows_pass test goal.rows) h).1).0

  goal_rows_pass : (goal : Equation) → equation_passes test goal ≡ true → rows_pass test goal.rows ≡
      true
  goal_rows_pass goal h =
      (and_parts (term_passes test goal.right) (rows_pass test goal.rows)
      (and_parts (term_passes test goal.left)
      (term_passes test goal.right && rows_pass test goal.rows) h).1).1

  left_passes : (r : Rule) → rule_passes test r ≡ true → term_passes test r.left ≡ true
  left_passes r h =
      (and_parts (term_passes test r.left) (term_passes test r.right && rows_pass test r.rows) h).0

  rule_rows_pass : (r : Rule) → rule_passes test r ≡ true → rows_pass test r.rows ≡ true
  rule_rows_pass r h =
      (and_parts (term_passes test r.right) (rows_pass test r.rows)
      (and_parts (term_passes test r.left) (term_passes test r.right && rows_pass test r.rows)
      h).1).1

  -- ---- the match, and the rows that are asked

  matching_passes : (r : Rule) (part : Term) → rule_passes test r ≡ true → term_passes test part ≡
      true → SubstPass (matching r part).form
  matching_passes r part h k =
      times_set (length r.rows) r.rows (set_by_pairs (zip (arguments_of r.left) (arguments_of part))
      []) (rule_rows_pass r h)
      (by_pairs_passes (zip (arguments_of r.left) (arguments_of part)) []
      (zip_passes (arguments_of r.left) (arguments_of part) (left_passes r h) k) refl)

  differences_pass : (pairs : List (Body × Body)) → pairs_pass pairs ≡ true →
      rows_pass test (all_zero (map_formed difference pairs).form) ≡ true
  differences_pass [] h = refl
  differences_pass (pair ∷ pairs) h =
      let parts = and_parts (passes test pair.0 && passes test pair.1) (pairs_pass pairs) h in
      let both = and_parts (passes test pair.0) (passes test pair.1) parts.0 in
      and_from _ _ (passes-body_difference test pair.0 pair.1 both.0 both.1)
      (differences_pass pairs parts.1)

  asked_pass : (ws : List (ℕ × Body)) (part : Term) (r : Rule) → SubstPass ws →
      term_passes test part ≡ true → rule_passes test r ≡ true
      → rows_pass test (asked_rows ws part r).form ≡ true
  asked_pass ws part r s k h =
      let left : polys_pass test (arguments_of (subst_term ws r.left)) ≡ true =
      ap (polys_pass test) (arguments_in_term ws r.left) ∙
      in_polys_pass ws (arguments_of r.left) s (left_passes r h) in
      let pairs = zip (arguments_of part) (arguments_of (subst_term ws r.left)) in
      with_rows_pass test (all_zero (map_formed difference pairs).form) (subst_rows ws r.rows)
      (differences_pass pairs (zip_passes (arguments_of part) (arguments_of (subst_term ws r.left))
      k
      left))
      (in_rows_pass ws r.rows s (rule_rows_pass r h))

-- a use that is shown at a part has no variables but those of the goal and of the hypothesis
pub own_use : (goal : Equation) (hypothesis : Rule) (side : Side) (place : ℕ) (part : Term) →
    suffix_at place (side_of side goal) ≡ Some part
    → (u : Use) → IsShownAt goal hypothesis part (matching hypothesis part).form u →
    HasOwnVariables goal hypothesis u
own_use goal hypothesis side place part at u s =
    let ws = (matching hypothesis part).form in record {
      subst = λ test h k.
          let there = part_passes test place (side_of side goal) part (side_passes test side goal h)
          at in
          ap (substitution_passes test) s.shown.same ∙ matching_passes test hypothesis part k there;
      certs = λ test h k.
          let there = part_passes test place (side_of side goal) part (side_passes test side goal h)
          at in
          s.shown.shown.own_variables test (goal_rows_pass test goal h)
          (asked_pass test ws part hypothesis (matching_passes test hypothesis part k there) there
          k);
    }
