-- The rows of the new goal: those of the old one that are kept, and instances of rows of rules that
-- the old ones show.
use Rattle.std.proofs.Common.{◌≡◌, ◌∙◌, ap, subst, sym, cond, refl, ℕ, ◌+◌, ◌<◌, ◌≤◌, ◌==◌, Bool, true, false, not, Option, Some, None, List, [], ◌∷◌, ◌++◌, length, Contains, arith}
use Rattle.std.specs.Prelude.{IfSome, nat_lt, option_and_then}
use Rattle.std.specs.List.{All, list_all}
use Rattle.std.proofs.lemmas.Bool.{and_from, and_parts, ltb-true}
use Rattle.std.proofs.lemmas.Bool.Decides.{nat_tests}
use Rattle.std.proofs.lemmas.List.Elements.{All-cons, All-filter, All-head, All-nil, All-push, All-tail, All-weaker}
use Rattle.std.proofs.lemmas.List.Folds.{list_all-append}
use Rattle.std.proofs.lemmas.List.Sums.{AllPass-from_list_all, list_all-from_AllPass}
use Rattle.rx_poly.specs.Normal.{is_poly}
use Rattle.rx_poly.specs.Substitution.{numbered, numbered_from, replaced, subst_body}
use Rattle.rx_poly.specs.Variables.{uses_below, variables}
use Rattle.rx_poly.specs.declared.body.Body.{Body}
use Rattle.rx_poly_laws.proofs.InstanceVariables.{instance_passes}
use Rattle.rx_row.specs.Membership.{pushed, stands_among}
use Rattle.rx_row.specs.Parts.{poly_of}
use Rattle.rx_row.specs.Substitution.{row_within, subst_row, subst_rows}
use Rattle.rx_row.specs.Variables.{row_uses_below, rows_use_below}
use Rattle.rx_row.specs.declared.row.Row.{Row}
use Rattle.rx_row.specs.declared.row.Row.TheVariants.{Ge, Eq, Ne}
use Rattle.rx_row.proofs.Membership.{contains-stands}
use Rattle.rx_term.proofs.Equations.{arguments-Call, fits-Call, shape-Call}
use Rattle.rx_term.proofs.RuleLaws.{known_shape}
use Rattle.rx_term.proofs.ShapeLaws.{aligned, same_count}
use Rattle.rx_term.specs.Fitting.{is_declared, term_fits}
use Rattle.rx_term.specs.Paired.{rules_of_shape}
use Rattle.rx_term.specs.Shapes.{Call, same_shape, shape_of}
use Rattle.rx_term.specs.Variables.{arguments_of, polys_use_below}
use Rattle.rx_term.specs.WellMade.{IsMade, width}
use Rattle.rx_term.specs.declared.rule.Equation.{Equation}
use Rattle.rx_term.specs.declared.rule.Rule.{Rule}
use Rattle.rx_term.specs.declared.rule_set.RuleParts.{RuleParts}
use Rattle.rx_term.specs.declared.term.Sym.{Sym}
use Rattle.rx_term.specs.declared.term.Term.TheVariants as made
use Rattle.rx_cert.specs.Findings.{Said, Yes, No, Beyond, guard}
use Rattle.rx_cert.specs.Showing.{shown}
use Rattle.rx_cert.proofs.FindingLaws.{within_parts}
use Rattle.rx_solve.specs.Refuter.{refuted}
use Rattle.rx_lemma.specs.Calls.{Applied, call_of}
use Rattle.rx_lemma.specs.RuleRows.{added_if, instance_said, row_added, rows_added, rows_at, rows_by, rule_rows}
use Rattle.rx_lemma.specs.Values.{gives_value, other_rows}
use Rattle.rx_lemma.proofs.Common.{HasInstance, kept_row}
use Rattle.rx_lemma.proofs.Polynomials.{replaces_from}
use Rattle.rx_lemma.proofs.GeneralisingTerms.{IsCallBelow, call_below}

-- the polynomials of the rows are normal forms within the limits
abbrev pub have_polys : List Row → Bool
have_polys rows = list_all (λ r. is_poly (poly_of r)) rows

-- ---- rows of rules

module _ (limit : ℕ) where
  -- what is in place of a variable that is numbered
  replaced_low : (from : ℕ) (ps : List Body) (v : ℕ) → from ≤ v → v < from + length ps →
      polys_use_below limit ps ≡ true → uses_below limit (replaced (numbered_from from ps) v) ≡ true
  replaced_low from [] v h k low = absurd (omega (arith, h, k))
  replaced_low from (p ∷ ps) v h k low =
      by (λ le lt. replaced_low (from + 1) ps v le lt both.1) (from == v) refl
    where
      both : (uses_below limit p ≡ true) × (polys_use_below limit ps ≡ true)
      both = and_parts (uses_below limit p) (polys_use_below limit ps) low

      above : (from == v) ≡ false → from + 1 ≤ v
      above other = grind (arith, nat_tests)

      further : Body
      further = replaced (numbered_from (from + 1) ps) v

      by : (from + 1 ≤ v → v < from + 1 + length ps → uses_below limit further ≡ true) →
          (b : Bool) → (from == v) ≡ b → uses_below limit (cond b p further) ≡ true
      by rest true e = both.0
      by rest false e = rest (above e) (omega (arith, k))

  instance_low : (ps : List Body) → polys_use_below limit ps ≡ true → (p : Body) →
      uses_below (length ps) p ≡ true → uses_below limit (subst_body (numbered ps) p).form ≡ true
  instance_low ps low p h =
      instance_passes (λ v. nat_lt v limit) (numbered ps) p
      (All-weaker (λ v. nat_lt v (length ps) ≡ true)
      (λ v. uses_below limit (replaced (numbered ps) v) ≡ true) (λ v below.
      let few : v < length ps = ltb-true v (length ps) below in
      replaced_low 0 ps v (omega arith) (omega (arith, few)) low) (variables p)
      (AllPass-from_list_all (λ v. nat_lt v (length ps)) (variables p) h))

  row_low : (ps : List Body) → polys_use_below limit ps ≡ true → (r : Row) →
      row_uses_below (length ps) r ≡ true → row_uses_below limit (subst_row (numbered ps) r) ≡ true
  row_low ps low (Ge p) h = instance_low ps low p h
  row_low ps low (Eq p) h = instance_low ps low p h
  row_low ps low (Ne p) h = instance_low ps low p h

  -- rows at polynomials below the limit are below it
  pub rows_low : (ps : List Body) → polys_use_below limit ps ≡ true → (rows : List Row) →
      rows_use_below (length ps) rows ≡ true →
      rows_use_below limit (subst_rows (numbered ps) rows) ≡ true
  rows_low ps low [] h = refl
  rows_low ps low (r ∷ rows) h =
      let both = and_parts (row_uses_below (length ps) r) (rows_use_below (length ps) rows) h in
      and_from (row_uses_below limit (subst_row (numbered ps) r))
      (rows_use_below limit (subst_rows (numbered ps) rows)) (row_low ps low r both.0)
      (rows_low ps low rows both.1)

  module _ (parts : RuleParts) where
    -- a rule of the shape of a call has as many variables as that has polynomials
    as_wide : (f : Sym) (ps : List Body) → is_declared parts.symbols f false (length ps) ≡ true →
        (rule : Rule) → IsMade parts rule → same_shape (shape_of rule.left) (Call f) ≡ true →
        width rule.left ≡ length ps
    as_wide f ps declared rule is shape =
        same_count rule.left (made.Call f ps) (aligned parts rule.left (made.Call f ps)
        is.left_fits (fits-Call parts f ps ∙ declared)
        (known_shape (shape_of rule.left) (Call f) shape ∙ sym (shape-Call f ps)))
        ∙ ap length (arguments-Call f ps)

    by_rules : (f : Sym) (ps : List Body) → is_declared parts.symbols f false (length ps) ≡ true →
        polys_use_below limit ps ≡ true → (rules : List Rule) → All (IsMade parts) rules →
        rows_use_below limit (rows_by ps (rules_of_shape (Call f) rules)).form ≡ true
    by_rules f ps declared low [] is = refl
    by_rules f ps declared low (rule ∷ rules) is =
        by (by_rules f ps declared low rules (All-tail (IsMade parts) rule rules is))
        (same_shape (shape_of rule.left) (Call f)) refl
      where
        here : IsMade parts rule
        here = All-head (IsMade parts) rule rules is

        by : rows_use_below limit (rows_by ps (rules_of_shape (Call f) rules)).form ≡ true →
            (b : Bool) → same_shape (shape_of rule.left) (Call f) ≡ b →
            rows_use_below limit (rows_by ps (cond b (rule ∷ rules_of_shape (Call f) rules)
            (rules_of_shape (Call f) rules))).form ≡ true
        by rest true shape =
            let first = subst_rows (numbered ps) rule.rows in
            let more = (rows_by ps (rules_of_shape (Call f) rules)).form in
            list_all-append (λ (r : Row). row_uses_below limit r) first more
            ∙ and_from (rows_use_below limit first) (rows_use_below limit more)
            (rows_low ps low rule.rows (subst (λ n. rows_use_below n rule.rows ≡ true)
            (as_wide f ps declared rule here shape) here.row_variables)) rest
        by rest false shape = rest

    at_call : All (IsMade parts) parts.rules → (o : Option Applied) →
        IfSome o (IsCallBelow parts limit) →
        rows_use_below limit (rows_at parts.rules o).form ≡ true
    at_call is None h = refl
    at_call is (Some call) h =
        by_rules call.symbol call.arguments h.declared h.below parts.rules is

    -- the rows of rules at the calls of an equation use only variables below the limit
    pub rule_rows_low : All (IsMade parts) parts.rules → (e : Equation) →
        term_fits parts e.left ≡ true → term_fits parts e.right ≡ true →
        polys_use_below limit (arguments_of e.left) ≡ true →
        polys_use_below limit (arguments_of e.right) ≡ true →
        rows_use_below limit (rule_rows parts.rules e).form ≡ true
    rule_rows_low is e left right low also =
        let first = (rows_at parts.rules (call_of e.left)).form in
        let more = (rows_at parts.rules (call_of e.right)).form in
        list_all-append (λ (r : Row). row_uses_below limit r) first more
        ∙ and_from (rows_use_below limit first) (rows_use_below limit more)
        (at_call is (call_of e.left) (call_below parts limit e.left left low))
        (at_call is (call_of e.right) (call_below parts limit e.right right also))

-- ---- all rows of the new goal

module _ (limit : ℕ) (ws : List (ℕ × Body)) (old : List Row) where
  -- a row of the new goal: its instance is shown, and its variables are below the limit
  pub record IsFitting (r : Row) : Type 0 where
    pub instance : HasInstance ws old r
    pub low : row_uses_below limit r ≡ true

  abbrev pub AreFitting : List Row → Type 0
  AreFitting rows = All IsFitting rows

  pub pushed_fits : (r : Row) (rows : List Row) → IsFitting r → AreFitting rows →
      AreFitting (pushed rows r)
  pushed_fits r rows here h = by (stands_among rows r)
    where
      by : (b : Bool) → AreFitting (cond b rows (rows ++ r ∷ []))
      by true = h
      by false = All-push IsFitting rows r h here

  row_added_fits : (r : Row) (rows : List Row) → row_uses_below limit r ≡ true →
      AreFitting rows → IfSome (row_added ws old r rows) AreFitting
  unfolding row_added instance_said
  row_added_fits r rows low h =
      by (guard (row_within ws r) (shown refuted old (subst_row ws r))) refl
    where
      by : (s : Said) → guard (row_within ws r) (shown refuted old (subst_row ws r)) ≡ s →
          IfSome (added_if ws old s r rows) AreFitting
      by Yes e =
          let both = within_parts (row_within ws r) (shown refuted old (subst_row ws r)) e in
          pushed_fits r rows (record {
            instance = record { within = both.0; follows = both.1 };
            low = low;
          }) h
      by No e = h
      by Beyond e = tt

  then_fits : (o : Option (List Row)) (next : List Row → Option (List Row)) →
      IfSome o AreFitting → ((rows : List Row) → AreFitting rows → IfSome (next rows) AreFitting) →
      IfSome (option_and_then next o) AreFitting
  then_fits None next h each = tt
  then_fits (Some rows) next h each = each rows h

  -- rows below the limit are added where they are fitting
  pub rows_added_fit : (more rows : List Row) → rows_use_below limit more ≡ true →
      AreFitting rows → IfSome (rows_added ws old more rows) AreFitting
  rows_added_fit [] rows low h = h
  rows_added_fit (r ∷ more) rows low h =
      let both = and_parts (row_uses_below limit r) (rows_use_below limit more) low in
      then_fits (row_added ws old r rows) (rows_added ws old more)
      (row_added_fits r rows both.0 h)
      (λ next k. rows_added_fit more next both.1 k)

  module _ (m : ℕ) (above : replaces_from m ws ≡ true) where
    stands : (r : Row) → Contains old r → stands_among old r ≡ true
    stands r c = contains-stands old r c.0 c.1 c.2

    kept_fit : (rest : List Row) → have_polys rest ≡ true → rows_use_below m rest ≡ true →
        rows_use_below limit rest ≡ true → All (Contains old) rest → AreFitting rest
    kept_fit [] poly below low among = All-nil IsFitting
    kept_fit (r ∷ rest) poly below low among =
        let normal = and_parts (is_poly (poly_of r)) (have_polys rest) poly in
        let here = and_parts (row_uses_below m r) (rows_use_below m rest) below in
        let under = and_parts (row_uses_below limit r) (rows_use_below limit rest) low in
        All-cons IsFitting r rest (record {
          instance = kept_row ws old m above r normal.0 here.0
              (stands r (All-head (Contains old) r rest among));
          low = under.0;
        })
        (kept_fit rest normal.1 here.1 under.1 (All-tail (Contains old) r rest among))

    -- so are the rows of the old goal that are kept
    pub others_fit : have_polys old ≡ true → rows_use_below m old ≡ true →
        rows_use_below limit old ≡ true → All (Contains old) old → AreFitting (other_rows old)
    others_fit poly below low among =
        All-filter (λ r. not (gives_value r)) IsFitting old (kept_fit old poly below low among)

  -- their variables are below the limit
  pub fitting_low : (rows : List Row) → AreFitting rows → rows_use_below limit rows ≡ true
  fitting_low rows h =
      list_all-from_AllPass (λ r. row_uses_below limit r) rows
      (All-weaker IsFitting (λ r. row_uses_below limit r ≡ true) (λ r is. is.low) rows h)

  pub fitting_instances : (rows : List Row) → AreFitting rows → All (HasInstance ws old) rows
  fitting_instances rows h =
      All-weaker IsFitting (HasInstance ws old) (λ r is. is.instance) rows h
