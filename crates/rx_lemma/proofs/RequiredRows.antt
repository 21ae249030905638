-- Rows that an equation has to have: they stand among its rows afterwards, and all of these are
-- fitting. The rows that put an equation inside the domains use only variables below a limit.
use Rattle.std.proofs.Common.{◌≡◌, ◌∙◌, subst, sym, cond, refl, ℕ, Bool, true, false, Option, Some, None, List, [], ◌∷◌, ◌++◌, length}
use Rattle.std.specs.Prelude.{IfSome}
use Rattle.std.specs.List.{All}
use Rattle.std.proofs.lemmas.Bool.{and_from, and_parts, or_left, or_right}
use Rattle.std.proofs.lemmas.List.Elements.{All-cons, All-head, All-nil, All-tail}
use Rattle.std.proofs.lemmas.List.Folds.{list_all-append, list_any-append}
use Rattle.rx_plain.specs.Formed.{Formed}
use Rattle.rx_poly.specs.Variables.{uses_below}
use Rattle.rx_poly.specs.declared.body.Body.{Body}
use Rattle.rx_row.specs.Membership.{pushed, stands_among}
use Rattle.rx_row.specs.Substitution.{row_within, subst_row}
use Rattle.rx_row.specs.Variables.{row_uses_below, rows_use_below}
use Rattle.rx_row.specs.declared.row.Row.{Row}
use Rattle.rx_row.proofs.Same.{row_eq, known_itself_row}
use Rattle.rx_term.proofs.Collecting.{inside-Return, inside-Fail, inside-Call, inside-Frame}
use Rattle.rx_term.proofs.Equations.{arguments-Call, fits-Call, fits-Frame, induct}
use Rattle.rx_term.specs.Domains.{are_domains, domain_of, inside_of, inside_rows, rows_at}
use Rattle.rx_term.specs.Fitting.{is_declared, term_fits}
use Rattle.rx_term.specs.Variables.{arguments_of, polys_use_below}
use Rattle.rx_term.specs.declared.rule.Equation.{Equation}
use Rattle.rx_term.specs.declared.rule_set.RuleParts.{RuleParts}
use Rattle.rx_term.specs.declared.term.Sym.{Sym}
use Rattle.rx_term.specs.declared.term.Term.{Term}
use Rattle.rx_term.specs.declared.term.Term.TheVariants as made
use Rattle.rx_cert.specs.Findings.{Said, Yes, No, Beyond, guard}
use Rattle.rx_cert.specs.Showing.{all_shown, shown}
use Rattle.rx_cert.proofs.FindingLaws.{within_parts}
use Rattle.rx_domain.proofs.Inside.{below_count}
use Rattle.rx_solve.specs.Refuter.{refuted}
use Rattle.rx_lemma.specs.InsideRows.{required_if, row_required, rows_required, then_found}
use Rattle.rx_lemma.specs.RuleRows.{instance_said}
use Rattle.rx_lemma.proofs.Common.{row_of_goal, yes_both}
use Rattle.rx_lemma.proofs.GeneralisingRows.{AreFitting, pushed_fits, rows_low}
use Rattle.rx_lemma.proofs.GeneralisingTerms.{two_pieces}

-- ---- standing

abbrev StandsIn : List Row → Row → Type 0
StandsIn rows r = stands_among rows r ≡ true

-- what stood before stands after a row is added
stands_still : (rows : List Row) (q r : Row) → StandsIn rows r → StandsIn (pushed rows q) r
stands_still rows q r h = by (stands_among rows q)
  where
    by : (b : Bool) → StandsIn (cond b rows (rows ++ q ∷ [])) r
    by true = h
    by false =
        list_any-append (λ (other : Row). row_eq other r) rows (q ∷ []) ∙
        or_left (stands_among rows r) (stands_among (q ∷ []) r) h

-- and so does the row
stands_then : (rows : List Row) (q : Row) → StandsIn (pushed rows q) q
stands_then rows q = by (stands_among rows q) refl
  where
    by : (b : Bool) → stands_among rows q ≡ b → StandsIn (cond b rows (rows ++ q ∷ [])) q
    by true e = e
    by false e =
        list_any-append (λ (other : Row). row_eq other q) rows (q ∷ []) ∙
        or_right (stands_among rows q) (stands_among (q ∷ []) q)
        (or_left (row_eq q q) false (known_itself_row q))

-- rows that stand among the given ones are shown
pub standing_shown : (given more : List Row) → All (StandsIn given) more →
    all_shown refuted given more ≡ Yes
standing_shown given [] h = refl
standing_shown given (r ∷ more) h =
    yes_both (shown refuted given r) (all_shown refuted given more)
    (row_of_goal given r (All-head (StandsIn given) r more h))
    (standing_shown given more (All-tail (StandsIn given) r more h))

-- ---- rows that are required

module _ (limit : ℕ) (ws : List (ℕ × Body)) (old : List Row) where
  -- rows that are fitting, and among which those before and the required ones stand
  pub record HaveAll (before more rows : List Row) : Type 0 where
    pub fitting : AreFitting limit ws old rows
    pub keep : (r : Row) → StandsIn before r → StandsIn rows r
    pub stand : All (StandsIn rows) more

  abbrev pub FoundWith : List Row → List Row → Option (Option (List Row)) → Type 0
  FoundWith before more found =
      IfSome found (λ (o : Option (List Row)). IfSome o (HaveAll before more))

  row_found : (r : Row) (rows : List Row) → row_uses_below limit r ≡ true →
      AreFitting limit ws old rows → FoundWith rows (r ∷ []) (row_required ws old r rows)
  unfolding row_required instance_said
  row_found r rows low h =
      by (guard (row_within ws r) (shown refuted old (subst_row ws r))) refl
    where
      by : (s : Said) → guard (row_within ws r) (shown refuted old (subst_row ws r)) ≡ s →
          FoundWith rows (r ∷ []) (required_if ws old s r rows)
      by Yes e =
          let both = within_parts (row_within ws r) (shown refuted old (subst_row ws r)) e in
          record {
            fitting = pushed_fits limit ws old r rows (record {
              instance = record { within = both.0; follows = both.1 };
              low = low;
            }) h;
            keep = stands_still rows r;
            stand = All-cons (StandsIn (pushed rows r)) r [] (stands_then rows r)
                (All-nil (StandsIn (pushed rows r)));
          }
      by No e = tt
      by Beyond e = tt

  -- more of them after the first
  after_first : (before : List Row) (r : Row) (more rows : List Row) →
      HaveAll before (r ∷ []) rows → (found : Option (Option (List Row))) →
      FoundWith rows more found → FoundWith before (r ∷ more) found
  after_first before r more rows first None h = tt
  after_first before r more rows first (Some None) h = tt
  after_first before r more rows first (Some (Some all)) h = record {
    fitting = h.fitting;
    keep = λ q stood. h.keep q (first.keep q stood);
    stand = All-cons (StandsIn all) r more
        (h.keep r (All-head (StandsIn rows) r [] first.stand)) h.stand;
  }

  then_all : (before : List Row) (r : Row) (more : List Row)
      (next : List Row → Option (Option (List Row))) (found : Option (Option (List Row))) →
      FoundWith before (r ∷ []) found →
      ((rows : List Row) → HaveAll before (r ∷ []) rows → FoundWith rows more (next rows)) →
      FoundWith before (r ∷ more) (then_found next found)
  then_all before r more next None h each = tt
  then_all before r more next (Some None) h each = tt
  then_all before r more next (Some (Some rows)) h each =
      after_first before r more rows h (next rows) (each rows h)

  -- rows below the limit are required where the others are fitting
  pub rows_found : (more rows : List Row) → rows_use_below limit more ≡ true →
      AreFitting limit ws old rows → FoundWith rows more (rows_required ws old more rows)
  rows_found [] rows low h = record {
    fitting = h;
    keep = λ q stood. stood;
    stand = All-nil (StandsIn rows);
  }
  rows_found (r ∷ more) rows low h =
      let both = and_parts (row_uses_below limit r) (rows_use_below limit more) low in
      then_all rows r more (rows_required ws old more) (row_required ws old r rows)
      (row_found r rows both.0 h)
      (λ next k. rows_found more next both.1 k.fitting)

-- ---- rows that put an equation inside the domains

module _ (limit : ℕ) (parts : RuleParts) (good : are_domains parts.symbols parts.domains ≡ true)
  where
    abbrev AreLow : Formed (List Row) → Type 0
    AreLow f = rows_use_below limit f.form ≡ true

    abbrev HasLow : Term → Type 0
    HasLow t =
        term_fits parts t ≡ true → polys_use_below limit (arguments_of t) ≡ true →
        AreLow (inside_rows parts t)

    at_symbol : (f : Sym) (frame : Bool) (ps : List Body) →
        is_declared parts.symbols f frame (length ps) ≡ true → polys_use_below limit ps ≡ true →
        AreLow (rows_at parts f.0 ps)
    at_symbol f frame ps declared low =
        rows_low limit ps low (domain_of parts f.0)
        (below_count parts good f frame (length ps) declared)

    both_low : (first more : List Row) → rows_use_below limit first ≡ true →
        rows_use_below limit more ≡ true → rows_use_below limit (first ++ more) ≡ true
    both_low first more h k =
        list_all-append (λ (r : Row). row_uses_below limit r) first more ∙
        and_from (rows_use_below limit first) (rows_use_below limit more) h k

    call_low : (f : Sym) (ps : List Body) → HasLow (made.Call f ps)
    call_low f ps fits h =
        subst AreLow (sym (inside-Call parts f ps))
        (at_symbol f false ps (sym (fits-Call parts f ps) ∙ fits)
        (subst (λ (qs : List Body). polys_use_below limit qs ≡ true) (arguments-Call f ps) h))

    frame_low : (f : Sym) (ps : List Body) (t : Term) → HasLow t → HasLow (made.Frame f ps t)
    frame_low f ps t inner fits h =
        let kind = and_parts (is_declared parts.symbols f true (length ps)) (term_fits parts t)
        (sym (fits-Frame parts f ps t) ∙ fits) in
        let low = two_pieces (uses_below limit) f ps t h in
        subst AreLow (sym (inside-Frame parts f ps t))
        (both_low (rows_at parts f.0 ps).form (inside_rows parts t).form
        (at_symbol f true ps kind.0 low.0) (inner kind.1 low.1))

    inside_low : (t : Term) → HasLow t
    inside_low = induct HasLow
        (λ p fits h. subst AreLow (sym (inside-Return parts p)) refl)
        (λ c fits h. subst AreLow (sym (inside-Fail parts c)) refl)
        call_low frame_low

    -- they use only variables below a limit of those of the equation
    pub inside_of_low : (e : Equation) → term_fits parts e.left ≡ true →
        term_fits parts e.right ≡ true → polys_use_below limit (arguments_of e.left) ≡ true →
        polys_use_below limit (arguments_of e.right) ≡ true → AreLow (inside_of parts e)
    inside_of_low e left right low also =
        both_low (inside_rows parts e.left).form (inside_rows parts e.right).form
        (inside_low e.left left low) (inside_low e.right right also)
