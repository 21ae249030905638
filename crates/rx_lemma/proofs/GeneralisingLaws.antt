-- Each of the two generalisations of a goal is a lawful step.
use Rattle.std.proofs.Common.{◌≡◌, ◌∙◌, ap, sym, refl, ℕ, ◌+◌, ◌≤◌, Bool, true, false, ◌&&◌, Option, Some, None, List, [], ◌∷◌, length, arith}
use Rattle.std.specs.Prelude.{IfSome, if◌then◌else◌, nat_le, option_and_then}
use Rattle.std.specs.List.{All, list_any}
use Rattle.std.specs.Option.{option_map}
use Rattle.std.proofs.lemmas.Bool.{and_from, and_parts, le-leb, leb-true}
use Rattle.std.proofs.lemmas.List.Elements.{All-append, All-cons, All-contains_itself, All-nil}
use Rattle.rx_plain.specs.Formed.{Formed}
use Rattle.rx_poly.specs.Normal.{is_poly}
use Rattle.rx_poly.specs.Variables.{uses_below}
use Rattle.rx_poly.specs.declared.body.Body.{Body}
use Rattle.rx_row.specs.Variables.{rows_use_below}
use Rattle.rx_row.specs.declared.row.Row.{Row}
use Rattle.rx_term.proofs.BoundLaws.{equation_below}
use Rattle.rx_term.proofs.RuleLaws.{shape_itself}
use Rattle.rx_term.specs.Bounds.{equation_bound}
use Rattle.rx_term.specs.Domains.{are_domains, inside_of}
use Rattle.rx_term.specs.Fitting.{term_fits}
use Rattle.rx_term.specs.Shapes.{same_shape, shape_of}
use Rattle.rx_term.specs.Variables.{arguments_of, polys_use_below, term_uses_below}
use Rattle.rx_term.specs.WellMade.{IsWellMade}
use Rattle.rx_term.specs.declared.rule.Equation.{Equation}
use Rattle.rx_term.specs.declared.rule_set.RuleParts.{RuleParts}
use Rattle.rx_term.specs.declared.term.Term.{Term}
use Rattle.rx_inference.specs.Pieces.{have_one_shape, is_equation, is_substitution, variable_limit}
use Rattle.rx_lemma.specs.Lemmas.{Generalisation, variables_end}
use Rattle.rx_lemma.specs.declared.lemma.LemmaKind.{LemmaKind}
use Rattle.rx_lemma.specs.declared.lemma.LemmaKind.TheVariants.{DropValues, ReplaceRepeated}
use Rattle.rx_lemma.specs.Generalising.{Found, as_list, both_found, generalisations, generalised, kept_rows, new_rows, over_rows, replacing, replacing_all, replacing_by, replacing_repeated, without_values}
use Rattle.rx_lemma.specs.InsideRows.{formed_required, rows_required}
use Rattle.rx_lemma.specs.Repeated.{new_variables, repeated}
use Rattle.rx_lemma.specs.RuleRows.{formed_added, rows_added, rule_rows}
use Rattle.rx_lemma.specs.Values.{gives_value, other_rows}
use Rattle.rx_lemma.specs.Lawful.{IsGoal, IsLawful, IsLawfulInside}
use Rattle.rx_lemma.specs.LawfulGeneralisations.{GeneralisationsAreLawful}
use Rattle.rx_lemma.proofs.Common.{AreInstances, Nothing, OneMore, is_instance, lawful}
use Rattle.rx_lemma.proofs.Polynomials.{are_polys, replaces_from, stays_itself}
use Rattle.rx_lemma.proofs.RequiredRows.{FoundWith, inside_of_low, rows_found, standing_shown}
use Rattle.rx_lemma.proofs.GeneralisingOccurrences.{repeated_pass}
use Rattle.rx_lemma.proofs.GeneralisingRows.{AreFitting, fitting_instances, fitting_low, others_fit, rows_added_fit, rule_rows_low}
use Rattle.rx_lemma.proofs.GeneralisingTerms.{low_after, more_general, replaced_fits, replaced_shape}
use Rattle.rx_lemma.proofs.Terms.{below_by_arguments}
use Rattle.rx_lemma.proofs.GeneralisingVariables.{new_ones_substitute, replace_new_ones}

-- ---- what an equation is like

-- its variables are below a number
record IsBelow (n : ℕ) (e : Equation) : Type 0 where
  left : polys_use_below n (arguments_of e.left) ≡ true
  right : polys_use_below n (arguments_of e.right) ≡ true
  rows : rows_use_below n e.rows ≡ true

is_below : (n : ℕ) (e : Equation) → equation_bound e ≤ n → IsBelow n e
is_below n e h =
    let both = and_parts (term_uses_below n e.left && term_uses_below n e.right)
    (rows_use_below n e.rows) ((equation_below n e).1 h) in
    let sides = and_parts (term_uses_below n e.left) (term_uses_below n e.right) both.0 in
    record {
      left = sym (below_by_arguments n e.left) ∙ sides.0;
      right = sym (below_by_arguments n e.right) ∙ sides.1;
      rows = both.1;
    }

bounded : (n : ℕ) (e : Equation) → IsBelow n e → equation_bound e ≤ n
bounded n e h =
    (equation_below n e).0
    (and_from (term_uses_below n e.left && term_uses_below n e.right) (rows_use_below n e.rows)
    (and_from (term_uses_below n e.left) (term_uses_below n e.right)
    (below_by_arguments n e.left ∙ h.left) (below_by_arguments n e.right ∙ h.right)) h.rows)

one_shape : (s t : Term) → shape_of s ≡ shape_of t → have_one_shape s t ≡ true
one_shape s t e = ap (λ x. same_shape x (shape_of t)) e ∙ shape_itself (shape_of t)

module _ (parts : RuleParts) (goal : Equation) (made : IsWellMade parts)
    (domains : are_domains parts.symbols parts.domains ≡ true) (is : IsGoal parts goal) where
  -- ---- the goal

  abbrev bound : ℕ
  bound = equation_bound goal

  fits_parts : ((term_fits parts goal.left && term_fits parts goal.right) ≡ true) ×
      (nat_le bound variable_limit ≡ true)
  fits_parts =
      and_parts (term_fits parts goal.left && term_fits parts goal.right)
      (nat_le bound variable_limit) is.equation

  sides_fit : (term_fits parts goal.left ≡ true) × (term_fits parts goal.right ≡ true)
  sides_fit = and_parts (term_fits parts goal.left) (term_fits parts goal.right) fits_parts.0

  few : bound ≤ variable_limit
  few = leb-true bound variable_limit fits_parts.1

  own : IsBelow bound goal
  own = is_below bound goal (omega arith)

  low : IsBelow variable_limit goal
  low = is_below variable_limit goal few

  -- ---- lemmas

  abbrev Lawful : Found → Type 0
  Lawful found =
      IfSome found (λ (o : Option Generalisation). IfSome o (IsLawful parts goal))

  -- ---- other sides

  -- sides of which those of the goal are instances
  record IsOver (new : Equation) (ws : List (ℕ × Body)) : Type 0 where
    left_fits : term_fits parts new.left ≡ true
    right_fits : term_fits parts new.right ≡ true
    left_low : polys_use_below variable_limit (arguments_of new.left) ≡ true
    right_low : polys_use_below variable_limit (arguments_of new.right) ≡ true
    substitutes : is_substitution ws ≡ true
    above : replaces_from bound ws ≡ true
    left_shape : shape_of new.left ≡ shape_of goal.left
    right_shape : shape_of new.right ≡ shape_of goal.right
    left : AreInstances ws goal.rows (arguments_of new.left) (arguments_of goal.left)
    right : AreInstances ws goal.rows (arguments_of new.right) (arguments_of goal.right)

  module _ (kind : LemmaKind) (new : Equation) (ws : List (ℕ × Body)) (over : IsOver new ws) where
    abbrev with_rows : List Row → Generalisation
    with_rows rows = over_rows kind new ws rows

    with_rows_below : (rows : List Row) → AreFitting variable_limit ws goal.rows rows →
        IsBelow variable_limit (with_rows rows).goal
    with_rows_below rows h = record {
      left = over.left_low;
      right = over.right_low;
      rows = fitting_low variable_limit ws goal.rows rows h;
    }

    fits_rules : (rows : List Row) → AreFitting variable_limit ws goal.rows rows →
        is_equation parts (with_rows rows).goal ≡ true
    fits_rules rows h =
        let e = (with_rows rows).goal in
        and_from (term_fits parts new.left && term_fits parts new.right)
        (nat_le (equation_bound e) variable_limit)
        (and_from (term_fits parts new.left) (term_fits parts new.right) over.left_fits
        over.right_fits)
        (le-leb (equation_bound e) variable_limit
        (bounded variable_limit e (with_rows_below rows h)))

    lawful_with : (rows : List Row) → AreFitting variable_limit ws goal.rows rows →
        IsLawfulInside parts goal (with_rows rows)
    lawful_with rows h =
        lawful parts goal (with_rows rows) (record {
          fits = fits_rules rows h;
          substitutes = over.substitutes;
          left_shape = one_shape new.left goal.left over.left_shape;
          right_shape = one_shape new.right goal.right over.right_shape;
          left = over.left;
          right = over.right;
          rows = fitting_instances variable_limit ws goal.rows rows h;
        })

    added_fit : (more : Formed (List Row)) (rows : List Row) →
        rows_use_below variable_limit more.form ≡ true →
        AreFitting variable_limit ws goal.rows rows →
        IfSome (formed_added ws goal.rows more rows) (AreFitting variable_limit ws goal.rows)
    added_fit more rows below h = by more.within
      where
        by : (b : Bool) →
            IfSome (if b then rows_added ws goal.rows more.form rows else None)
            (AreFitting variable_limit ws goal.rows)
        by true = rows_added_fit variable_limit ws goal.rows more.form rows below h
        by false = tt

    kept_fit : IfSome (kept_rows parts goal new ws) (AreFitting variable_limit ws goal.rows)
    kept_fit =
        added_fit (rule_rows parts.rules new) (other_rows goal.rows)
        (rule_rows_low variable_limit parts made new over.left_fits over.right_fits over.left_low
        over.right_low)
        (others_fit variable_limit ws goal.rows bound over.above is.rows own.rows low.rows
        (All-contains_itself goal.rows))

    -- ---- its rows

    abbrev inside : Formed (List Row)
    inside = inside_of parts new

    -- the lemma over the rows that are found is lawful
    abbrev AreLawful : Option (Option (List Row)) → Type 0
    AreLawful found =
        IfSome found (λ (o : Option (List Row)).
        IfSome o (λ rows. IsLawful parts goal (with_rows rows)))

    found_lawful : (before : List Row) → inside.within ≡ true →
        (found : Option (Option (List Row))) →
        FoundWith variable_limit ws goal.rows before inside.form found → AreLawful found
    found_lawful before within None h = tt
    found_lawful before within (Some None) h = tt
    found_lawful before within (Some (Some rows)) h =
        lawful_with rows h.fitting (record {
          within = within;
          follows = standing_shown rows inside.form h.stand;
        })

    required_lawful : (rows : List Row) → AreFitting variable_limit ws goal.rows rows →
        AreLawful (formed_required ws goal.rows inside rows)
    required_lawful rows h = by inside.within refl
      where
        by : (b : Bool) → inside.within ≡ b →
            AreLawful (if b then rows_required ws goal.rows inside.form rows else None)
        by true within =
            found_lawful rows within (rows_required ws goal.rows inside.form rows)
            (rows_found variable_limit ws goal.rows inside.form rows
            (inside_of_low variable_limit parts domains new over.left_fits over.right_fits
            over.left_low over.right_low) h)
        by false within = tt

    all_lawful_rows : (o : Option (List Row)) →
        IfSome o (AreFitting variable_limit ws goal.rows) →
        AreLawful (option_and_then (formed_required ws goal.rows inside) o)
    all_lawful_rows None h = tt
    all_lawful_rows (Some rows) h = required_lawful rows h

    new_rows_lawful : AreLawful (new_rows parts goal new ws)
    unfolding new_rows
    new_rows_lawful = all_lawful_rows (kept_rows parts goal new ws) kept_fit

    over_lawful : (found : Option (Option (List Row))) → AreLawful found →
        Lawful (option_map (option_map (over_rows kind new ws)) found)
    over_lawful None h = tt
    over_lawful (Some None) h = tt
    over_lawful (Some (Some rows)) h = h

    generalised_lawful : Lawful (generalised parts goal kind new ws)
    unfolding generalised
    generalised_lawful = over_lawful (new_rows parts goal new ws) new_rows_lawful

  -- ---- the first generalisation

  same_instances : (qs : List Body) → are_polys qs ≡ true → polys_use_below bound qs ≡ true →
      AreInstances [] goal.rows qs qs
  same_instances [] poly below = Nothing
  same_instances (q ∷ qs) poly below =
      let form = and_parts (is_poly q) (are_polys qs) poly in
      let here = and_parts (uses_below bound q) (polys_use_below bound qs) below in
      OneMore q q qs qs
      (is_instance [] goal.rows q q form.0 (stays_itself [] bound refl q form.0 here.0))
      (same_instances qs form.1 here.1)

  over_itself : IsOver goal []
  over_itself = record {
    left_fits = sides_fit.0;
    right_fits = sides_fit.1;
    left_low = low.left;
    right_low = low.right;
    substitutes = refl;
    above = refl;
    left_shape = refl;
    right_shape = refl;
    left = same_instances (arguments_of goal.left) is.left own.left;
    right = same_instances (arguments_of goal.right) is.right own.right;
  }

  -- ---- the second

  module _ (ps : List Body) (enough : bound + length ps ≤ variable_limit)
      (taken : polys_use_below variable_limit ps ≡ true) where
    abbrev ws : List (ℕ × Body)
    ws = new_variables bound ps

    over_variables : IsOver (replacing goal ws) ws
    over_variables = record {
      left_fits = replaced_fits ws parts goal.left ∙ sides_fit.0;
      right_fits = replaced_fits ws parts goal.right ∙ sides_fit.1;
      left_low = low_after goal.rows bound ps variable_limit enough goal.left low.left;
      right_low = low_after goal.rows bound ps variable_limit enough goal.right low.right;
      substitutes = new_ones_substitute bound ps enough taken;
      above = replace_new_ones bound ps;
      left_shape = replaced_shape ws goal.left;
      right_shape = replaced_shape ws goal.right;
      left = more_general goal.rows bound ps goal.left is.left own.left;
      right = more_general goal.rows bound ps goal.right is.right own.right;
    }

  repeated_low : polys_use_below variable_limit (repeated goal) ≡ true
  repeated_low = repeated_pass (uses_below variable_limit) goal low.left low.right

  -- ---- both

  found_if : (b : Bool) (found : Found) → (b ≡ true → Lawful found) →
      Lawful (if b then found else Some None)
  found_if true found h = h refl
  found_if false found h = tt

  values_lawful : Lawful (without_values parts goal)
  unfolding without_values
  values_lawful =
      found_if (list_any gives_value goal.rows) (generalised parts goal DropValues goal [])
      (λ _. generalised_lawful DropValues goal [] over_itself)

  by_lawful : (ps : List Body) → bound + length ps ≤ variable_limit →
      polys_use_below variable_limit ps ≡ true →
      Lawful (replacing_by parts goal (new_variables bound ps))
  unfolding replacing_by
  by_lawful ps enough taken =
      let ws = new_variables bound ps in
      generalised_lawful ReplaceRepeated (replacing goal ws) ws (over_variables ps enough taken)

  few_enough : (n : ℕ) → nat_le n variables_end ≡ true → n ≤ variable_limit
  few_enough n h = let le = leb-true n variables_end h in omega (arith, le)

  all_lawful : (ps : List Body) → polys_use_below variable_limit ps ≡ true →
      Lawful (replacing_all parts goal ps)
  unfolding replacing_all
  all_lawful [] taken = tt
  all_lawful (p ∷ ps) taken =
      found_if (nat_le (bound + length (p ∷ ps)) variables_end)
      (replacing_by parts goal (new_variables bound (p ∷ ps)))
      (λ h. by_lawful (p ∷ ps) (few_enough (bound + length (p ∷ ps)) h) taken)

  listed : (o : Option Generalisation) → IfSome o (IsLawful parts goal) →
      All (IsLawful parts goal) (as_list o)
  listed None h = All-nil (IsLawful parts goal)
  listed (Some lemma) h = All-cons (IsLawful parts goal) lemma [] h (All-nil (IsLawful parts goal))

  both_lawful : (first second : Found) → Lawful first → Lawful second →
      IfSome (both_found first second) (All (IsLawful parts goal))
  both_lawful None second h k = tt
  both_lawful (Some first) None h k = tt
  both_lawful (Some first) (Some second) h k =
      All-append (IsLawful parts goal) (as_list first) (as_list second) (listed first h)
      (listed second k)

  all_found_lawful : IfSome (generalisations parts goal) (All (IsLawful parts goal))
  unfolding generalisations
  all_found_lawful =
      both_lawful (without_values parts goal) (replacing_repeated parts goal)
      values_lawful (all_lawful (repeated goal) repeated_low)

pub generalisations_lawful : GeneralisationsAreLawful
generalisations_lawful parts goal made domains is =
    all_found_lawful parts goal made domains is
