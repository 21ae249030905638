-- One law for each kind of step: where what the step makes of a goal is good, so is the goal.
use Rattle.std.proofs.Common.{◌≡◌, ℕ, zero, suc, ◌≤◌, ◌<◌, ◌⊎◌, inl, inr, Option, Some, None, Bool, true, if◌then◌else◌, List, [], ◌∷◌, ◌++◌, length, refl, sym, ap, subst, ◌∙◌, ℤ, arith, All, Contains}
use Rattle.std.specs.Prelude.{nat_eq, ◌&&◌, option_and_then}
use Rattle.std.specs.Option.{option_map_or}
use Rattle.std.proofs.lemmas.Bool.{and_parts, eq-eqb, ne_eqb}
use Rattle.std.proofs.lemmas.List.Elements.{All-cons, All-head, All-tail, All-nil, All-contains, Contains-append_left, Contains-append_right}
use Rattle.rx_poly.specs.Constants.{variable}
use Rattle.rx_poly.proofs.Constants.{value-variable}
use Rattle.rx_poly.specs.Substitution.{updated_assignment}
use Rattle.rx_poly.specs.declared.body.Body.{Body}
use Rattle.rx_row.specs.Holds.{AllHold, RowHolds}
use Rattle.rx_row.specs.Negation.{negation}
use Rattle.rx_row.specs.Substitution.{subst_rows}
use Rattle.rx_row.specs.Variables.{rows_use_below}
use Rattle.rx_row.specs.declared.row.Row.{Row}
use Rattle.rx_row.specs.declared.row.Row.TheVariants.{Eq, Ne}
use Rattle.rx_row.proofs.Membership.{all_hold_pushed}
use Rattle.rx_row.proofs.RowLaws.{holds_or_not}
use Rattle.rx_row.proofs.SubstitutionLaws.{subst_rows-hold}
use Rattle.rx_rewriting.specs.Terms as stack
use Rattle.rx_rewriting.specs.Terms.{Ground, Relation, IsResult, in_context}
use Rattle.rx_rewriting.specs.Steps.{Step, Reaches, Joinable}
use Rattle.rx_rewriting.specs.Premises.{EndsInside}
use Rattle.rx_rewriting.proofs.Chains.{Reaches-step, Reaches-by_rule, Step-by_rule, Step-by_hypothesis, Joinable-same, Joinable-sym, Joinable-before_left, Joinable-before_right}
use Rattle.rx_rewriting.proofs.UnderFrames.{Joinable-frame, Reaches-in_context}
use Rattle.rx_term.specs.Bounds.{equation_bound}
use Rattle.rx_term.specs.Covered.{IsCoveredOver}
use Rattle.rx_term.specs.Differences.{term_differences}
use Rattle.rx_term.specs.Domains.{IsInside, are_domains, root_domains}
use Rattle.rx_term.specs.Fitting.{is_declared, term_fits}
use Rattle.rx_term.specs.Meaning.{Instance, ground_at, matched, outer_frames, redex_of, values}
use Rattle.rx_term.specs.Paired.{rules_of_shape}
use Rattle.rx_term.specs.Shapes.{shape_of, same_shape}
use Rattle.rx_term.specs.Stacks.{suffix_at, redex_place, replace_redex, replace_at}
use Rattle.rx_term.specs.Substitution.{subst_term}
use Rattle.rx_term.specs.Variables.{arguments_of, term_uses_below}
use Rattle.rx_term.specs.WellMade.{IsWellMade}
use Rattle.rx_term.specs.declared.rule.Equation.{Equation}
use Rattle.rx_term.specs.declared.rule.Rule.{Rule}
use Rattle.rx_term.specs.declared.rule_set.RuleParts.{RuleParts}
use Rattle.rx_term.specs.declared.term.Sym.{Sym}
use Rattle.rx_term.specs.declared.term.Term.{Term}
use Rattle.rx_term.specs.declared.term.Term.TheVariants.{Return, Fail, Frame}
use Rattle.rx_term.proofs.BoundLaws.{equation_below}
use Rattle.rx_term.proofs.Equations.{fits-Frame, ground-Frame, ground-Return, ground-Fail}
use Rattle.rx_term.proofs.KeepingLaws.{shape_in_term, fits_in_term, fits_after}
use Rattle.rx_plain.proofs.Kept.{was_there}
use Rattle.rx_term.proofs.Locality.{hold_too, same_outer}
use Rattle.rx_term.proofs.MeaningLaws.{ground_in_term}
use Rattle.rx_term.proofs.RedexLaws.{ground_after, ground_replaced, redex_is}
use Rattle.rx_term.proofs.RuleLaws.{instance_steps_inside, rule_steps_inside, redex_shape, known_shape}
use Rattle.rx_term.proofs.ShapeLaws.{aligned, declared_once, same_count, one_ground_term}
use Rattle.rx_domain.proofs.Inside.{redexes_inside}
use Rattle.rx_inference.specs.Making.{differing, expanded_by, failures, from_side, instance_rows, results_of, with_result, with_sides}
use Rattle.rx_inference.specs.Pieces.{all_zero, equal_arguments, equal_lists, other_side, side_of, with_rows, with_side}
use Rattle.rx_inference.specs.declared.step.Side.{Side}
use Rattle.rx_inference.specs.declared.step.Side.TheVariants.{Left, Right}
use Rattle.rx_proofs.specs.Goals.{Both, IsGood, IsBacked, IsFitting, IsGoalInside}
use Rattle.rx_proofs.proofs.InsideTerms.{inside_after}
use Rattle.rx_proofs.proofs.Lists.{All-parts, passes}
use Rattle.rx_proofs.proofs.Making.{Follow}
use Rattle.rx_proofs.proofs.RowLaws.{all_pushed-hold, equal_values}

-- what is known of the rules
pub record Setting (parts : RuleParts) : Type 0 where
  pub made : IsWellMade parts
  pub domains : are_domains parts.symbols parts.domains ≡ true
  pub covered : IsCoveredOver (root_domains parts) parts
  pub ends : (s : Ground) → IsInside parts s → EndsInside (IsInside parts) (Instance parts.rules) s

-- the redex of a term, by its place
pub record Placed (t part : Term) : Type 0 where
  pub place : ℕ
  pub stands : suffix_at place t ≡ Some part
  pub replaces : (inner : Term) → replace_redex t inner ≡ replace_at place t inner

placed_by : (t part : Term) (o : Option ℕ) → redex_place t ≡ o →
    option_and_then (λ n. suffix_at n t) o ≡ Some part → Placed t part
placed_by t part None is h = absurd cc
placed_by t part (Some n) is h = record {
  place = n;
  stands = h;
  replaces = λ inner. ap (λ (o : Option ℕ). option_map_or (λ n. replace_at n t inner) o t) is;
}

pub placed : (t part : Term) → redex_of t ≡ Some part → Placed t part
placed t part h = placed_by t part (redex_place t) refl h

eq_or_less : (c n : ℕ) → c ≤ suc n → (c ≡ suc n) ⊎ (c ≤ n)
eq_or_less zero n h = inr (omega arith)
eq_or_less (suc c) zero h = inl (omega (arith, h))
eq_or_less (suc c) (suc n) h =
    elim (eq_or_less c n (omega (arith, h))) [
      | inl same ↦ inl (omega (arith, same))
      | inr less ↦ inr (omega (arith, less))
    ]

-- each failure that fits is among them
failure_stands : (n c : ℕ) → 1 ≤ c → c ≤ n → Contains (failures n) (Fail c)
failure_stands zero c low high = absurd (omega (arith, low, high))
failure_stands (suc n) c low high = by (eq_or_less c n high) (failure_stands n c low)
  where
    by : (c ≡ suc n) ⊎ (c ≤ n) → (c ≤ n → Contains (failures n) (Fail c)) →
        Contains (failures n ++ Fail (suc n) ∷ []) (Fail c)
    by (inl same) earlier =
        subst (λ d. Contains (failures n ++ Fail (suc n) ∷ []) (Fail d)) (sym same)
        (Contains-append_right (failures n) (Fail (suc n) ∷ []) (Fail (suc n))
        (0, omega arith, refl))
    by (inr less) earlier =
        Contains-append_left (failures n) (Fail (suc n) ∷ []) (Fail c) (earlier less)

-- all variables of a goal are below its bound
record Bounded (goal : Equation) : Type 0 where
  pub left : term_uses_below (equation_bound goal) goal.left ≡ true
  pub right : term_uses_below (equation_bound goal) goal.right ≡ true
  pub rows : rows_use_below (equation_bound goal) goal.rows ≡ true

bounded_by_bound : (goal : Equation) → Bounded goal
bounded_by_bound goal =
    let v = equation_bound goal in
    let all = (equation_below v goal).1 (omega arith) in
    let both = and_parts (term_uses_below v goal.left && term_uses_below v goal.right)
    (rows_use_below v goal.rows) all in
    let sides = and_parts (term_uses_below v goal.left) (term_uses_below v goal.right) both.0 in
    record { left = sides.0; right = sides.1; rows = both.1 }

pub side_fits : (parts : RuleParts) (side : Side) (goal : Equation) → IsFitting parts goal →
    term_fits parts (side_of side goal) ≡ true
side_fits parts Left goal fits = fits.left
side_fits parts Right goal fits = fits.right

-- a rule steps the redex of a side
pub redex_steps : (parts : RuleParts) → IsWellMade parts → (a : ℕ → ℤ) (rule : Rule)
    (t redex : Term) → Contains parts.rules rule → redex_of t ≡ Some redex
    → term_fits parts t ≡ true → shape_of rule.left ≡ shape_of redex
    → AllHold a (subst_rows (matched redex) rule.rows)
    → Step (Instance parts.rules) (ground_at a t)
    (ground_at a (replace_redex t (subst_term (matched redex) rule.right)))
redex_steps parts made a rule t redex among is fits shape holds =
    let at = placed t redex is in
    subst (λ u. Step (Instance parts.rules) (ground_at a t) (ground_at a u))
    (sym (at.replaces (subst_term (matched redex) rule.right)))
    (rule_steps_inside parts made a rule at.place t redex among at.stands
    (fits_after parts at.place t redex fits at.stands) shape holds)

module _ (parts : RuleParts) (hypotheses : List Rule) (setting : Setting parts) where
  abbrev R : Relation
  R = Instance parts.rules

  abbrev RH : Relation
  RH = Both parts hypotheses

  -- a step on a side
  stepped : (side : Side) (goal : Equation) (t : Term) (a : ℕ → ℤ) →
      Step RH (ground_at a (side_of side goal)) (ground_at a t)
      → Joinable RH (ground_at a (with_side side goal t).left)
      (ground_at a (with_side side goal t).right) →
      Joinable RH (ground_at a goal.left) (ground_at a goal.right)
  stepped Left goal t a step joined =
      Joinable-before_left RH (ground_at a goal.left) (ground_at a t) (ground_at a goal.right)
      (Reaches-step step) joined
  stepped Right goal t a step joined =
      Joinable-before_right RH (ground_at a goal.right) (ground_at a goal.left) (ground_at a t)
      (Reaches-step step) joined

  same_rows : (side : Side) (goal : Equation) (t : Term) → (with_side side goal t).rows ≡ goal.rows
  same_rows Left goal t = refl
  same_rows Right goal t = refl

  pub simplify_good : (side : Side) (goal : Equation) (rule : Rule) (redex : Term) →
      IsFitting parts goal → Contains parts.rules rule
      → redex_of (side_of side goal) ≡ Some redex → shape_of rule.left ≡ shape_of redex →
      Follow goal.rows (subst_rows (matched redex) rule.rows)
      → IsGood parts hypotheses (with_side side goal
      (replace_redex (side_of side goal) (subst_term (matched redex) rule.right))) →
      IsGood parts hypotheses goal
  simplify_good side goal rule redex fits among is shape follows good a holds =
      let new = replace_redex (side_of side goal) (subst_term (matched redex) rule.right) in
      stepped side goal new a
      (Step-by_rule R (Instance hypotheses) (redex_steps parts setting.made a rule (side_of side goal) redex among is
      (side_fits parts side goal fits) shape (follows a holds)))
      (good a (subst (AllHold a) (sym (same_rows side goal new)) holds))

  -- equal polynomials of terms of one shape
  pub equal_grounds : (s t : Term) (a : ℕ → ℤ) → term_fits parts s ≡ true → term_fits parts t ≡
      true → shape_of s ≡ shape_of t → AllHold a (equal_arguments s t).form → ground_at a s ≡
      ground_at a t
  equal_grounds s t a fits also shape holds =
      one_ground_term parts a a s t fits also shape
      (equal_values a (arguments_of s) (arguments_of t)
      (same_count s t (aligned parts s t fits also shape)) holds)

  pub hyp_good : (side : Side) (goal : Equation) (h : Rule) (ws : List (ℕ × Body)) (n : ℕ)
      (part : Term) → IsFitting parts goal → Contains hypotheses h → term_fits parts h.left ≡ true
      → suffix_at n (side_of side goal) ≡ Some part → shape_of part ≡ shape_of h.left →
      Follow goal.rows ((equal_arguments part (subst_term ws h.left)).form ++ subst_rows ws h.rows)
      → IsGood parts hypotheses (with_side side goal
      (replace_at n (side_of side goal) (subst_term ws h.right))) → IsGood parts hypotheses goal
  hyp_good side goal h ws n part fits among h_fits stands shape follows good a holds =
      let t = side_of side goal in
      let new = replace_at n t (subst_term ws h.right) in
      let both = All-parts (RowHolds a) (equal_arguments part (subst_term ws h.left)).form
      (subst_rows ws h.rows) (follows a holds) in
      let part_fits = fits_after parts n t part (side_fits parts side goal fits) stands in
      let same = equal_grounds part (subst_term ws h.left) a part_fits
      (fits_in_term ws parts h.left ∙ h_fits) (shape ∙ sym (shape_in_term ws h.left)) both.0 in
      stepped side goal new a
      (Step-by_hypothesis R (Instance hypotheses)
      (instance_steps_inside hypotheses a h ws part among (sym same) both.1 n t stands))
      (good a (subst (AllHold a) (sym (same_rows side goal new)) holds))

  -- the goal that an expansion makes for a rule
  abbrev for_rule : Side → Equation → Term → Rule → Equation
  for_rule side goal redex r = (expanded_by goal side redex r).form

  abbrev with_new : Side → Equation → Term → Term → Rule → Equation
  with_new side goal redex new r =
      with_rows (with_side side goal new) (subst_rows (matched redex) r.rows)

  -- what expanding a side gives at an assignment: one rule step, and then the goal made for that
  -- rule
  expand_step : (side : Side) (goal : Equation) (redex : Term) → IsFitting parts goal →
      IsGoalInside parts goal → redex_of (side_of side goal) ≡ Some redex
      → All (λ r. IsGood parts hypotheses (for_rule side goal redex r))
      (rules_of_shape (shape_of redex) parts.rules)
      → (a : ℕ → ℤ) → AllHold a goal.rows → (first : Ground) ×
      Step R (ground_at a (side_of side goal)) first ×
      Joinable RH first (ground_at a (other_side side goal))
  expand_step side goal redex fits inside is all a holds =
      let t = side_of side goal in
      let at = placed t redex is in
      let redex_fits = fits_after parts at.place t redex (side_fits parts side goal fits) at.stands in
      let domain = redexes_inside parts setting.domains redex (redex_is t redex is) a
      (inside_after parts a at.place t redex at.stands (side_inside side (inside a holds))) in
      let has = setting.covered (shape_of redex)
      (redex_shape parts redex (redex_is t redex is) redex_fits)
      (updated_assignment a (matched redex)) domain in
      let r = has.rule in
      let good = All-contains (λ q. IsGood parts hypotheses (for_rule side goal redex q))
      (rules_of_shape (shape_of redex) parts.rules) r all has.among in
      let instances = (subst_rows-hold a (matched redex) r.rows).1 has.holds in
      let new = replace_redex t (subst_term (matched redex) r.right) in
      let test : Rule → Bool = λ q. same_shape (shape_of q.left) (shape_of redex) in (
        ground_at a new,
        redex_steps parts setting.made a r t redex (was_there test parts.rules r has.among) is
            (side_fits parts side goal fits) (known_shape (shape_of r.left) (shape_of redex)
            (passes test parts.rules r has.among)) instances,
        joined side new r (good a (rows side new r
            (all_pushed-hold a goal.rows (subst_rows (matched redex) r.rows) holds instances))),
      )
    where
      side_inside : (side : Side) →
          IsInside parts (ground_at a goal.left) × IsInside parts (ground_at a goal.right) →
          IsInside parts (ground_at a (side_of side goal))
      side_inside Left both = both.0
      side_inside Right both = both.1

      rows : (side : Side) (new : Term) (r : Rule) →
          AllHold a (with_rows goal (subst_rows (matched redex) r.rows)).rows →
          AllHold a (with_new side goal redex new r).rows
      rows Left new r h = h
      rows Right new r h = h

      joined : (side : Side) (new : Term) (r : Rule) →
          Joinable RH (ground_at a (with_new side goal redex new r).left)
          (ground_at a (with_new side goal redex new r).right) →
          Joinable RH (ground_at a new) (ground_at a (other_side side goal))
      joined Left new r h = h
      joined Right new r h = Joinable-sym RH (ground_at a goal.left) (ground_at a new) h

  pub expand_good : (side : Side) (goal : Equation) (redex : Term) → IsFitting parts goal →
      IsGoalInside parts goal → redex_of (side_of side goal) ≡ Some redex
      → All (λ r. IsGood parts hypotheses (for_rule side goal redex r))
      (rules_of_shape (shape_of redex) parts.rules) → IsGood parts hypotheses goal
  expand_good side goal redex fits inside is all a holds =
      let (first, step, joined) = expand_step side goal redex fits inside is all a holds in
      back side (Joinable-before_left RH (ground_at a (side_of side goal)) first
      (ground_at a (other_side side goal))
      (Reaches-step (Step-by_rule R (Instance hypotheses) step)) joined)
    where
      back : (side : Side) → Joinable RH (ground_at a (side_of side goal))
          (ground_at a (other_side side goal)) →
          Joinable RH (ground_at a goal.left) (ground_at a goal.right)
      back Left h = h
      back Right h = Joinable-sym RH (ground_at a goal.right) (ground_at a goal.left) h

  -- and the hypothesis that is kept is backed
  pub expand_backed : (side : Side) (goal : Equation) (redex : Term) → IsFitting parts goal →
      IsGoalInside parts goal → redex_of (side_of side goal) ≡ Some redex
      → All (λ r. IsGood parts hypotheses (for_rule side goal redex r))
      (rules_of_shape (shape_of redex) parts.rules) →
      IsBacked parts hypotheses (from_side side goal)
  expand_backed side goal redex fits inside is all =
      expand_step side goal redex fits inside is all

  pub absurd_good : (goal : Equation) → ((a : ℕ → ℤ) → AllHold a goal.rows → ⊥) →
      IsGood parts hypotheses goal
  absurd_good goal none a holds = absurd (none a holds)

  pub equal_good : (goal : Equation) → IsFitting parts goal → shape_of goal.left ≡
      shape_of goal.right → Follow goal.rows (equal_arguments goal.left goal.right).form →
      IsGood parts hypotheses goal
  equal_good goal fits shape follows a holds =
      subst (Joinable RH (ground_at a goal.left))
      (equal_grounds goal.left goal.right a fits.left fits.right shape (follows a holds))
      (Joinable-same RH (ground_at a goal.left))

  -- either all differences are 0, or the goal of one that isn't is good
  pub apart_good : (goal : Equation) → IsFitting parts goal → shape_of goal.left ≡
      shape_of goal.right
      → All (λ d. IsGood parts hypotheses (differing goal d))
      (term_differences goal.left goal.right).form → IsGood parts hypotheses goal
  apart_good goal fits shape all a holds =
      go (zero_or_one (term_differences goal.left goal.right).form all)
    where
      zero_or_one : (ds : List Body) → All (λ d. IsGood parts hypotheses (differing goal d)) ds →
          AllHold a (all_zero ds) ⊎ Joinable RH (ground_at a goal.left) (ground_at a goal.right)
      zero_or_one [] each = inl (All-nil (RowHolds a))
      zero_or_one (d ∷ ds) each =
          elim (holds_or_not a (Eq d)) [
            | inl zero_d ↦ elim (zero_or_one ds
                (All-tail (λ q. IsGood parts hypotheses (differing goal q)) d ds each)) [
                  | inl rest ↦ inl (All-cons (RowHolds a) (Eq d) (all_zero ds) zero_d rest)
                  | inr joined ↦ inr joined
                ]
            | inr differs ↦ inr (All-head (λ q. IsGood parts hypotheses (differing goal q)) d ds
                each a ((all_hold_pushed a goal.rows (Ne d)).1 (holds, differs)))
          ]

      go : AllHold a (equal_arguments goal.left goal.right).form ⊎
          Joinable RH (ground_at a goal.left) (ground_at a goal.right) →
          Joinable RH (ground_at a goal.left) (ground_at a goal.right)
      go (inl equal) =
          subst (Joinable RH (ground_at a goal.left))
          (equal_grounds goal.left goal.right a fits.left fits.right shape equal)
          (Joinable-same RH (ground_at a goal.left))
      go (inr joined) = joined

  -- a goal that is an instance of another
  pub generalise_good : (goal new : Equation) (ws : List (ℕ × Body)) → IsFitting parts goal →
      IsFitting parts new → shape_of new.left ≡ shape_of goal.left → shape_of new.right ≡
      shape_of goal.right
      → Follow goal.rows (instance_rows ws new goal).form → IsGood parts hypotheses new →
      IsGood parts hypotheses goal
  generalise_good goal new ws fits new_fits shape_left shape_right follows good a holds =
      let lefts = (equal_arguments (subst_term ws new.left) goal.left).form in
      let rights = (equal_arguments (subst_term ws new.right) goal.right).form in
      let all = All-parts (RowHolds a) (lefts ++ rights) (subst_rows ws new.rows) (follows a holds)
      in
      let sides = All-parts (RowHolds a) lefts rights all.0 in
      let left = sym (ground_in_term a ws new.left) ∙
      equal_grounds (subst_term ws new.left) goal.left a
      (fits_in_term ws parts new.left ∙ new_fits.left) fits.left
      (shape_in_term ws new.left ∙ shape_left) sides.0 in
      let right = sym (ground_in_term a ws new.right) ∙
      equal_grounds (subst_term ws new.right) goal.right a
      (fits_in_term ws parts new.right ∙ new_fits.right) fits.right
      (shape_in_term ws new.right ∙ shape_right) sides.1 in
      let joined = good (updated_assignment a ws) ((subst_rows-hold a ws new.rows).0 all.1) in
      subst (λ s. Joinable RH s (ground_at a goal.right)) left
      (subst (Joinable RH (ground_at (updated_assignment a ws) new.left)) right joined)

  -- a goal by two cases
  pub split_good : (goal : Equation) (row : Row) →
      IsGood parts hypotheses (with_rows goal (row ∷ [])) →
      IsGood parts hypotheses (with_rows goal (negation row ∷ [])) → IsGood parts hypotheses goal
  split_good goal row first second a holds =
      elim (holds_or_not a row) [
        | inl yes_ ↦ first a ((all_hold_pushed a goal.rows row).1 (holds, yes_))
        | inr no_ ↦ second a ((all_hold_pushed a goal.rows (negation row)).1 (holds, no_))
      ]

  -- frames of one symbol have equally many polynomials
  same_length : (f : Sym) (ps qs : List Body) (s t : Term) → term_fits parts (Frame f ps s) ≡ true →
      term_fits parts (Frame f qs t) ≡ true → length ps ≡ length qs
  same_length f ps qs s t one other =
      let first = and_parts (is_declared parts.symbols f true (length ps)) (term_fits parts s)
      (sym (fits-Frame parts f ps s) ∙ one) in
      let second = and_parts (is_declared parts.symbols f true (length qs)) (term_fits parts t)
      (sym (fits-Frame parts f qs t) ∙ other) in
      declared_once parts.symbols f true true (length ps) (length qs) first.0 second.0

  -- equal frames
  pub decompose_good : (goal : Equation) (f : Sym) (ps qs : List Body) (s t : Term) →
      IsFitting parts goal → goal.left ≡ Frame f ps s → goal.right ≡ Frame f qs t
      → Follow goal.rows (equal_lists ps qs).form → IsGood parts hypotheses (with_sides goal s t) →
      IsGood parts hypotheses goal
  decompose_good goal f ps qs s t fits is_left is_right follows good a holds =
      let long = same_length f ps qs s t (ap (term_fits parts) (sym is_left) ∙ fits.left)
      (ap (term_fits parts) (sym is_right) ∙ fits.right) in
      let same = equal_values a ps qs long (follows a holds) in
      let left = ap (ground_at a) is_left ∙ ground-Frame a f ps s in
      let right = ap (ground_at a) is_right ∙ ground-Frame a f qs t ∙
      ap (λ vs. stack.Frame f.0 vs (ground_at a t)) (sym same) in
      let joined = Joinable-frame RH f.0 (values a ps) (ground_at a s) (ground_at a t)
      (good a holds)
      in
      subst (λ g. Joinable RH g (ground_at a goal.right)) (sym left)
      (subst (Joinable RH (stack.Frame f.0 (values a ps) (ground_at a s))) (sym right) joined)

  -- ---- a common part that reaches a result

  abbrev put : (ℕ → ℤ) → ℕ → ℤ → ℕ → ℤ
  put a v k x = if nat_eq x v then k else a x

  put_other : (a : ℕ → ℤ) (v : ℕ) (k : ℤ) (x : ℕ) → x < v → a x ≡ put a v k x
  put_other a v k x below =
      ap (λ (b : Bool). if b then k else a x) (sym (ne_eqb x v (λ e. omega (arith, e, below))))

  put_here : (a : ℕ → ℤ) (v : ℕ) (k : ℤ) → put a v k v ≡ k
  put_here a v k = ap (λ (b : Bool). if b then k else a v) (eq-eqb v v refl)

  abbrev good_for : Equation → ℕ → ℕ → Term → Type 0
  good_for goal m n result = IsGood parts hypotheses (with_result goal m n result)

  pub results_good : (goal : Equation) (m n : ℕ) (s t : Term) → IsFitting parts goal →
      IsGoalInside parts goal → suffix_at m goal.left ≡ Some s → suffix_at n goal.right ≡ Some t → shape_of s ≡ shape_of t
      → Follow goal.rows (equal_arguments s t).form
      → All (λ result. IsGood parts hypotheses (with_result goal m n result))
      (results_of parts.fails (equation_bound goal)) → IsGood parts hypotheses goal
  results_good goal m n s t fits inside at_s at_t shape follows all a holds =
      go ends.end ends.reached ends.is_result ends.is_inside
    where
      bounded : Bounded goal
      bounded = bounded_by_bound goal

      s_fits : term_fits parts s ≡ true
      s_fits = fits_after parts m goal.left s fits.left at_s

      t_fits : term_fits parts t ≡ true
      t_fits = fits_after parts n goal.right t fits.right at_t

      ends : EndsInside (IsInside parts) R (ground_at a s)
      ends = setting.ends (ground_at a s)
          (inside_after parts a m goal.left s at_s (inside a holds).0)

      same : ground_at a s ≡ ground_at a t
      same = equal_grounds s t a s_fits t_fits shape (follows a holds)

      -- both sides lead to their frames over the result
      led : (g : Ground) → Reaches R (ground_at a s) g →
          Joinable RH (in_context (outer_frames a m goal.left) g)
          (in_context (outer_frames a n goal.right) g) →
          Joinable RH (ground_at a goal.left) (ground_at a goal.right)
      led g reached joined =
          let left : Reaches RH (ground_at a goal.left) (in_context (outer_frames a m goal.left) g)
          =
          subst (λ u. Reaches RH u (in_context (outer_frames a m goal.left) g))
          (sym (ground_after a m goal.left s at_s))
          (Reaches-in_context (outer_frames a m goal.left)
          (Reaches-by_rule R (Instance hypotheses) reached)) in
          let right : Reaches RH (ground_at a goal.right)
          (in_context (outer_frames a n goal.right) g) =
          subst (λ u. Reaches RH u (in_context (outer_frames a n goal.right) g))
          (ap (in_context (outer_frames a n goal.right)) same ∙
          sym (ground_after a n goal.right t at_t))
          (Reaches-in_context (outer_frames a n goal.right)
          (Reaches-by_rule R (Instance hypotheses) reached)) in
          Joinable-before_left RH (ground_at a goal.left)
          (in_context (outer_frames a m goal.left) g)
          (ground_at a goal.right) left
          (Joinable-before_right RH (ground_at a goal.right)
          (in_context (outer_frames a m goal.left) g)
          (in_context (outer_frames a n goal.right) g) right joined)

      go : (g : Ground) → Reaches R (ground_at a s) g → IsResult g → IsInside parts g →
          Joinable RH (ground_at a goal.left) (ground_at a goal.right)
      go (stack.Return k) reached result ends_in =
          let v = equation_bound goal in
          let b = put a v k in
          let agree = put_other a v k in
          let good = All-head (good_for goal m n) (Return (variable v)) (failures parts.fails) all b
          (hold_too a b v agree goal.rows bounded.rows holds) in
          let value_is : ground_at b (Return (variable v)) ≡ stack.Return k =
          ground-Return b (variable v) ∙ ap stack.Return (value-variable b v ∙ put_here a v k) in
          let left = ground_replaced b m goal.left (Return (variable v)) ∙
          (ap (λ fs. in_context fs (ground_at b (Return (variable v))))
          (sym (same_outer a b v agree m goal.left bounded.left)) ∙
          ap (in_context (outer_frames a m goal.left)) value_is) in
          let right = ground_replaced b n goal.right (Return (variable v)) ∙
          (ap (λ fs. in_context fs (ground_at b (Return (variable v))))
          (sym (same_outer a b v agree n goal.right bounded.right)) ∙
          ap (in_context (outer_frames a n goal.right)) value_is) in
          led (stack.Return k) reached (subst (λ u.
          Joinable RH u (in_context (outer_frames a n goal.right) (stack.Return k))) left
          (subst (Joinable RH (ground_at b (replace_at m goal.left (Return (variable v))))) right
          good))
      go (stack.Fail c) reached result ends_in =
          let rest = All-tail (good_for goal m n) (Return (variable (equation_bound goal)))
          (failures parts.fails) all in
          let good = All-contains (good_for goal m n) (failures parts.fails) (Fail c) rest
          (failure_stands parts.fails c ends_in.0.0 ends_in.0.1) a holds in
          let left = ground_replaced a m goal.left (Fail c) ∙
          ap (in_context (outer_frames a m goal.left)) (ground-Fail a c) in
          let right = ground_replaced a n goal.right (Fail c) ∙
          ap (in_context (outer_frames a n goal.right)) (ground-Fail a c) in
          led (stack.Fail c) reached (subst (λ u.
          Joinable RH u (in_context (outer_frames a n goal.right) (stack.Fail c))) left
          (subst (Joinable RH (ground_at a (replace_at m goal.left (Fail c)))) right good))
      go (stack.Call f xs) reached result ends_in = absurd result
      go (stack.Frame f xs g) reached result ends_in = absurd result
