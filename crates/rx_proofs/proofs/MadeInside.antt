-- A step that applies to a goal inside the domains makes goals and hypotheses that are inside.
use Rattle.std.proofs.Common.{◌≡◌, ℕ, zero, suc, Bool, true, false, Some, List, [], ◌∷◌, ◌++◌, map, sym, subst, ℤ, All, Contains}
use Rattle.std.proofs.lemmas.List.Elements.{All-append, All-cons, All-nil, All-contains}
use Rattle.rx_plain.specs.Formed.{map_formed}
use Rattle.rx_plain.proofs.Kept.{was_there}
use Rattle.rx_poly.specs.Constants.{variable}
use Rattle.rx_poly.specs.Substitution.{updated_assignment}
use Rattle.rx_poly.specs.declared.body.Body.{Body}
use Rattle.rx_row.specs.Holds.{AllHold, RowHolds}
use Rattle.rx_row.specs.Negation.{negation}
use Rattle.rx_row.specs.Substitution.{subst_rows}
use Rattle.rx_row.specs.declared.row.Row.{Row}
use Rattle.rx_row.specs.declared.row.Row.TheVariants.{Ne}
use Rattle.rx_row.proofs.SubstitutionLaws.{subst_rows-hold}
use Rattle.rx_rewriting.specs.Premises.{ClosedUnder}
use Rattle.rx_term.specs.Bounds.{equation_bound}
use Rattle.rx_term.specs.Differences.{term_differences}
use Rattle.rx_term.specs.Domains.{IsInside, MeetsDomains, are_domains, inside_of, inside_rows}
use Rattle.rx_term.specs.Meaning.{Instance, ground_at, matched, redex_of}
use Rattle.rx_term.specs.Paired.{rules_of_shape}
use Rattle.rx_term.specs.Shapes.{same_shape, shape_of}
use Rattle.rx_term.specs.Stacks.{suffix_at, replace_redex, replace_at}
use Rattle.rx_term.specs.Substitution.{subst_term}
use Rattle.rx_term.specs.WellMade.{IsWellMade}
use Rattle.rx_term.specs.declared.rule.Equation.{Equation}
use Rattle.rx_term.specs.declared.rule.Rule.{Rule}
use Rattle.rx_term.specs.declared.rule_set.RuleParts.{RuleParts}
use Rattle.rx_term.specs.declared.term.Term.{Term}
use Rattle.rx_term.specs.declared.term.Term.TheVariants.{Return, Fail}
use Rattle.rx_term.proofs.Equations.{ground-Return, ground-Fail}
use Rattle.rx_term.proofs.FittingLaws.{ground_fits}
use Rattle.rx_term.proofs.MeaningLaws.{ground_in_term}
use Rattle.rx_term.proofs.RuleLaws.{known_shape}
use Rattle.rx_domain.proofs.Inside.{first_hold, says_inside, second_hold}
use Rattle.rx_inference.specs.Making.{differing, expanded_by, failures, from_side, kept_if, results_of, with_result, with_sides}
use Rattle.rx_inference.specs.Pieces.{equal_arguments, side_of, with_rows, with_side}
use Rattle.rx_inference.specs.declared.step.Side.{Side}
use Rattle.rx_inference.specs.declared.step.Side.TheVariants.{Left, Right}
use Rattle.rx_proofs.specs.Goals.{AreInside, IsFitting, IsGoalInside}
use Rattle.rx_proofs.proofs.Fitting.{results_fit}
use Rattle.rx_proofs.proofs.InsideTerms.{inside_frame, inside_replaced}
use Rattle.rx_proofs.proofs.Lists.{All-formed, All-mapped, All-parts, passes}
use Rattle.rx_proofs.proofs.Making.{Follow, Makes}
use Rattle.rx_proofs.proofs.Making as making
use Rattle.rx_proofs.proofs.RowLaws.{all_pushed-parts}
use Rattle.rx_proofs.proofs.StepLaws.{redex_steps, side_fits}

-- both sides of a hypothesis are inside where its rows hold
abbrev pub AreSidesInside : RuleParts → Rule → Type 0
AreSidesInside parts h = AreInside parts h.rows h.left h.right

module _ (parts : RuleParts) (made : IsWellMade parts)
    (good : are_domains parts.symbols parts.domains ≡ true)
    (keeps : ClosedUnder (IsInside parts) (Instance parts.rules)) where
  abbrev In : Equation → Type 0
  In = IsGoalInside parts

  only : (goal : Equation) → In goal → All In (goal ∷ [])
  only goal inside = All-cons In goal [] inside (All-nil In)

  side_inside : (side : Side) (goal : Equation) → In goal → (a : ℕ → ℤ) → AllHold a goal.rows →
      IsInside parts (ground_at a (side_of side goal))
  side_inside Left goal inside a holds = (inside a holds).0
  side_inside Right goal inside a holds = (inside a holds).1

  -- another term on a side
  put_inside : (side : Side) (goal : Equation) (t : Term) → In goal →
      ((a : ℕ → ℤ) → AllHold a goal.rows → IsInside parts (ground_at a t)) →
      In (with_side side goal t)
  put_inside Left goal t inside new a holds = (new a holds, (inside a holds).1)
  put_inside Right goal t inside new a holds = ((inside a holds).0, new a holds)

  -- and more rows
  put_under : (side : Side) (goal : Equation) (t : Term) (rows : List Row) → In goal →
      ((a : ℕ → ℤ) → AllHold a goal.rows → AllHold a rows → IsInside parts (ground_at a t)) →
      In (with_rows (with_side side goal t) rows)
  put_under Left goal t rows inside new a holds =
      let both = all_pushed-parts a goal.rows rows holds in
      (new a both.0 both.1, (inside a both.0).1)
  put_under Right goal t rows inside new a holds =
      let both = all_pushed-parts a goal.rows rows holds in
      ((inside a both.0).0, new a both.0 both.1)

  under_more : (goal : Equation) (rows : List Row) → In goal → In (with_rows goal rows)
  under_more goal rows inside a holds = inside a (all_pushed-parts a goal.rows rows holds).0

  -- a rule steps the redex of a side
  stepped_inside : (side : Side) (goal : Equation) (rule : Rule) (redex : Term) →
      IsFitting parts goal → Contains parts.rules rule
      → redex_of (side_of side goal) ≡ Some redex → shape_of rule.left ≡ shape_of redex
      → (a : ℕ → ℤ) → AllHold a (subst_rows (matched redex) rule.rows)
      → IsInside parts (ground_at a (side_of side goal))
      → IsInside parts (ground_at a (replace_redex (side_of side goal)
      (subst_term (matched redex) rule.right)))
  stepped_inside side goal rule redex fits among is shape a holds inside =
      let t = side_of side goal in
      keeps (ground_at a t) (ground_at a (replace_redex t (subst_term (matched redex) rule.right)))
      inside (redex_steps parts made a rule t redex among is (side_fits parts side goal fits) shape
      holds)

  expanded_inside : (side : Side) (goal : Equation) (redex : Term) → IsFitting parts goal →
      In goal → redex_of (side_of side goal) ≡ Some redex
      → All In (map_formed (expanded_by goal side redex)
      (rules_of_shape (shape_of redex) parts.rules)).form
  expanded_inside side goal redex fits inside is =
      All-formed In (expanded_by goal side redex) (rules_of_shape (shape_of redex) parts.rules)
      for_rule
    where
      for_rule : (r : Rule) → Contains (rules_of_shape (shape_of redex) parts.rules) r →
          In (expanded_by goal side redex r).form
      for_rule r among =
          let alike : Rule → Bool = λ q. same_shape (shape_of q.left) (shape_of redex) in
          put_under side goal
          (replace_redex (side_of side goal) (subst_term (matched redex) r.right))
          (subst_rows (matched redex) r.rows) inside (λ a holds more.
          stepped_inside side goal r redex fits (was_there alike parts.rules r among) is
          (known_shape (shape_of r.left) (shape_of redex) (passes alike parts.rules r among)) a more
          (side_inside side goal inside a holds))

  kept_inside : (keep : Bool) (side : Side) (goal : Equation) → In goal →
      All (AreSidesInside parts) (kept_if keep side goal)
  kept_inside true side goal inside =
      All-cons (AreSidesInside parts) (from_side side goal) [] (turned side)
      (All-nil (AreSidesInside parts))
    where
      turned : (side : Side) → AreSidesInside parts (from_side side goal)
      turned Left a holds = inside a holds
      turned Right a holds = ((inside a holds).1, (inside a holds).0)
  kept_inside false side goal inside = All-nil (AreSidesInside parts)

  -- a hypothesis is used
  used_inside : (side : Side) (goal : Equation) (h : Rule) (ws : List (ℕ × Body)) (n : ℕ)
      (part : Term) → In goal → AreSidesInside parts h
      → suffix_at n (side_of side goal) ≡ Some part →
      Follow goal.rows ((equal_arguments part (subst_term ws h.left)).form ++ subst_rows ws h.rows)
      → In (with_side side goal (replace_at n (side_of side goal) (subst_term ws h.right)))
  used_inside side goal h ws n part inside known stands follows =
      put_inside side goal (replace_at n (side_of side goal) (subst_term ws h.right)) inside
      (λ a holds.
      let rows = All-parts (RowHolds a) (equal_arguments part (subst_term ws h.left)).form
      (subst_rows ws h.rows) (follows a holds) in
      let right = (known (updated_assignment a ws) ((subst_rows-hold a ws h.rows).0 rows.1)).1 in
      inside_replaced parts a n (side_of side goal) part (subst_term ws h.right) stands
      (side_inside side goal inside a holds)
      (subst (IsInside parts) (sym (ground_in_term a ws h.right)) right))

  -- the rows that put an equation inside follow from its own
  shown_inside : (new : Equation) → IsFitting parts new →
      Follow new.rows (inside_of parts new).form → In new
  shown_inside new fits follows a holds =
      let all = follows a holds in
      let left : List Row = (inside_rows parts new.left).form in
      let right : List Row = (inside_rows parts new.right).form in (
        (
          ground_fits parts a new.left fits.left,
          (says_inside parts good a new.left fits.left).meets (first_hold a left right all),
        ),
        (
          ground_fits parts a new.right fits.right,
          (says_inside parts good a new.right fits.right).meets (second_hold a left right all),
        ),
      )

  -- results meet the domains
  abbrev Met : Term → Type 0
  Met t = (a : ℕ → ℤ) → MeetsDomains parts (ground_at a t)

  failures_meet : (n : ℕ) → All Met (failures n)
  failures_meet zero = All-nil Met
  failures_meet (suc n) =
      All-append Met (failures n) (Fail (suc n) ∷ []) (failures_meet n)
      (All-cons Met (Fail (suc n)) []
      (λ a. subst (MeetsDomains parts) (sym (ground-Fail a (suc n))) tt) (All-nil Met))

  results_meet : (v : ℕ) → All Met (results_of parts.fails v)
  results_meet v =
      All-cons Met (Return (variable v)) (failures parts.fails)
      (λ a. subst (MeetsDomains parts) (sym (ground-Return a (variable v))) tt)
      (failures_meet parts.fails)

  result_inside : (v : ℕ) (result : Term) → Contains (results_of parts.fails v) result →
      (a : ℕ → ℤ) → IsInside parts (ground_at a result)
  result_inside v result among a = (
    ground_fits parts a result (results_fit parts made v result among),
    All-contains Met (results_of parts.fails v) result (results_meet v) among a,
  )

  -- one of them in place of both parts
  results_inside : (goal : Equation) (m n : ℕ) (s t : Term) → In goal →
      suffix_at m goal.left ≡ Some s → suffix_at n goal.right ≡ Some t
      → All In (map (with_result goal m n) (results_of parts.fails (equation_bound goal)))
  results_inside goal m n s t inside at_s at_t =
      All-mapped In (with_result goal m n) (results_of parts.fails (equation_bound goal))
      (λ result among a holds.
      let put = result_inside (equation_bound goal) result among a in (
        inside_replaced parts a m goal.left s result at_s (inside a holds).0 put,
        inside_replaced parts a n goal.right t result at_t (inside a holds).1 put,
      ))

  -- what a step makes of a fitting goal inside, where the hypotheses are inside
  pub made_inside : (hypotheses : List Rule) (goal : Equation) (new : List Equation)
      (kept : List Rule) → Makes parts hypotheses goal new kept → IsFitting parts goal →
      In goal → All (AreSidesInside parts) hypotheses
      → All In new × All (AreSidesInside parts) kept
  made_inside hypotheses goal new kept (making.Simplified side rule redex among is shape follows)
      fits inside rules = (
        only _ (put_inside side goal (replace_redex (side_of side goal)
            (subst_term (matched redex) rule.right)) inside (λ a holds.
            stepped_inside side goal rule redex fits among is shape a (follows a holds)
            (side_inside side goal inside a holds))),
        All-nil (AreSidesInside parts),
      )
  made_inside hypotheses goal new kept (making.Used side h ws n part among stands shape follows)
      fits inside rules = (
        only _ (used_inside side goal h ws n part inside
            (All-contains (AreSidesInside parts) hypotheses h rules among) stands follows),
        All-nil (AreSidesInside parts),
      )
  made_inside hypotheses goal new kept (making.Expanded side keep redex is) fits inside rules =
      (expanded_inside side goal redex fits inside is, kept_inside keep side goal inside)
  made_inside hypotheses goal new kept (making.Contradictory none) fits inside rules =
      (All-nil In, All-nil (AreSidesInside parts))
  made_inside hypotheses goal new kept (making.Equal shape follows) fits inside rules =
      (All-nil In, All-nil (AreSidesInside parts))
  made_inside hypotheses goal new kept (making.Apart shape) fits inside rules = (
    All-mapped In (differing goal) (term_differences goal.left goal.right).form
        (λ d among. under_more goal (Ne d ∷ []) inside),
    All-nil (AreSidesInside parts),
  )
  made_inside hypotheses goal new kept (making.Generalised next ws next_fits left right follows
      shown) fits inside rules =
      (only next (shown_inside next next_fits shown), All-nil (AreSidesInside parts))
  made_inside hypotheses goal new kept (making.Postulated next next_fits shown) fits inside rules = (
    All-cons In next (goal ∷ []) (shown_inside next next_fits shown) (only goal inside),
    All-nil (AreSidesInside parts),
  )
  made_inside hypotheses goal new kept (making.SplitBy row) fits inside rules = (
    All-cons In (with_rows goal (row ∷ [])) (with_rows goal (negation row ∷ []) ∷ [])
        (under_more goal (row ∷ []) inside) (only (with_rows goal (negation row ∷ []))
        (under_more goal (negation row ∷ []) inside)),
    All-nil (AreSidesInside parts),
  )
  made_inside hypotheses goal new kept (making.Decomposed f g ps qs s t left right same follows)
      fits inside rules = (
        only (with_sides goal s t) (λ a holds. (
          inside_frame parts a f ps s goal.left left (inside a holds).0,
          inside_frame parts a g qs t goal.right right (inside a holds).1,
        )),
        All-nil (AreSidesInside parts),
      )
  made_inside hypotheses goal new kept (making.WithResults m n s t at_s at_t shape follows) fits
      inside rules =
      (results_inside goal m n s t inside at_s at_t, All-nil (AreSidesInside parts))
