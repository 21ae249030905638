-- A step that applies to a fitting goal makes fitting goals and hypotheses.
use Rattle.std.proofs.Common.{◌≡◌, ℕ, zero, suc, ◌≤◌, inl, inr, Bool, true, false, Some, List, [], ◌∷◌, length, sym, ap, subst, ◌∙◌, arith, All, Contains}
use Rattle.std.specs.Prelude.{nat_le}
use Rattle.std.proofs.lemmas.Bool.{and_parts, and_from, le-leb}
use Rattle.std.proofs.lemmas.List.Elements.{All-cons, All-nil, All-contains, Contains-append_cases}
use Rattle.rx_plain.specs.Formed.{map_formed}
use Rattle.rx_poly.specs.Constants.{variable}
use Rattle.rx_poly.specs.declared.body.Body.{Body}
use Rattle.rx_row.specs.Negation.{negation}
use Rattle.rx_row.specs.Substitution.{subst_rows}
use Rattle.rx_row.specs.declared.row.Row.{Row}
use Rattle.rx_term.specs.Bounds.{equation_bound}
use Rattle.rx_term.specs.Differences.{term_differences}
use Rattle.rx_term.specs.Fitting.{is_declared, term_fits}
use Rattle.rx_term.specs.Meaning.{matched, redex_of}
use Rattle.rx_term.specs.Paired.{rules_of_shape}
use Rattle.rx_term.specs.Shapes.{same_shape, shape_of}
use Rattle.rx_term.specs.Stacks.{replace_redex, replace_at}
use Rattle.rx_term.specs.Substitution.{subst_term}
use Rattle.rx_term.specs.WellMade.{IsWellMade}
use Rattle.rx_term.specs.declared.rule.Equation.{Equation}
use Rattle.rx_term.specs.declared.rule.Rule.{Rule}
use Rattle.rx_term.specs.declared.rule_set.RuleParts.{RuleParts}
use Rattle.rx_term.specs.declared.term.Sym.{Sym}
use Rattle.rx_term.specs.declared.term.Term.{Term}
use Rattle.rx_term.specs.declared.term.Term.TheVariants.{Frame, Return, Fail}
use Rattle.rx_term.proofs.Equations.{fits-Frame, fits-Return, fits-Fail}
use Rattle.rx_term.proofs.KeepingLaws.{fits_in_term, fits_replaced}
use Rattle.rx_plain.proofs.Kept.{first_or_other, was_there}
use Rattle.rx_term.proofs.RuleLaws.{rule_made}
use Rattle.rx_inference.specs.Making.{differing, expanded_by, failures, from_side, kept_if, results_of, with_result}
use Rattle.rx_inference.specs.Pieces.{side_of, with_rows, with_side}
use Rattle.rx_inference.specs.declared.step.Side.{Side}
use Rattle.rx_inference.specs.declared.step.Side.TheVariants.{Left, Right}
use Rattle.rx_pairs.specs.Pairs.{SidesFit}
use Rattle.rx_proofs.specs.Goals.{IsFitting}
use Rattle.rx_proofs.proofs.Lists.{All-formed, All-mapped}
use Rattle.rx_proofs.proofs.Making.{Makes}
use Rattle.rx_proofs.proofs.Making as making
use Rattle.rx_proofs.proofs.StepLaws.{placed}

module _ (parts : RuleParts) (made : IsWellMade parts) where
  one : {goal : Equation} → IsFitting parts goal → All (IsFitting parts) (goal ∷ [])
  one {goal} fits = All-cons (IsFitting parts) goal [] fits (All-nil (IsFitting parts))

  replaced_fits : (side : Side) (goal : Equation) (n : ℕ) (t : Term) → IsFitting parts goal →
      term_fits parts t ≡ true → IsFitting parts
      (with_side side goal (replace_at n (side_of side goal) t))
  replaced_fits Left goal n t fits t_fits =
      record { left = fits_replaced parts t t_fits n goal.left fits.left; right = fits.right }
  replaced_fits Right goal n t fits t_fits =
      record { left = fits.left; right = fits_replaced parts t t_fits n goal.right fits.right }

  -- a rule's right side in place of the redex
  redex_fits : (side : Side) (goal : Equation) (redex : Term) (rule : Rule) → IsFitting parts goal →
      redex_of (side_of side goal) ≡ Some redex → Contains parts.rules rule
      → IsFitting parts (with_side side goal (replace_redex (side_of side goal)
      (subst_term (matched redex) rule.right)))
  redex_fits side goal redex rule fits is among =
      let at = placed (side_of side goal) redex is in
      let right = subst_term (matched redex) rule.right in
      subst (λ u. IsFitting parts (with_side side goal u)) (sym (at.replaces right))
      (replaced_fits side goal at.place right fits
      (fits_in_term (matched redex) parts rule.right ∙
      (rule_made parts made rule among).right_fits))

  -- more rows change nothing
  more_rows : (goal : Equation) (rows : List Row) → IsFitting parts goal →
      IsFitting parts (with_rows goal rows)
  more_rows goal rows fits = record { left = fits.left; right = fits.right }

  expanded_fit : (side : Side) (goal : Equation) (redex : Term) → IsFitting parts goal →
      redex_of (side_of side goal) ≡ Some redex
      → All (IsFitting parts) (map_formed (expanded_by goal side redex)
      (rules_of_shape (shape_of redex) parts.rules)).form
  expanded_fit side goal redex fits is =
      All-formed (IsFitting parts) (expanded_by goal side redex)
      (rules_of_shape (shape_of redex) parts.rules) (λ r among.
      more_rows (with_side side goal (replace_redex (side_of side goal)
      (subst_term (matched redex) r.right))) (subst_rows (matched redex) r.rows)
      (redex_fits side goal redex r fits is (was_there
      (λ q. same_shape (shape_of q.left) (shape_of redex)) parts.rules r among)))

  side_rule : (side : Side) (goal : Equation) → IsFitting parts goal →
      SidesFit parts (from_side side goal)
  side_rule Left goal fits = (fits.left, fits.right)
  side_rule Right goal fits = (fits.right, fits.left)

  kept_fit : (keep : Bool) (side : Side) (goal : Equation) → IsFitting parts goal →
      All (SidesFit parts) (kept_if keep side goal)
  kept_fit true side goal fits =
      All-cons (SidesFit parts) (from_side side goal) [] (side_rule side goal fits)
      (All-nil (SidesFit parts))
  kept_fit false side goal fits = All-nil (SidesFit parts)

  inner_fits : (f : Sym) (ps : List Body) (t : Term) → term_fits parts (Frame f ps t) ≡ true →
      term_fits parts t ≡ true
  inner_fits f ps t fits =
      (and_parts (is_declared parts.symbols f true (length ps)) (term_fits parts t)
      (sym (fits-Frame parts f ps t) ∙ fits)).1

  -- failures up to the greatest code
  failures_fit : (n : ℕ) → n ≤ parts.fails → (result : Term) → Contains (failures n) result →
      term_fits parts result ≡ true
  failures_fit zero few result among = absurd (let e = among.1 in omega (arith, e))
  failures_fit (suc n) few result among =
      elim (Contains-append_cases (failures n) (Fail (suc n) ∷ []) result among) [
        | inl earlier ↦ failures_fit n (omega (arith, few)) result earlier
        | inr last ↦ elim (first_or_other (Fail (suc n)) [] result last) [
          | inl same ↦ subst (λ t. term_fits parts t ≡ true) same
              (fits-Fail parts (suc n) ∙ and_from (nat_le 1 (suc n)) (nat_le (suc n) parts.fails)
              (le-leb 1 (suc n) (omega arith)) (le-leb (suc n) parts.fails few))
          | inr none ↦ absurd (let e = none.1 in omega (arith, e))
        ]
      ]

  pub results_fit : (v : ℕ) (result : Term) → Contains (results_of parts.fails v) result →
      term_fits parts result ≡ true
  results_fit v result among =
      elim (first_or_other (Return (variable v)) (failures parts.fails) result among) [
        | inl same ↦ subst (λ t. term_fits parts t ≡ true) same (fits-Return parts (variable v))
        | inr rest ↦ failures_fit parts.fails (omega arith) result rest
      ]

  -- what a step makes of a fitting goal, where the hypotheses fit
  pub made_fit : (hypotheses : List Rule) (goal : Equation) (new : List Equation) (kept : List Rule)
      → Makes parts hypotheses goal new kept → IsFitting parts goal →
      All (SidesFit parts) hypotheses
      → All (IsFitting parts) new × All (SidesFit parts) kept
  made_fit hypotheses goal new kept (making.Simplified side rule redex among is shape follows) fits
      rules =
      (one (redex_fits side goal redex rule fits is among), All-nil (SidesFit parts))
  made_fit hypotheses goal new kept (making.Used side h ws n part among stands shape follows) fits
      rules = (
        one (replaced_fits side goal n (subst_term ws h.right) fits
            (fits_in_term ws parts h.right ∙ (All-contains (SidesFit parts) hypotheses h rules
            among).1)),
        All-nil (SidesFit parts),
      )
  made_fit hypotheses goal new kept (making.Expanded side keep redex is) fits rules =
      (expanded_fit side goal redex fits is, kept_fit keep side goal fits)
  made_fit hypotheses goal new kept (making.Contradictory none) fits rules =
      (All-nil (IsFitting parts), All-nil (SidesFit parts))
  made_fit hypotheses goal new kept (making.Equal shape follows) fits rules =
      (All-nil (IsFitting parts), All-nil (SidesFit parts))
  made_fit hypotheses goal new kept (making.Apart shape) fits rules = (
    All-mapped (IsFitting parts) (differing goal) (term_differences goal.left goal.right).form
        (λ d among. record { left = fits.left; right = fits.right }),
    All-nil (SidesFit parts),
  )
  made_fit hypotheses goal new kept (making.Generalised next ws next_fits left right follows
      inside) fits rules =
      (one next_fits, All-nil (SidesFit parts))
  made_fit hypotheses goal new kept (making.Postulated next next_fits inside) fits rules =
      (All-cons (IsFitting parts) next (goal ∷ []) next_fits (one fits), All-nil (SidesFit parts))
  made_fit hypotheses goal new kept (making.SplitBy row) fits rules = (
    All-cons (IsFitting parts) (with_rows goal (row ∷ []))
        (with_rows goal (negation row ∷ []) ∷ [])
        (record { left = fits.left; right = fits.right })
        (one (record { left = fits.left; right = fits.right })),
    All-nil (SidesFit parts),
  )
  made_fit hypotheses goal new kept (making.Decomposed f g ps qs s t left right symbol follows) fits
      rules = (
        one (record {
          left = inner_fits f ps s (ap (term_fits parts) (sym left) ∙ fits.left);
          right =
              inner_fits g qs t (ap (term_fits parts) (sym right) ∙ fits.right);
        }),
        All-nil (SidesFit parts),
      )
  made_fit hypotheses goal new kept (making.WithResults m n s t at_s at_t shape follows) fits rules
      = (
        All-mapped (IsFitting parts) (with_result goal m n)
            (results_of parts.fails (equation_bound goal)) (λ result among.
            let result_fits = results_fit (equation_bound goal) result among in
            record {
              left = fits_replaced parts result result_fits m goal.left fits.left;
              right =
                  fits_replaced parts result result_fits n goal.right fits.right;
            }),
        All-nil (SidesFit parts),
      )
