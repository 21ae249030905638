-- What a step makes of a goal, certificates and limits aside.
use Rattle.std.specs.Prelude.{◌≡◌, ℕ, Bool, Some, List, [], ◌∷◌, ◌++◌, map, Contains, ℤ}
use Rattle.rx_plain.specs.Formed.{map_formed}
use Rattle.rx_poly.specs.declared.body.Body.{Body}
use Rattle.rx_row.specs.Holds.{AllHold}
use Rattle.rx_row.specs.Negation.{negation}
use Rattle.rx_row.specs.Substitution.{subst_rows}
use Rattle.rx_row.specs.declared.row.Row.{Row}
use Rattle.rx_term.specs.Bounds.{equation_bound}
use Rattle.rx_term.specs.Differences.{term_differences}
use Rattle.rx_term.specs.Domains.{inside_of}
use Rattle.rx_term.specs.Meaning.{matched, redex_of}
use Rattle.rx_term.specs.Paired.{rules_of_shape}
use Rattle.rx_term.specs.Shapes.{shape_of}
use Rattle.rx_term.specs.Stacks.{suffix_at, replace_redex, replace_at}
use Rattle.rx_term.specs.Substitution.{subst_term}
use Rattle.rx_term.specs.declared.rule.Equation.{Equation}
use Rattle.rx_term.specs.declared.rule.Rule.{Rule}
use Rattle.rx_term.specs.declared.rule_set.RuleParts.{RuleParts}
use Rattle.rx_term.specs.declared.term.Sym.{Sym}
use Rattle.rx_term.specs.declared.term.Term.{Term}
use Rattle.rx_term.specs.declared.term.Term.TheVariants.{Frame}
use Rattle.rx_inference.specs.Making.{differing, expanded_by, instance_rows, kept_if, results_of, with_result, with_sides}
use Rattle.rx_inference.specs.Pieces.{equal_arguments, equal_lists, side_of, with_rows, with_side}
use Rattle.rx_inference.specs.declared.step.Side.{Side}
use Rattle.rx_proofs.specs.Goals.{IsFitting}

-- rows that hold wherever others do
abbrev pub Follow : List Row → List Row → Type 0
Follow given rows = (a : ℕ → ℤ) → AllHold a given → AllHold a rows

-- the new goals, and the hypotheses that are kept
pub data Makes (parts : RuleParts) (hypotheses : List Rule) (goal : Equation) : List Equation →
    List Rule → Type 0 where
  Simplified : (side : Side) (rule : Rule) (redex : Term) → Contains parts.rules rule →
      redex_of (side_of side goal) ≡ Some redex
      → shape_of rule.left ≡ shape_of redex →
      Follow goal.rows (subst_rows (matched redex) rule.rows)
      → Makes parts hypotheses goal (with_side side goal
      (replace_redex (side_of side goal) (subst_term (matched redex) rule.right)) ∷ []) []
  Used : (side : Side) (h : Rule) (ws : List (ℕ × Body)) (n : ℕ) (part : Term) →
      Contains hypotheses h → suffix_at n (side_of side goal) ≡ Some part
      → shape_of part ≡ shape_of h.left → Follow goal.rows
      ((equal_arguments part (subst_term ws h.left)).form ++ subst_rows ws h.rows)
      → Makes parts hypotheses goal (with_side side goal
      (replace_at n (side_of side goal) (subst_term ws h.right)) ∷ []) []
  Expanded : (side : Side) (keep : Bool) (redex : Term) → redex_of (side_of side goal) ≡ Some redex
      → Makes parts hypotheses goal (map_formed (expanded_by goal side redex)
      (rules_of_shape (shape_of redex) parts.rules)).form (kept_if keep side goal)
  Contradictory : ((a : ℕ → ℤ) → AllHold a goal.rows → ⊥) → Makes parts hypotheses goal [] []
  Equal : shape_of goal.left ≡ shape_of goal.right →
      Follow goal.rows (equal_arguments goal.left goal.right).form →
      Makes parts hypotheses goal [] []
  Apart : shape_of goal.left ≡ shape_of goal.right
      → Makes parts hypotheses goal (map (differing goal)
      (term_differences goal.left goal.right).form) []
  Generalised : (new : Equation) (ws : List (ℕ × Body)) → IsFitting parts new → shape_of new.left ≡
      shape_of goal.left
      → shape_of new.right ≡ shape_of goal.right →
      Follow goal.rows (instance_rows ws new goal).form →
      Follow new.rows (inside_of parts new).form →
      Makes parts hypotheses goal (new ∷ []) []
  Postulated : (new : Equation) → IsFitting parts new →
      Follow new.rows (inside_of parts new).form →
      Makes parts hypotheses goal (new ∷ goal ∷ []) []
  SplitBy : (row : Row) → Makes parts hypotheses goal
      (with_rows goal (row ∷ []) ∷ with_rows goal (negation row ∷ []) ∷ []) []
  Decomposed : (f g : Sym) (ps qs : List Body) (s t : Term) → goal.left ≡ Frame f ps s →
      goal.right ≡ Frame g qs t → f ≡ g
      → Follow goal.rows (equal_lists ps qs).form →
      Makes parts hypotheses goal (with_sides goal s t ∷ []) []
  WithResults : (m n : ℕ) (s t : Term) → suffix_at m goal.left ≡ Some s → suffix_at n goal.right ≡
      Some t → shape_of s ≡ shape_of t
      → Follow goal.rows (equal_arguments s t).form
      → Makes parts hypotheses goal (map (with_result goal m n)
      (results_of parts.fails (equation_bound goal))) []
