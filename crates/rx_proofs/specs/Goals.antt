-- What goals and hypotheses mean, inside a set of ground terms.
use Rattle.std.specs.Prelude.{◌≡◌, ℕ, true, List, ℤ}
use Rattle.rx_row.specs.Holds.{AllHold}
use Rattle.rx_row.specs.declared.row.Row.{Row}
use Rattle.rx_rewriting.specs.Terms.{Ground, TermSet, Fits}
use Rattle.rx_rewriting.specs.Steps.{Step, Joinable, Either}
use Rattle.rx_term.specs.Domains.{IsInside}
use Rattle.rx_term.specs.Fitting.{term_fits}
use Rattle.rx_term.specs.Meaning.{Instance, ground_at, signature}
use Rattle.rx_term.specs.declared.rule.Equation.{Equation}
use Rattle.rx_term.specs.declared.rule.Rule.{Rule}
use Rattle.rx_term.specs.declared.rule_set.RuleParts.{RuleParts}
use Rattle.rx_term.specs.declared.term.Term.{Term}

-- the terms that fit the symbols
abbrev pub Fitting : RuleParts → TermSet
Fitting parts = Fits (signature parts)

-- both terms are inside the domains, at each assignment that meets the rows
abbrev pub AreInside : RuleParts → List Row → Term → Term → Type 0
AreInside parts rows s t =
    (a : ℕ → ℤ) → AllHold a rows → IsInside parts (ground_at a s) × IsInside parts (ground_at a t)

-- both sides of the goal are, wherever its rows hold
abbrev pub IsGoalInside : RuleParts → Equation → Type 0
IsGoalInside parts goal = AreInside parts goal.rows goal.left goal.right

-- rules and hypotheses together
abbrev pub Both : RuleParts → List Rule → Ground → Ground → Type 0
Both parts hypotheses = Either (Instance parts.rules) (Instance hypotheses)

-- the sides of the goal join by rules and hypotheses together, at each assignment that meets its
-- rows
abbrev pub IsGood : RuleParts → List Rule → Equation → Type 0
IsGood parts hypotheses goal =
    (a : ℕ → ℤ) → AllHold a goal.rows → Joinable (Both parts hypotheses) (ground_at a goal.left)
    (ground_at a goal.right)

-- a rule steps from the hypothesis's left side to a term that joins with its right side, at each
-- assignment that meets its rows
abbrev pub IsBacked : RuleParts → List Rule → Rule → Type 0
IsBacked parts hypotheses h =
    (a : ℕ → ℤ) → AllHold a h.rows
    → (first : Ground) × Step (Instance parts.rules) (ground_at a h.left) first ×
    Joinable (Both parts hypotheses) first (ground_at a h.right)

-- both sides of the goal fit the symbols
pub record IsFitting (parts : RuleParts) (goal : Equation) : Type 0 where
  pub left : term_fits parts goal.left ≡ true
  pub right : term_fits parts goal.right ≡ true
