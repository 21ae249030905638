-- Covered rule sets: at each redex, whatever its arguments are, a rule of its shape applies.
use Rattle.std.specs.Prelude.{◌≡◌, ℕ, List, Contains, ℤ}
use Rattle.rx_poly.specs.Substitution.{updated_assignment}
use Rattle.rx_rewriting.specs.Terms.{TermSet}
use Rattle.rx_row.specs.Holds.{AllHold}
use Rattle.rx_row.specs.Substitution.{subst_rows}
use Rattle.rx_term.specs.Meaning.{IsRedex, ground_at, matched}
use Rattle.rx_term.specs.Paired.{IsRedexShape, rules_of_shape}
use Rattle.rx_term.specs.Shapes.{Shape, shape_of}
use Rattle.rx_term.specs.declared.rule.Rule.{Rule}
use Rattle.rx_term.specs.declared.rule_set.RuleParts.{RuleParts}
use Rattle.rx_term.specs.declared.term.Term.{Term}

-- a rule of the shape whose rows hold at the assignment
pub record HasRule (rules : List Rule) (shape : Shape) (a : ℕ → ℤ) : Type 0 where
  pub rule : Rule
  pub among : Contains (rules_of_shape shape rules) rule
  pub holds : AllHold a rule.rows

-- which arguments, given by the assignment, a redex of the shape may have
abbrev pub RedexArguments : Type 1
RedexArguments = Shape → (ℕ → ℤ) → Type 0

-- there is such a rule for each shape of a redex, at all arguments of its domain
abbrev pub IsCoveredOver : RedexArguments → RuleParts → Type 0
IsCoveredOver domains parts =
    (shape : Shape) → IsRedexShape parts shape → (a : ℕ → ℤ) → domains shape a
    → HasRule parts.rules shape a

-- every argument is allowed
abbrev pub everywhere : RedexArguments
everywhere shape a = Unit {0}

-- there is such a rule for each shape of a redex, at all arguments
abbrev pub IsCovered : RuleParts → Type 0
IsCovered parts = IsCoveredOver everywhere parts

-- the redexes of the set of ground terms have arguments of their domains
abbrev pub KeepsDomains : TermSet → RedexArguments → Type 0
KeepsDomains inside domains =
    (t : Term) → IsRedex t → (a : ℕ → ℤ) → inside (ground_at a t)
    → domains (shape_of t) (updated_assignment a (matched t))

-- a rule of the redex's shape whose rows hold, with the redex's arguments in place of its
-- variables; in a well made set such a rule steps the redex
pub record CanStep (rules : List Rule) (t : Term) (a : ℕ → ℤ) : Type 0 where
  pub rule : Rule
  pub among : Contains rules rule
  pub shape : shape_of rule.left ≡ shape_of t
  pub holds : AllHold a (subst_rows (matched t) rule.rows)
