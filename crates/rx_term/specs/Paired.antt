-- Paired rule sets: for each shape of a redex one rule applies everywhere, or one of two rules as a
-- row holds or not.
use Rattle.std.specs.Prelude.{◌≡◌, ℕ, true, false, List, [], ◌∷◌, filter}
use Rattle.rx_row.specs.Negation.{negation, negation_within}
use Rattle.rx_row.specs.declared.row.Row.{Row}
use Rattle.rx_term.specs.Fitting.{code_fits, is_declared}
use Rattle.rx_term.specs.Shapes.{Shape, Return, Fail, Call, Frame, same_shape, shape_of}
use Rattle.rx_term.specs.declared.rule.Rule.{Rule}
use Rattle.rx_term.specs.declared.rule_set.RuleParts.{RuleParts}
use Rattle.rx_term.specs.declared.term.Sym.{Sym}

-- the shapes of redexes that fit: a point, or a frame over a returned value or over a failure code
pub data IsRedexShape (parts : RuleParts) : Shape → Type 0 where
  PointShape : (f : Sym) (n : ℕ) → is_declared parts.symbols f false n ≡ true →
      IsRedexShape parts (Call f)
  ReturnShape : (f : Sym) (n : ℕ) → is_declared parts.symbols f true n ≡ true →
      IsRedexShape parts (Frame f Return)
  FailShape : (f : Sym) (n c : ℕ) → is_declared parts.symbols f true n ≡ true →
      code_fits parts.fails c ≡ true → IsRedexShape parts (Frame f (Fail c))

-- the rules whose left side has the shape, in order
abbrev pub rules_of_shape : Shape → List Rule → List Rule
rules_of_shape shape rules = filter (λ (r : Rule). same_shape (shape_of r.left) shape) rules

-- one rule without rows, or two with one row each, the second row the negation of the first, which
-- is formed within the limits
pub data IsPair : List Rule → Type 0 where
  One : (r : Rule) → r.rows ≡ [] → IsPair (r ∷ [])
  Two : (r q : Rule) (row : Row) → r.rows ≡ row ∷ [] → q.rows ≡ negation row ∷ []
      → negation_within row ≡ true → IsPair (r ∷ q ∷ [])

-- the rules of each shape are so
abbrev pub IsPaired : RuleParts → Type 0
IsPaired parts =
    (shape : Shape) → IsRedexShape parts shape → IsPair (rules_of_shape shape parts.rules)
