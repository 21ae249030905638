-- Shapes as a test, and rows that are added one after the other.
use Rattle.std.proofs.Common.{◌≡◌, sym, subst, refl, Bool, true, false, ◌↔◌, List, [], ◌∷◌, ◌++◌}
use Rattle.rx_row.specs.Membership.{pushed}
use Rattle.rx_row.specs.declared.row.Row.{Row}
use Rattle.rx_term.specs.Shapes.{Shape, same_shape}
use Rattle.rx_term.proofs.RuleLaws.{shape_itself, known_shape}
use Rattle.rx_inference.specs.Pieces.{all_pushed}

-- a test of whether two shapes are one is the test by cases
pub same_test : (b : Bool) (s t : Shape) → ((b ≡ true) ↔ (s ≡ t)) → b ≡ same_shape s t
same_test true s t h = sym (subst (λ x. same_shape s x ≡ true) (h.0 refl) (shape_itself s))
same_test false s t h = by (same_shape s t) refl
  where
    by : (b : Bool) → same_shape s t ≡ b → false ≡ b
    by true is = h.1 (known_shape s t is)
    by false is = refl

-- a row after others is added last
pub pushed_after : (rows more : List Row) (row : Row) → all_pushed rows (more ++ row ∷ []) ≡
    pushed (all_pushed rows more) row
pushed_after rows [] row = refl
pushed_after rows (r ∷ rs) row = pushed_after (pushed rows r) rs row
