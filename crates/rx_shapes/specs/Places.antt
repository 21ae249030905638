-- The polynomials of an equation, place by place: those of its left side, then those of its right
-- one; in each the arguments of outer frames first, from left to right, and a result last.
use Rattle.std.specs.Prelude.{◌≡◌, List, ◌++◌}
use Rattle.rx_poly.specs.declared.body.Body.{Body}
use Rattle.rx_term.specs.Shapes.{shape_of}
use Rattle.rx_term.specs.Variables.{arguments_of}
use Rattle.rx_term.specs.declared.rule.Equation.{Equation}

abbrev pub places_of : Equation → List Body
places_of e = arguments_of e.left ++ arguments_of e.right

-- the same frames, calls and failure codes on both sides, whatever the polynomials are
abbrev pub HaveOneShape : Equation → Equation → Type 0
HaveOneShape e f = (shape_of e.left ≡ shape_of f.left) × (shape_of e.right ≡ shape_of f.right)
