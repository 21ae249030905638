-- The general sides of a shape: a variable of its own at each place, v0, v1, and so on.
use Rattle.std.specs.Prelude.{ℕ, suc, ◌+◌, List, [], ◌∷◌, length}
use Rattle.rx_poly.specs.Constants.{variable}
use Rattle.rx_poly.specs.declared.body.Body.{Body}
use Rattle.rx_term.specs.Variables.{arguments_of}
use Rattle.rx_term.specs.declared.rule.Equation.{Equation}
use Rattle.rx_term.specs.declared.term.Term.{Term, Term-F, fold-Term}
use Rattle.rx_term.specs.declared.term.Term.TheVariants.{Return, Fail, Call, Frame}
use Rattle.rx_term.specs.declared.term.Sym.{Sym}
use Rattle.rx_shapes.specs.declared.general.GeneralSides.{GeneralSides}
use Rattle.rx_shapes.specs.declared.general.OpenFrame.{OpenFrame}

-- a variable for each of the polynomials, numbered on from x
abbrev pub variables_from : ℕ → List Body → List Body
variables_from x [] = []
variables_from x (p ∷ ps) = variable x ∷ variables_from (suc x) ps

-- the term with variables, numbered on from x, in place of its polynomials
abbrev pub general_level : Term-F (ℕ → Term) → ℕ → Term
general_level (Term-F.Return p) x = Return (variable x)
general_level (Term-F.Fail c) x = Fail c
general_level (Term-F.Call f ps) x = Call f (variables_from x ps)
general_level (Term-F.Frame f ps inner) x =
    Frame f (variables_from x ps) (inner (x + length ps))

abbrev pub general_from : ℕ → Term → Term
general_from x t = fold-Term (ℕ → Term) general_level t x

-- a frame with variables in place of its polynomials, over nothing yet
abbrev pub open_frame : Sym → ℕ → List Body → OpenFrame
open_frame f x ps = record { symbol = f; arguments = variables_from x ps }

-- both sides, the left one first
abbrev pub general_of : Equation → GeneralSides
general_of e =
    record {
      left = general_from 0 e.left;
      right =
          general_from (length (arguments_of e.left)) e.right;
    }
