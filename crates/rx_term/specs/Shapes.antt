-- Shapes of terms: the stack without its polynomials.
use Rattle.std.specs.Prelude.{ℕ, nat_eq, Bool, true, false, ◌&&◌}
use Rattle.rx_term.specs.declared.term.Sym.{Sym}
use Rattle.rx_term.specs.declared.term.Term.{Term, Term-F, fold-Term}

-- a returned value, a failure with its code, a call of a symbol, or a frame of one over a shape
pub data Shape : Type 0 where
  Return : Shape
  Fail : ℕ → Shape
  Call : Sym → Shape
  Frame : Sym → Shape → Shape

abbrev pub shape_level : Term-F Shape → Shape
shape_level (Term-F.Return p) = Return
shape_level (Term-F.Fail c) = Fail c
shape_level (Term-F.Call f ps) = Call f
shape_level (Term-F.Frame f ps inner) = Frame f inner

-- the shape of a term
abbrev pub shape_of : Term → Shape
shape_of = fold-Term Shape shape_level

-- whether two shapes are one
abbrev pub same_shape : Shape → Shape → Bool
same_shape Return Return = true
same_shape Return (Fail d) = false
same_shape Return (Call g) = false
same_shape Return (Frame g t) = false
same_shape (Fail c) Return = false
same_shape (Fail c) (Fail d) = nat_eq c d
same_shape (Fail c) (Call g) = false
same_shape (Fail c) (Frame g t) = false
same_shape (Call f) Return = false
same_shape (Call f) (Fail d) = false
same_shape (Call f) (Call g) = nat_eq f.0 g.0
same_shape (Call f) (Frame g t) = false
same_shape (Frame f s) Return = false
same_shape (Frame f s) (Fail d) = false
same_shape (Frame f s) (Call g) = false
same_shape (Frame f s) (Frame g t) = nat_eq f.0 g.0 && same_shape s t
