-- The call that a term ends in, and what a polynomial alone says.
use Rattle.std.specs.Prelude.{◌≡◌, ℕ, Option, Some, None, List, ℤ}
use Rattle.rx_poly.specs.Reading.{constant_of, variable_of}
use Rattle.rx_poly.specs.declared.body.Body.{Body, out-Body}
use Rattle.rx_term.specs.declared.term.Sym.{Sym}
use Rattle.rx_term.specs.declared.term.Term.{Term, Term-F, fold-Term}
use Rattle.rx_lemma.specs.declared.calls.Call.{Call}

-- a symbol with its polynomials
pub record Applied : Type 0 where
  pub symbol : Sym
  pub arguments : List Body

-- the call under all frames; a term that ends in a result has none
abbrev pub call_level : Term-F (Option Applied) → Option Applied
call_level (Term-F.Return p) = None
call_level (Term-F.Fail c) = None
call_level (Term-F.Call f ps) = Some (record { symbol = f; arguments = ps })
call_level (Term-F.Frame f ps inner) = inner

abbrev pub call_of : Term → Option Applied
call_of = fold-Term (Option Applied) call_level

-- the call, wherever its polynomials are borrowed from
abbrev pub applied : Call → Applied
applied call = record { symbol = call.symbol; arguments = call.arguments.now }

-- the answer is that call, if there is one
abbrev pub IsCall : Option Applied → Option Call → Type 0
IsCall found None = found ≡ None
IsCall found (Some call) = found ≡ Some (applied call)

-- the variable that the polynomial is, if it is one
abbrev pub lone_variable : Body → Option ℕ
lone_variable p = variable_of (out-Body p).terms

-- the number that it is, if it is one
abbrev pub constant : Body → Option ℤ
constant p = constant_of (out-Body p).terms
