-- The least number above all variables of terms and equations, at every level; 0 where there is
-- none.
use Rattle.std.specs.Prelude.{ℕ, max, List}
use Rattle.rx_poly.specs.Limits.{greatest}
use Rattle.rx_poly.specs.Variables.{variable_bound}
use Rattle.rx_poly.specs.declared.body.Body.{Body}
use Rattle.rx_row.specs.Variables.{rows_bound}
use Rattle.rx_term.specs.declared.rule.Equation.{Equation}
use Rattle.rx_term.specs.declared.term.Term.{Term, Term-F, fold-Term}

-- above all variables of the polynomials
abbrev pub polys_bound : List Body → ℕ
polys_bound ps = greatest variable_bound ps

-- of a term
abbrev pub term_bound_level : Term-F ℕ → ℕ
term_bound_level (Term-F.Return p) = variable_bound p
term_bound_level (Term-F.Fail c) = 0
term_bound_level (Term-F.Call f ps) = polys_bound ps
term_bound_level (Term-F.Frame f ps inner) = max (polys_bound ps) inner

abbrev pub term_bound : Term → ℕ
term_bound = fold-Term ℕ term_bound_level

-- of both sides and the rows of an equation
abbrev pub equation_bound : Equation → ℕ
equation_bound e = max (max (term_bound e.left) (term_bound e.right)) (rows_bound e.rows)
