-- The polynomials of a term, and whether only the first variables occur in them.
use Rattle.std.specs.Prelude.{ℕ, Bool, true, ◌&&◌, List, [], ◌∷◌, ◌++◌}
use Rattle.std.specs.List.{list_all}
use Rattle.rx_poly.specs.declared.body.Body.{Body}
use Rattle.rx_poly.specs.Variables.{uses_below}
use Rattle.rx_term.specs.declared.term.Term.{Term, Term-F, fold-Term}

-- the polynomials of a term: those of outer frames first, from left to right, a result's last
abbrev pub arguments_level : Term-F (List Body) → List Body
arguments_level (Term-F.Return p) = p ∷ []
arguments_level (Term-F.Fail c) = []
arguments_level (Term-F.Call f ps) = ps
arguments_level (Term-F.Frame f ps inner) = ps ++ inner

abbrev pub arguments_of : Term → List Body
arguments_of = fold-Term (List Body) arguments_level

-- all variables of the polynomials are below the number
abbrev pub polys_use_below : ℕ → List Body → Bool
polys_use_below n ps = list_all (uses_below n) ps

-- all variables of the term are
abbrev pub term_below_level : ℕ → Term-F Bool → Bool
term_below_level n (Term-F.Return p) = uses_below n p
term_below_level n (Term-F.Fail c) = true
term_below_level n (Term-F.Call f ps) = polys_use_below n ps
term_below_level n (Term-F.Frame f ps inner) = polys_use_below n ps && inner

abbrev pub term_uses_below : ℕ → Term → Bool
term_uses_below n = fold-Term Bool (term_below_level n)
