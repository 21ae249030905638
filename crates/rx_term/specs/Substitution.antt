-- Polynomials substituted for variables in terms: the term, and whether all that is formed on the
-- way keeps the limits.
use Rattle.std.specs.Prelude.{ℕ, Bool, true, ◌&&◌, List, map}
use Rattle.std.specs.List.{list_all}
use Rattle.rx_plain.specs.Formed.{Formed}
use Rattle.rx_poly.specs.Substitution.{subst_body}
use Rattle.rx_poly.specs.declared.body.Body.{Body}
use Rattle.rx_term.specs.declared.term.Term.{Term, Term-F, fold-Term}
use Rattle.rx_term.specs.declared.term.Term.TheVariants.{Return, Fail, Call, Frame}

-- as many polynomials in the same order
abbrev pub subst_polys : List (ℕ × Body) → List Body → List Body
subst_polys ws ps = map (λ p. (subst_body ws p).form) ps

abbrev pub polys_within : List (ℕ × Body) → List Body → Bool
polys_within ws ps = list_all (λ p. (subst_body ws p).within) ps

-- both at once
abbrev pub polys_with : List (ℕ × Body) → List Body → Formed (List Body)
polys_with ws ps = record { form = subst_polys ws ps; within = polys_within ws ps }

-- the stack keeps its parts: the same symbols and codes in the same places
abbrev pub subst_term_level : List (ℕ × Body) → Term-F Term → Term
subst_term_level ws (Term-F.Return p) = Return (subst_body ws p).form
subst_term_level ws (Term-F.Fail c) = Fail c
subst_term_level ws (Term-F.Call f ps) = Call f (subst_polys ws ps)
subst_term_level ws (Term-F.Frame f ps inner) = Frame f (subst_polys ws ps) inner

abbrev pub subst_term : List (ℕ × Body) → Term → Term
subst_term ws = fold-Term Term (subst_term_level ws)

abbrev pub term_within_level : List (ℕ × Body) → Term-F Bool → Bool
term_within_level ws (Term-F.Return p) = (subst_body ws p).within
term_within_level ws (Term-F.Fail c) = true
term_within_level ws (Term-F.Call f ps) = polys_within ws ps
term_within_level ws (Term-F.Frame f ps inner) = polys_within ws ps && inner

abbrev pub term_within : List (ℕ × Body) → Term → Bool
term_within ws = fold-Term Bool (term_within_level ws)

-- both at once
abbrev pub term_with : List (ℕ × Body) → Term → Formed Term
term_with ws t = record { form = subst_term ws t; within = term_within ws t }
