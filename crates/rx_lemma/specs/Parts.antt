-- What the calls say of which generalisations are made.
use Rattle.std.specs.Prelude.{◌≡◌, ◌+◌, ℕ, nat_le, true, false, Option, Some, None, List, ◌++◌, length}
use Rattle.rx_poly.specs.declared.body.Body.{Body}
use Rattle.rx_term.specs.Bounds.{equation_bound}
use Rattle.rx_term.specs.declared.rule.Equation.{Equation}
use Rattle.rx_lemma.specs.Generalising.{as_list}
use Rattle.rx_lemma.specs.Lemmas.{variables_end}
use Rattle.rx_lemma.specs.Repeated.{new_variables}
use Rattle.rx_lemma.specs.declared.generalised.Generalised.{Generalised}

-- new variables for the polynomials, where there are enough
abbrev pub AreVariablesFor : Equation → List Body → Option (List (ℕ × Body)) → Type 0
AreVariablesFor goal ps None = nat_le (equation_bound goal + length ps) variables_end ≡ false
AreVariablesFor goal ps (Some ws) =
    (nat_le (equation_bound goal + length ps) variables_end ≡ true) ×
    (ws ≡ new_variables (equation_bound goal) ps)

-- the first, if there is one, and then the second, if there is one
abbrev pub AreListed : Option Generalised → Option Generalised → List Generalised → Type 0
AreListed first second all = all ≡ as_list first ++ as_list second
