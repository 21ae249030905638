-- What variables are replaced by, as a list, and which of them stay.
use Rattle.std.specs.Prelude.{ℕ, Bool, ◌==◌, List, Some}
use Rattle.std.specs.List.{list_all}
use Rattle.std.specs.Option.{option_eq}
use Rattle.rx_poly.specs.Reading.{variable_of}
use Rattle.rx_poly.specs.Substitution.{numbered, replaced}
use Rattle.rx_poly.specs.Variables.{atom_variables, mono_variables, variables}
use Rattle.rx_poly.specs.declared.body.Atom.{Atom}
use Rattle.rx_poly.specs.declared.body.Body.{Body, out-Body}
use Rattle.rx_poly.specs.declared.body.Mono.{Mono}
use Rattle.rx_poly.specs.declared.substitution.Replacements.{Replacements}
use Rattle.rx_poly.specs.declared.substitution.Replacements.TheVariants.{Listed, InOrder}

-- what is listed for the variables, or the polynomials in order
abbrev pub replacements : Replacements → List (ℕ × Body)
replacements (Listed pairs) = pairs.now
replacements (InOrder args) = numbered args.now

-- what is in place of the variable is the variable itself
abbrev pub variable_stays : List (ℕ × Body) → ℕ → Bool
variable_stays ws v = option_eq ◌==◌ (variable_of (out-Body (replaced ws v)).terms) (Some v)

-- all of these stay
abbrev pub all_stay : List (ℕ × Body) → List ℕ → Bool
all_stay ws vs = list_all (variable_stays ws) vs

-- the variables of an atom do
abbrev pub atom_stays : List (ℕ × Body) → Atom → Bool
atom_stays ws x = all_stay ws (atom_variables x)

-- those of a monomial do
abbrev pub mono_stays : List (ℕ × Body) → Mono → Bool
mono_stays ws m = all_stay ws (mono_variables m)

-- those of a sum do
abbrev pub body_stays : List (ℕ × Body) → Body → Bool
body_stays ws p = all_stay ws (variables p)
