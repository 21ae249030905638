-- The terms of -p - 1, by those of p, without forming it.
use Rattle.std.specs.Prelude.{if◌then◌else◌, List, [], ◌∷◌, ℤ, negsuc, ◌-ℤ◌, ◌*ℤ◌}
use Rattle.rx_poly.specs.Limits.{of_atoms}
use Rattle.rx_poly.specs.Normal.{is_empty}
use Rattle.rx_poly.specs.Terms.{cons_nonzero}
use Rattle.rx_poly.specs.declared.body.Mono.{Mono, out-Mono}

-- the terms of one number
abbrev pub number_terms : ℤ → List (Mono × ℤ)
number_terms c = cons_nonzero (of_atoms []) c []

-- the term with its sign reversed
abbrev pub turned : Mono × ℤ → Mono × ℤ
turned t = (t.0, t.1 *ℤ negsuc 0)

-- the terms with their signs reversed, and 1 less for the constant, which in a normal form is the
-- last
abbrev pub one_less_negated : List (Mono × ℤ) → List (Mono × ℤ)
one_less_negated [] = number_terms (negsuc 0)
one_less_negated (t ∷ ts) =
    if is_empty (out-Mono t.0).atoms then number_terms (negsuc 0 -ℤ t.1) else turned t ∷
    one_less_negated ts
