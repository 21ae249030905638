-- The ratios in rows, each a dividend and the number that it is divided by: by row, monomial and
-- atom, an atom before what is inside it, the dividend before the divisor, each once.
use Rattle.std.specs.Prelude.{◌≡◌, ◌&&◌, ℕ, Bool, true, if◌then◌else◌, Option, Some, None, List, [], ◌∷◌, ◌++◌, ℤ}
use Rattle.std.specs.List.{flat_map, fold, list_all, list_any}
use Rattle.std.specs.Ordering.{int_eq}
use Rattle.rx_poly.specs.Normal.{is_poly}
use Rattle.rx_poly.specs.Reading.{constant_of}
use Rattle.rx_poly.specs.Terms.{is_zero}
use Rattle.rx_poly.specs.declared.body.Atom.{Atom, Atom-F, para-Atom}
use Rattle.rx_poly.specs.declared.body.Mono.{Mono, Mono-F, para-Mono}
use Rattle.rx_poly.specs.declared.body.Body.{Body, Body-F, out-Body, para-Body}
use Rattle.rx_poly.specs.contracts.body.BodyPartialEq.TheImpl as body_equal
use Rattle.rx_row.specs.Parts.{poly_of}
use Rattle.rx_row.specs.declared.row.Row.{Row}
use Rattle.rx_poly_laws.specs.Tests.{passes}
use Rattle.rx_cert.specs.Variables.{rows_pass}
use Rattle.rx_solve.specs.declared.divisions.Ratio.{Ratio}

-- ---- in a polynomial

-- the ratio, where the divisor is a number other than 0
abbrev pub by_number : Body → Option ℤ → List Ratio
by_number p None = []
by_number p (Some d) = if is_zero d then [] else record { num = p; den = d } ∷ []

-- that of a quotient or remainder itself
abbrev pub own_ratio : Body → Body → List Ratio
own_ratio p q = by_number p (constant_of (out-Body q).terms)

-- each level sees its parts, and the ratios in them
abbrev pub atom_ratios_level : Atom-F (Atom × List Ratio) (Body × List Ratio) (Mono × List Ratio) →
    List Ratio
atom_ratios_level (Atom-F.Var n) = []
atom_ratios_level (Atom-F.Div p q) = own_ratio p.0 q.0 ++ (p.1 ++ q.1)
atom_ratios_level (Atom-F.Mod p q) = own_ratio p.0 q.0 ++ (p.1 ++ q.1)

abbrev pub mono_ratios_level : Mono-F (Atom × List Ratio) (Body × List Ratio) (Mono × List Ratio) →
    List Ratio
mono_ratios_level m = flat_map (λ (x : Atom × List Ratio). x.1) m.atoms

abbrev pub body_ratios_level : Body-F (Atom × List Ratio) (Body × List Ratio) (Mono × List Ratio) →
    List Ratio
body_ratios_level b = flat_map (λ (t : (Mono × List Ratio) × ℤ). (t.0).1) b.terms

-- the ratios in an atom
abbrev pub atom_ratios : Atom → List Ratio
atom_ratios =
    para-Atom (List Ratio) (List Ratio) (List Ratio) atom_ratios_level body_ratios_level
    mono_ratios_level

-- in a monomial
abbrev pub mono_ratios : Mono → List Ratio
mono_ratios =
    para-Mono (List Ratio) (List Ratio) (List Ratio) atom_ratios_level body_ratios_level
    mono_ratios_level

-- in a polynomial
abbrev pub ratios : Body → List Ratio
ratios =
    para-Body (List Ratio) (List Ratio) (List Ratio) atom_ratios_level body_ratios_level
    mono_ratios_level

-- ---- in rows

-- the two have one dividend and one divisor
abbrev pub same_ratio : Ratio → Ratio → Bool
same_ratio c d = (body_equal.ghosts).eq c.num d.num && int_eq c.den d.den

-- one more, unless it is one of them
abbrev pub pushed_ratio : List Ratio → Ratio → List Ratio
pushed_ratio rs r = if list_any (λ c. same_ratio c r) rs then rs else rs ++ r ∷ []

-- the ratios in the rows, each as often as it occurs
abbrev pub rows_ratios : List Row → List Ratio
rows_ratios rows = flat_map (λ row. ratios (poly_of row)) rows

-- the different ratios in the rows
abbrev pub all_ratios : List Row → List Ratio
all_ratios rows = fold pushed_ratio [] (rows_ratios rows)

-- the dividend is a polynomial
abbrev pub has_polynomial : Ratio → Bool
has_polynomial r = is_poly r.num

-- its variables pass the test
abbrev pub ratio_passes : (ℕ → Bool) → Ratio → Bool
ratio_passes test r = passes test r.num

-- their dividends are polynomials with no variables but those of the rows
pub record AreRatiosOf (rs : List Ratio) (rows : List Row) : Type 0 where
  pub polynomials : list_all has_polynomial rs ≡ true
  pub own : (test : ℕ → Bool) → rows_pass test rows ≡ true → list_all (ratio_passes test) rs ≡ true
