-- What is in place of a variable where polynomials are listed in order.
use Rattle.std.proofs.Common.{◌≡◌, ◌∙◌, ap, subst, ℕ, zero, suc, ◌+◌, ◌==◌, true, false, if◌then◌else◌, refl, sym, Option, Some, None, MatchOption, List, [], ◌∷◌, slice_get, Bor, arith}
use Rattle.std.proofs.lemmas.Bool.Decides.{nat_tests}
use Rattle.std.specs.Option.{option_copied}
use Rattle.rx_poly.specs.Constants.{variable}
use Rattle.rx_poly.specs.Substitution.{numbered, numbered_from, replaced}
use Rattle.rx_poly.specs.declared.body.Body.{Body}

-- the polynomial, or the variable where there is none
abbrev or_variable : ℕ → Option Body → Body
or_variable n None = variable n
or_variable n (Some p) = p

from_there : (k : ℕ) (ps : List Body) (i : ℕ) → replaced (numbered_from k ps) (k + i) ≡
    or_variable (k + i) (slice_get ps i)
from_there k [] i = refl
from_there k (p ∷ ps) zero =
    let e : (k == k + 0) ≡ true = grind (arith, nat_tests) in
    ap (λ b. if b then p else replaced (numbered_from (k + 1) ps) (k + 0)) e
from_there k (p ∷ ps) (suc i) =
    let e : (k == k + suc i) ≡ false = grind (arith, nat_tests) in
    let n : (k + 1) + i ≡ k + suc i = omega arith in
    ap (λ b. if b then p else replaced (numbered_from (k + 1) ps) (k + suc i)) e
    ∙ ap (replaced (numbered_from (k + 1) ps)) (sym n) ∙ from_there (k + 1) ps i ∙
    ap (λ m. or_variable m (slice_get ps i)) n

in_order : (ps : List Body) (n : ℕ) → replaced (numbered ps) n ≡ or_variable n (slice_get ps n)
in_order ps n =
    let e : 0 + n ≡ n = omega arith in
    subst (λ m. replaced (numbered ps) m ≡ or_variable m (slice_get ps n)) e (from_there 0 ps n)

-- there is an argument with that number
pub argument_is : (ps : List Body) (n : ℕ) (p : Body) → slice_get ps n ≡ Some p → p ≡
    replaced (numbered ps) n
argument_is ps n p e = sym (in_order ps n ∙ ap (or_variable n) e)

-- there is none
pub no_argument : (ps : List Body) (n : ℕ) → slice_get ps n ≡ None → variable n ≡
    replaced (numbered ps) n
no_argument ps n e = sym (in_order ps n ∙ ap (or_variable n) e)

-- what is borrowed is that argument, and without one the variable stays
pub borrowed : (ps : List Body) (n : ℕ) (r : Option (Bor Body)) → option_copied r ≡ slice_get ps n →
    MatchOption r (replaced (numbered ps) n ≡ variable n) (λ p. p.now ≡ replaced (numbered ps) n)
borrowed ps n None e = sym (no_argument ps n (sym e))
borrowed ps n (Some p) e = argument_is ps n p.now (sym e)
