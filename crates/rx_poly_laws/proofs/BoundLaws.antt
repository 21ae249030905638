-- Which variables are used, and the least number above all of them.
use Rattle.std.proofs.Common.{◌≡◌, ◌↔◌, refl, ℕ, zero, suc, ◌<◌, ◌≤◌, ◌==◌, Bool, true, false, ◌||◌, List, [], ◌∷◌, length, get_or, Contains, arith}
use Rattle.std.proofs.lemmas.Bool.{or_left, or_right}
use Rattle.std.proofs.lemmas.Bool.Decides.{nat_tests}
use Rattle.std.proofs.lemmas.List.Elements.{Contains-append_right}
use Rattle.rx_poly.proofs.VariableLaws.{below_bound}
use Rattle.rx_poly.specs.Variables.{is_one_of, uses, uses_below, variable_bound, variables}
use Rattle.rx_poly.specs.declared.body.Body.{Body}

-- all variables are below a number exactly where it is at least the least number above them
pub below_the_bound : (n : ℕ) (p : Body) → (uses_below n p ≡ true) ↔ (variable_bound p ≤ n)
below_the_bound n p = below_bound n (variables p)

first_or_later : (x v : ℕ) (vs : List ℕ) → (is_one_of x vs ≡ true → Contains vs x) → (b : Bool) →
    (v == x) ≡ b → (b || is_one_of x vs) ≡ true → Contains (v ∷ vs) x
first_or_later x v vs later true e h =
    let same : v ≡ x = grind (arith, nat_tests) in (0, omega arith, same)
first_or_later x v vs later false e h = Contains-append_right (v ∷ []) vs x (later h)

found_there : (x : ℕ) (vs : List ℕ) → is_one_of x vs ≡ true → Contains vs x
found_there x [] h = cc
found_there x (v ∷ vs) h = first_or_later x v vs (found_there x vs) (v == x) refl h

there_found : (x : ℕ) (vs : List ℕ) (k : ℕ) → k < length vs → get_or vs k x ≡ x → is_one_of x vs ≡
    true
there_found x [] k h e = absurd (omega arith)
there_found x (v ∷ vs) zero h e =
    let same : v ≡ x = e in
    let test : (v == x) ≡ true = grind (arith, nat_tests) in
    or_left (v == x) (is_one_of x vs) test
there_found x (v ∷ vs) (suc k) h e =
    or_right (v == x) (is_one_of x vs) (there_found x vs k (omega arith) e)

-- a variable is used exactly where it is one of the variables
pub used_is_contained : (x : ℕ) (p : Body) → (uses x p ≡ true) ↔ Contains (variables p) x
used_is_contained x p = (found_there x (variables p), λ c. there_found x (variables p) c.0 c.1 c.2)
