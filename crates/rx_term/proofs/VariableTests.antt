-- What the test for a variable says, and for the first variables in order.
use Rattle.std.proofs.Common.{◌≡◌, ◌∙◌, ap, sym, refl, true, ℕ, zero, suc, ◌+◌, List, [], ◌∷◌, length, ℤ, pos}
use Rattle.std.specs.Ordering.{int_eq}
use Rattle.std.proofs.lemmas.Bool.{and_parts, and_from, eqb-true, eq-eqb}
use Rattle.std.proofs.lemmas.Bool.Decides.{Decides-int_eq}
use Rattle.rx_poly.specs.Constants.{variable}
use Rattle.rx_poly.specs.Limits.{of_atoms, of_terms}
use Rattle.rx_poly.specs.declared.body.Atom.{Atom, Atom-F, out-Atom, roll-Atom, roll-out-Atom}
use Rattle.rx_poly.specs.declared.body.Atom.TheVariants.{Var, outs-Var, rolls-Var}
use Rattle.rx_poly.specs.declared.body.Mono.{Mono, out-Mono, roll-out-Mono}
use Rattle.rx_poly.specs.declared.body.Body.{Body, out-Body, roll-out-Body}
use Rattle.rx_poly.proofs.Levels.{terms-of_terms, atoms-of_atoms}
use Rattle.rx_term.specs.MadeTest.{is_variable_atom, is_variable_product, is_variable_sum, is_variable, are_variables}
use Rattle.rx_term.specs.WellMade.{variables_from}

is_atom : (n : ℕ) (x : Atom-F Atom Body Mono) → is_variable_atom n x ≡ true → roll-Atom x ≡ Var n
is_atom n (Atom-F.Var k) h = rolls-Var k ∙ ap Var (eqb-true k n h)
is_atom n (Atom-F.Div p q) h = cc
is_atom n (Atom-F.Mod p q) h = cc

is_product : (n : ℕ) (xs : List Atom) → is_variable_product n xs ≡ true → xs ≡ Var n ∷ []
is_product n (x ∷ []) h =
    ap (λ (y : Atom). y ∷ []) (sym (roll-out-Atom x) ∙ is_atom n (out-Atom x) h)
is_product n [] h = cc
is_product n (x ∷ (y ∷ ys)) h = cc

is_sum : (n : ℕ) (ts : List (Mono × ℤ)) → is_variable_sum n ts ≡ true → ts ≡
    (of_atoms (Var n ∷ []), pos 1) ∷ []
is_sum n ((m, k) ∷ []) h =
    let both = and_parts (int_eq k (pos 1)) (is_variable_product n (out-Mono m).atoms) h in
    let mono : m ≡ of_atoms (Var n ∷ []) = sym (roll-out-Mono m) ∙
    ap of_atoms (is_product n (out-Mono m).atoms both.1) in
    let one : k ≡ pos 1 = (Decides-int_eq k (pos 1)).0 both.0 in
    (λ i. (mono i, one i) ∷ [])
is_sum n [] h = cc
is_sum n ((m, k) ∷ (t ∷ ts)) h = cc

-- a polynomial that passes the test is the variable
pub variable-is : (n : ℕ) (p : Body) → is_variable n p ≡ true → p ≡ variable n
variable-is n p h = sym (roll-out-Body p) ∙ ap of_terms (is_sum n (out-Body p).terms h)

-- a variable passes it
pub is-variable : (n : ℕ) → is_variable n (variable n) ≡ true
is-variable n =
    ap (is_variable_sum n) (terms-of_terms ((of_atoms (Var n ∷ []), pos 1) ∷ []))
    ∙ ap (is_variable_product n) (atoms-of_atoms (Var n ∷ []))
    ∙ ap (is_variable_atom n) (outs-Var n) ∙ eq-eqb n n refl

-- polynomials that pass are the variables from that number on
pub variables-are : (n : ℕ) (ps : List Body) → are_variables n ps ≡ true → ps ≡
    variables_from n (length ps)
variables-are n [] h = refl
variables-are n (p ∷ ps) h =
    let both = and_parts (is_variable n p) (are_variables (n + 1) ps) h in
    let first = variable-is n p both.0 in
    let rest = variables-are (n + 1) ps both.1 in
    (λ i. first i ∷ rest i)

-- these pass
pub are-variables : (n k : ℕ) → are_variables n (variables_from n k) ≡ true
are-variables n zero = refl
are-variables n (suc k) =
    and_from (is_variable n (variable n)) (are_variables (n + 1) (variables_from (n + 1) k))
    (is-variable n) (are-variables (n + 1) k)

-- there are as many as were asked for
pub length-variables_from : (n k : ℕ) → length (variables_from n k) ≡ k
length-variables_from n zero = refl
length-variables_from n (suc k) = ap suc (length-variables_from (n + 1) k)
