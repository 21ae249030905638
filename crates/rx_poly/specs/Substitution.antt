-- Polynomials substituted for variables: the result, and whether all that is formed on the way
-- keeps the limits.
use Rattle.std.specs.Prelude.{ℕ, ◌+◌, ◌==◌, if◌then◌else◌, List, [], ◌∷◌, ℤ}
use Rattle.rx_poly.specs.Constants.{number, variable}
use Rattle.rx_poly.specs.Division.{divided, quotient_of, remainder_of}
use Rattle.rx_poly.specs.Limits.{of_terms, body_sum, is_within}
use Rattle.rx_plain.specs.Formed.{Formed, pure, kept, ◌>>=◌}
use Rattle.rx_poly.specs.Products.{product_formed}
use Rattle.rx_poly.specs.Value.{value}
use Rattle.rx_poly.specs.declared.body.Atom.{Atom, Atom-F, fold-Atom}
use Rattle.rx_poly.specs.declared.body.Mono.{Mono, Mono-F, fold-Mono}
use Rattle.rx_poly.specs.declared.body.Body.{Body, Body-F, fold-Body}
use Rattle.rx_poly.specs.declared.division.Operator.{Operator}

-- what is in place of a variable: the polynomial that is listed for it, else the variable
abbrev pub replaced : List (ℕ × Body) → ℕ → Body
replaced [] n = variable n
replaced (w ∷ ws) n = if w.0 == n then w.1 else replaced ws n

-- the polynomials in order, in place of the variables from that number on
abbrev pub numbered_from : ℕ → List Body → List (ℕ × Body)
numbered_from n [] = []
numbered_from n (p ∷ ps) = (n, p) ∷ numbered_from (n + 1) ps

-- the first in place of v0, the second in place of v1, and so on
abbrev pub numbered : List Body → List (ℕ × Body)
numbered ps = numbered_from 0 ps

-- the values of the variables then
abbrev pub updated_assignment : (ℕ → ℤ) → List (ℕ × Body) → ℕ → ℤ
updated_assignment a ws n = value a (replaced ws n)

-- a product, times a factor that is formed
abbrev pub times_formed : Body → Formed Body → Formed Body
times_formed p x = do
  q ← x
  product_formed p q

-- a sum, plus a term that is formed
abbrev pub plus_formed : Body → Formed Body → Formed Body
plus_formed p t = do
  q ← t
  kept is_within (body_sum p q)

-- a dividend, by a divisor that is formed
abbrev pub divided_formed : Operator → Body → Formed Body → Formed Body
divided_formed o p d = do
  q ← d
  kept is_within (divided o p q)

-- a product, times each of the factors in order
abbrev pub times_all : Formed Body → List (Formed Body) → Formed Body
times_all done [] = done
times_all done (x ∷ xs) = times_all (do
  p ← done
  q ← x
  product_formed p q) xs

-- a sum, plus each of the terms in order, where a term is made of its coefficient
abbrev pub plus_all : Formed Body → List ((ℤ → Formed Body) × ℤ) → Formed Body
plus_all done [] = done
plus_all done (t ∷ ts) = plus_all (do
  p ← done
  q ← t.0 t.1
  kept is_within (body_sum p q)) ts

module _ (ws : List (ℕ × Body)) where
  -- a variable is replaced, a quotient or remainder formed anew of its replaced parts
  abbrev pub atom_substituted : Atom-F (Formed Body) (Formed Body) (ℤ → Formed Body) → Formed Body
  atom_substituted (Atom-F.Var n) = pure (replaced ws n)
  atom_substituted (Atom-F.Div l r) = do
    p ← l
    q ← r
    kept is_within (quotient_of p q)
  atom_substituted (Atom-F.Mod l r) = do
    p ← l
    q ← r
    kept is_within (remainder_of p q)

  -- the coefficient, times the replaced atoms from left to right
  abbrev pub mono_substituted : Mono-F (Formed Body) (Formed Body) (ℤ → Formed Body) → ℤ →
      Formed Body
  mono_substituted m k = times_all (pure (number k)) m.atoms

  -- the monomials in order, each added to a running sum
  abbrev pub body_substituted : Body-F (Formed Body) (Formed Body) (ℤ → Formed Body) → Formed Body
  body_substituted b = plus_all (pure (of_terms [])) b.terms

  -- an atom with its variables replaced
  abbrev pub subst_atom : Atom → Formed Body
  subst_atom =
      fold-Atom (Formed Body) (Formed Body) (ℤ → Formed Body) atom_substituted body_substituted
      mono_substituted

  -- a number times a monomial with its variables replaced
  abbrev pub subst_mono : Mono → ℤ → Formed Body
  subst_mono =
      fold-Mono (Formed Body) (Formed Body) (ℤ → Formed Body) atom_substituted body_substituted
      mono_substituted

  -- a sum with its variables replaced
  abbrev pub subst_body : Body → Formed Body
  subst_body =
      fold-Body (Formed Body) (Formed Body) (ℤ → Formed Body) atom_substituted body_substituted
      mono_substituted
