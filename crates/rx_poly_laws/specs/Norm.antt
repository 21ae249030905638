-- Integer terms: the value of one, its normal form, and whether all that is formed on the way keeps
-- the limits.
use Rattle.std.specs.Prelude.{ℕ, Bool, ℤ, negsuc, ◌+ℤ◌, ◌*ℤ◌, neg_ℤ}
use Rattle.rx_plain.specs.Formed.{Formed, pure, kept, ◌>>=◌}
use Rattle.rx_poly.specs.Limits.{body_sum, scaled_by, is_within}
use Rattle.rx_poly.specs.Products.{product_formed}
use Rattle.rx_poly.specs.Constants.{number, variable}
use Rattle.rx_poly.specs.Division.{quotient_of, remainder_of}
use Rattle.rx_poly.specs.Value.{quotient, remainder}
use Rattle.rx_poly.specs.declared.body.Body.{Body}
use Rattle.rx_poly_laws.specs.declared.iterm.ITerm.{ITerm, ITerm-F, fold-ITerm}

-- the value of a term, by those of its parts
abbrev pub term_level : (ℕ → ℤ) → ITerm-F ℤ → ℤ
term_level a (ITerm-F.Var n) = a n
term_level a (ITerm-F.Lit k) = k
term_level a (ITerm-F.Add l r) = l +ℤ r
term_level a (ITerm-F.Mul l r) = l *ℤ r
term_level a (ITerm-F.Neg t) = neg_ℤ t
term_level a (ITerm-F.Div l r) = quotient l r
term_level a (ITerm-F.Mod l r) = remainder l r

-- the value of a term, where `a` gives each variable an integer
abbrev pub term_value : (ℕ → ℤ) → ITerm → ℤ
term_value a = fold-ITerm ℤ (term_level a)

-- the left part, the right part, then the two joined; a reversed sign is a multiple by -1
abbrev pub norm_level : ITerm-F (Formed Body) → Formed Body
norm_level (ITerm-F.Var n) = pure (variable n)
norm_level (ITerm-F.Lit k) = pure (number k)
norm_level (ITerm-F.Add l r) = do
  p ← l
  q ← r
  kept is_within (body_sum p q)
norm_level (ITerm-F.Mul l r) = do
  p ← l
  q ← r
  product_formed p q
norm_level (ITerm-F.Neg t) = do
  p ← t
  kept is_within (scaled_by (negsuc 0) p)
norm_level (ITerm-F.Div l r) = do
  p ← l
  q ← r
  kept is_within (quotient_of p q)
norm_level (ITerm-F.Mod l r) = do
  p ← l
  q ← r
  kept is_within (remainder_of p q)

-- the normal form of a term, and whether it was formed within the limits
abbrev pub formed : ITerm → Formed Body
formed = fold-ITerm (Formed Body) norm_level

-- the normal form of a term
abbrev pub norm_of : ITerm → Body
norm_of t = (formed t).form

-- whether every polynomial that is formed on the way to it keeps the limits
abbrev pub norm_within : ITerm → Bool
norm_within t = (formed t).within
