-- Polynomials in the place of others.
use Rattle.std.proofs.Common.{◌≡◌, ap, refl, arith, inl, inr, ℕ, zero, suc, ◌⊎◌, Option, Some, None, List, [], ◌∷◌, ◌++◌, length}
use Rattle.rx_poly.specs.declared.body.Body.{Body}
use Rattle.rx_anchors.specs.Values.{polynomial_of}
use Rattle.rx_find_ranks.specs.Columns.{laid_at, overlaid}

pub length-overlaid : (ps qs : List (Option Body)) → length (overlaid ps qs) ≡ length ps
length-overlaid [] qs = refl
length-overlaid (p ∷ ps) [] = refl
length-overlaid (p ∷ ps) (None ∷ qs) = ap suc (length-overlaid ps qs)
length-overlaid (p ∷ ps) (Some q ∷ qs) = ap suc (length-overlaid ps qs)

pub overlaid_none : (ps : List (Option Body)) → overlaid ps [] ≡ ps
overlaid_none [] = refl
overlaid_none (p ∷ ps) = refl

-- one more of the others is in its place
pub overlaid_more : (ps qs : List (Option Body)) (q : Option Body) → overlaid ps (qs ++ q ∷ []) ≡
    laid_at (overlaid ps qs) (length qs) q
overlaid_more [] [] None = refl
overlaid_more [] [] (Some x) = refl
overlaid_more [] (y ∷ qs) None = refl
overlaid_more [] (y ∷ qs) (Some x) = refl
overlaid_more (p ∷ ps) [] None = ap (λ rest. p ∷ rest) (overlaid_none ps)
overlaid_more (p ∷ ps) [] (Some x) = ap (λ rest. Some x ∷ rest) (overlaid_none ps)
overlaid_more (p ∷ ps) (None ∷ qs) None = ap (λ rest. p ∷ rest) (overlaid_more ps qs None)
overlaid_more (p ∷ ps) (None ∷ qs) (Some x) = ap (λ rest. p ∷ rest) (overlaid_more ps qs (Some x))
overlaid_more (p ∷ ps) (Some y ∷ qs) None = ap (λ rest. Some y ∷ rest) (overlaid_more ps qs None)
overlaid_more (p ∷ ps) (Some y ∷ qs) (Some x) =
    ap (λ rest. Some y ∷ rest) (overlaid_more ps qs (Some x))

-- those that are laid over are there
pub over_second : (ps qs : List (Option Body)) (f : ℕ) (q : Body) → length qs ≡ length ps →
    polynomial_of qs f ≡ Some q → polynomial_of (overlaid ps qs) f ≡ Some q
over_second [] [] f q count e = e
over_second [] (x ∷ qs) f q count e = absurd (omega (arith, count))
over_second (p ∷ ps) [] f q count e = absurd (omega (arith, count))
over_second (p ∷ ps) (None ∷ qs) zero q count e = cc
over_second (p ∷ ps) (Some x ∷ qs) zero q count e = e
over_second (p ∷ ps) (None ∷ qs) (suc f) q count e = over_second ps qs f q (omega (arith, count)) e
over_second (p ∷ ps) (Some x ∷ qs) (suc f) q count e =
    over_second ps qs f q (omega (arith, count)) e

-- the others show where there is none
pub over_first : (ps qs : List (Option Body)) (f : ℕ) → polynomial_of qs f ≡ None →
    polynomial_of (overlaid ps qs) f ≡ polynomial_of ps f
over_first [] qs f e = refl
over_first (p ∷ ps) [] f e = refl
over_first (p ∷ ps) (None ∷ qs) zero e = refl
over_first (p ∷ ps) (Some x ∷ qs) zero e = cc
over_first (p ∷ ps) (None ∷ qs) (suc f) e = over_first ps qs f e
over_first (p ∷ ps) (Some x ∷ qs) (suc f) e = over_first ps qs f e

pub over_either : (ps qs : List (Option Body)) (f : ℕ) (r : Body) → polynomial_of (overlaid ps qs) f
    ≡
    Some r → (polynomial_of ps f ≡ Some r) ⊎ (polynomial_of qs f ≡ Some r)
over_either [] qs f r e = inl e
over_either (p ∷ ps) [] f r e = inl e
over_either (p ∷ ps) (None ∷ qs) zero r e = inl e
over_either (p ∷ ps) (Some x ∷ qs) zero r e = inr e
over_either (p ∷ ps) (None ∷ qs) (suc f) r e = over_either ps qs f r e
over_either (p ∷ ps) (Some x ∷ qs) (suc f) r e = over_either ps qs f r e
