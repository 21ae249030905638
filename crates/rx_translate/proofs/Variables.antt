-- One variable more.
use Rattle.std.proofs.Common.{◌≡◌, ◌∙◌, ap, ℕ, zero, suc, ◌+◌, [], ◌∷◌, ◌++◌, arith}
use Rattle.rx_plain.proofs.Naturals.{one_moved}
use Rattle.rx_poly.specs.Constants.{variable}
use Rattle.rx_term.specs.WellMade.{variables_from}

pub variables-more : (from n : ℕ) → variables_from from (suc n) ≡ variables_from from n ++
    variable (from + n) ∷ []
variables-more from zero = ap (λ k. variable k ∷ []) (add_none from)
  where
    add_none : (k : ℕ) → k ≡ k + 0
    add_none k = omega arith
variables-more from (suc n) =
    ap (λ vs. variable from ∷ vs) (variables-more (from + 1) n ∙
    ap (λ k. variables_from (from + 1) n ++ variable k ∷ []) (one_moved from n))

-- in a loop that has met n of them
pub one_more : (n : ℕ) → variables_from 0 (n + 1) ≡ variables_from 0 n ++ variable n ∷ []
one_more n =
    ap (variables_from 0) (is n) ∙ variables-more 0 n ∙
    ap (λ k. variables_from 0 n ++ variable k ∷ []) (none n)
  where
    is : (k : ℕ) → k + 1 ≡ suc k
    is k = omega arith

    none : (k : ℕ) → 0 + k ≡ k
    none k = omega arith
