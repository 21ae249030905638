-- Polynomials by symbol: none, and those of a choice.
use Rattle.std.proofs.Common.{◌≡◌, ◌∙◌, ap, refl, arith, ℕ, zero, suc, ◌+◌, ◌≤◌, Option, None, List, [], ◌∷◌, ◌++◌, length, drop, drop_of_length-le, map}
use denote.Ref.{Bor}
use Rattle.rx_poly.specs.declared.body.Body.{Body}
use Rattle.rx_anchors.specs.Values.{with_choice, without_polynomials}

-- where no candidate is left, nothing is given
pub no_more_choice : (values : List (Option Body)) (fs : List ℕ) (refs : List (Bor Body)) (i : ℕ) →
    length refs ≤ i
    → with_choice values fs (map (λ (s : Bor Body). s.now) (drop i refs)) ≡ values
no_more_choice values fs refs i h =
    ap (λ rs. with_choice values fs (map (λ (s : Bor Body). s.now) rs)) (drop_of_length-le refs h) ∙
    by fs where
      by : (gs : List ℕ) → with_choice values gs [] ≡ values
      by [] = refl
      by (g ∷ gs) = refl

-- none for one symbol more
pub without_more : (n : ℕ) → without_polynomials (n + 1) ≡ without_polynomials n ++ None ∷ []
without_more n =
    let one_more : n + 1 ≡ suc n = omega arith in ap without_polynomials one_more ∙ by n where
      by : (k : ℕ) → without_polynomials (suc k) ≡ without_polynomials k ++ None ∷ []
      by zero = refl
      by (suc k) = ap (λ vs. None ∷ vs) (by k)
