-- Polynomials in place of variables, with one more.
use Rattle.std.proofs.Common.{◌≡◌, ◌∙◌, ap, sym, ℕ, ◌+◌, List, [], ◌∷◌, ◌++◌, length, arith, length-append}
use Rattle.rx_poly.specs.Substitution.{numbered, numbered_from}
use Rattle.rx_poly.specs.declared.body.Body.{Body}

more_from : (n : ℕ) (ps : List Body) (p : Body) (k : ℕ) → k ≡ n + length ps →
    numbered_from n (ps ++ p ∷ []) ≡ numbered_from n ps ++ (k, p) ∷ []
more_from n [] p k is =
    let same : n ≡ k = omega (arith, is) in ap (λ (i : ℕ). (i, p) ∷ []) same
more_from n (q ∷ ps) p k is =
    let later : k ≡ (n + 1) + length ps = omega (arith, is) in
    ap (λ ws. (n, q) ∷ ws) (more_from (n + 1) ps p k later)

pub numbered_more : (ps : List Body) (p : Body) (k : ℕ) → k ≡ length ps →
    numbered (ps ++ p ∷ []) ≡ numbered ps ++ (k, p) ∷ []
numbered_more ps p k is =
    let from : k ≡ 0 + length ps = omega (arith, is) in more_from 0 ps p k from

-- and so many they are then
pub count_more : {A : Type 0} (xs : List A) (x : A) (k : ℕ) → k ≡ length xs →
    k + 1 ≡ length (xs ++ x ∷ [])
count_more xs x k is = ap (λ n. n + 1) is ∙ sym (length-append xs (x ∷ []))
