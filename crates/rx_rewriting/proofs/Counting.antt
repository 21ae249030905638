-- Weights as multisets: counting a rank, taking one out, and weights that are alike.
use Rattle.std.proofs.Common.{◌≡◌, ◌+◌, ◌<◌, Bool, true, false, ◌&&◌, if◌then◌else◌, nat_eq, [], ◌∷◌, ◌++◌, refl, ap₂, sym, ◌∙◌, arith, eqb-true, true≢false}
use Rattle.rx_rewriting.specs.Ranks.{Rank, same_rank, Weight, times, IsPermutation}

-- a conjunction that is true has true parts
and-true : (a b : Bool) → (a && b) ≡ true → (a ≡ true) × (b ≡ true)
and-true true b e = (refl, e)
and-true false b e = absurd (true≢false (sym e))

-- a rank is the same as itself
pub same_rank-refl : (r : Rank) → same_rank r r ≡ true
same_rank-refl [] = refl
same_rank-refl (x ∷ xs) = grind (arith, same_rank-refl xs)

-- ranks that the test calls the same are equal
pub same_rank-true : (r s : Rank) → same_rank r s ≡ true → r ≡ s
same_rank-true [] [] e = refl
same_rank-true [] (y ∷ ys) e = absurd (true≢false (sym e))
same_rank-true (x ∷ xs) [] e = absurd (true≢false (sym e))
same_rank-true (x ∷ xs) (y ∷ ys) e =
    let parts = and-true (nat_eq x y) (same_rank xs ys) e in
    ap₂ (λ a as'. a ∷ as') (eqb-true x y parts.0) (same_rank-true xs ys parts.1)

-- the counts of two weights joined add up
pub times-append : (r : Rank) (v w : Weight) → times r (v ++ w) ≡ times r v + times r w
times-append r [] w = omega arith
times-append r (x ∷ v) w = omega (arith, times-append r v w)

-- a rank that comes first is there
pub times-first : (r : Rank) (w : Weight) → 0 < times r (r ∷ w)
times-first r w = rw (same_rank-refl r) (omega arith)

-- the weight with one such rank taken out
abbrev pub without : Rank → Weight → Weight
without r [] = []
without r (x ∷ w) = if same_rank r x then w else x ∷ without r w

-- a rank that is there can be moved to the front
pub IsPermutation-without : (a : Rank) (w : Weight) → 0 < times a w →
    IsPermutation w (a ∷ without a w)
IsPermutation-without a [] there = λ r. omega arith
IsPermutation-without a (x ∷ w) there = go (same_rank a x) refl (IsPermutation-without a w)
  where
    go : (b : Bool) → same_rank a x ≡ b → (0 < times a w → IsPermutation w (a ∷ without a w))
        → IsPermutation (x ∷ w) (a ∷ without a (x ∷ w))
    go true e further = rw (e, same_rank-true a x e) (λ r. refl)
    go false e further =
        let later : 0 < times a w = omega (arith, rw e at there) in
        rw e (λ r. omega (arith, further later r))

-- being one multiset is symmetric
pub IsPermutation-sym : (v w : Weight) → IsPermutation v w → IsPermutation w v
IsPermutation-sym v w same = λ r. sym (same r)

-- being one multiset is transitive
pub IsPermutation-trans : (u v w : Weight) → IsPermutation u v → IsPermutation v w →
    IsPermutation u w
IsPermutation-trans u v w one other = λ r. one r ∙ other r

-- no weight with a rank in it is empty
pub not_Alike-nil : (a : Rank) (w : Weight) → IsPermutation [] (a ∷ w) → ⊥
not_Alike-nil a w same = omega (arith, same a, times-first a w)
