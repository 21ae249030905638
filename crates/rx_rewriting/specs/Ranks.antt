-- Ranks, weights, and the multiset order on weights (Dershowitz and Manna 1979).
use Rattle.std.specs.Prelude.{◌≡◌, ℕ, ◌+◌, ◌<◌, Bool, true, false, ◌&&◌, ◌⊎◌, if◌then◌else◌, nat_eq, List, [], ◌∷◌, ◌++◌, length, ℤ}
use Rattle.rx_rewriting.specs.Terms.{Ground, Return, Fail, Call, Frame, StackFrame}

-- a rank: the columns' values
abbrev pub Rank : Type 0
Rank = List ℕ

-- at the first column where they differ the left rank has the lesser value
abbrev pub FirstLess : Rank → Rank → Type 0
FirstLess [] ys = ⊥
FirstLess (x ∷ xs) [] = ⊥
FirstLess (x ∷ xs) (y ∷ ys) = (x < y) ⊎ ((x ≡ y) × FirstLess xs ys)

-- the left rank is below the right one; ranks of unequal length are never compared
abbrev pub RankLess : Rank → Rank → Type 0
RankLess xs ys = (length xs ≡ length ys) × FirstLess xs ys

-- whether two ranks are the same
abbrev pub same_rank : Rank → Rank → Bool
same_rank [] [] = true
same_rank [] (y ∷ ys) = false
same_rank (x ∷ xs) [] = false
same_rank (x ∷ xs) (y ∷ ys) = nat_eq x y && same_rank xs ys

-- a weight: a finite multiset of ranks, kept as a list in which only the counts matter
abbrev pub Weight : Type 0
Weight = List Rank

-- how many times a rank is in a weight
abbrev pub times : Rank → Weight → ℕ
times r [] = 0
times r (x ∷ w) = (if same_rank r x then 1 else 0) + times r w

-- the two lists are one multiset: they have each rank equally often
abbrev pub IsPermutation : Weight → Weight → Type 0
IsPermutation v w = (r : Rank) → times r v ≡ times r w

-- the rank is below one of these
abbrev pub IsBelowOne : Weight → Rank → Type 0
IsBelowOne [] r = ⊥
IsBelowOne (x ∷ xs) r = RankLess r x ⊎ IsBelowOne xs r

-- each rank inserted is below one that was taken out
abbrev pub AllBelow : Weight → Weight → Type 0
AllBelow taken [] = Unit {0}
AllBelow taken (r ∷ put) = IsBelowOne taken r × AllBelow taken put

-- v is smaller than w: at least one rank is taken out, and finitely many are inserted, each below
-- one taken out
pub record Smaller (v w : Weight) : Type 0 where
  pub first : Rank
  pub others : Weight
  pub kept : Weight
  pub put : Weight
  pub old : IsPermutation w ((first ∷ others) ++ kept)
  pub new : IsPermutation v (put ++ kept)
  pub below : AllBelow (first ∷ others) put

-- the weight of a ground term: the ranks of its frames and of its call, for a rank of each symbol
-- at its arguments
abbrev pub weight_of : (ℕ → List ℤ → Rank) → Ground → Weight
weight_of rank (Return k) = []
weight_of rank (Fail c) = []
weight_of rank (Call f xs) = rank f xs ∷ []
weight_of rank (Frame f xs s) = rank f xs ∷ weight_of rank s

-- the ranks of frames
abbrev pub ranks_of : (ℕ → List ℤ → Rank) → List StackFrame → Weight
ranks_of rank [] = []
ranks_of rank (f ∷ fs) = rank f.symbol f.arguments ∷ ranks_of rank fs
