-- The order of ranks is well-founded and transitive.
use Rattle.std.proofs.Common.{◌≡◌, ℕ, zero, suc, ◌<◌, inl, inr, [], ◌∷◌, length, refl, ◌∙◌, arith}
use mathlib.Core.WellFounded.{Acc}
use Rattle.rx_rewriting.specs.Ranks.{Rank, FirstLess, RankLess}

-- each number is accessible from a bound above it
below_bound : (n m : ℕ) → m < n → Acc ◌<◌ m
below_bound zero m less = absurd (omega arith)
below_bound (suc n) m less = Acc.intro m (λ k smaller. below_bound n k (omega arith))

-- the order of the naturals is well-founded
pub number_accessible : (m : ℕ) → Acc ◌<◌ m
number_accessible m = below_bound (suc m) m (omega arith)

-- where all ranks with a lesser first column are accessible, so is a rank, by what follows its
-- first column
by_tails : (n x : ℕ) → ((y : ℕ) → y < x → (ys : Rank) → length ys ≡ n → Acc RankLess (y ∷ ys))
    → (xs : Rank) → Acc RankLess xs → length xs ≡ n → Acc RankLess (x ∷ xs)
by_tails n x lesser xs (Acc.intro tail smaller) columns =
    Acc.intro (x ∷ tail) (λ r less. go r less (λ ys l e. by_tails n x lesser ys (smaller ys l) e))
  where
    go : (r : Rank) → RankLess r (x ∷ tail)
        → ((ys : Rank) → RankLess ys tail → length ys ≡ n → Acc RankLess (x ∷ ys)) → Acc RankLess r
    go [] less again = absurd less.1
    go (y ∷ ys) (same, inl first) again = lesser y first ys (omega arith)
    go (y ∷ ys) (same, inr (equal, later)) again =
        rw equal (again ys (omega arith, later) (omega arith))

-- where all ranks of n columns are accessible, those of one column more are, by the first column
by_heads : (n : ℕ) → ((xs : Rank) → length xs ≡ n → Acc RankLess xs)
    → (x : ℕ) → Acc ◌<◌ x → (xs : Rank) → length xs ≡ n → Acc RankLess (x ∷ xs)
by_heads n tails x (Acc.intro head smaller) xs columns =
    by_tails n head (λ y less ys e. by_heads n tails y (smaller y less) ys e) xs (tails xs columns)
    columns

-- all ranks of n columns are accessible
accessible_of_length : (n : ℕ) (r : Rank) → length r ≡ n → Acc RankLess r
accessible_of_length n [] columns = Acc.intro [] (λ r less. none r less)
  where
    none : (r : Rank) → RankLess r [] → Acc RankLess r
    none [] less = absurd less.1
    none (y ∷ ys) less = absurd less.1
accessible_of_length zero (x ∷ xs) columns = absurd (omega arith)
accessible_of_length (suc n) (x ∷ xs) columns =
    by_heads n (accessible_of_length n) x (number_accessible x) xs (omega arith)

-- the order of ranks is well-founded
pub rank_accessible : (r : Rank) → Acc RankLess r
rank_accessible r = accessible_of_length (length r) r refl

-- the first difference of two differences in a row decides
FirstLess-trans : (r s t : Rank) → FirstLess r s → FirstLess s t → FirstLess r t
FirstLess-trans [] s t one other = one
FirstLess-trans (x ∷ r) [] t one other = absurd one
FirstLess-trans (x ∷ r) (y ∷ s) [] one other = absurd other
FirstLess-trans (x ∷ r) (y ∷ s) (z ∷ t) (inl one) (inl other) = inl (omega arith)
FirstLess-trans (x ∷ r) (y ∷ s) (z ∷ t) (inl one) (inr other) = inl (omega (arith, other.0))
FirstLess-trans (x ∷ r) (y ∷ s) (z ∷ t) (inr one) (inl other) = inl (omega (arith, one.0))
FirstLess-trans (x ∷ r) (y ∷ s) (z ∷ t) (inr one) (inr other) =
    inr (one.0 ∙ other.0, FirstLess-trans r s t one.1 other.1)

-- the order of ranks is transitive
pub RankLess-trans : (r s t : Rank) → RankLess r s → RankLess s t → RankLess r t
RankLess-trans r s t one other = (one.0 ∙ other.0, FirstLess-trans r s t one.1 other.1)
