-- A row by its number, group by group.
use Rattle.std.proofs.Common.{◌≡◌, ap, refl, ℕ, zero, suc, ◌<◌, ◌≤◌, ◌+◌, ◌-◌, List, [], ◌∷◌, ◌++◌, length, slice_get, arith}
use Rattle.std.specs.List.{flat_map}
use Rattle.rx_row.specs.declared.row.Row.{Row}
use Rattle.rx_inference.specs.declared.formed_step.Group.{Group}
use Rattle.rx_goal_words.specs.ConditionTexts.{row_in}

before_end : {A : Type 0} (xs ys : List A) (k : ℕ) → k < length xs →
    slice_get (xs ++ ys) k ≡ slice_get xs k
before_end [] ys k h = absurd (omega arith)
before_end (x ∷ xs) ys zero h = refl
before_end (x ∷ xs) ys (suc k) h = before_end xs ys k (omega arith)

past_end : {A : Type 0} (xs ys : List A) (k m : ℕ) → k ≡ length xs + m →
    slice_get (xs ++ ys) k ≡ slice_get ys m
past_end [] ys k m e = let same : k ≡ m = omega arith in ap (slice_get ys) same
past_end (x ∷ xs) ys zero m e = absurd (omega arith)
past_end (x ∷ xs) ys (suc k) m e = past_end xs ys k m (omega arith)

abbrev all_rows : List Group → List Row
all_rows groups = flat_map (λ (group : Group). group.rows) groups

-- one of the first group
pub in_first : (g : Group) (gs : List Group) (k : ℕ) → k < length g.rows →
    row_in (g ∷ gs) k ≡ slice_get g.rows k
in_first g gs k h = before_end g.rows (all_rows gs) k h

-- one of the others
pub in_others : (g : Group) (gs : List Group) (k : ℕ) → length g.rows ≤ k →
    row_in (g ∷ gs) k ≡ row_in gs (k - length g.rows)
in_others g gs k h = past_end g.rows (all_rows gs) k (k - length g.rows) (omega arith)
