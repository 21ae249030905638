-- Numbers that follow one another, one after the other.
use Rattle.std.proofs.Common.{◌≡◌, ◌∙◌, ap, sym, refl, ℕ, suc, ◌+◌, ◌-◌, ◌<◌, Bool, true, false, cond, List, [], ◌∷◌, ◌++◌, map, append_assoc, arith}
use Rattle.std.specs.Prelude.{filter}
use Rattle.std.specs.List.{range_with_len}

-- the first, and those after it
range_step : (i n : ℕ) → i < n → range_with_len i (n - i) ≡ i ∷ range_with_len (i + 1) (n - (i + 1))
range_step i n h =
    let one : n - i ≡ suc (n - (i + 1)) = omega arith in ap (range_with_len i) one

-- one more is mapped
pub next_mapped : {A : Type 0} (f : ℕ → A) (made new whole : List A) (i n : ℕ) → i < n →
    made ++ map f (range_with_len i (n - i)) ≡ whole → new ≡ made ++ f i ∷ [] →
    new ++ map f (range_with_len (i + 1) (n - (i + 1))) ≡ whole
next_mapped f made new whole i n h m e =
    let rest = map f (range_with_len (i + 1) (n - (i + 1))) in
    ap (λ ys. ys ++ rest) e ∙ append_assoc made (f i ∷ []) rest ∙
    ap (λ xs. made ++ map f xs) (sym (range_step i n h)) ∙ m

filter_first : (test : ℕ → Bool) (i : ℕ) (xs : List ℕ) →
    filter test (i ∷ []) ++ filter test xs ≡ filter test (i ∷ xs)
filter_first test i xs = by (test i)
  where
    by : (b : Bool) → cond b (i ∷ []) [] ++ filter test xs ≡
        cond b (i ∷ filter test xs) (filter test xs)
    by true = refl
    by false = refl

-- one more is seen
pub next_filtered : (test : ℕ → Bool) (made new whole : List ℕ) (i n : ℕ) → i < n →
    made ++ filter test (range_with_len i (n - i)) ≡ whole → new ≡ made ++ filter test (i ∷ []) →
    new ++ filter test (range_with_len (i + 1) (n - (i + 1))) ≡ whole
next_filtered test made new whole i n h m e =
    let rest = range_with_len (i + 1) (n - (i + 1)) in
    ap (λ ys. ys ++ filter test rest) e ∙ append_assoc made (filter test (i ∷ [])) (filter test rest)
    ∙ ap (λ ys. made ++ ys) (filter_first test i rest) ∙
    ap (λ xs. made ++ filter test xs) (sym (range_step i n h)) ∙ m
