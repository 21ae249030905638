-- A value that the elements of a list take on one by one, as long as each applies: what it is so
-- far, and what the others still decide.
use Rattle.std.proofs.Common.{◌≡◌, ◌∙◌, ap, subst, refl, sym, ℕ, suc, ◌+◌, ◌-◌, ◌<◌, ◌≤◌, arith, Option, Some, None, List, ◌∷◌, length, drop, get_or, drop_of_length-le, add-one}
use Rattle.std.specs.List.{range_with_len}
use Rattle.std.proofs.Math.Seq.{drop-cons}
use Rattle.rx_shapes.specs.Options.{◌>>=◌, try_fold}

-- the value so far, taken on by the elements that are left, is the whole
pub record Trying {A B : Type 0} (step : B → A → Option B) (done : B) (rest : List A)
    (whole : Option B) : Type 0 where
  pub all : try_fold step done rest ≡ whole

-- nothing is taken yet
pub begin : {A B : Type 0} (step : B → A → Option B) (start : B) (xs : List A) →
    Trying step start (drop 0 xs) (try_fold step start xs)
begin step start xs = record { all = refl }

-- ---- elements in front

-- one that doesn't apply decides
pub none_first : {A B : Type 0} (step : B → A → Option B) (done : B) (x : A) (xs : List A)
    (whole : Option B) → Trying step done (x ∷ xs) whole → None ≡ step done x → None ≡ whole
none_first step done x xs whole m e =
    ap (λ o. o >>= λ next. try_fold step next xs) e ∙ m.all

-- one that does leaves it to the rest
pub some_first : {A B : Type 0} (step : B → A → Option B) (done : B) (x : A) (xs : List A)
    (whole : Option B) (next : B) → Trying step done (x ∷ xs) whole → Some next ≡ step done x →
    Trying step next xs whole
some_first step done x xs whole next m e = record {
  all = ap (λ o. o >>= λ after. try_fold step after xs) e ∙ m.all;
}

-- ---- along a list, by the number of those that are taken

module _ {A B : Type 0} (step : B → A → Option B) (done : B) (whole : Option B) (xs : List A)
    (i : ℕ) {x : A} (h : i < length xs) (is : x ≡ get_or xs i x)
    (m : Trying step done (drop i xs) whole) where
  opened : Trying step done (x ∷ drop (suc i) xs) whole
  opened =
      subst (λ rest. Trying step done rest whole)
      (drop-cons xs i x h ∙ ap (λ y. y ∷ drop (suc i) xs) (sym is)) m

  pub none_at : None ≡ step done x → None ≡ whole
  none_at e = none_first step done x (drop (suc i) xs) whole opened e

  pub some_at : {next : B} → Some next ≡ step done x → Trying step next (drop (i + 1) xs) whole
  some_at {next} e =
      subst (λ n. Trying step next (drop n xs) whole) (sym (add-one i))
      (some_first step done x (drop (suc i) xs) whole next opened e)

-- nothing is left
pub finished : {A B : Type 0} (step : B → A → Option B) (done : B) (whole : Option B) (xs : List A)
    (i : ℕ) → length xs ≤ i → Trying step done (drop i xs) whole → Some done ≡ whole
finished step done whole xs i h m =
    (subst (λ rest. Trying step done rest whole) (drop_of_length-le xs h) m).all

-- ---- along numbers

-- the first, and those after it
range_step : (i n : ℕ) → i < n → range_with_len i (n - i) ≡ i ∷ range_with_len (i + 1) (n - (i + 1))
range_step i n h =
    let one : n - i ≡ suc (n - (i + 1)) = omega arith in ap (range_with_len i) one

-- a number that applies leaves it to those after it
pub some_counted : {B : Type 0} (step : B → ℕ → Option B) (done next : B) (whole : Option B)
    (i n : ℕ) → i < n → Trying step done (range_with_len i (n - i)) whole → Some next ≡ step done i →
    Trying step next (range_with_len (i + 1) (n - (i + 1))) whole
some_counted step done next whole i n h m e =
    some_first step done i (range_with_len (i + 1) (n - (i + 1))) whole next
    (subst (λ rest. Trying step done rest whole) (range_step i n h) m) e
