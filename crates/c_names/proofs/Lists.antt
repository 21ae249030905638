-- A list of steps, of which some are done.
use Rattle.std.proofs.Common.{◌≡◌, ◌∙◌, ap, sym, refl, ℕ, suc, ◌+◌, ◌<◌, List, [], ◌∷◌, ◌++◌, map, drop, length, get_or, Ok, Err, append_assoc, add-one, drop-cons, subst, below_more}
use Rattle.std.proofs.lemmas.List.{get_or_default}
use Rattle.c_names.specs.Steps.{Checked, and_then, sequence}
use Rattle.c_names.specs.declared.error.ScopeEnd.{ScopeEnd}

-- what was found, and what the rest gives
abbrev pub onto : {A : Type 0} → List A → Checked (List A) → Checked (List A)
onto done rest = and_then rest (λ xs. Ok (done ++ xs))

-- one more is found
pub onto-more : {A : Type 0} (done : List A) (x : A) (rest : Checked (List A)) →
    onto done (and_then rest (λ xs. Ok (x ∷ xs))) ≡ onto (done ++ x ∷ []) rest
onto-more done x (Ok xs) = ap Ok (sym (append_assoc done (x ∷ []) xs))
onto-more done x (Err fault) = refl

module _ {A B : Type 0} (step : A → Checked B) (xs : List A) (i : ℕ) (h : i < length xs) (x : A)
    (is : x ≡ get_or xs i x) where
  -- the steps that are left begin with this one
  begun : sequence (map step (drop i xs)) ≡ and_then (step x)
      (λ y. and_then (sequence (map step (drop (i + 1) xs))) (λ ys. Ok (y ∷ ys)))
  begun =
      ap (λ rest. sequence (map step rest)) (drop-cons xs i x h)
      ∙ ap (λ y. and_then (step y) (λ z. and_then (sequence (map step (drop (suc i) xs)))
      (λ ys. Ok (z ∷ ys)))) (sym is)
      ∙ ap (λ k. and_then (step x) (λ y. and_then (sequence (map step (drop k xs)))
      (λ ys. Ok (y ∷ ys)))) (sym (add-one i))

  -- a step that finds something
  pub found-turn : (done : List B) (y : B) (all : Checked (List B)) →
      onto done (sequence (map step (drop i xs))) ≡ all → step x ≡ Ok y →
      onto (done ++ y ∷ []) (sequence (map step (drop (i + 1) xs))) ≡ all
  found-turn done y all whole e =
      sym (onto-more done y (sequence (map step (drop (i + 1) xs))))
      ∙ ap (λ r. onto done (and_then r (λ z. and_then (sequence (map step (drop (i + 1) xs)))
      (λ ys. Ok (z ∷ ys))))) (sym e)
      ∙ ap (onto done) (sym begun) ∙ whole

  -- a step that finds a fault
  pub found-fault : (done : List B) (fault : ScopeEnd) (all : Checked (List B)) →
      onto done (sequence (map step (drop i xs))) ≡ all → step x ≡ Err fault → all ≡ Err fault
  found-fault done fault all whole e =
      sym whole ∙ ap (onto done) begun
      ∙ ap (λ r. onto done (and_then r (λ z. and_then (sequence (map step (drop (i + 1) xs)))
      (λ ys. Ok (z ∷ ys))))) e

-- what holds of all items in front of a place, and of the one there, holds of one item more
pub hold-more : {A : Type 0} (P : A → Type 0) (xs : List A) (i : ℕ) (x : A) → i < length xs → x ≡
    get_or xs i x → P x → ((k : ℕ) (d : A) → k < i → P (get_or xs k d)) → (k : ℕ) (d : A) → k < i +
    1 → P (get_or xs k d)
hold-more P xs i x h is here before k d =
    below_more (λ j. P (get_or xs j d)) i (λ j g. before j d g)
    (subst P (is ∙ get_or_default xs i x d h) here) k
