-- A list that is copied element by element, from the front.
use Rattle.std.proofs.Common.{◌≡◌, ◌∙◌, sym, ℕ, ◌+◌, ◌<◌, ◌≤◌, List, [], ◌∷◌, ◌++◌, length, take, take_all, get_or}
use Rattle.std.proofs.lemmas.List.{take_more}

-- one more is copied
pub one_copied : {X : Type 0} (xs : List X) (i : ℕ) (x : X) → i < length xs → x ≡
    get_or xs i x → (copies next : List X) (copy : X) → copies ≡ take i xs → copy ≡ x → next ≡
    copies ++ copy ∷ [] → next ≡ take (i + 1) xs
one_copied xs i x h is copies next copy e same n =
    n ∙ (λ j. e j ++ (same ∙ is) j ∷ []) ∙ sym (take_more xs i x h)

-- nothing is left, so all are copied
pub all_copied : {X : Type 0} (xs : List X) (i : ℕ) → length xs ≤ i → (copies : List X) → copies ≡
    take i xs → copies ≡ xs
all_copied xs i h copies e = e ∙ take_all i xs h
