-- Elements of lists.
use Rattle.std.proofs.Common.{◌≡◌, ◌∙◌, ap, sym, subst, refl, arith, ℕ, zero, suc, ◌<◌, List, [], ◌∷◌, ◌++◌, Contains, drop, get_or, length, take}
use Rattle.std.proofs.Math.ListN.{drop_of_length-le}
use Rattle.std.proofs.lemmas.List.{append-nil, take_all}
use Rattle.std.proofs.lemmas.List.Elements.{Contains-append_left, Contains-append_right, Contains-get_or, Contains-push}

pub none_in_empty : {X : Type 0} (x : X) → Contains [] x → ⊥
none_in_empty x (k, there, is) = omega (arith, there)

pub none_in : (xs : List ℕ) → xs ≡ [] → (b : ℕ) → Contains xs b → ⊥
none_in xs none b among = none_in_empty b (subst (λ ys. Contains ys b) none among)

-- the first is one
pub first_one : {X : Type 0} (y : X) (ys : List X) → Contains (y ∷ ys) y
first_one y ys = Contains-append_left (y ∷ []) ys y (Contains-push [] y)

-- and so are the others
pub other_one : {X : Type 0} (y : X) (ys : List X) (x : X) → Contains ys x → Contains (y ∷ ys) x
other_one y ys x h = Contains-append_right (y ∷ []) ys x h

-- what is read at a place doesn't depend on what is read past the end
pub same_at : {A : Type 0} (xs : List A) (i : ℕ) (d e : A) → i < length xs → get_or xs i d ≡
    get_or xs i e
same_at [] i d e there = absurd (omega (arith, there))
same_at (x ∷ xs) zero d e there = refl
same_at (x ∷ xs) (suc i) d e there = same_at xs i d e (omega (arith, there))

pub target_is : (xs : List ℕ) (i : ℕ) → i < length xs → get_or xs i 0 ≡ get_or xs i (get_or xs i 0)
target_is xs i there = same_at xs i 0 (get_or xs i 0) there

pub target_among : (xs : List ℕ) (i : ℕ) → i < length xs → Contains xs (get_or xs i 0)
target_among xs i there = Contains-get_or xs i 0 there

pub number_there : (xs : List ℕ) (i v : ℕ) → i < length xs → v ≡ get_or xs i v → Contains xs v
number_there xs i v there is =
    subst (Contains xs) (same_at xs i 0 v there ∙ sym is) (target_among xs i there)

-- a slice of all of a list that is written back is all of the list
pub written_back : (items new : List ℕ) (n : ℕ) → length items ≡ n → length new ≡ length items →
    take n (new ++ drop (length new) items) ≡ new
written_back items new n count same =
    ap (λ (rest : List ℕ). take n (new ++ rest)) (drop_of_length-le items (omega (arith, same))) ∙
    ap (take n) (append-nil new) ∙ take_all n new (omega (arith, count, same))
