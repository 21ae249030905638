-- Goals that are kept with the first at the end.
use Rattle.std.proofs.Common.{◌≡◌, ◌≤◌, ◌<◌, ◌+◌, ◌∙◌, ap, sym, refl, ℕ, ◌-◌, Option, Some, None, List, [], ◌∷◌, ◌++◌, length, drop, reverse, arith}
use Rattle.std.specs.Prelude.{MatchOption, slice_get}
use Rattle.std.proofs.lemmas.List.{get_or-reverse, length-append, length-reverse, reverse-append, reverse-reverse}
use Rattle.std.proofs.lemmas.Option.{slice_get-get_or, slice_get_past}

-- without the last, the rest of what is read from the end
pub popped : {A : Type 0} (r : Option A) (old new : List A) →
    MatchOption r ((old ≡ []) × (new ≡ [])) (λ last. old ≡ new ++ last ∷ []) → reverse new ≡
    drop 1 (reverse old)
popped None old new h = ap reverse h.1 ∙ sym (ap (λ xs. drop 1 (reverse xs)) h.0)
popped (Some last) old new h =
    sym (ap (λ xs. drop 1 (reverse xs)) h ∙ ap (drop 1) (reverse-append new (last ∷ [])))

-- where others replace the last item, the list read from its end begins with these
pub popped_for : {A : Type 0} (r : Option A) (old mid more new : List A) →
    MatchOption r ((old ≡ []) × (mid ≡ [])) (λ last. old ≡ mid ++ last ∷ []) → new ≡ mid ++ more →
    reverse new ≡ reverse more ++ drop 1 (reverse old)
popped_for r old mid more new h e =
    ap reverse e ∙ reverse-append mid more ∙ ap (λ xs. reverse more ++ xs) (popped r old mid h)

-- and it has at most as many items as both lists together
pub popped_count : {A : Type 0} (r : Option A) (old mid more new : List A) →
    MatchOption r ((old ≡ []) × (mid ≡ [])) (λ last. old ≡ mid ++ last ∷ []) → new ≡ mid ++ more →
    length new ≤ length more + length old
popped_count None old mid more new h e =
    let none = ap length h.1 in
    let all = ap length e ∙ length-append mid more in
    omega arith
popped_count (Some last) old mid more new h e =
    let one = ap length h ∙ length-append mid (last ∷ []) in
    let all = ap length e ∙ length-append mid more in
    omega arith

-- and the last is the first of what was read from the end
pub popped_first : {A : Type 0} (r : Option A) (old new : List A) →
    MatchOption r ((old ≡ []) × (new ≡ [])) (λ last. old ≡ new ++ last ∷ []) → r ≡
    slice_get (reverse old) 0
popped_first None old new h = sym (ap (λ xs. slice_get (reverse xs) 0) h.0)
popped_first (Some last) old new h =
    sym (ap (λ xs. slice_get (reverse xs) 0) h ∙
    ap (λ xs. slice_get xs 0) (reverse-append new (last ∷ [])))

-- one that is added after the last comes first in what is read from the end
pub pushed : {A : Type 0} (xs : List A) (y : A) → reverse (xs ++ y ∷ []) ≡ y ∷ reverse xs
pushed xs y = reverse-append xs (y ∷ [])

-- as many as were put before the others, and those
pub count : {A : Type 0} (old more new : List A) → reverse new ≡ more ++ reverse old →
    length new ≡ length more + length old
count old more new h =
    sym (length-reverse new) ∙ ap length h ∙ length-append more (reverse old) ∙
    ap (λ k. length more + k) (length-reverse old)

at_end : {A : Type 0} (xs : List A) (y : A) → slice_get (xs ++ y ∷ []) (length xs) ≡ Some y
at_end [] y = refl
at_end (x ∷ xs) y = at_end xs y

first_at_end : {A : Type 0} (ys : List A) → slice_get (reverse ys) (length (reverse ys) - 1) ≡
    slice_get ys 0
first_at_end [] = refl
first_at_end (y ∷ ys) =
    let whole = length-reverse (y ∷ ys) in
    let inner = length-reverse ys in
    let place : length (reverse (y ∷ ys)) - 1 ≡ length (reverse ys) = omega arith in
    ap (slice_get (reverse (y ∷ ys))) place ∙
    ap (λ zs. slice_get zs (length (reverse ys))) (reverse-append (y ∷ []) ys) ∙
    at_end (reverse ys) y

-- the last is the first of what is read from the end
pub last_is_first : {A : Type 0} (xs : List A) → slice_get xs (length xs - 1) ≡
    slice_get (reverse xs) 0
last_is_first xs =
    sym (ap (λ zs. slice_get zs (length zs - 1)) (reverse-reverse xs)) ∙ first_at_end (reverse xs)

-- an element from the end is one of what is read from the end
pub from_the_end : {A : Type 0} (xs : List A) (k : ℕ) → k < length xs →
    slice_get xs (length xs - 1 - k) ≡ slice_get (reverse xs) k
from_the_end [] k h = cc
from_the_end (x ∷ xs) k h =
    let count = length-reverse (x ∷ xs) in
    let there : length (x ∷ xs) - 1 - k < length (x ∷ xs) = omega arith in
    let here : k < length (reverse (x ∷ xs)) = omega arith in
    slice_get-get_or (x ∷ xs) (length (x ∷ xs) - 1 - k) x there
    ∙ ap Some (sym (get_or-reverse (x ∷ xs) k x h))
    ∙ sym (slice_get-get_or (reverse (x ∷ xs)) k x here)

-- and there are no more
pub past_the_end : {A : Type 0} (xs : List A) (k : ℕ) → length xs ≤ k → slice_get (reverse xs) k ≡
    None
past_the_end xs k h = let count = length-reverse xs in slice_get_past (reverse xs) k (omega arith)
