-- Lists of integers, as the variables of points and as states.
use Rattle.std.proofs.Common.{◌≡◌, ℕ, zero, suc, ◌≤◌, ◌<◌, List, [], ◌∷◌, ◌++◌, length, take, drop, refl, ap, sym, ◌∙◌, ◌⊎◌, inl, inr, ℤ, arith}
use Rattle.std.specs.Prelude.{slice_set}
use Rattle.std.proofs.lemmas.List.{take-append-le}
use Rattle.rx_term.specs.Assigned.{assigned}
use Rattle.rx_code.specs.Points.{with_element}

-- a place keeps its integer where others come after it
pub assigned-append : (xs ys : List ℤ) (v : ℕ) → v < length xs → assigned (xs ++ ys) v ≡
    assigned xs v
assigned-append [] ys v h = absurd (omega arith)
assigned-append (x ∷ xs) ys zero h = refl
assigned-append (x ∷ xs) ys (suc v) h = assigned-append xs ys v (omega arith)

-- the next place
pub assigned-next : (xs : List ℤ) (x : ℤ) (zs : List ℤ) → assigned (xs ++ x ∷ zs) (length xs) ≡ x
assigned-next [] x zs = refl
assigned-next (y ∷ xs) x zs = assigned-next xs x zs

-- the first places of the first places
pub take-take : (m k : ℕ) (xs : List ℤ) → m ≤ k → take m (take k xs) ≡ take m xs
take-take zero k xs h = refl
take-take (suc m) zero xs h = absurd (omega arith)
take-take (suc m) (suc k) [] h = refl
take-take (suc m) (suc k) (x ∷ xs) h = ap (λ l. x ∷ l) (take-take m k xs (omega arith))

-- an integer in the next place, where others were from there on
pub with_element-end : (xs ys : List ℤ) (x : ℤ) →
    take (suc (length xs)) (with_element (length xs) x (xs ++ ys)) ≡ xs ++ x ∷ []
with_element-end [] ys x = refl
with_element-end (y ∷ xs) ys x = ap (λ l. y ∷ l) (with_element-end xs ys x)

pub assigned-take : (k : ℕ) (xs : List ℤ) (v : ℕ) → v < k → assigned (take k xs) v ≡ assigned xs v
assigned-take zero xs v h = absurd (omega arith)
assigned-take (suc k) [] v h = refl
assigned-take (suc k) (x ∷ xs) zero h = refl
assigned-take (suc k) (x ∷ xs) (suc v) h = assigned-take k xs v (omega arith)

-- the first places, where an integer comes into one of them or into the next
pub take-with_element : (m v : ℕ) (x : ℤ) (xs ys : List ℤ) → v ≤ length xs → m ≤ suc (length xs) →
    (m ≤ length xs) ⊎ (v ≡ length xs) → take m (with_element v x (xs ++ ys)) ≡
    take m (with_element v x xs)
take-with_element zero v x xs ys h g f = refl
take-with_element (suc m) zero x [] ys h g f =
    ap (λ l. x ∷ l) (let e : m ≡ 0 = omega arith in ap (λ k. take k (drop 1 ys)) e ∙
    sym (ap (λ k. take k (drop 1 [])) e))
take-with_element (suc m) zero x (y ∷ xs) ys h g f =
    ap (λ l. x ∷ l) (take-append-le m xs ys (elim f
    [ inl below ↦ omega (arith, below) | inr is ↦ absurd (omega (arith, is)) ]))
take-with_element (suc m) (suc v) x [] ys h g f = absurd (omega arith)
take-with_element (suc m) (suc v) x (y ∷ xs) ys h g f =
    ap (λ l. y ∷ l) (take-with_element m v x xs ys (omega arith) (omega arith)
    (elim f [ inl below ↦ inl (omega (arith, below)) | inr is ↦ inr (omega (arith, is)) ]))

-- an integer after the first places
pub with_element-end-is : (n : ℕ) (x : ℤ) (s : List ℤ) → n ≤ length s →
    with_element n x (take n s) ≡ take n s ++ x ∷ []
with_element-end-is zero x s h = refl
with_element-end-is (suc n) x [] h = absurd (omega arith)
with_element-end-is (suc n) x (y ∷ s) h = ap (λ l. y ∷ l) (with_element-end-is n x s (omega arith))

-- an integer in one of the first places
pub take-with_element-set : (m n v : ℕ) (x : ℤ) (s : List ℤ) → v < n → m ≤ n → n ≤ length s →
    take m (with_element v x (take n s)) ≡ take m (slice_set s v x)
take-with_element-set zero n v x s h g f = refl
take-with_element-set (suc m) zero v x s h g f = absurd (omega arith)
take-with_element-set (suc m) (suc n) v x [] h g f = absurd (omega arith)
take-with_element-set (suc m) (suc n) zero x (y ∷ s) h g f =
    ap (λ l. x ∷ l) (take-take m n s (omega arith))
take-with_element-set (suc m) (suc n) (suc v) x (y ∷ s) h g f =
    ap (λ l. y ∷ l) (take-with_element-set m n v x s (omega arith) (omega arith) (omega arith))
