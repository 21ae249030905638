-- Places of words in lists of words.
use Rattle.std.proofs.Common.{◌≡◌, ◌∙◌, ap, ℕ, suc, ◌+◌, ◌-◌, ◌<◌, ◌≤◌, Bool, true, false, refl, sym, List, [], ◌∷◌, ◌++◌, length, take, drop, get_or, Option, Some, None, cond, if◌then◌else◌, unwrap_or, arith}
use Rattle.std.specs.List.{position_from}
use Rattle.std.specs.Option.{option_or}
use Rattle.std.specs.Str.{bytes_eq}
use Rattle.std.proofs.lemmas.Slice.Eq.{bytes_eq-Decides}
use Rattle.std.proofs.lemmas.List.{take_more, take-append-drop, length-take}
use Rattle.std.proofs.Math.Seq.{drop-cons}
use Rattle.c_names.specs.Spellings.{place_of}

-- a word is itself
pub itself : (w : List ℕ) → bytes_eq w w ≡ true
itself w = (bytes_eq-Decides w w).1 refl

-- bytes are compared the same both ways
pub turned : (v w : List ℕ) → bytes_eq v w ≡ bytes_eq w v
turned v w = by (bytes_eq v w) (bytes_eq w v) refl refl
  where
    by : (a b : Bool) → bytes_eq v w ≡ a → bytes_eq w v ≡ b → bytes_eq v w ≡ bytes_eq w v
    by true true f g = f ∙ sym g
    by false false f g = f ∙ sym g
    by true false f g = f ∙ sym ((bytes_eq-Decides w v).1 (sym ((bytes_eq-Decides v w).0 f)))
    by false true f g = (bytes_eq-Decides v w).1 (sym ((bytes_eq-Decides w v).0 g)) ∙ sym g

some_is : (m n : ℕ) → Some m ≡ Some n → m ≡ n
some_is m n e = ap (λ o. unwrap_or o 0) e

first_or : {K : Type 0} (t : K → Bool) (i : ℕ) (x : K) (rest whole behind : Option ℕ) → whole ≡
    option_or rest behind → (b : Bool) → t x ≡ b → cond (t x) (Some i) whole ≡
    option_or (cond (t x) (Some i) rest) behind
first_or t i x rest whole behind later true e =
    ap (λ b. cond b (Some i) whole) e ∙ sym (ap (λ b. option_or (cond b (Some i) rest) behind) e)
first_or t i x rest whole behind later false e =
    ap (λ b. cond b (Some i) whole) e ∙ later ∙
    sym (ap (λ b. option_or (cond b (Some i) rest) behind) e)

-- what is in two lists is in the first, or after it
pub position-append : {K : Type 0} (t : K → Bool) (i : ℕ) (xs ys : List K) →
    position_from t i (xs ++ ys) ≡ option_or (position_from t i xs)
    (position_from t (i + length xs) ys)
position-append t i [] ys = let e : i ≡ i + 0 = omega arith in ap (λ k. position_from t k ys) e
position-append t i (x ∷ xs) ys =
    let e : i + 1 + length xs ≡ i + length (x ∷ xs) = omega arith in
    first_or t i x (position_from t (i + 1) xs) (position_from t (i + 1) (xs ++ ys))
    (position_from t (i + length (x ∷ xs)) ys)
    (position-append t (i + 1) xs ys ∙ ap (λ k.
    option_or (position_from t (i + 1) xs) (position_from t k ys)) e) (t x) refl

passed : {K : Type 0} (t : K → Bool) (i n : ℕ) (x : K) (xs : List K) (d : K) →
    (position_from t (i + 1) xs ≡ Some n → (i + 1 ≤ n) × (t (get_or xs (n - (i + 1)) d) ≡ true)) →
    (b : Bool) → t x ≡ b → cond (t x) (Some i) (position_from t (i + 1) xs) ≡ Some n → (i ≤ n) ×
    (t (get_or (x ∷ xs) (n - i) d) ≡ true)
passed t i n x xs d rest true h e =
    let here : i ≡ n = some_is i n (sym (ap (λ b. cond b (Some i) (position_from t (i + 1) xs)) h) ∙
    e) in
    let none : n - i ≡ 0 = omega arith in
    (omega arith, ap (λ k. t (get_or (x ∷ xs) k d)) none ∙ h)
passed t i n x xs d rest false h e =
    let further = rest (sym (ap (λ b. cond b (Some i) (position_from t (i + 1) xs)) h) ∙ e) in
    let one : n - i ≡ suc (n - (i + 1)) = omega (arith, further.0) in
    (omega (arith, further.0), ap (λ k. t (get_or (x ∷ xs) k d)) one ∙ further.1)

-- a place that is found passes the test
pub position-passes : {K : Type 0} (t : K → Bool) (i n : ℕ) (xs : List K) (d : K) →
    position_from t i xs ≡ Some n → (i ≤ n) × (t (get_or xs (n - i) d) ≡ true)
position-passes t i n [] d e = cc
position-passes t i n (x ∷ xs) d e =
    passed t i n x xs d (λ f. position-passes t (i + 1) n xs d f) (t x) refl e

-- the first word is found at once
pub place-last : (done : List (List ℕ)) (w : List ℕ) (rest : List (List ℕ)) →
    place_of (done ++ w ∷ rest) w ≡ option_or (place_of done w) (Some (length done))
place-last done w rest =
    position-append (λ v. bytes_eq v w) 0 done (w ∷ rest)
    ∙ ap (λ b. option_or (place_of done w) (cond b (Some (0 + length done))
    (position_from (λ v. bytes_eq v w) (0 + length done + 1) rest))) (itself w)
    ∙ (let e : 0 + length done ≡ length done = omega arith in
    ap (λ k. option_or (place_of done w) (Some k)) e)

-- a word that is added after others is found there, unless it was among them
pub place-more : (done : List (List ℕ)) (v w : List ℕ) → place_of (done ++ v ∷ []) w ≡
    option_or (place_of done w) (if bytes_eq v w then Some (length done) else None)
place-more done v w =
    position-append (λ u. bytes_eq u w) 0 done (v ∷ [])
    ∙ (let e : 0 + length done ≡ length done = omega arith in
    ap (λ k. option_or (place_of done w) (if bytes_eq v w then Some k else None)) e)

-- the place that a word of a list has is that of the word itself
pub place-is : (words : List (List ℕ)) (w : List ℕ) (n : ℕ) → place_of words w ≡ Some n →
    get_or words n [] ≡ w
place-is words w n e =
    let p = position-passes (λ v. bytes_eq v w) 0 n words [] e in
    (let same : n - 0 ≡ n = omega arith in ap (λ k. get_or words k []) (sym same)) ∙
    (bytes_eq-Decides (get_or words (n - 0) []) w).0 p.1
