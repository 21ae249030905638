-- The first place of a text that a test accepts.
use Rattle.std.proofs.Common.{◌≡◌, ℕ, ◌+◌, suc, ◌<◌, ◌≤◌, min, Bool, true, false, cond, ◌||◌, ◌&&◌, ◌==◌, List, [], ◌∷◌, length, get_or, drop, sym, ap, ◌∙◌, arith, refl}
use Rattle.std.proofs.lemmas.Bool.{false≢true, eqb-true}
use Rattle.std.proofs.lemmas.List.{at_drop_more, get_or-drop}
use Rattle.rx_plain.proofs.Booleans.{and_false, and_first, and_second}
use Rattle.c_lex.specs.Bytes.{until, at_line_end, at_close, at_comment, line_feed, slash, star, hash}
use Rattle.c_lex.specs.Pieces.{at_include_end}

-- one byte more keeps the place within the text
step_le : (b : Bool) (n m : ℕ) → n ≤ m → cond b 0 (1 + n) ≤ 1 + m
step_le true n m h = omega arith
step_le false n m h = omega arith

-- the place lies within the text
pub until_le : (p : List ℕ → Bool) (xs : List ℕ) → until p xs ≤ length xs
unfolding until
until_le p [] = omega arith
until_le p (x ∷ xs) = omega (arith, step_le (p (x ∷ xs)) (until p xs) (length xs) (until_le p xs))

-- from one place on, it is that place, or it is looked for after it
pub until_turn : (p : List ℕ → Bool) (xs : List ℕ) (i : ℕ) → i < length xs → until p (drop i xs) ≡
    cond (p (drop i xs)) 0 (1 + until p (drop (i + 1) xs))
unfolding until
until_turn p xs i h =
    at_drop_more (until p) xs i 0 h ∙ ap (λ b. cond b 0 (1 + until p (drop (i + 1) xs)))
    (sym (at_drop_more p xs i 0 h))

-- the place where the test holds, and none before it, is the first
pub until_found : (p : List ℕ → Bool) (xs : List ℕ) (i limit : ℕ) → i < limit → limit ≤ length xs →
    i + until p (drop i xs) ≡ until p xs → p (drop i xs) ≡ true → i ≡ min (until p xs) limit
until_found p xs i limit below within passed test =
    let here : until p (drop i xs) ≡ 0 = until_turn p xs i (omega arith) ∙
    ap (λ b. cond b 0 (1 + until p (drop (i + 1) xs))) test in
    omega arith

-- a place where the test doesn't hold is passed
pub until_more : (p : List ℕ → Bool) (xs : List ℕ) (i : ℕ) → i < length xs → i +
    until p (drop i xs) ≡ until p xs → p (drop i xs) ≡ false → (i + 1) + until p (drop (i + 1) xs) ≡
    until p xs
until_more p xs i below passed test =
    let here : until p (drop i xs) ≡ 1 + until p (drop (i + 1) xs) = until_turn p xs i below ∙
    ap (λ b. cond b 0 (1 + until p (drop (i + 1) xs))) test in
    omega arith

-- where the test fails at the front, the place lies after it
step_some : (b : Bool) (n : ℕ) → b ≡ false → 1 ≤ cond b 0 (1 + n)
step_some true n h = absurd (false≢true (sym h))
step_some false n h = omega arith

-- a comment to the line end has a byte
pub line_comment_some : (xs : List ℕ) → get_or xs 0 0 ≡ slash → 1 ≤ until at_line_end xs
unfolding until
line_comment_some [] h = absurd (omega arith)
line_comment_some (x ∷ xs) h =
    step_some (at_line_end (x ∷ xs)) (until at_line_end xs) (ap (λ b. b == line_feed) h)

-- an include line has a byte
pub include_line_some : (xs : List ℕ) → get_or xs 0 0 ≡ hash → 1 ≤ until at_include_end xs
unfolding until
include_line_some [] h = absurd (omega arith)
include_line_some (x ∷ xs) h =
    step_some (at_include_end (x ∷ xs)) (until at_include_end xs)
    (ap (λ b. b == line_feed || (b == slash && get_or (x ∷ xs) 1 0 == star)) h)

-- the two bytes that close a comment lie within the text
close_two : (x : ℕ) (xs : List ℕ) → at_close (x ∷ xs) ≡ true → 1 ≤ length xs
close_two x [] h = absurd (false≢true (sym (and_false (x == star)) ∙ h))
close_two x (y ∷ xs) h = omega arith

-- so they do one byte later
close_step : (b : Bool) (n m : ℕ) → (b ≡ true → 1 ≤ m) → (n < m → n + 2 ≤ m) → cond b 0 (1 + n) <
    1 + m → cond b 0 (1 + n) + 2 ≤ 1 + m
close_step true n m here behind h = omega (arith, here refl)
close_step false n m here behind h = omega (arith, behind (omega arith))

-- where a block comment is closed, its two last bytes lie within the text
pub close_fits : (xs : List ℕ) → until at_close xs < length xs → until at_close xs + 2 ≤ length xs
unfolding until
close_fits [] h = absurd (omega arith)
close_fits (x ∷ xs) h =
    omega (
      arith,
      close_step (at_close (x ∷ xs)) (until at_close xs) (length xs) (close_two x xs)
          (close_fits xs) (omega arith),
    )

-- the test holds at the first place, one byte later
stands_step : (p : List ℕ → Bool) (x : ℕ) (xs : List ℕ) (b : Bool) → p (x ∷ xs) ≡ b → (n : ℕ) →
    cond b 0 (1 + n) < suc (length xs) → (n < length xs → p (drop n xs) ≡ true) →
    p (drop (cond b 0 (1 + n)) (x ∷ xs)) ≡ true
stands_step p x xs true is n h behind = is
stands_step p x xs false is n h behind =
    let e : 1 + n ≡ suc n = omega arith in
    ap (λ k. p (drop k (x ∷ xs))) e ∙ behind (omega arith)

-- where the place lies within the text, the test holds there
pub until_stands : (p : List ℕ → Bool) (xs : List ℕ) → until p xs < length xs →
    p (drop (until p xs) xs) ≡ true
unfolding until
until_stands p [] h = absurd (omega arith)
until_stands p (x ∷ xs) h = stands_step p x xs (p (x ∷ xs)) refl (until p xs) h (until_stands p xs)

-- a block comment ends in a slash
pub close_slash : (rest : List ℕ) → until at_close (drop 2 rest) < length (drop 2 rest) →
    get_or rest (until at_close (drop 2 rest) + 3) 0 ≡ slash
close_slash rest h =
    let n = until at_close (drop 2 rest) in
    let here : at_close (drop n (drop 2 rest)) ≡ true = until_stands at_close (drop 2 rest) h in
    let second : get_or (drop n (drop 2 rest)) 1 0 ≡ slash =
    eqb-true _ _ (and_second (get_or (drop n (drop 2 rest)) 0 0 == star) _ here) in
    let e : n + 3 ≡ 2 + (n + 1) = omega arith in
    ap (λ k. get_or rest k 0) e ∙ sym (get_or-drop 2 rest (n + 1) 0) ∙
    sym (get_or-drop n (drop 2 rest) 1 0) ∙ second

-- a block comment begins with a slash
pub comment_first : (rest : List ℕ) → at_comment rest ≡ true → get_or rest 0 0 ≡ slash
comment_first rest h = eqb-true _ _ (and_first _ _ h)
