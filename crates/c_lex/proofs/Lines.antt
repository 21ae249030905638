-- Whether only spaces and tabs have come since the last line end, after the bytes of a piece.
use Rattle.std.proofs.Common.{◌≡◌, ℕ, ◌+◌, ◌-◌, ◌≤◌, suc, Bool, true, false, cond, ◌==◌, ◌||◌, List, [], ◌∷◌, length, get_or, take, fold, refl, sym, ap, ◌∙◌, arith}
use Rattle.std.proofs.lemmas.Bool.{false≢true}
use Rattle.std.proofs.lemmas.Bool.Decides.{eqb_tells}
use Rattle.std.proofs.lemmas.List.Sums.{fold_more}
use mathlib.Core.Logic.{⊎_elim}
use Rattle.rx_plain.proofs.Booleans.{and_false}
use Rattle.c_lex.specs.Bytes.{fresh_after, until, at_line_end, at_comment, line_feed, space, tab, slash, hash}
use Rattle.c_lex.specs.Pieces.{IsSeenAtFront, IsPieceOf, at_include_end}
use Rattle.c_lex.specs.declared.piece.Piece.TheVariants.{Spelled}
use Rattle.c_lex.specs.declared.token.TokenKind.TheVariants as kind
use Rattle.c_lex.specs.declared.token.Mark.{Mark}
use Rattle.c_lex.specs.declared.token.Mark.TheVariants.{LeftParen, RightParen, LeftBrace, RightBrace, Comma, Semicolon, Question, Colon, Assign, EqualEqual, NotEqual, Less, LessEqual, Greater, GreaterEqual, Plus, Minus, Star, Slash, Percent, Not, AndAnd, OrOr, PlusAssign, MinusAssign, StarAssign, SlashAssign, PercentAssign, PlusPlus, MinusMinus}
use Rattle.c_lex.specs.Marks.{spelling}

-- a byte of a class is not a byte outside it
differs : (p : ℕ → Bool) (b k : ℕ) → p k ≡ false → p b ≡ true → (b == k) ≡ false
differs p b k not_k is_b =
    ⊎_elim (λ w. absurd (false≢true (sym not_k ∙ (ap p (sym w.1) ∙ is_b)))) (λ w. w.0)
    (eqb_tells b k)

-- a byte of a class that has no line end, space or tab ends the line's blank front
pub solid : (p : ℕ → Bool) (b : ℕ) → p line_feed ≡ false → p space ≡ false → p tab ≡ false → p b ≡
    true → (fresh : Bool) → fresh_after fresh b ≡ false
solid p b l s t h fresh =
    let e1 : (b == line_feed) ≡ false = differs p b line_feed l h in
    let e2 : (b == space) ≡ false = differs p b space s h in
    let e3 : (b == tab) ≡ false = differs p b tab t h in
    rw (e1, e2, e3) (and_false fresh)

-- so does a byte that is known
pub solid_byte : (b k : ℕ) → b ≡ k → ((fresh : Bool) → fresh_after fresh k ≡ false) →
    (fresh : Bool) → fresh_after fresh b ≡ false
solid_byte b k e h fresh = ap (fresh_after fresh) e ∙ h fresh

-- a slash ends the blank front of a line
pub slash_is_solid : (fresh : Bool) → fresh_after fresh slash ≡ false
slash_is_solid fresh = and_false fresh

-- so does a `#`
pub hash_is_solid : (fresh : Bool) → fresh_after fresh hash ≡ false
hash_is_solid fresh = and_false fresh

-- after n bytes a line is as it is after the last of them
fold_last : (xs : List ℕ) (n : ℕ) (fresh : Bool) → 1 ≤ n → n ≤ length xs →
    fold fresh_after fresh (take n xs) ≡ fresh_after (fold fresh_after fresh (take (n - 1) xs))
    (get_or xs (n - 1) 0)
fold_last xs n fresh some fits =
    let whole : n ≡ n - 1 + 1 = omega arith in
    ap (λ k. fold fresh_after fresh (take k xs)) whole ∙
    fold_more fresh_after fresh xs (n - 1) 0 (omega arith)

-- a piece whose first and last bytes end the blank front is seen at its first
pub seen_by_ends : (xs : List ℕ) (n : ℕ) → 1 ≤ n → n ≤ length xs →
    ((fresh : Bool) → fresh_after fresh (get_or xs 0 0) ≡ false) →
    ((fresh : Bool) → fresh_after fresh (get_or xs (n - 1) 0) ≡ false) → IsSeenAtFront xs n
seen_by_ends xs n some fits front back fresh =
    fold_last xs n fresh some fits ∙ back (fold fresh_after fresh (take (n - 1) xs)) ∙
    sym (front fresh)

-- a byte alone is seen
pub seen_alone : (xs : List ℕ) → 1 ≤ length xs → IsSeenAtFront xs 1
seen_alone [] h fresh = absurd (omega arith)
seen_alone (x ∷ xs) h fresh = refl

-- a byte that is no line end keeps a line that is not blank as it is
quiet_step : (b : Bool) (x : ℕ) (xs : List ℕ) (k : ℕ) → (b ≡ false → (x == line_feed) ≡ false) →
    fold fresh_after false (take k xs) ≡ false →
    fold fresh_after false (take (cond b 0 (1 + k)) (x ∷ xs)) ≡ false
quiet_step true x xs k h quiet = refl
quiet_step false x xs k h quiet =
    let e : 1 + k ≡ suc k = omega arith in
    let l : (x == line_feed) ≡ false = h refl in
    ap (λ m. fold fresh_after false (take m (x ∷ xs))) e ∙
    ap (λ b. fold fresh_after (b || false) (take k xs)) l ∙ quiet

-- in front of a place that no line end precedes, nothing begins a line anew
quiet_until : (p : List ℕ → Bool) → ((s : List ℕ) → p s ≡ false → (get_or s 0 0 == line_feed) ≡
    false) → (xs : List ℕ) → fold fresh_after false (take (until p xs) xs) ≡ false
unfolding until
quiet_until p nl [] = refl
quiet_until p nl (x ∷ xs) =
    quiet_step (p (x ∷ xs)) x xs (until p xs) (nl (x ∷ xs)) (quiet_until p nl xs)

-- after its first byte a line that is not blank stays so
line_step : (b : Bool) (x : ℕ) (xs : List ℕ) (k : ℕ) → 1 ≤ cond b 0 (1 + k) →
    ((fresh : Bool) → fresh_after fresh x ≡ false) → fold fresh_after false (take k xs) ≡ false →
    (fresh : Bool) → fold fresh_after fresh (take (cond b 0 (1 + k)) (x ∷ xs)) ≡
    fresh_after fresh x
line_step true x xs k some front quiet fresh = absurd (omega arith)
line_step false x xs k some front quiet fresh =
    let e : 1 + k ≡ suc k = omega arith in
    ap (λ m. fold fresh_after fresh (take m (x ∷ xs))) e ∙
    ap (λ b. fold fresh_after b (take k xs)) (front fresh) ∙ quiet ∙ sym (front fresh)

-- a piece up to such a place is seen at its first byte
seen_until : (p : List ℕ → Bool) → ((s : List ℕ) → p s ≡ false → (get_or s 0 0 == line_feed) ≡
    false) → (xs : List ℕ) → 1 ≤ until p xs →
    ((fresh : Bool) → fresh_after fresh (get_or xs 0 0) ≡ false) → IsSeenAtFront xs (until p xs)
unfolding until
seen_until p nl [] some front fresh = absurd (omega arith)
seen_until p nl (x ∷ xs) some front fresh =
    line_step (p (x ∷ xs)) x xs (until p xs) some front (quiet_until p nl xs) fresh

-- a comment to the line end is seen at its first byte
pub seen_line_comment : (xs : List ℕ) → 1 ≤ until at_line_end xs → get_or xs 0 0 ≡ slash →
    IsSeenAtFront xs (until at_line_end xs)
seen_line_comment xs some h =
    seen_until at_line_end (λ s e. e) xs some (solid_byte (get_or xs 0 0) slash h slash_is_solid)

-- of two false facts the first is false
or_first : (a b : Bool) → (a || b) ≡ false → a ≡ false
or_first true b h = h
or_first false b h = refl

-- an include line is seen at its `#`
pub seen_include_line : (xs : List ℕ) → 1 ≤ until at_include_end xs → get_or xs 0 0 ≡ hash →
    IsSeenAtFront xs (until at_include_end xs)
seen_include_line xs some h =
    seen_until at_include_end (λ s e. or_first (at_line_end s) (at_comment s) e) xs some
    (solid_byte (get_or xs 0 0) hash h hash_is_solid)

-- each mark begins with a byte that ends the blank front
mark_front : (m : Mark) (fresh : Bool) → fresh_after fresh (get_or (spelling m) 0 0) ≡ false
mark_front LeftParen fresh = and_false fresh
mark_front RightParen fresh = and_false fresh
mark_front LeftBrace fresh = and_false fresh
mark_front RightBrace fresh = and_false fresh
mark_front Comma fresh = and_false fresh
mark_front Semicolon fresh = and_false fresh
mark_front Question fresh = and_false fresh
mark_front Colon fresh = and_false fresh
mark_front Assign fresh = and_false fresh
mark_front EqualEqual fresh = and_false fresh
mark_front NotEqual fresh = and_false fresh
mark_front Less fresh = and_false fresh
mark_front LessEqual fresh = and_false fresh
mark_front Greater fresh = and_false fresh
mark_front GreaterEqual fresh = and_false fresh
mark_front Plus fresh = and_false fresh
mark_front Minus fresh = and_false fresh
mark_front Star fresh = and_false fresh
mark_front Slash fresh = and_false fresh
mark_front Percent fresh = and_false fresh
mark_front Not fresh = and_false fresh
mark_front AndAnd fresh = and_false fresh
mark_front OrOr fresh = and_false fresh
mark_front PlusAssign fresh = and_false fresh
mark_front MinusAssign fresh = and_false fresh
mark_front StarAssign fresh = and_false fresh
mark_front SlashAssign fresh = and_false fresh
mark_front PercentAssign fresh = and_false fresh
mark_front PlusPlus fresh = and_false fresh
mark_front MinusMinus fresh = and_false fresh

-- and ends with one
mark_back : (m : Mark) (fresh : Bool) → fresh_after fresh
    (get_or (spelling m) (length (spelling m) - 1) 0) ≡ false
mark_back LeftParen fresh = and_false fresh
mark_back RightParen fresh = and_false fresh
mark_back LeftBrace fresh = and_false fresh
mark_back RightBrace fresh = and_false fresh
mark_back Comma fresh = and_false fresh
mark_back Semicolon fresh = and_false fresh
mark_back Question fresh = and_false fresh
mark_back Colon fresh = and_false fresh
mark_back Assign fresh = and_false fresh
mark_back EqualEqual fresh = and_false fresh
mark_back NotEqual fresh = and_false fresh
mark_back Less fresh = and_false fresh
mark_back LessEqual fresh = and_false fresh
mark_back Greater fresh = and_false fresh
mark_back GreaterEqual fresh = and_false fresh
mark_back Plus fresh = and_false fresh
mark_back Minus fresh = and_false fresh
mark_back Star fresh = and_false fresh
mark_back Slash fresh = and_false fresh
mark_back Percent fresh = and_false fresh
mark_back Not fresh = and_false fresh
mark_back AndAnd fresh = and_false fresh
mark_back OrOr fresh = and_false fresh
mark_back PlusAssign fresh = and_false fresh
mark_back MinusAssign fresh = and_false fresh
mark_back StarAssign fresh = and_false fresh
mark_back SlashAssign fresh = and_false fresh
mark_back PercentAssign fresh = and_false fresh
mark_back PlusPlus fresh = and_false fresh
mark_back MinusMinus fresh = and_false fresh

-- a mark of two bytes is seen at its first
seen_two : (m : Mark) (xs : List ℕ) → 2 ≤ length xs → get_or xs 0 0 ∷ get_or xs 1 0 ∷ [] ≡
    spelling m → IsSeenAtFront xs 2
seen_two m xs fits e =
    seen_by_ends xs 2 (omega arith) fits
    (λ fresh. ap (λ w. fresh_after fresh (get_or w 0 0)) e ∙ mark_front m fresh)
    (λ fresh. ap (λ w. fresh_after fresh (get_or w (length w - 1) 0)) e ∙ mark_back m fresh)

-- no mark has a second byte that is 0
second_some : (m : Mark) → 1 ≤ get_or (spelling m) 1 1
second_some LeftParen = omega arith
second_some RightParen = omega arith
second_some LeftBrace = omega arith
second_some RightBrace = omega arith
second_some Comma = omega arith
second_some Semicolon = omega arith
second_some Question = omega arith
second_some Colon = omega arith
second_some Assign = omega arith
second_some EqualEqual = omega arith
second_some NotEqual = omega arith
second_some Less = omega arith
second_some LessEqual = omega arith
second_some Greater = omega arith
second_some GreaterEqual = omega arith
second_some Plus = omega arith
second_some Minus = omega arith
second_some Star = omega arith
second_some Slash = omega arith
second_some Percent = omega arith
second_some Not = omega arith
second_some AndAnd = omega arith
second_some OrOr = omega arith
second_some PlusAssign = omega arith
second_some MinusAssign = omega arith
second_some StarAssign = omega arith
second_some SlashAssign = omega arith
second_some PercentAssign = omega arith
second_some PlusPlus = omega arith
second_some MinusMinus = omega arith

-- two bytes that a mark is written with are a piece
pub two_part : (m : Mark) (xs : List ℕ) → 1 ≤ length xs → get_or xs 0 0 ∷ get_or xs 1 0 ∷ [] ≡
    spelling m → IsPieceOf xs (Spelled (kind.Mark m) 2)
two_part m [] some e = absurd (omega arith)
two_part m (x ∷ []) some e =
    let zero_second : 0 ≡ get_or (spelling m) 1 1 = ap (λ w. get_or w 1 1) e in
    absurd (omega (arith, second_some m))
two_part m (x ∷ y ∷ ys) some e =
    (omega arith, omega arith, seen_two m (x ∷ y ∷ ys) (omega arith) e, e)
