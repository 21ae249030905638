-- The run of bytes of a class at the front of a text.
use Rattle.std.proofs.Common.{◌≡◌, ℕ, ◌+◌, ◌-◌, ◌<◌, ◌≤◌, ◌^◌, min, to_z, w64, ◌||◌, None, Some, Bool, true, false, cond, List, [], ◌∷◌, length, get_or, take, sym, ap, ◌∙◌, arith, refl, pos}
use Rattle.std.proofs.lemmas.List.{get_or-take}
use Rattle.std.proofs.lemmas.Bool.{false≢true}
use Rattle.std.proofs.lemmas.List.Sums.{prefix_len_passes, prefix_len-le-length}
use Rattle.std.proofs.lemmas.List.Folds.{length-prefix_len}
use Rattle.std.proofs.lemmas.Int.{to_z_pos}
use Rattle.std.specs.List.{prefix_len, AllPass}
use Rattle.c_lex.specs.declared.piece.Piece.TheVariants.{Spelled}
use Rattle.c_lex.specs.declared.token.TokenKind.TheVariants.{Name, Number, Word}
use Rattle.c_lex.proofs.Lines.{solid, seen_by_ends}
use Rattle.c_lex.specs.Bytes.{is_digit, is_letter, is_word_byte, digit_zero, line_feed, space, tab}
use Rattle.c_lex.specs.declared.token.Keyword.{Keyword}
use Rattle.c_lex.specs.Keywords.{keyword_of}
use Rattle.c_lex.specs.Pieces.{IsPieceOf, IsSeenAtFront}
use Rattle.c_lex.specs.Spelling.{value_of}

-- each byte of the run is of the class
pub all_of_run : (p : ℕ → Bool) (xs : List ℕ) → AllPass p (take (prefix_len p xs) xs)
all_of_run p xs k d h =
    let len = length-prefix_len p xs in
    let below : k < prefix_len p xs = omega arith in
    ap p (get_or-take (prefix_len p xs) xs k d below) ∙ prefix_len_passes p xs k d below

-- a run that goes on has a byte
step_some : (b : Bool) (n : ℕ) → b ≡ true → 1 ≤ cond b (1 + n) 0
step_some true n h = omega arith
step_some false n h = absurd (false≢true h)

-- where the byte at the front is of the class, and the byte past the end isn't, the run has a byte
pub run_some : (p : ℕ → Bool) (xs : List ℕ) → p 0 ≡ false → p (get_or xs 0 0) ≡ true → 1 ≤
    prefix_len p xs
run_some p [] none h = absurd (false≢true (sym none ∙ h))
run_some p (x ∷ xs) none h = step_some (p x) (prefix_len p xs) h

-- a run of a class that has no line end, space or tab is seen at its first byte
seen_run : (p : ℕ → Bool) (xs : List ℕ) → p 0 ≡ false → p line_feed ≡ false → p space ≡ false →
    p tab ≡ false → p (get_or xs 0 0) ≡ true → IsSeenAtFront xs (prefix_len p xs)
seen_run p xs z l s t h =
    let some : 1 ≤ prefix_len p xs = run_some p xs z h in
    let within = prefix_len-le-length p xs in
    seen_by_ends xs (prefix_len p xs) some within (solid p (get_or xs 0 0) l s t h)
    (solid p (get_or xs (prefix_len p xs - 1) 0) l s t
    (prefix_len_passes p xs (prefix_len p xs - 1) 0 (omega arith)))

-- a run of bytes of a name that begins with a letter is a piece
pub word_part : (xs : List ℕ) (n : ℕ) → n ≡ prefix_len is_word_byte xs → is_letter (get_or xs 0 0) ≡
    true → (1 ≤ n) × (n ≤ length xs) × IsSeenAtFront xs n
word_part xs n len letter =
    let first : is_word_byte (get_or xs 0 0) ≡ true =
    ap (λ b. b || is_digit (get_or xs 0 0)) letter in
    let some : 1 ≤ prefix_len is_word_byte xs = run_some is_word_byte xs refl first in
    let within = prefix_len-le-length is_word_byte xs in
    (omega arith, omega arith, rw len (seen_run is_word_byte xs refl refl refl refl first))

-- if it is no keyword, it is a name
pub name_part : (xs : List ℕ) (n : ℕ) → n ≡ prefix_len is_word_byte xs → is_letter (get_or xs 0 0) ≡
    true → keyword_of (take n xs) ≡ None → IsPieceOf xs (Spelled Name n)
name_part xs n len letter none =
    let w = word_part xs n len letter in
    let some = w.0 in (
      w.0,
      w.1,
      w.2,
      (
        ap is_letter (get_or-take n xs 0 0 (omega arith)) ∙ letter,
        rw len (all_of_run is_word_byte xs),
        none,
      ),
    )

-- if it is a keyword, it is that
pub keyword_part : (xs : List ℕ) (n : ℕ) (k : Keyword) → n ≡ prefix_len is_word_byte xs →
    is_letter (get_or xs 0 0) ≡ true → keyword_of (take n xs) ≡ Some k →
    IsPieceOf xs (Spelled (Word k) n)
keyword_part xs n k len letter is = let w = word_part xs n len letter in (w.0, w.1, w.2, is)

-- a run of digits is a literal, if no zero is in front of others and its value is below 2^63
pub number_part : (xs : List ℕ) (n value : ℕ) → n ≡ prefix_len is_digit xs →
    is_digit (get_or xs 0 0) ≡ true → (get_or xs 0 0 ≡ digit_zero → n ≤ 1) → value ≡
    min (value_of (take n xs)) (2 ^ 63) → value < 2 ^ 63 →
    IsPieceOf xs (Spelled (Number (to_z w64 value)) n)
number_part xs n value len digit single is fits =
    let some : 1 ≤ prefix_len is_digit xs = run_some is_digit xs refl digit in
    let within = prefix_len-le-length is_digit xs in
    let front : get_or (take n xs) 0 0 ≡ get_or xs 0 0 = get_or-take n xs 0 0 (omega arith) in
    let whole : length (take n xs) ≡ n = rw len (length-prefix_len is_digit xs) in
    let same : value ≡ value_of (take n xs) = omega arith in (
      omega arith,
      omega arith,
      rw len (seen_run is_digit xs refl refl refl refl digit),
      (
        rw len (all_of_run is_digit xs),
        λ e. omega (arith, single (sym front ∙ e)),
        omega arith,
        to_z_pos w64 value fits ∙ ap pos same,
      ),
    )
