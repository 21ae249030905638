-- What a slice of the text must be to spell a token of a kind.
use Rattle.std.specs.Prelude.{ℕ, ◌*◌, ◌+◌, ◌-◌, ◌^◌, ◌<◌, ◌≤◌, ◌≡◌, true, List, length, fold, slice_index, Some, None, pos}
use Rattle.std.specs.List.{AllPass}
use Rattle.c_lex.specs.declared.token.TokenKind.{TokenKind}
use Rattle.c_lex.specs.declared.token.TokenKind.TheVariants.{Name, Number, Word, Mark}
use Rattle.c_lex.specs.Bytes.{is_digit, is_letter, is_word_byte, digit_zero}
use Rattle.c_lex.specs.Keywords.{keyword_of}
use Rattle.c_lex.specs.Marks.{spelling}

-- the number that digits write
abbrev pub value_of : List ℕ → ℕ
value_of digits = fold (λ v b. 10 * v + (b - digit_zero)) 0 digits

-- A name is a letter or underscore with letters, digits and underscores after it, and no keyword. A
-- number is a run of digits with no zero in front of others, below 2^63.
abbrev pub Spells : TokenKind → List ℕ → Type 0
Spells Name w =
    (is_letter (slice_index w 0) ≡ true) × AllPass is_word_byte w × (keyword_of w ≡ None)
Spells (Number v) w =
    AllPass is_digit w × (slice_index w 0 ≡ digit_zero → length w ≤ 1) × (value_of w < 2 ^ 63) ×
    (v ≡ pos (value_of w))
Spells (Word k) w = keyword_of w ≡ Some k
Spells (Mark m) w = w ≡ spelling m
