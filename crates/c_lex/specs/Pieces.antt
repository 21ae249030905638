-- What begins at a place of the text: something that is not kept (a separator, a comment, an
-- include line), a token, or a fault.
use Rattle.std.specs.Prelude.{ℕ, ◌+◌, ◌^◌, ◌<◌, ◌≤◌, ◌≡◌, Bool, ◌&&◌, ◌||◌, ◌==◌, nat_le, nat_lt, if◌then◌else◌, List, length, take, drop, fold, slice_index, Option, Some, None, codes, bytes_eq, pos}
use Rattle.std.specs.List.{prefix_len}
use Rattle.c_lex.specs.declared.piece.Piece.{Piece}
use Rattle.c_lex.specs.declared.piece.Piece.TheVariants.{Blank, Spelled, Bad}
use Rattle.c_lex.specs.declared.piece.Fault.TheVariants.{BadByte, OpenComment, LiteralTooLarge, LeadingZero, Directive}
use Rattle.c_lex.specs.declared.token.Keyword.{Keyword}
use Rattle.c_lex.specs.declared.token.Mark.{Mark as TheMark}
use Rattle.c_lex.specs.declared.token.TokenKind.{TokenKind}
use Rattle.c_lex.specs.declared.token.TokenKind.TheVariants.{Name, Number, Word, Mark}
use Rattle.c_lex.specs.Bytes.{is_space, is_separator, is_digit, is_letter, is_word_byte, hash, slash, digit_zero, begins, fresh_after, at_line_end, at_comment, at_close, at_splice, until}
use Rattle.c_lex.specs.Keywords.{keyword_of}
use Rattle.c_lex.specs.Marks.{one_mark, two_mark}
use Rattle.c_lex.specs.Spelling.{Spells, value_of}

-- a word that is no keyword is a name
abbrev pub word_kind : Option Keyword → TokenKind
word_kind None = Name
word_kind (Some k) = Word k

-- a name or a keyword: as many bytes of a name as there are
unfoldable pub word : List ℕ → Piece
word rest =
    let n = prefix_len is_word_byte rest in
    Spelled (word_kind (keyword_of (take n rest))) n

-- a literal: as many digits as there are
unfoldable pub number : List ℕ → Piece
number rest =
    let n = prefix_len is_digit rest in
    let value = value_of (take n rest) in
    if slice_index rest 0 == digit_zero && nat_le 2 n then Bad LeadingZero 0
    else (if nat_le (2 ^ 63) value then Bad LiteralTooLarge 0
    else (if is_letter (slice_index rest n) then Bad BadByte n
    else Spelled (Number (pos value)) n))

-- The first n bytes are not kept, unless a backslash among them is directly before a line end.
unfoldable pub blank : ℕ → List ℕ → Piece
blank n rest =
    if nat_lt (until at_splice rest) n then Bad BadByte (until at_splice rest) else Blank n

-- from `/*` to the first `*/` after it
unfoldable pub block_comment : List ℕ → Piece
block_comment rest =
    let inside = until at_close (drop 2 rest) in
    if inside == length (drop 2 rest) then Bad OpenComment 0 else blank (inside + 4) rest

-- from `//` to the line end
unfoldable pub line_comment : List ℕ → Piece
line_comment rest = blank (until at_line_end rest) rest

-- the blank part of an include line ends here
abbrev pub at_include_end : List ℕ → Bool
at_include_end rest = at_line_end rest || at_comment rest

-- the word after spaces and tabs is `include`
unfoldable pub names_include : List ℕ → Bool
names_include rest =
    let behind = drop (prefix_len is_space rest) rest in
    bytes_eq (take (prefix_len is_word_byte behind) behind) (codes "include")

-- from `#`, in front of which its line has only spaces and tabs where `fresh`
unfoldable pub directive : Bool → List ℕ → Piece
directive fresh rest =
    if fresh && names_include (drop 1 rest) then blank (until at_include_end rest) rest else
    Bad Directive 0

-- the longest of the marks that begin here
abbrev pub longest : Option TheMark → Option TheMark → Piece
longest (Some two) one = Spelled (Mark two) 2
longest None (Some one) = Spelled (Mark one) 1
longest None None = Bad BadByte 0

-- What begins at the front of the text. `fresh` says that only spaces and tabs are between it and
-- the line end before it.
unfoldable pub piece : Bool → List ℕ → Piece
piece fresh rest =
    let b = slice_index rest 0 in
    if is_separator b then Blank 1
    else (if is_letter b then word rest
    else (if is_digit b then number rest
    else (if b == hash then directive fresh rest
    else (if at_comment rest then block_comment rest
    else (if begins slash slash rest then line_comment rest
    else longest (two_mark b (slice_index rest 1)) (one_mark b))))))

-- after the first n bytes a line is as fresh as after the first of them
abbrev pub IsSeenAtFront : List ℕ → ℕ → Type 0
IsSeenAtFront rest n =
    (fresh : Bool) → fold fresh_after fresh (take n rest) ≡ fresh_after fresh (slice_index rest 0)

-- a piece has at least one byte, lies within the text, and its bytes spell its kind
abbrev pub IsPieceOf : List ℕ → Piece → Type 0
IsPieceOf rest (Blank n) = (1 ≤ n) × (n ≤ length rest) × IsSeenAtFront rest n
IsPieceOf rest (Spelled kind n) =
    (1 ≤ n) × (n ≤ length rest) × IsSeenAtFront rest n × Spells kind (take n rest)
IsPieceOf rest (Bad fault n) = n < length rest
