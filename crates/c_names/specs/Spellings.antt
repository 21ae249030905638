-- The bytes that spell the tokens of a text.
use Rattle.std.specs.Prelude.{ℕ, ◌+◌, ◌≤◌, List, [], length, take, drop, map, All, Option, option_map, unwrap_or, slice_get, bytes_eq}
use Rattle.std.specs.List.{position_from}
use Rattle.c_lex.specs.declared.token.Token.{Token}

-- each token is a slice of the source
abbrev pub IsWithin : List ℕ → List Token → Type 0
IsWithin source tokens = All (λ (t : Token). t.at + t.len ≤ length source) tokens

-- the bytes that spell a token
abbrev pub spelling : List ℕ → Token → List ℕ
spelling source token = take token.len (drop token.at source)

-- the bytes of the token with this number, none where there is no such token
abbrev pub spelling_at : List ℕ → List Token → ℕ → List ℕ
spelling_at source tokens number =
    unwrap_or (option_map (spelling source) (slice_get tokens number)) []

-- the bytes of the tokens with these numbers
abbrev pub spellings : List ℕ → List Token → List ℕ → List (List ℕ)
spellings source tokens numbers = map (spelling_at source tokens) numbers

-- the place of the first of these spellings that is this one
abbrev pub place_of : List (List ℕ) → List ℕ → Option ℕ
place_of words word = position_from (λ w. bytes_eq w word) 0 words
