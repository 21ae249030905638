-- The name of a token: the number of the first token of the text that is spelled as it is. So two
-- tokens have one name exactly where the same bytes spell them.
use Rattle.std.specs.Prelude.{◌≡◌, ◌↔◌, ℕ, ◌<◌, List, length, map, unwrap_or, slice_get}
use Rattle.c_lex.specs.declared.token.Token.{Token}
use Rattle.c_names.specs.Spellings.{spelling, spelling_at, place_of}

-- the names of all tokens, in order
abbrev pub names_of : List ℕ → List Token → List ℕ
names_of source tokens =
    let words = map (spelling source) tokens in
    map (λ word. unwrap_or (place_of words word) 0) words

-- the name of the token with this number, where these are the names of all; 0 where there is no
-- such token
abbrev pub name_at : List ℕ → ℕ → ℕ
name_at names number = unwrap_or (slice_get names number) 0

-- names distinguish spellings, and nothing else does
abbrev pub NamesTellSpellings : List ℕ → List Token → Type 0
NamesTellSpellings source tokens = (i j : ℕ) → i < length tokens → j < length tokens →
    (name_at (names_of source tokens) i ≡ name_at (names_of source tokens) j) ↔
    (spelling_at source tokens i ≡ spelling_at source tokens j)
