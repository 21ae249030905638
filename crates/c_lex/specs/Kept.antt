-- What becomes of the list of tokens at a piece of the text.
use Rattle.std.specs.Prelude.{ℕ, ◌+◌, ◌<◌, ◌≡◌, List, [], ◌∷◌, ◌++◌, Result, MatchResult}
use Rattle.c_lex.specs.declared.error.LexEnd.{LexEnd}
use Rattle.c_lex.specs.declared.error.LexEnd.TheVariants.{NoMemory}
use Rattle.c_lex.specs.declared.piece.Piece.{Piece}
use Rattle.c_lex.specs.declared.piece.Piece.TheVariants.{Blank, Spelled, Bad}
use Rattle.c_lex.specs.declared.token.Token.{Token}
use Rattle.c_lex.specs.Tokens.{end_at}

-- the piece at the offset ends, or its fault lies, below the limit
abbrev pub EndsBelow : ℕ → ℕ → Piece → Type 0
EndsBelow limit at (Blank n) = at + n < limit
EndsBelow limit at (Spelled kind n) = at + n < limit
EndsBelow limit at (Bad fault n) = at + n < limit

-- a token is added, for which memory may be wanting; all else leaves the list as it was; a fault is
-- answered
abbrev pub Keeps : Piece → ℕ → List Token → List Token → Result ℕ LexEnd → Type 0
Keeps (Blank n) at old new result = MatchResult result (λ len. (len ≡ n) × (new ≡ old)) (λ _. ⊥)
Keeps (Spelled kind n) at old new result =
    MatchResult result (λ len. (len ≡ n) × (new ≡ old ++ record { kind = kind; at = at; len = n } ∷
    [])) (λ e. e ≡ NoMemory)
Keeps (Bad fault n) at old new result = MatchResult result (λ _. ⊥) (λ e. e ≡ end_at fault (at + n))
