-- The tokens of a text, or its first fault.
use Rattle.std.specs.Prelude.{ℕ, zero, suc, ◌+◌, ◌-◌, ◌≤◌, ◌≡◌, Bool, true, List, [], ◌∷◌, length, take, drop, Result, Ok, Err, Vec}
use Rattle.std.specs.declared.alloc.Global.{Global}
use Rattle.c_lex.specs.declared.error.LexEnd.{LexEnd}
use Rattle.c_lex.specs.declared.error.LexEnd.TheVariants as end
use Rattle.c_lex.specs.declared.piece.Fault.{Fault}
use Rattle.c_lex.specs.declared.piece.Fault.TheVariants as fault
use Rattle.c_lex.specs.declared.piece.Piece.{Piece}
use Rattle.c_lex.specs.declared.piece.Piece.TheVariants.{Blank, Spelled, Bad}
use Rattle.c_lex.specs.declared.token.Token.{Token}
use Rattle.c_lex.specs.Bytes.{fresh_after}
use Rattle.c_lex.specs.Pieces.{piece}
use Rattle.c_lex.specs.Spelling.{Spells}

-- the answer for a fault at this offset
abbrev pub end_at : Fault → ℕ → LexEnd
end_at fault.BadByte at = end.BadByte at
end_at fault.OpenComment at = end.OpenComment at
end_at fault.LiteralTooLarge at = end.LiteralTooLarge at
end_at fault.LeadingZero at = end.LeadingZero at
end_at fault.Directive at = end.Directive at

-- the token in front of those that follow
abbrev pub put : Token → Result (List Token) LexEnd → Result (List Token) LexEnd
put t (Ok ts) = Ok (t ∷ ts)
put t (Err e) = Err e

-- the answer where this piece begins at the offset, by the answer after it
abbrev pub follow : Piece → ℕ → (ℕ → Result (List Token) LexEnd) → Result (List Token) LexEnd
follow (Blank n) at behind = behind n
follow (Spelled kind n) at behind = put (record { kind = kind; at = at; len = n }) (behind n)
follow (Bad fault n) at behind = Err (end_at fault (at + n))

-- The tokens of the text that is at the offset. Its first bytes, `covered` in number, belong to the
-- piece before; `fresh` says that only spaces and tabs are between the text and the line end before
-- it.
unfoldable pub tokens_from : ℕ → Bool → ℕ → List ℕ → Result (List Token) LexEnd
tokens_from covered fresh at [] = Ok []
tokens_from (suc covered) fresh at (x ∷ xs) = tokens_from covered (fresh_after fresh x) (suc at) xs
tokens_from zero fresh at (x ∷ xs) =
    follow (piece fresh (x ∷ xs)) at (λ n. tokens_from (n - 1) (fresh_after fresh x) (suc at) xs)

-- the tokens of a text, or its first fault
abbrev pub tokens_of : List ℕ → Result (List Token) LexEnd
tokens_of source = tokens_from 0 true 0 source

-- the call's answer is the definition's; running out of memory alone is free
abbrev pub Gives : Result (Vec Token Global) LexEnd → Result (List Token) LexEnd → Type 0
Gives (Ok v) answer = answer ≡ Ok v.items
Gives (Err end.NoMemory) answer = Unit {0}
Gives (Err e) answer = answer ≡ Err e

-- the token is a slice of the text, of one byte at least, and the slice spells its kind
abbrev pub IsTokenOf : List ℕ → Token → Type 0
IsTokenOf source t =
    (1 ≤ t.len) × (t.at + t.len ≤ length source) × Spells t.kind (take t.len (drop t.at source))

-- the first token ends before the second begins
abbrev pub IsBefore : Token → Token → Type 0
IsBefore s t = s.at + s.len ≤ t.at
