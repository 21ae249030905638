-- What the faults of a text are about: a token of it, a few bytes, or its end.
use Rattle.std.specs.Prelude.{ℕ, ◌+◌, ◌-◌, ◌≤◌, min, nat_eq, nat_lt, List, length, drop, slice_get, Option, Some, None, option_map, Result, Ok, Err, if◌then◌else◌}
use Rattle.std.specs.List.{prefix_len}
use Rattle.c_lex.specs.Bytes.{is_digit}
use Rattle.c_lex.specs.Tokens.{tokens_of}
use Rattle.c_lex.specs.declared.error.LexEnd.{LexEnd}
use Rattle.c_lex.specs.declared.error.LexEnd.TheVariants.{BadByte, OpenComment, LiteralTooLarge, LeadingZero, Directive, NoMemory}
use Rattle.c_lex.specs.declared.token.Token.{Token}
use Rattle.rx_places.specs.declared.spots.Spot.{Spot}

-- the part is one of the text, which may be its end
abbrev pub IsWithin : List ℕ → Spot → Type 0
IsWithin text spot = spot.at + spot.len ≤ length text

-- so many bytes from this offset on, as far as there are any
abbrev pub bytes_at : List ℕ → ℕ → ℕ → Option Spot
bytes_at text at len =
    if nat_lt at (length text) then Some (record { at = at; len = min len (length text - at) })
    else None

-- how many decimal digits are at the front
abbrev pub digits_of : List ℕ → ℕ
digits_of text = prefix_len is_digit text

-- the literal at this offset
abbrev pub literal_at : List ℕ → ℕ → Option Spot
literal_at text at = bytes_at text at (digits_of (drop at text))

-- what a fault is about, by the offset that it has
abbrev pub spot_of_fault : List ℕ → LexEnd → Option Spot
spot_of_fault text (BadByte at) = bytes_at text at 1
spot_of_fault text (OpenComment at) = bytes_at text at 2
spot_of_fault text (LiteralTooLarge at) = literal_at text at
spot_of_fault text (LeadingZero at) = literal_at text at
spot_of_fault text (Directive at) = bytes_at text at 1
spot_of_fault text NoMemory = None

-- the bytes of a token
abbrev pub spot_of : Token → Spot
spot_of token = record { at = token.at; len = token.len }

-- the end of a text
abbrev pub end_of : List ℕ → Spot
end_of text = record { at = length text; len = 0 }

-- the token with this number, counted from 0; the end of the text after the last one
abbrev pub spot_among : List ℕ → List Token → ℕ → Option Spot
spot_among text tokens token =
    if nat_eq token (length tokens) then Some (end_of text)
    else option_map spot_of (slice_get tokens token)

-- the same of the tokens of a text, if it has any
abbrev pub spot_in : List ℕ → ℕ → Result (List Token) LexEnd → Option Spot
spot_in text token (Ok tokens) = spot_among text tokens token
spot_in text token (Err fault) = None

abbrev pub spot_of_token : List ℕ → ℕ → Option Spot
spot_of_token text token = spot_in text token (tokens_of text)
