-- How many brackets are open, and where too many are.
use Rattle.std.specs.Prelude.{ℕ, ◌+◌, ◌-◌, Option, Some, None, List, [], ◌∷◌, nat_lt, if◌then◌else◌}
use Rattle.c_lex.specs.declared.token.Token.{Token}
use Rattle.c_lex.specs.declared.token.TokenKind.{TokenKind}
use Rattle.c_lex.specs.declared.token.TokenKind.TheVariants.{Mark}
use Rattle.c_lex.specs.declared.token.Mark.TheVariants.{LeftParen, RightParen, LeftBrace, RightBrace}

-- how many brackets are open after a token, of those that are open before it: a closing one lowers
-- the count if it is above 0
abbrev pub open_behind : ℕ → TokenKind → ℕ
open_behind count (Mark LeftParen) = count + 1
open_behind count (Mark LeftBrace) = count + 1
open_behind count (Mark RightParen) = count - 1
open_behind count (Mark RightBrace) = count - 1
open_behind count _ = count

-- the number of the first token that opens a bracket where 200 are open, if there is one, with the
-- count and the number that the list begins with
abbrev pub too_deep : ℕ → ℕ → List Token → Option ℕ
too_deep count at [] = None
too_deep count at (t ∷ ts) =
    if nat_lt 200 (open_behind count t.kind) then Some at else
    too_deep (open_behind count t.kind) (at + 1) ts
