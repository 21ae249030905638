-- Which places of a list of tokens hold names.
use Rattle.std.specs.Prelude.{◌≡◌, ℕ, Some, List}
use Rattle.c_lex.specs.declared.token.Token.{Token}
use Rattle.c_lex.specs.declared.token.TokenKind.TheVariants.{Name}
use Rattle.c_syntax.specs.Grammar.{kind_at}

-- a name is at a place of the list
abbrev pub IsName : List Token → ℕ → Type 0
IsName ts k = kind_at ts k ≡ Some Name
