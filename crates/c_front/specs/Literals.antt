-- Numbers of a text that are no integers of the kind. Numbers as 5.2.4.2.1 are sections of ISO/IEC
-- 9899:1999.
use Rattle.std.specs.Prelude.{ℕ, Bool, false, List, Option, None, pos, int_lt}
use Rattle.std.specs.List.{position}
use Rattle.c_ast.specs.declared.integers.Integers.{Integers}
use Rattle.c_ast.specs.declared.integers.Integers.TheVariants.{Unbounded, Bits32}
use Rattle.c_lex.specs.declared.token.Token.{Token}
use Rattle.c_lex.specs.declared.token.TokenKind.{TokenKind}
use Rattle.c_lex.specs.declared.token.TokenKind.TheVariants.{Number}

-- a number above 2147483647, the greatest 32-bit `int` (5.2.4.2.1); C gives such a literal a wider
-- type (6.4.4.1p5)
abbrev pub is_wide_kind : TokenKind → Bool
is_wide_kind (Number value) = int_lt (pos 2147483647) value
is_wide_kind _ = false

abbrev pub is_wide : Token → Bool
is_wide token = is_wide_kind token.kind

-- the first number that is no integer of the kind, by its place among the tokens
abbrev pub first_wide : Integers → List Token → Option ℕ
first_wide Unbounded tokens = None
first_wide Bits32 tokens = position is_wide tokens
