-- The 30 marks (punctuators of the subset: ISO/IEC 9899:1999, 6.4.6), and which of them two bytes
-- or one byte are.
use Rattle.std.specs.Prelude.{ℕ, ◌&&◌, ◌==◌, if◌then◌else◌, List, Option, Some, None, codes}
use Rattle.c_lex.specs.declared.token.Mark.{Mark}
use Rattle.c_lex.specs.declared.token.Mark.TheVariants.{LeftParen, RightParen, LeftBrace, RightBrace, Comma, Semicolon, Question, Colon, Assign, EqualEqual, NotEqual, Less, LessEqual, Greater, GreaterEqual, Plus, Minus, Star, Slash, Percent, Not, AndAnd, OrOr, PlusAssign, MinusAssign, StarAssign, SlashAssign, PercentAssign, PlusPlus, MinusMinus}

-- how each mark is written
abbrev pub spelling : Mark → List ℕ
spelling LeftParen = codes "("
spelling RightParen = codes ")"
spelling LeftBrace = codes "{"
spelling RightBrace = codes "}"
spelling Comma = codes ","
spelling Semicolon = codes ";"
spelling Question = codes "?"
spelling Colon = codes ":"
spelling Assign = codes "="
spelling EqualEqual = codes "=="
spelling NotEqual = codes "!="
spelling Less = codes "<"
spelling LessEqual = codes "<="
spelling Greater = codes ">"
spelling GreaterEqual = codes ">="
spelling Plus = codes "+"
spelling Minus = codes "-"
spelling Star = codes "*"
spelling Slash = codes "/"
spelling Percent = codes "%"
spelling Not = codes "!"
spelling AndAnd = codes "&&"
spelling OrOr = codes "||"
spelling PlusAssign = codes "+="
spelling MinusAssign = codes "-="
spelling StarAssign = codes "*="
spelling SlashAssign = codes "/="
spelling PercentAssign = codes "%="
spelling PlusPlus = codes "++"
spelling MinusMinus = codes "--"

-- the mark of two bytes that these are, if any
abbrev pub two_mark : ℕ → ℕ → Option Mark
two_mark x y =
    if x == 61 && y == 61 then Some EqualEqual
    else (if x == 33 && y == 61 then Some NotEqual
    else (if x == 60 && y == 61 then Some LessEqual
    else (if x == 62 && y == 61 then Some GreaterEqual
    else (if x == 38 && y == 38 then Some AndAnd
    else (if x == 124 && y == 124 then Some OrOr
    else (if x == 43 && y == 61 then Some PlusAssign
    else (if x == 45 && y == 61 then Some MinusAssign
    else (if x == 42 && y == 61 then Some StarAssign
    else (if x == 47 && y == 61 then Some SlashAssign
    else (if x == 37 && y == 61 then Some PercentAssign
    else (if x == 43 && y == 43 then Some PlusPlus
    else (if x == 45 && y == 45 then Some MinusMinus else None))))))))))))

-- the mark of one byte that this is, if any
abbrev pub one_mark : ℕ → Option Mark
one_mark x =
    if x == 40 then Some LeftParen
    else (if x == 41 then Some RightParen
    else (if x == 123 then Some LeftBrace
    else (if x == 125 then Some RightBrace
    else (if x == 44 then Some Comma
    else (if x == 59 then Some Semicolon
    else (if x == 63 then Some Question
    else (if x == 58 then Some Colon
    else (if x == 61 then Some Assign
    else (if x == 60 then Some Less
    else (if x == 62 then Some Greater
    else (if x == 43 then Some Plus
    else (if x == 45 then Some Minus
    else (if x == 42 then Some Star
    else (if x == 47 then Some Slash
    else (if x == 37 then Some Percent
    else (if x == 33 then Some Not else None))))))))))))))))
