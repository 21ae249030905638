-- What `parse` answers: the program that is spelled, or the first of the refusals that has its
-- cause.
use Rattle.std.specs.Prelude.{◌≡◌, ◌≢◌, ◌⊎◌, Bool, false, min, ℕ, Option, Some, None, List, [], ◌∷◌, length, nat_lt, if◌then◌else◌, Result, Ok, Err}
use Rattle.c_lex.specs.declared.token.Token.{Token}
use Rattle.c_ast.specs.declared.program.Function.{Function}
use Rattle.c_ast.specs.declared.program.Prototype.{Prototype}
use Rattle.c_ast.specs.declared.program.Program.{Program}
use Rattle.c_parse.specs.declared.error.ParseEnd.{ParseEnd}
use Rattle.c_parse.specs.declared.error.ParseEnd.TheVariants.{Syntax, TooDeep, TooManyParams, NoMemory, NotARowForm}
use Rattle.c_syntax.specs.Depth.{too_deep}
use Rattle.c_parse.specs.Places.{IsLost, IsProgram as SpellsProgram}
use Rattle.c_parse.specs.Programs.{Spells}
use Rattle.c_parse.specs.HighStatements.{IsHigh}

-- the name of the first function with more than 16 parameters, if there is one
abbrev pub long_function : List Function → Option ℕ
long_function [] = None
long_function (f ∷ fs) = if nat_lt 16 (length f.params) then Some f.name else long_function fs

-- whether a count of parameters is above 16; of empty parentheses it isn't
abbrev pub is_long : Option ℕ → Bool
is_long None = false
is_long (Some count) = nat_lt 16 count

-- the name of the first prototype with more than 16 parameters, if there is one
abbrev pub long_prototype : List Prototype → Option ℕ
long_prototype [] = None
long_prototype (p ∷ ps) = if is_long p.params then Some p.name else long_prototype ps

-- the one of two tokens that comes first in the text
abbrev pub earlier : Option ℕ → Option ℕ → Option ℕ
earlier None y = y
earlier (Some x) None = Some x
earlier (Some x) (Some y) = Some (min x y)

-- the name of the first function or prototype in the text with more than 16 parameters, if there is
-- one
abbrev pub too_many : Program → Option ℕ
too_many p = earlier (long_function p.functions) (long_prototype p.prototypes)

-- the place of a syntax error: the first token with which the list begins no program of any height,
-- or where a program is spelled, the first token of its first statement that is too high
abbrev pub IsSyntaxError : List Token → ℕ → Type 0
IsSyntaxError ts token = IsLost SpellsProgram ts token ⊎ IsHigh ts token

-- the answer for a list of tokens: the cases exclude each other, and out of memory alone is free
abbrev pub Answers : List Token → Result Program ParseEnd → Type 0
Answers ts (Ok p) = (too_deep 0 0 ts ≡ None) × Spells ts p × (too_many p ≡ None)
Answers ts (Err (TooDeep token)) = too_deep 0 0 ts ≡ Some token
Answers ts (Err (Syntax token)) =
    (too_deep 0 0 ts ≡ None) × ((p : Program) → Spells ts p → ⊥) × IsSyntaxError ts token
Answers ts (Err (TooManyParams token)) =
    (too_deep 0 0 ts ≡ None) × ((p : Program) × (Spells ts p × (too_many p ≡ Some token)))
Answers ts (Err NoMemory) = Unit {0}
Answers ts (Err NotARowForm) = ⊥

-- a list of tokens has at most one answer but out of memory
abbrev pub OneAnswer : Type 0
OneAnswer =
    (ts : List Token) → (r s : Result Program ParseEnd) → Answers ts r → Answers ts s →
    r ≢ Err NoMemory → s ≢ Err NoMemory → r ≡ s
