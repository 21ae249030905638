-- Preconditions, and what `parse_pre` answers.
use Rattle.std.specs.Prelude.{◌≡◌, ◌≢◌, ◌⊎◌, true, false, ℕ, ◌≤◌, Some, None, List, length, Result, Ok, Err}
use Rattle.c_lex.specs.declared.token.Token.{Token}
use Rattle.c_ast.specs.declared.expr.Expr.{Expr}
use Rattle.c_ast.specs.Height.{expr_height}
use Rattle.c_ast.specs.RowForms.{is_row_form}
use Rattle.c_parse.specs.declared.error.ParseEnd.{ParseEnd}
use Rattle.c_parse.specs.declared.error.ParseEnd.TheVariants.{Syntax, TooDeep, TooManyParams, NoMemory, NotARowForm}
use Rattle.c_syntax.specs.Grammar.{Expression}
use Rattle.c_syntax.specs.Depth.{too_deep}
use Rattle.c_parse.specs.Places.{IsLost, IsExpression as SpellsExpression}

-- the whole list of tokens spells the expression, no higher than 200
abbrev pub IsExpression : List Token → Expr → Type 0
IsExpression ts e = Expression ts 0 (length ts) e × (expr_height e ≤ 200)

-- the place of a syntax error: the first token with which the list begins no expression of any
-- height, or 0 where an expression is spelled, which is too high
abbrev pub IsPreSyntaxError : List Token → ℕ → Type 0
IsPreSyntaxError ts token = IsLost SpellsExpression ts token ⊎ (SpellsExpression ts × (token ≡ 0))

-- the answer for a list of tokens: the cases exclude each other, and out of memory alone is free
abbrev pub PreAnswers : List Token → Result Expr ParseEnd → Type 0
PreAnswers ts (Ok e) = (too_deep 0 0 ts ≡ None) × (IsExpression ts e × (is_row_form e ≡ true))
PreAnswers ts (Err (TooDeep token)) = too_deep 0 0 ts ≡ Some token
PreAnswers ts (Err (Syntax token)) =
    (too_deep 0 0 ts ≡ None) × (((e : Expr) → IsExpression ts e → ⊥) × IsPreSyntaxError ts token)
PreAnswers ts (Err NotARowForm) =
    (too_deep 0 0 ts ≡ None) × ((e : Expr) × (IsExpression ts e × (is_row_form e ≡ false)))
PreAnswers ts (Err NoMemory) = Unit {0}
PreAnswers ts (Err (TooManyParams token)) = ⊥

-- a list of tokens spells at most one expression
abbrev pub OneExpression : Type 0
OneExpression =
    (ts : List Token) → (e f : Expr) → Expression ts 0 (length ts) e →
    Expression ts 0 (length ts) f → e ≡ f

-- a list of tokens has at most one answer but out of memory
abbrev pub OnePreAnswer : Type 0
OnePreAnswer =
    (ts : List Token) → (r s : Result Expr ParseEnd) → PreAnswers ts r → PreAnswers ts s →
    r ≢ Err NoMemory → s ≢ Err NoMemory → r ≡ s
