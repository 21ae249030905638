-- Where a list of tokens is lost: the first token with which no list that is spelled begins.
use Rattle.std.specs.Prelude.{◌≡◌, ℕ, ◌+◌, ◌≤◌, ◌<◌, Option, Some, None, List, length, take}
use Rattle.c_lex.specs.declared.token.Token.{Token}
use Rattle.c_ast.specs.declared.expr.Expr.{Expr}
use Rattle.c_syntax.specs.declared.tree.External.{External}
use Rattle.c_syntax.specs.Grammar.{Expression}
use Rattle.c_syntax.specs.Programs.{Externals}

-- the whole list spells an expression, of any height
abbrev pub IsExpression : List Token → Type 0
IsExpression ts = (e : Expr) × Expression ts 0 (length ts) e

-- the whole list spells a program, of any height
abbrev pub IsProgram : List Token → Type 0
IsProgram ts = (xs : List External) × Externals ts 0 (length ts) xs

-- some list that is spelled begins with the first k tokens of this one
abbrev pub Begins : (List Token → Type 0) → List Token → ℕ → Type 0
Begins IsSpelled ts k = (us : List Token) × ((take k us ≡ take k ts) × IsSpelled us)

-- The list isn't spelled, and k is the least number such that no list that begins with tokens 0 to
-- k is; it is the number of tokens where the whole list begins one that is spelled.
pub record IsLost (IsSpelled : List Token → Type 0) (ts : List Token) (k : ℕ) : Type 0 where
  pub within : k ≤ length ts
  pub begun : Begins IsSpelled ts k
  pub broken : k < length ts → Begins IsSpelled ts (k + 1) → ⊥
  pub unspelled : IsSpelled ts → ⊥

-- the answer: nothing where the list is spelled, else the place where it is lost
abbrev pub IsPlace : (List Token → Type 0) → List Token → Option ℕ → Type 0
IsPlace IsSpelled ts None = IsSpelled ts
IsPlace IsSpelled ts (Some k) = IsLost IsSpelled ts k
