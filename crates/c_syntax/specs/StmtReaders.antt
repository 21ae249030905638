-- What the readers of statements promise of their loops and parts.
use Rattle.std.specs.Prelude.{◌≡◌, ℕ, ◌+◌, ◌≤◌, Option, Some, None, List, ◌++◌}
use Rattle.c_lex.specs.declared.token.Token.{Token}
use Rattle.c_lex.specs.declared.token.TokenKind.TheVariants.{Word, Mark}
use Rattle.c_lex.specs.declared.token.Keyword.TheVariants as word
use Rattle.c_lex.specs.declared.token.Mark.{Mark as TheMark}
use Rattle.c_lex.specs.declared.token.Mark.TheVariants.{LeftBrace, Semicolon}
use Rattle.c_ast.specs.declared.expr.BinOp.{BinOp}
use Rattle.c_ast.specs.declared.stmt.Stmt.{Stmt}
use Rattle.c_syntax.specs.declared.read.Span.{Span}
use Rattle.c_syntax.specs.Grammar.{kind_at}
use Rattle.c_syntax.specs.Statements.{updated, unit}
use Rattle.c_syntax.specs.Heights.{list_height}

-- a list of statements while it is read, each no higher than `room`: those found go on to whatever
-- the whole can be
pub record Collected (room : ℕ) (Phrase : ℕ → List Stmt → Type 0)
    (Remaining : ℕ → ℕ → List Stmt → Type 0) (bound at : ℕ) (found : List Stmt) (end : ℕ) : Type 0
  where
    pub forward : (j : ℕ) → (ss : List Stmt) → Remaining end j ss → Phrase j (found ++ ss)
    pub only : (j : ℕ) → (all : List Stmt) → Phrase j all → list_height all ≤ room →
        (ss : List Stmt) × ((all ≡ found ++ ss) × Remaining end j ss)
    pub low : list_height found ≤ room
    pub begun : at ≤ end
    pub within : end ≤ bound

-- no block, `if` or loop begins at a place
pub record IsSimple (ts : List Token) (at : ℕ) : Type 0 where
  pub no_block : kind_at ts at ≡ Some (Mark LeftBrace) → ⊥
  pub no_if : kind_at ts at ≡ Some (Word word.If) → ⊥
  pub no_while : kind_at ts at ≡ Some (Word word.While) → ⊥
  pub no_do : kind_at ts at ≡ Some (Word word.Do) → ⊥
  pub no_for : kind_at ts at ≡ Some (Word word.For) → ⊥

-- the statement of one keyword at a place is read where a semicolon is after it
abbrev pub Jumps : List Token → ℕ → Stmt → Option (Span Stmt) → Type 0
Jumps ts at value None = kind_at ts (at + 1) ≡ Some (Mark Semicolon) → ⊥
Jumps ts at value (Some x) =
    (kind_at ts (at + 1) ≡ Some (Mark Semicolon)) × ((x.value ≡ value) × (x.end ≡ at + 2))

-- a step of a name by an operator, where the mark is at a place
pub record IsStep (m : TheMark) (ts : List Token) (name : ℕ) (op : BinOp) (at j : ℕ) (s : Stmt) :
    Type 0 where
  pub marked : kind_at ts at ≡ Some (Mark m)
  pub behind : j ≡ at + 1
  pub is : s ≡ updated name op unit
