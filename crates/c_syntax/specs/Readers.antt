-- What a reader of one phrase promises: what it found is spelled from its place on, and whatever
-- else is spelled there, ends where no operator goes on and is low enough, is what it found.
use Rattle.std.specs.Prelude.{◌≡◌, ℕ, suc, ◌≤◌, ◌<◌, Option, Some, None, List, ◌++◌, length, map}
use Rattle.c_lex.specs.declared.token.Token.{Token}
use Rattle.c_lex.specs.declared.token.TokenKind.TheVariants.{Mark}
use Rattle.c_lex.specs.declared.token.Mark.TheVariants.{LeftParen, Question}
use Rattle.c_ast.specs.declared.expr.BinOp.{BinOp}
use Rattle.c_ast.specs.declared.expr.Expr.{Expr}
use Rattle.c_ast.specs.Height.{greatest, expr_height}
use Rattle.c_syntax.specs.declared.read.Read.{Read}
use Rattle.c_syntax.specs.declared.read.Span.{Span}
use Rattle.c_syntax.specs.declared.read.ReadArguments.{ReadArguments}
use Rattle.c_syntax.specs.Grammar.{kind_at, infixed, binary_of, levels, BinaryAt, Operands, Arguments, Following}

-- the token at a place goes on with no expression of the lowest n levels; beyond all levels of
-- operators comes `?`
pub record Stops (ts : List Token) (n i : ℕ) : Type 0 where
  pub operator : (m : ℕ) → (op : BinOp) → binary_of (kind_at ts i) ≡ Some (infixed m op) → n ≤ m
  pub choice : kind_at ts i ≡ Some (Mark Question) → n ≤ levels
  pub call : kind_at ts i ≡ Some (Mark LeftParen) → ⊥

-- what was read is spelled, with its height, and takes at least one token
pub record IsFound (Spells : ℕ → ℕ → Expr → Type 0) (ts : List Token) (at room : ℕ) (x : Read) :
    Type 0 where
  pub spelled : Spells at x.end x.tree
  pub high : x.height ≡ expr_height x.tree
  pub fits : x.height ≤ room
  pub further : at < x.end
  pub within : x.end ≤ length ts

-- where something was read, that is it
abbrev pub Found : (ℕ → ℕ → Expr → Type 0) → List Token → ℕ → ℕ → Option Read → Type 0
Found Spells ts at room None = Unit {0}
Found Spells ts at room (Some x) = IsFound Spells ts at room x

-- the tree that ends at j is what was read
abbrev pub IsRead : Option Read → ℕ → Expr → Type 0
IsRead None j e = ⊥
IsRead (Some x) j e = (x.end ≡ j) × (x.tree ≡ e)

-- a reader's answer: `found` and `only`, for trees no higher than `room` and places at which the
-- lowest n levels stop
pub record Reads (Spells : ℕ → ℕ → Expr → Type 0) (ts : List Token) (n at room : ℕ)
    (r : Option Read) : Type 0 where
  pub found : Found Spells ts at room r
  pub only : (j : ℕ) → (e : Expr) → Spells at j e → Stops ts n j → expr_height e ≤ room →
      IsRead r j e

-- a chain of operators of level n while it is read: the tree up to `end` goes on to whatever the
-- whole can be
pub record Turning (ts : List Token) (n at room : ℕ) (x : Read) : Type 0 where
  pub forward : (j : ℕ) → (e : Expr) → Operands ts n x.tree x.end j e → BinaryAt ts (suc n) at j e
  pub only : (j : ℕ) → (e : Expr) → BinaryAt ts (suc n) at j e → Stops ts (suc n) j →
      expr_height e ≤ room → Operands ts n x.tree x.end j e
  pub high : x.height ≡ expr_height x.tree
  pub fits : x.height ≤ room
  pub further : at < x.end
  pub within : x.end ≤ length ts

-- arguments that were read are spelled, the highest of them is as high as was counted, and they
-- take at least one token
pub record IsFoundList (ts : List Token) (at room : ℕ) (x : ReadArguments) : Type 0 where
  pub spelled : Arguments ts at x.end x.arguments
  pub high : x.height ≡ greatest (map expr_height x.arguments)
  pub fits : x.height ≤ room
  pub further : at < x.end
  pub within : x.end ≤ length ts

-- where arguments were read, that is it
abbrev pub FoundList : List Token → ℕ → ℕ → Option ReadArguments → Type 0
FoundList ts at room None = Unit {0}
FoundList ts at room (Some x) = IsFoundList ts at room x

-- the arguments that end at j are what was read
abbrev pub IsReadList : Option ReadArguments → ℕ → List Expr → Type 0
IsReadList None j es = ⊥
IsReadList (Some x) j es = (x.end ≡ j) × (x.arguments ≡ es)

-- a reader's answer for arguments no higher than `room`
pub record ReadsList (ts : List Token) (at room : ℕ) (r : Option ReadArguments) : Type 0 where
  pub found : FoundList ts at room r
  pub only : (j : ℕ) → (es : List Expr) → Arguments ts at j es → greatest (map expr_height es) ≤
      room → IsReadList r j es

-- arguments while they are read, after the first: those found go on to whatever the whole can be
pub record Passing (ts : List Token) (at room : ℕ) (found : List Expr) (end height : ℕ) : Type 0
  where
    pub forward : (j : ℕ) → (es : List Expr) → Following ts end j es →
        Arguments ts at j (found ++ es)
    pub only : (j : ℕ) → (all : List Expr) → Arguments ts at j all →
        greatest (map expr_height all) ≤
        room
        → (es : List Expr) × ((all ≡ found ++ es) × Following ts end j es)
    pub high : height ≡ greatest (map expr_height found)
    pub fits : height ≤ room
    pub further : at < end
    pub within : end ≤ length ts

-- what was read is spelled and takes at least one token
pub record IsGiven {A : Type 0} (Spells : ℕ → A → Type 0) (at bound : ℕ) (x : Span A) : Type 0 where
  pub spelled : Spells x.end x.value
  pub further : at < x.end
  pub within : x.end ≤ bound

-- where something was read, that is it
abbrev pub Given : {A : Type 0} → (ℕ → A → Type 0) → ℕ → ℕ → Option (Span A) → Type 0
Given Spells at bound None = Unit {0}
Given Spells at bound (Some x) = IsGiven Spells at bound x

-- the value that ends at j is what was read
abbrev pub IsThat : {A : Type 0} → Option (Span A) → ℕ → A → Type 0
IsThat None j value = ⊥
IsThat (Some x) j value = (x.end ≡ j) × (x.value ≡ value)

-- a reader's answer where nothing but the phrase itself says where it ends
pub record Gives {A : Type 0} (Spells : ℕ → A → Type 0) (at bound : ℕ) (r : Option (Span A)) : Type
    0 where
  pub found : Given Spells at bound r
  pub only : (j : ℕ) → (value : A) → Spells j value → IsThat r j value

-- what is spelled, and no higher than `room`
abbrev pub IsNoHigher : {A : Type 0} → (A → ℕ) → ℕ → (ℕ → A → Type 0) → ℕ → A → Type 0
IsNoHigher height room Spells j x = Spells j x × (height x ≤ room)
