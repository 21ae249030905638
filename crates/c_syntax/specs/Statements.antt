-- The grammar of statements.
--
--     block     = "{" { item } "}"
--     item      = declare | statement
--     declare   = "int" NAME [ "=" expr ] { "," NAME [ "=" expr ] } ";"
--     statement = block | ";" | change ";"
--               | "if" "(" expr ")" statement [ "else" statement ]
--               | "while" "(" expr ")" statement
--               | "do" statement "while" "(" expr ")" ";"
--               | "for" "(" ( declare | [ change ] ";" ) [ expr ] ";" [ change ] ")" statement
--               | "break" ";" | "continue" ";" | "return" expr ";"
--     change    = NAME ( "=" | "+=" | "-=" | "*=" | "/=" | "%=" ) expr
--               | NAME "++" | NAME "--" | "++" NAME | "--" NAME
--
-- An `else` belongs to the nearest `if`. `x op= e` is `x = x op (e)`, and `x++` and `++x` are
-- `x = x + 1`. A declaration of several names is several declarations in order.
use Rattle.std.specs.Prelude.{◌≡◌, ◌⊎◌, ℕ, ◌+◌, ℤ, pos, Option, Some, None, List, [], ◌∷◌, ◌++◌}
use Rattle.c_lex.specs.declared.token.Token.{Token}
use Rattle.c_lex.specs.declared.token.TokenKind.{TokenKind}
use Rattle.c_lex.specs.declared.token.TokenKind.TheVariants.{Name, Word, Mark}
use Rattle.c_lex.specs.declared.token.Keyword.TheVariants as word
use Rattle.c_lex.specs.declared.token.Mark.{Mark as TheMark}
use Rattle.c_lex.specs.declared.token.Mark.TheVariants as mark
use Rattle.c_ast.specs.declared.expr.BinOp.{BinOp}
use Rattle.c_ast.specs.declared.expr.BinOp.TheVariants as binary
use Rattle.c_ast.specs.declared.expr.Expr.{Expr}
use Rattle.c_ast.specs.declared.expr.Expr.TheVariants.{Lit, Var, Binary}
use Rattle.c_ast.specs.declared.stmt.Stmt.{Stmt}
use Rattle.c_ast.specs.declared.stmt.Stmt.TheVariants.{Empty, Declare, Assign, If, While, DoWhile, For, Break, Continue, Return, Block}
use Rattle.c_syntax.specs.declared.tree.Head.{Head}
use Rattle.c_syntax.specs.Grammar.{kind_at, Expression, UpTo, Test}

-- a mark by which a name is changed: `op=`, or `++` and `--`
pub data Changing : Type 0 where
  update : (op : BinOp) → Changing
  step : (op : BinOp) → Changing

-- the table of these marks
abbrev pub changing_of : Option TokenKind → Option Changing
changing_of (Some (Mark mark.PlusAssign)) = Some (update binary.Add)
changing_of (Some (Mark mark.MinusAssign)) = Some (update binary.Sub)
changing_of (Some (Mark mark.StarAssign)) = Some (update binary.Mul)
changing_of (Some (Mark mark.SlashAssign)) = Some (update binary.Div)
changing_of (Some (Mark mark.PercentAssign)) = Some (update binary.Rem)
changing_of (Some (Mark mark.PlusPlus)) = Some (step binary.Add)
changing_of (Some (Mark mark.MinusMinus)) = Some (step binary.Sub)
changing_of _ = None

-- the literal 1
abbrev pub unit : Expr
unit = let one : ℤ = pos 1 in Lit one

-- the name at a place becomes the result of an operator on itself and a value
abbrev pub updated : ℕ → BinOp → Expr → Stmt
updated name op value = Assign name (Binary op (Var name) value)

-- a change, up to and with the mark after it
pub data Change : TheMark → List Token → ℕ → ℕ → Stmt → Type 0 where
  by_value : (m : TheMark) → (ts : List Token) → (i j : ℕ) → (e : Expr)
      → kind_at ts i ≡ Some Name → kind_at ts (i + 1) ≡ Some (Mark mark.Assign) →
      UpTo m ts (i + 2) j e → Change m ts i j (Assign i e)
  by_update : (m : TheMark) → (ts : List Token) → (i j : ℕ) → (op : BinOp) → (e : Expr)
      → kind_at ts i ≡ Some Name → changing_of (kind_at ts (i + 1)) ≡ Some (update op) →
      UpTo m ts (i + 2) j e → Change m ts i j (updated i op e)
  by_step_after : (m : TheMark) → (ts : List Token) → (i : ℕ) → (op : BinOp)
      → kind_at ts i ≡ Some Name → changing_of (kind_at ts (i + 1)) ≡ Some (step op) →
      kind_at ts (i + 2) ≡ Some (Mark m) → Change m ts i (i + 3) (updated i op unit)
  by_step_before : (m : TheMark) → (ts : List Token) → (i : ℕ) → (op : BinOp)
      → changing_of (kind_at ts i) ≡ Some (step op) → kind_at ts (i + 1) ≡ Some Name →
      kind_at ts (i + 2) ≡ Some (Mark m) → Change m ts i (i + 3) (updated (i + 1) op unit)

-- a comma or a semicolon is at a place
abbrev pub IsParted : List Token → ℕ → Type 0
IsParted ts i =
    (kind_at ts i ≡ Some (Mark mark.Comma)) ⊎ (kind_at ts i ≡ Some (Mark mark.Semicolon))

-- the declaration of one name, before a comma or a semicolon
pub data InitDeclarator : List Token → ℕ → ℕ → Stmt → Type 0 where
  bare : (ts : List Token) → (i : ℕ) → kind_at ts i ≡ Some Name → IsParted ts (i + 1) →
      InitDeclarator ts i (i + 1) (Declare i None)
  valued : (ts : List Token) → (i j : ℕ) → (e : Expr)
      → kind_at ts i ≡ Some Name → kind_at ts (i + 1) ≡ Some (Mark mark.Assign) →
      Expression ts (i + 2) j e → IsParted ts j → InitDeclarator ts i j (Declare i (Some e))

-- declarations of names, up to and with the semicolon
pub data InitDeclarators : List Token → ℕ → ℕ → List Stmt → Type 0 where
  last_name : (ts : List Token) → (i j : ℕ) → (s : Stmt) → InitDeclarator ts i j s → kind_at ts j ≡
      Some (Mark mark.Semicolon) → InitDeclarators ts i (j + 1) (s ∷ [])
  next_name : (ts : List Token) → (i j k : ℕ) → (s : Stmt) → (ss : List Stmt)
      → InitDeclarator ts i j s → kind_at ts j ≡ Some (Mark mark.Comma) →
      InitDeclarators ts (j + 1) k ss → InitDeclarators ts i k (s ∷ ss)

-- a declaration
abbrev pub Declaration : List Token → ℕ → ℕ → List Stmt → Type 0
Declaration ts i j ss = (kind_at ts i ≡ Some (Word word.Int)) × InitDeclarators ts (i + 1) j ss

-- the part of a `for` before its test, with the semicolon
pub data ForInit : List Token → ℕ → ℕ → List Stmt → Type 0 where
  no_start : (ts : List Token) → (i : ℕ) → kind_at ts i ≡ Some (Mark mark.Semicolon) →
      ForInit ts i (i + 1) []
  start_change : (ts : List Token) → (i j : ℕ) → (s : Stmt) → Change mark.Semicolon ts i j s →
      ForInit ts i j (s ∷ [])
  start_names : (ts : List Token) → (i j : ℕ) → (ss : List Stmt) → Declaration ts i j ss →
      ForInit ts i j ss

-- the test of a `for`, with the semicolon
pub data ForTest : List Token → ℕ → ℕ → Option Expr → Type 0 where
  no_test : (ts : List Token) → (i : ℕ) → kind_at ts i ≡ Some (Mark mark.Semicolon) →
      ForTest ts i (i + 1) None
  a_test : (ts : List Token) → (i j : ℕ) → (e : Expr) → UpTo mark.Semicolon ts i j e →
      ForTest ts i j (Some e)

-- the change after the test of a `for`, with the closing parenthesis
pub data ForStep : List Token → ℕ → ℕ → Option Stmt → Type 0 where
  no_change : (ts : List Token) → (i : ℕ) → kind_at ts i ≡ Some (Mark mark.RightParen) →
      ForStep ts i (i + 1) None
  a_change : (ts : List Token) → (i j : ℕ) → (s : Stmt) → Change mark.RightParen ts i j s →
      ForStep ts i j (Some s)

-- the head of a `for`, from its opening parenthesis up to and with the closing one
pub record ForHead (ts : List Token) (i l : ℕ) (h : Head) : Type 0 where
  pub opens : kind_at ts i ≡ Some (Mark mark.LeftParen)
  pub middle : ℕ
  pub starts : ForInit ts (i + 1) middle h.first
  pub last : ℕ
  pub continues : ForTest ts middle last h.test
  pub advances : ForStep ts last l h.change

mutual
  -- a statement
  pub data Statement : List Token → ℕ → ℕ → Stmt → Type 0 where
    nothing : (ts : List Token) → (i : ℕ) → kind_at ts i ≡ Some (Mark mark.Semicolon) →
        Statement ts i (i + 1) Empty
    block : (ts : List Token) → (i j : ℕ) → (ss : List Stmt) → kind_at ts i ≡
        Some (Mark mark.LeftBrace) → BlockItems ts (i + 1) j ss → Statement ts i j (Block ss)
    changes : (ts : List Token) → (i j : ℕ) → (s : Stmt) → Change mark.Semicolon ts i j s →
        Statement ts i j s
    if_alone : (ts : List Token) → (i j k : ℕ) → (e : Expr) → (s : Stmt)
        → kind_at ts i ≡ Some (Word word.If) → Test ts (i + 1) j e → Statement ts j k s
        → (kind_at ts k ≡ Some (Word word.Else) → ⊥) → Statement ts i k (If e s None)
    if_else : (ts : List Token) → (i j k l : ℕ) → (e : Expr) → (s t : Stmt)
        → kind_at ts i ≡ Some (Word word.If) → Test ts (i + 1) j e → Statement ts j k s
        → kind_at ts k ≡ Some (Word word.Else) → Statement ts (k + 1) l t →
        Statement ts i l (If e s (Some t))
    while_loop : (ts : List Token) → (i j k : ℕ) → (e : Expr) → (s : Stmt)
        → kind_at ts i ≡ Some (Word word.While) → Test ts (i + 1) j e → Statement ts j k s →
        Statement ts i k (While e s)
    do_loop : (ts : List Token) → (i j k : ℕ) → (s : Stmt) → (e : Expr)
        → kind_at ts i ≡ Some (Word word.Do) → Statement ts (i + 1) j s
        → kind_at ts j ≡ Some (Word word.While) → Test ts (j + 1) k e → kind_at ts k ≡
        Some (Mark mark.Semicolon) → Statement ts i (k + 1) (DoWhile s e)
    for_loop : (ts : List Token) → (i j k : ℕ) → (h : Head) → (s : Stmt)
        → kind_at ts i ≡ Some (Word word.For) → ForHead ts (i + 1) j h → Statement ts j k s →
        Statement ts i k (For h.first h.test h.change s)
    breaks : (ts : List Token) → (i : ℕ) → kind_at ts i ≡ Some (Word word.Break) →
        kind_at ts (i + 1) ≡ Some (Mark mark.Semicolon) → Statement ts i (i + 2) (Break i)
    continues : (ts : List Token) → (i : ℕ) → kind_at ts i ≡ Some (Word word.Continue) →
        kind_at ts (i + 1) ≡ Some (Mark mark.Semicolon) → Statement ts i (i + 2) (Continue i)
    returns : (ts : List Token) → (i j : ℕ) → (e : Expr) → kind_at ts i ≡ Some (Word word.Return) →
        UpTo mark.Semicolon ts (i + 1) j e → Statement ts i j (Return e)

  -- a statement or a declaration in a block
  pub data BlockItem : List Token → ℕ → ℕ → List Stmt → Type 0 where
    statement : (ts : List Token) → (i j : ℕ) → (s : Stmt) → Statement ts i j s →
        BlockItem ts i j (s ∷ [])
    declaration : (ts : List Token) → (i j : ℕ) → (ss : List Stmt) → Declaration ts i j ss →
        BlockItem ts i j ss

  -- the items of a block, from after its opening brace up to and with the closing one
  pub data BlockItems : List Token → ℕ → ℕ → List Stmt → Type 0 where
    closed : (ts : List Token) → (i : ℕ) → kind_at ts i ≡ Some (Mark mark.RightBrace) →
        BlockItems ts i (i + 1) []
    item : (ts : List Token) → (i j k : ℕ) → (xs ss : List Stmt) → BlockItem ts i j xs →
        BlockItems ts j k ss → BlockItems ts i k (xs ++ ss)

-- a block, by its items
abbrev pub CompoundStatement : List Token → ℕ → ℕ → List Stmt → Type 0
CompoundStatement ts i j ss =
    (kind_at ts i ≡ Some (Mark mark.LeftBrace)) × BlockItems ts (i + 1) j ss
