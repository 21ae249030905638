-- What the symbols of statements and programs that are no phrase of the grammar span.
use Rattle.std.proofs.Common.{◌≡◌, ℕ, ◌+◌, Option, Some, List}
use Rattle.c_lex.specs.declared.token.Token.{Token}
use Rattle.c_lex.specs.declared.token.TokenKind.TheVariants.{Name, Word, Mark}
use Rattle.c_lex.specs.declared.token.Keyword.TheVariants as word
use Rattle.c_lex.specs.declared.token.Mark.TheVariants as mark
use Rattle.c_ast.specs.declared.expr.BinOp.{BinOp}
use Rattle.c_ast.specs.declared.expr.Expr.{Expr}
use Rattle.c_ast.specs.declared.stmt.Stmt.{Stmt}
use Rattle.c_syntax.specs.Grammar.{kind_at, Expression}
use Rattle.c_syntax.specs.Statements.{changing_of, update, step, InitDeclarators, Statement, CompoundStatement}
use Rattle.c_syntax.specs.Programs.{Parameters, names_of}
use Rattle.c_parse.specs.declared.symbol.Naming.{Naming}
use Rattle.c_parse.specs.declared.symbol.Naming.TheVariants.{Full, Partial}

-- what comes after the statement of an `if`
pub data Alternative : List Token → ℕ → ℕ → Type 0 where
  without_else : (ts : List Token) → (i : ℕ) → (kind_at ts i ≡ Some (Word word.Else) → ⊥) →
      Alternative ts i i
  with_else : (ts : List Token) → (i j : ℕ) → (s : Stmt) → kind_at ts i ≡ Some (Word word.Else) →
      Statement ts (i + 1) j s → Alternative ts i j

-- what comes after the name that a change begins with
pub data AfterChanged : List Token → ℕ → ℕ → Type 0 where
  assigns : (ts : List Token) → (i j : ℕ) → (e : Expr) → kind_at ts i ≡ Some (Mark mark.Assign) →
      Expression ts (i + 1) j e → AfterChanged ts i j
  updates : (ts : List Token) → (i j : ℕ) → (op : BinOp) → (e : Expr) → changing_of (kind_at ts i) ≡
      Some (update op) → Expression ts (i + 1) j e → AfterChanged ts i j
  steps : (ts : List Token) → (i : ℕ) → (op : BinOp) → changing_of (kind_at ts i) ≡ Some (step op) →
      AfterChanged ts i (i + 1)

-- a comma and declarations of names, or the semicolon
pub data MoreNames : List Token → ℕ → ℕ → Type 0 where
  no_more_names : (ts : List Token) → (i : ℕ) → kind_at ts i ≡ Some (Mark mark.Semicolon) →
      MoreNames ts i (i + 1)
  more_names : (ts : List Token) → (i j : ℕ) → (ss : List Stmt) → kind_at ts i ≡
      Some (Mark mark.Comma) → InitDeclarators ts (i + 1) j ss → MoreNames ts i j

-- what comes after a declared name
pub data AfterDeclared : List Token → ℕ → ℕ → Type 0 where
  no_value : (ts : List Token) → (i j : ℕ) → MoreNames ts i j → AfterDeclared ts i j
  a_value : (ts : List Token) → (i j k : ℕ) → (e : Expr) → kind_at ts i ≡ Some (Mark mark.Assign) →
      Expression ts (i + 1) j e → MoreNames ts j k → AfterDeclared ts i k

-- the block of a function, or the semicolon of a prototype
pub data AfterHeading : List Token → ℕ → ℕ → Type 0 where
  a_body : (ts : List Token) → (i j : ℕ) → (body : List Stmt) → CompoundStatement ts i j body →
      AfterHeading ts i j
  no_body : (ts : List Token) → (i : ℕ) → kind_at ts i ≡ Some (Mark mark.Semicolon) →
      AfterHeading ts i (i + 1)

-- the same where each parameter has a name, else the semicolon alone
abbrev pub AfterParameters : Naming → List Token → ℕ → ℕ → Type 0
AfterParameters Full ts i j = AfterHeading ts i j
AfterParameters Partial ts i j = (kind_at ts i ≡ Some (Mark mark.Semicolon)) × (j ≡ i + 1)

mutual
  -- what comes after a parameter, to the end of the function or prototype
  pub data AfterParameter : Naming → List Token → ℕ → ℕ → Type 0 where
    no_more_parameters : (naming : Naming) → (ts : List Token) → (i j : ℕ) → kind_at ts i ≡
        Some (Mark mark.RightParen) → AfterParameters naming ts (i + 1) j →
        AfterParameter naming ts i j
    more_parameters : (naming : Naming) → (ts : List Token) → (i j : ℕ)
        → kind_at ts i ≡ Some (Mark mark.Comma) → kind_at ts (i + 1) ≡ Some (Word word.Int) →
        AfterInt naming ts (i + 1 + 1) j → AfterParameter naming ts i j

  -- what comes after the `int` of a parameter, to the end of the function or prototype
  pub data AfterInt : Naming → List Token → ℕ → ℕ → Type 0 where
    a_name : (naming : Naming) → (ts : List Token) → (i j : ℕ) → kind_at ts i ≡ Some Name →
        AfterParameter naming ts (i + 1) j → AfterInt naming ts i j
    no_name : (naming : Naming) → (ts : List Token) → (i j : ℕ) → (kind_at ts i ≡ Some Name → ⊥) →
        AfterParameter Partial ts i j → AfterInt naming ts i j

-- what comes after the opening parenthesis of a heading, to the end of the function or prototype
pub data AfterOpening : List Token → ℕ → ℕ → Type 0 where
  of_function : (ts : List Token) → (i j k : ℕ) → (ps : Option (List (Option ℕ))) →
      (names : List ℕ) → (body : List Stmt)
      → Parameters ts i j ps → names_of ps ≡ Some names → CompoundStatement ts j k body →
      AfterOpening ts i k
  of_prototype : (ts : List Token) → (i j : ℕ) → (ps : Option (List (Option ℕ))) →
      Parameters ts i j ps → kind_at ts j ≡ Some (Mark mark.Semicolon) → AfterOpening ts i (j + 1)
