-- Where the first statement of a program is that is higher than 200.
use Rattle.std.specs.Prelude.{◌≡◌, ℕ, ◌+◌, ◌≤◌, ◌<◌, Option, Some, List, [], ◌++◌, length}
use Rattle.std.specs.List.{All}
use Rattle.c_lex.specs.declared.token.Token.{Token}
use Rattle.c_lex.specs.declared.token.TokenKind.TheVariants.{Mark}
use Rattle.c_lex.specs.declared.token.Mark.TheVariants.{LeftBrace}
use Rattle.c_ast.specs.declared.stmt.Stmt.{Stmt}
use Rattle.c_syntax.specs.Grammar.{kind_at}
use Rattle.c_syntax.specs.declared.tree.External.{External}
use Rattle.c_syntax.specs.Heights.{list_height}
use Rattle.c_syntax.specs.Statements.{BlockItem}
use Rattle.c_syntax.specs.Programs.{IsHeading, Parameters, Externals}
use Rattle.c_parse.specs.Programs.{IsLow}

-- items of a block one after the other, without the brace after them
pub data LeadingItems : List Token → ℕ → ℕ → List Stmt → Type 0 where
  no_items : (ts : List Token) → (i : ℕ) → LeadingItems ts i i []
  one_more : (ts : List Token) → (i j k : ℕ) → (xs ss : List Stmt) → BlockItem ts i j xs →
      LeadingItems ts j k ss → LeadingItems ts i k (xs ++ ss)

-- from the first of two places up to the second are items no higher than 200, and there a higher
-- one begins
pub record IsFirstHigh (ts : List Token) (i token : ℕ) : Type 0 where
  pub lower : List Stmt
  pub before : LeadingItems ts i token lower
  pub low : list_height lower ≤ 200
  pub item : List Stmt
  pub end : ℕ
  pub is_item : BlockItem ts token end item
  pub high : 200 < list_height item

-- a function begins at the first of two places; the first item of its body that is higher than 200,
-- at the second
pub record IsHighIn (ts : List Token) (i token : ℕ) : Type 0 where
  pub heading : IsHeading ts i
  pub params : Option (List (Option ℕ))
  pub opening : ℕ
  pub are_params : Parameters ts (i + 3) opening params
  pub opens : kind_at ts opening ≡ Some (Mark LeftBrace)
  pub in_body : IsFirstHigh ts (opening + 1) token

-- the list of tokens spells a program, and the first statement of a function's body that is higher
-- than 200 begins at the token: no function before that one has such a statement. A statement that
-- holds a higher one is higher itself, so the first is always one of the body's own items. The
-- declarations of one item begin at its `int`
pub record IsHigh (ts : List Token) (token : ℕ) : Type 0 where
  pub externals : List External
  pub spelled : Externals ts 0 (length ts) externals
  pub lower : List External
  pub at : ℕ
  pub before : Externals ts 0 at lower
  pub low : All IsLow lower
  pub in_function : IsHighIn ts at token
