-- The grammar of functions, prototypes and programs.
--
--     program    = { function | prototype }
--     function   = "int" NAME "(" [ "void" | "int" NAME { "," "int" NAME } ] ")" block
--     prototype  = "int" NAME "(" [ "void" | "int" [ NAME ] { "," "int" [ NAME ] } ] ")" ";"
use Rattle.std.specs.Prelude.{◌≡◌, ℕ, ◌+◌, Option, Some, None, List, [], ◌∷◌, length}
use Rattle.std.specs.Option.{option_map}
use Rattle.c_lex.specs.declared.token.Token.{Token}
use Rattle.c_lex.specs.declared.token.TokenKind.TheVariants.{Name, Word, Mark}
use Rattle.c_lex.specs.declared.token.Keyword.TheVariants.{Int, Void}
use Rattle.c_lex.specs.declared.token.Mark.TheVariants.{LeftParen, RightParen, Comma, Semicolon}
use Rattle.c_ast.specs.declared.stmt.Stmt.{Stmt}
use Rattle.c_syntax.specs.declared.tree.External.{External}
use Rattle.c_syntax.specs.declared.tree.External.TheVariants.{Defined, Declared}
use Rattle.c_syntax.specs.Grammar.{kind_at}
use Rattle.c_syntax.specs.Statements.{CompoundStatement}

-- `void` and a closing parenthesis are at a place
abbrev pub IsVoid : List Token → ℕ → Type 0
IsVoid ts i = (kind_at ts i ≡ Some (Word Void)) × (kind_at ts (i + 1) ≡ Some (Mark RightParen))

-- `int`, a name and an opening parenthesis are at a place
abbrev pub IsHeading : List Token → ℕ → Type 0
IsHeading ts i =
    (kind_at ts i ≡ Some (Word Int)) × ((kind_at ts (i + 1) ≡ Some Name) ×
    (kind_at ts (i + 2) ≡ Some (Mark LeftParen)))

-- one parameter, by its name if it has one
pub data Parameter : List Token → ℕ → ℕ → Option ℕ → Type 0 where
  named : (ts : List Token) → (i : ℕ) → kind_at ts i ≡ Some (Word Int) → kind_at ts (i + 1) ≡
      Some Name → Parameter ts i (i + 2) (Some (i + 1))
  nameless : (ts : List Token) → (i : ℕ) → kind_at ts i ≡ Some (Word Int) →
      (kind_at ts (i + 1) ≡ Some Name → ⊥) → Parameter ts i (i + 1) None

-- parameters, at least one, up to and with the closing parenthesis
pub data Listed : List Token → ℕ → ℕ → List (Option ℕ) → Type 0 where
  last_parameter : (ts : List Token) → (i j : ℕ) → (o : Option ℕ) → Parameter ts i j o →
      kind_at ts j ≡ Some (Mark RightParen) → Listed ts i (j + 1) (o ∷ [])
  next_parameter : (ts : List Token) → (i j k : ℕ) → (o : Option ℕ) → (os : List (Option ℕ))
      → Parameter ts i j o → kind_at ts j ≡ Some (Mark Comma) → Listed ts (j + 1) k os →
      Listed ts i k (o ∷ os)

-- what the parentheses of a heading hold, from after the opening one up to and with the closing
-- one; none where they are empty
pub data Parameters : List Token → ℕ → ℕ → Option (List (Option ℕ)) → Type 0 where
  unsaid : (ts : List Token) → (i : ℕ) → kind_at ts i ≡ Some (Mark RightParen) →
      Parameters ts i (i + 1) None
  void : (ts : List Token) → (i : ℕ) → IsVoid ts i → Parameters ts i (i + 2) (Some [])
  listed : (ts : List Token) → (i j : ℕ) → (os : List (Option ℕ)) → Listed ts i j os →
      Parameters ts i j (Some os)

-- the names of parameters, where each has one
abbrev pub all_names : List (Option ℕ) → Option (List ℕ)
all_names [] = Some []
all_names (None ∷ os) = None
all_names (Some name ∷ os) = option_map (λ names. name ∷ names) (all_names os)

-- the names of the parameters of a function, where each has one; empty parentheses hold none
abbrev pub names_of : Option (List (Option ℕ)) → Option (List ℕ)
names_of None = Some []
names_of (Some os) = all_names os

-- a function or a prototype; the name and the parameters of a function are the numbers of their
-- tokens
pub data ExternalDeclaration : List Token → ℕ → ℕ → External → Type 0 where
  function : (ts : List Token) → (i j k : ℕ) → (ps : Option (List (Option ℕ))) → (names : List ℕ) →
      (body : List Stmt)
      → IsHeading ts i → Parameters ts (i + 3) j ps → names_of ps ≡ Some names →
      CompoundStatement ts j k body
      → ExternalDeclaration ts i k (Defined (record { name = i + 1; params = names; body = body }))
  prototype : (ts : List Token) → (i j : ℕ) → (ps : Option (List (Option ℕ)))
      → IsHeading ts i → Parameters ts (i + 3) j ps → kind_at ts j ≡ Some (Mark Semicolon)
      → ExternalDeclaration ts i (j + 1) (Declared
      (record { name = i + 1; params = option_map length ps }))

-- functions and prototypes one after the other
pub data Externals : List Token → ℕ → ℕ → List External → Type 0 where
  finished : (ts : List Token) → (i : ℕ) → Externals ts i i []
  followed : (ts : List Token) → (i j k : ℕ) → (x : External) → (xs : List External)
      → ExternalDeclaration ts i j x → Externals ts j k xs → Externals ts i k (x ∷ xs)
