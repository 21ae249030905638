-- What the readers of functions, prototypes and programs promise.
use Rattle.std.specs.Prelude.{◌≡◌, ℕ, ◌≤◌, ◌<◌, Option, List, [], ◌∷◌, ◌++◌, length}
use Rattle.std.specs.List.{All}
use Rattle.c_lex.specs.declared.token.Token.{Token}
use Rattle.c_ast.specs.declared.program.Program.{Program}
use Rattle.c_ast.specs.declared.stmt.Stmt.{Stmt}
use Rattle.c_syntax.specs.declared.tree.External.{External}
use Rattle.c_syntax.specs.declared.tree.External.TheVariants.{Defined, Declared}
use Rattle.c_parse.specs.declared.read.ReadProgram.{ReadProgram}
use Rattle.c_parse.specs.declared.read.ReadProgram.TheVariants.{Spelled, Stopped}
use Rattle.c_syntax.specs.Heights.{list_height}
use Rattle.c_syntax.specs.Statements.{BlockItems}
use Rattle.c_syntax.specs.Programs.{Listed, ExternalDeclaration, Externals}
use Rattle.c_parse.specs.HighStatements.{LeadingItems}
use Rattle.c_parse.specs.Programs.{program_of, IsLow, Spells}

-- a function or a prototype of which no statement is higher than 200
abbrev pub LowExternal : List Token → ℕ → ℕ → External → Type 0
LowExternal ts i j x = ExternalDeclaration ts i j x × IsLow x

-- a list of parameters while it is read: those found go on to whatever the whole can be
pub record Listing (ts : List Token) (at : ℕ) (found : List (Option ℕ)) (end : ℕ) : Type 0 where
  pub forward : (j : ℕ) → (os : List (Option ℕ)) → Listed ts end j os → Listed ts at j (found ++ os)
  pub only : (j : ℕ) → (all : List (Option ℕ)) → Listed ts at j all → (os : List (Option ℕ)) ×
      ((all ≡ found ++ os) × Listed ts end j os)
  pub begun : at ≤ end
  pub within : end ≤ length ts

-- a program with one function or prototype more
abbrev pub added : Program → External → Program
added p (Defined f) = record { functions = p.functions ++ f ∷ []; prototypes = p.prototypes }
added p (Declared q) = record { functions = p.functions; prototypes = p.prototypes ++ q ∷ [] }

-- a program while it is read: what was found goes on to whatever the whole can be
pub record Collecting (ts : List Token) (p : Program) (at : ℕ) : Type 0 where
  pub found : List External
  pub is : p ≡ program_of found
  pub forward : (xs : List External) → Externals ts at (length ts) xs →
      Externals ts 0 (length ts) (found ++ xs)
  pub spelled : Externals ts 0 at found
  pub low : All IsLow found
  pub only : (all : List External) → Externals ts 0 (length ts) all → All IsLow all
      → (xs : List External) × ((all ≡ found ++ xs) ×
      (Externals ts at (length ts) xs × All IsLow xs))
  pub within : at ≤ length ts
  pub few : length p.functions ≤ at

-- no program of low statements is spelled: functions and prototypes are, up to the place, and there
-- neither is one
pub record IsStuck (ts : List Token) (place : ℕ) : Type 0 where
  pub lower : List External
  pub before : Externals ts 0 place lower
  pub low : All IsLow lower
  pub within : place < length ts
  pub nothing : (j : ℕ) → (x : External) → LowExternal ts place j x → ⊥
  pub unspelled : (p : Program) → Spells ts p → ⊥

-- the items of a block go on from a place, and one of them is higher than 200
pub record GoesHigh (ts : List Token) (i : ℕ) : Type 0 where
  pub end : ℕ
  pub items : List Stmt
  pub spelled : BlockItems ts i end items
  pub high : 200 < list_height items

-- a block from its first item on, while the first that is too high is looked for
pub record Seeking (ts : List Token) (i at : ℕ) : Type 0 where
  pub lower : List Stmt
  pub before : LeadingItems ts i at lower
  pub low : list_height lower ≤ 200
  pub further : GoesHigh ts at
  pub within : at ≤ length ts

-- the whole program is read exactly where the list spells one, which has no more functions than
-- tokens
abbrev pub ReadsAll : List Token → ReadProgram → Type 0
ReadsAll ts (Spelled p) = Spells ts p × (length p.functions ≤ length ts)
ReadsAll ts (Stopped place) = IsStuck ts place
