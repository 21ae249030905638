-- The program that a list of tokens spells.
use Rattle.std.specs.Prelude.{◌≡◌, ◌≤◌, List, [], ◌∷◌, length, ⊤}
use Rattle.std.specs.List.{All}
use Rattle.c_lex.specs.declared.token.Token.{Token}
use Rattle.c_ast.specs.declared.program.Function.{Function}
use Rattle.c_ast.specs.declared.program.Prototype.{Prototype}
use Rattle.c_ast.specs.declared.program.Program.{Program}
use Rattle.c_syntax.specs.declared.tree.External.{External}
use Rattle.c_syntax.specs.declared.tree.External.TheVariants.{Defined, Declared}
use Rattle.c_syntax.specs.Programs.{Externals}
use Rattle.c_syntax.specs.Heights.{list_height}

-- the functions among them, in order
abbrev pub functions_of : List External → List Function
functions_of [] = []
functions_of (Defined f ∷ xs) = f ∷ functions_of xs
functions_of (Declared p ∷ xs) = functions_of xs

-- the prototypes among them, in order
abbrev pub prototypes_of : List External → List Prototype
prototypes_of [] = []
prototypes_of (Defined f ∷ xs) = prototypes_of xs
prototypes_of (Declared p ∷ xs) = p ∷ prototypes_of xs

-- the program that they are
abbrev pub program_of : List External → Program
program_of xs = record { functions = functions_of xs; prototypes = prototypes_of xs }

-- no statement of a function's body is higher than 200
abbrev pub IsLow : External → Type 0
IsLow (Defined f) = list_height f.body ≤ 200
IsLow (Declared p) = ⊤

-- the whole list of tokens spells the program, within the limit on heights
pub record Spells (ts : List Token) (p : Program) : Type 0 where
  pub externals : List External
  pub spelled : Externals ts 0 (length ts) externals
  pub low : All IsLow externals
  pub is : p ≡ program_of externals

-- a list of tokens spells at most one program
abbrev pub OneProgram : Type 0
OneProgram = (ts : List Token) → (p q : Program) → Spells ts p → Spells ts q → p ≡ q
