-- What the front end says of a text and two names: its program with all names resolved and the two
-- functions, of equally many parameters, or the first cause of a refusal.
use Rattle.std.specs.Prelude.{◌≡◌, ◌≢◌, ℕ, ⊤, List, Option, Some, None, Ok, Err, length, slice_get}
use Rattle.c_lex.specs.declared.error.LexEnd.TheVariants as Fault
use Rattle.c_lex.specs.declared.token.Token.{Token}
use Rattle.c_lex.specs.Tokens.{tokens_of}
use Rattle.c_ast.specs.declared.integers.Integers.{Integers}
use Rattle.c_ast.specs.declared.program.Function.{Function}
use Rattle.c_ast.specs.declared.program.Program.{Program}
use Rattle.c_ast.specs.declared.program.Resolved.{Resolved}
use Rattle.c_parse.specs.declared.error.ParseEnd.{ParseEnd}
use Rattle.c_parse.specs.declared.error.ParseEnd.TheVariants as Flaw
use Rattle.c_parse.specs.Answers.{Answers}
use Rattle.c_names.specs.declared.error.ScopeEnd.{ScopeEnd}
use Rattle.c_names.specs.declared.error.ScopeEnd.TheVariants as Wrong
use Rattle.c_names.specs.Places.{place_of_function}
use Rattle.c_scope.specs.Programs.{scope_of}
use Rattle.c_front.specs.declared.pairs.TwoFunctions.{TwoFunctions}
use Rattle.c_front.specs.declared.refusals.Refusal.{Refusal}
use Rattle.c_front.specs.declared.refusals.Refusal.TheVariants.{Lex, Parse, Scope, WideLiteral, NoFunction, Arity, PreLex, PreParse, PreName}
use Rattle.c_front.specs.declared.stages.Next.{Next}
use Rattle.c_front.specs.declared.stages.Next.TheVariants.{Ends, Goes}
use Rattle.c_front.specs.Literals.{first_wide}

-- the tokens of the text spell this program, within the parser's limits
pub record IsProgram (source : List ℕ) (tokens : List Token) (program : Program) : Type 0 where
  pub lexed : tokens_of source ≡ Ok tokens
  pub spelled : Answers tokens (Ok program)

-- the place of the first function with this name, none where there is none
abbrev pub place_in : List ℕ → List Token → Program → List ℕ → Option ℕ
place_in source tokens program name = place_of_function source tokens program.functions name

-- the number of the first of two names that no function has
abbrev pub missing : Option ℕ → Option ℕ → Option ℕ
missing None second = Some 1
missing (Some i) None = Some 2
missing (Some i) (Some j) = None

-- the text is a list of tokens, which the parser refuses for this cause
abbrev pub IsUnparsed : List ℕ → ParseEnd → Type 0
IsUnparsed source end =
    (tokens : List Token) × (tokens_of source ≡ Ok tokens) × Answers tokens (Err end) ×
    (end ≢ Flaw.NoMemory)

-- the text spells a program that isn't well formed, and this is its first fault
abbrev pub IsIllFormed : List ℕ → ScopeEnd → Type 0
IsIllFormed source end =
    (tokens : List Token) × (program : Program) × IsProgram source tokens program ×
    (scope_of source tokens program ≡ Err end)

-- ---- by the kind of integers

module _ (integers : Integers) where
  -- the text spells a well-formed program, which is this one with its names resolved, and each of
  -- its numbers is an integer of the kind
  pub record IsWellFormed (source : List ℕ) (tokens : List Token) (program : Program)
      (resolved : Resolved) : Type 0 where
    pub is : IsProgram source tokens program
    pub scoped : scope_of source tokens program ≡ Ok resolved
    pub narrow : first_wide integers tokens ≡ None

  -- the text spells a well-formed program, where the two names are those of the functions `left`
  -- and `right`, at these places
  pub record AreNamed (source first second : List ℕ) (two : TwoFunctions) (left right : Function) :
      Type 0 where
    pub tokens : List Token
    pub program : Program
    pub is : IsWellFormed source tokens program two.program
    pub first_stands : place_in source tokens program first ≡ Some two.first
    pub second_stands : place_in source tokens program second ≡ Some two.second
    pub is_left : slice_get two.program.functions two.first ≡ Some left
    pub is_right : slice_get two.program.functions two.second ≡ Some right

  -- the text spells a well-formed program, and this token is its first number that is no integer of
  -- the kind
  abbrev pub HasWideLiteral : List ℕ → ℕ → Type 0
  HasWideLiteral source token =
      (tokens : List Token) × (program : Program) × (resolved : Resolved) ×
      IsProgram source tokens program
      × (scope_of source tokens program ≡ Ok resolved) × (first_wide integers tokens ≡ Some token)

  -- the text spells a well-formed program, where no function has the first name, which is 1, or
  -- else none has the second, which is 2
  abbrev pub LacksFunction : List ℕ → List ℕ → List ℕ → ℕ → Type 0
  LacksFunction source first second name =
      (tokens : List Token) × (program : Program) × (resolved : Resolved) ×
      IsWellFormed source tokens program resolved
      × (missing (place_in source tokens program first) (place_in source tokens program second) ≡
      Some name)

  -- both names have functions, whose numbers of parameters are these and differ
  abbrev pub HaveDifferentArities : List ℕ → List ℕ → List ℕ → ℕ → ℕ → Type 0
  HaveDifferentArities source first second m n =
      (two : TwoFunctions) × (left : Function) × (right : Function) ×
      AreNamed source first second two left right
      × (length left.params ≡ m) × (length right.params ≡ n) × (m ≢ n)

  -- why a text is refused for two names, whatever the precondition is. The causes exclude each
  -- other: a text has at most one list of tokens, the list spells at most one program, the program
  -- has at most one resolution, and names are looked for where no number is too wide
  abbrev pub IsRefused : List ℕ → List ℕ → List ℕ → Refusal → Type 0
  IsRefused source first second (Lex fault) = tokens_of source ≡ Err fault
  IsRefused source first second (Parse end) = IsUnparsed source end
  IsRefused source first second (Scope end) = IsIllFormed source end
  IsRefused source first second (WideLiteral token) = HasWideLiteral source token
  IsRefused source first second (NoFunction name) = LacksFunction source first second name
  IsRefused source first second (Arity m n) = HaveDifferentArities source first second m n
  IsRefused source first second (PreLex fault) = ⊥
  IsRefused source first second (PreParse end) = ⊥
  IsRefused source first second (PreName token) = ⊥

  -- the two names are those of two functions of the well-formed program that the text spells, and
  -- these have equally many parameters
  pub record AreComparable (source first second : List ℕ) (two : TwoFunctions)
      (left right : Function) : Type 0 where
    pub are_named : AreNamed source first second two left right
    pub counts : length left.params ≡ length right.params

  -- what the front end says
  abbrev pub IsReading : List ℕ → List ℕ → List ℕ → Next Refusal TwoFunctions → Type 0
  IsReading source first second (Ends refusal) = IsRefused source first second refusal
  IsReading source first second (Goes two) =
      (left : Function) × (right : Function) × AreComparable source first second two left right

-- it can be said in a line: it is neither out of memory, nor an end of programs alone or of
-- preconditions alone that is used for the other
abbrev pub IsSayable : Refusal → Type 0
IsSayable (Lex Fault.NoMemory) = ⊥
IsSayable (Parse Flaw.NoMemory) = ⊥
IsSayable (Parse Flaw.NotARowForm) = ⊥
IsSayable (Scope Wrong.NoMemory) = ⊥
IsSayable (PreLex Fault.NoMemory) = ⊥
IsSayable (PreParse Flaw.NoMemory) = ⊥
IsSayable (PreParse (Flaw.TooManyParams token)) = ⊥
IsSayable refusal = ⊤

-- so can the end, where the run ends
module _ {B : Type 0} where
  abbrev pub IsSayableNext : Next Refusal B → Type 0
  IsSayableNext (Ends refusal) = IsSayable refusal
  IsSayableNext (Goes b) = ⊤
