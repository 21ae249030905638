-- The definitions and prototypes of a program: no function is defined twice, and a prototype of a
-- defined function has as many parameters.
use Rattle.std.specs.Prelude.{ℕ, ◌+◌, Bool, false, not, nat_eq, nat_lt, List, [], ◌∷◌, Option, Some, None, if◌then◌else◌, slice_get}
use Rattle.c_ast.specs.declared.program.Function.{Function}
use Rattle.c_ast.specs.declared.program.Prototype.{Prototype}
use Rattle.c_names.specs.Names.{name_at}
use Rattle.c_names.specs.Expressions.{definition_of, count_at}
use Rattle.c_names.specs.declared.error.ScopeEnd.{ScopeEnd}
use Rattle.c_names.specs.declared.error.ScopeEnd.TheVariants.{TwiceDeclared, WrongCount}

-- whether another definition of a name is in front of the one at this place
abbrev pub is_second : ℕ → Option ℕ → Bool
is_second place None = false
is_second place (Some first) = nat_lt first place

module _ (names : List ℕ) (functions : List Function) where
  -- the name of the first function that was defined before, among these, which begin at a place
  abbrev pub second_definition : ℕ → List Function → Option ℕ
  second_definition place [] = None
  second_definition place (f ∷ fs) =
      if is_second place (definition_of names functions (name_at names f.name)) then
      Some f.name else second_definition (place + 1) fs

  -- whether a prototype says another number of parameters than the definition at a place
  abbrev pub differs : Option ℕ → Option ℕ → Bool
  differs None place = false
  differs (Some count) None = false
  differs (Some count) (Some place) = not (nat_eq count (count_at (slice_get functions place)))

  -- the name of the first prototype that does
  abbrev pub wrong_prototype : List Prototype → Option ℕ
  wrong_prototype [] = None
  wrong_prototype (p ∷ ps) =
      if differs p.params (definition_of names functions (name_at names p.name)) then
      Some p.name else wrong_prototype ps

-- the first of the two in the text
abbrev pub first_of : Option ℕ → Option ℕ → Option ScopeEnd
first_of None None = None
first_of (Some token) None = Some (TwiceDeclared token)
first_of None (Some token) = Some (WrongCount token)
first_of (Some twice) (Some wrong) =
    if nat_lt twice wrong then Some (TwiceDeclared twice) else Some (WrongCount wrong)

-- the first fault of the definitions and prototypes
abbrev pub definition_fault : List ℕ → List Function → List Prototype → Option ScopeEnd
definition_fault names functions prototypes =
    first_of (second_definition names functions 0 functions)
    (wrong_prototype names functions prototypes)
