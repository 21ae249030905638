-- A program with its names resolved, or its first fault. There are three passes, and the first that
-- finds a fault decides: over definitions and prototypes; over all names, counts and scopes; over
-- what is definitely assigned, and whether each function surely returns.
use Rattle.std.specs.Prelude.{ℕ, List, [], ◌∷◌, Option, Some, None, Ok, Err}
use Rattle.c_lex.specs.declared.token.Token.{Token}
use Rattle.c_ast.specs.declared.program.Function.{Function}
use Rattle.c_ast.specs.declared.program.Program.{Program}
use Rattle.c_ast.specs.declared.program.Resolved.{Resolved}
use Rattle.c_assigned.specs.Faults.{fault_of}
use Rattle.c_assigned.specs.declared.fault.Fault.{Fault}
use Rattle.c_assigned.specs.declared.fault.Fault.TheVariants as Flaw
use Rattle.c_names.specs.Names.{names_of}
use Rattle.c_scope.specs.Definitions.{definition_fault}
use Rattle.c_scope.specs.Functions.{resolved_functions}
use Rattle.c_names.specs.Steps.{Checked, and_then}
use Rattle.c_names.specs.declared.error.ScopeEnd.{ScopeEnd}
use Rattle.c_names.specs.declared.error.ScopeEnd.TheVariants.{MayBeUnset, MayNotReturn}

-- what a fault of assignment is called here
abbrev pub scope_end_of : Fault → ScopeEnd
scope_end_of (Flaw.MayBeUnset token) = MayBeUnset token
scope_end_of (Flaw.MayNotReturn token) = MayNotReturn token

-- the first of the two, where there is one
abbrev pub fault_or : Option Fault → Option ScopeEnd → Option ScopeEnd
fault_or None later = later
fault_or (Some flaw) later = Some (scope_end_of flaw)

-- the resolved program, where no variable is read unset and every function returns
abbrev pub after_names : Option ScopeEnd → List Function → Checked Resolved
after_names None functions = Ok (record { functions = functions })
after_names (Some fault) functions = Err fault

module _ (names : List ℕ) where
  -- the first of the functions that has such a fault decides
  abbrev pub assigned_fault : List Function → Option ScopeEnd
  assigned_fault [] = None
  assigned_fault (f ∷ fs) = fault_or (fault_of names f) (assigned_fault fs)

  -- a program whose definitions are in order
  abbrev pub after_definitions : Option ScopeEnd → Program → Checked Resolved
  after_definitions (Some fault) p = Err fault
  after_definitions None p =
      and_then (resolved_functions names p.functions)
      (λ functions. after_names (assigned_fault p.functions) functions)

-- a program with its names resolved, or its first fault
abbrev pub scope_of : List ℕ → List Token → Program → Checked Resolved
scope_of source tokens p =
    let names = names_of source tokens in after_definitions names
    (definition_fault names p.functions p.prototypes) p
