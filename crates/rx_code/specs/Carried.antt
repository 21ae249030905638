-- Code that carries a program: for each function that has an entry, the entry carries the
-- function's code.
use Rattle.std.specs.Prelude.{◌≡◌, ℕ, Some, Contains, slice_get}
use Rattle.c_ast.specs.Scoped.{parameter_counts}
use Rattle.c_ast.specs.declared.integers.Integers.{Integers}
use Rattle.c_ast.specs.declared.program.Function.{Function}
use Rattle.c_ast.specs.declared.program.Resolved.{Resolved}
use Rattle.rx_code.specs.Codes.{HasCode}
use Rattle.rx_code.specs.Points.{Actions}
use Rattle.rx_code.specs.Programs.{entry_of}
use Rattle.rx_code.specs.declared.code.Code.{Code}

-- what is done at points: each instruction that is written down
abbrev pub acts_in : Code → Actions
acts_in code a x = Contains code.instructions (record { at = a; action = x })

-- the function at the place has an entry, and takes n arguments
pub record TakesCall (program : Resolved) (code : Code) (f count : ℕ) : Type 0 where
  pub symbol : ℕ
  pub begins : Contains code.entries (f, symbol)
  pub parameters : slice_get (parameter_counts program.functions) f ≡ Some count

module _ (integers : Integers) where
  -- the function at the place is there; it has this one entry, and that carries its code
  pub record CarriesFunction (program : Resolved) (code : Code) (f symbol : ℕ) : Type 0 where
    pub function : Function
    pub stands : slice_get program.functions f ≡ Some function
    pub is_entry : entry_of code.entries f ≡ symbol
    pub carried : HasCode integers (acts_in code) (TakesCall program code) function symbol

  -- each function that has an entry is carried
  abbrev pub CarriesProgram : Resolved → Code → Type 0
  CarriesProgram program code =
      (f symbol : ℕ) → Contains code.entries (f, symbol) → CarriesFunction program code f symbol
