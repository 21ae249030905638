-- The numbers of parameters of functions.
use Rattle.std.specs.Prelude.{◌≡◌, ◌≢◌, ℕ, Some}
use Rattle.std.specs.Prelude.{slice_get}
use Rattle.c_ast.specs.Scoped.{parameter_counts}
use Rattle.c_ast.specs.declared.program.Resolved.{Resolved}

-- the function at that place has n parameters
abbrev pub HasParameters : Resolved → ℕ → ℕ → Type 0
HasParameters program f count = slice_get (parameter_counts program.functions) f ≡ Some count

-- the first function has m parameters and the second another number, n
pub record AritiesDiffer (program : Resolved) (f g m n : ℕ) : Type 0 where
  pub first : HasParameters program f m
  pub second : HasParameters program g n
  pub differ : m ≢ n
