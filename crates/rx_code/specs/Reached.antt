-- The functions that two functions reach by calls, calls in unreachable code included.
use Rattle.std.specs.Prelude.{◌≡◌, ◌↔◌, ◌<◌, ℕ, Some, List, [], ◌∷◌, All, Contains, slice_get}
use Rattle.std.specs.List.{flat_map}
use Rattle.c_ast.specs.Calls.{calls_in}
use Rattle.c_ast.specs.declared.program.Function.{Function}
use Rattle.c_ast.specs.declared.program.Resolved.{Resolved}

-- the functions that a function calls, by their places
abbrev pub calls_of : Function → List ℕ
calls_of f = flat_map calls_in f.body

-- the two, and what a reached one calls
pub data Reached (program : Resolved) (f g : ℕ) : ℕ → Type 0 where
  IsFirst : Reached program f g f
  IsSecond : Reached program f g g
  ByCall : (h k : ℕ) (caller : Function) → Reached program f g h → slice_get program.functions h ≡
      Some caller
      → Contains (calls_of caller) k → Reached program f g k

-- each number is above those before it
pub data IsRising : List ℕ → Type 0 where
  no_number : IsRising []
  next_number : (n : ℕ) (ns : List ℕ) → All (λ k. n < k) ns → IsRising ns → IsRising (n ∷ ns)

-- these are the reached functions, in the order of the text
pub record AreReached (program : Resolved) (f g : ℕ) (fs : List ℕ) : Type 0 where
  pub in_order : IsRising fs
  pub members : (h : ℕ) → Contains fs h ↔ Reached program f g h
