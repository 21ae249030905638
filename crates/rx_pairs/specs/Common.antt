-- What two stacks have in common: the parts of both.
use Rattle.std.specs.Prelude.{◌≡◌, ◌≤◌, ℕ, Option, Some, None}
use Rattle.rx_term.specs.Stacks.{suffix_at, depth_of}
use Rattle.rx_term.specs.declared.term.Term.{Term}

-- the term is the whole, or is under some of its frames
abbrev pub IsPart : Term → Term → Type 0
IsPart whole t = (k : ℕ) × (suffix_at k whole ≡ Some t)

-- the largest part of both
pub record IsLargest (a b t : Term) : Type 0 where
  pub of_first : IsPart a t
  pub of_second : IsPart b t
  pub largest : (u : Term) → IsPart a u → IsPart b u → depth_of u ≤ depth_of t

-- what is found is that part, and nothing is found only where there is none
abbrev pub IsCommon : Term → Term → Option Term → Type 0
IsCommon a b (Some t) = IsLargest a b t
IsCommon a b None = (u : Term) → IsPart a u → IsPart b u → ⊥
