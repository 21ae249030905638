-- Symbols with their arguments as the code borrows them, and the outer frames of a stack.
use Rattle.std.specs.Prelude.{◌≡◌, ◌≤◌, ℕ, zero, suc, true, Option, Some, None, List, [], ◌∷◌, map}
use Rattle.rx_term.specs.Stacks.{depth_of, is_result}
use Rattle.rx_term.specs.declared.term.Term.{Term, Term-F, out-Term}
use Rattle.rx_pairs.specs.Common.{IsPart}
use Rattle.rx_pairs.specs.Pairs.{IsRoot, IsUnder, Part, part}
use Rattle.rx_pairs.specs.declared.parts.Application.{Application}

-- what is borrowed
abbrev pub lent : Application → Part
lent a = part a.symbol a.arguments.now

abbrev pub all_lent : List Application → List Part
all_lent parts = map lent parts

-- the root of a term; a result has none
abbrev pub IsRootOf : Term → Option Application → Type 0
IsRootOf t (Some root) = IsRoot t (lent root)
IsRootOf t None = is_result t ≡ true

-- n outer frames, or all where there are fewer
abbrev pub outer_level : Term-F Term → (Term → List Part) → List Part
outer_level (Term-F.Return p) under = []
outer_level (Term-F.Fail c) under = []
outer_level (Term-F.Call f ps) under = []
outer_level (Term-F.Frame f ps inner) under = part f ps ∷ under inner

abbrev pub outer_parts : ℕ → Term → List Part
outer_parts zero t = []
outer_parts (suc n) t = outer_level (out-Term t) (outer_parts n)

-- the largest part of a right side that is under a frame of the left side, if there is one
pub record IsLargestUnder (left right t : Term) : Type 0 where
  pub under : IsUnder left t
  pub part : IsPart right t
  pub largest : (u : Term) → IsUnder left u → IsPart right u → depth_of u ≤ depth_of t

abbrev pub IsKept : Term → Term → Option Term → Type 0
IsKept left right (Some t) = IsLargestUnder left right t
IsKept left right None = (u : Term) → IsUnder left u → IsPart right u → ⊥
