-- Stages of a run. A stage says of what it is given that the run ends, or what goes on to the next
-- stage. It is a relation, as the grammar is one.
use Rattle.std.specs.Prelude.{◌≡◌, ◌⊎◌, ⊤, Result, Ok, Err}
use Rattle.c_front.specs.declared.stages.Next.{Next}
use Rattle.c_front.specs.declared.stages.Next.TheVariants.{Ends, Goes}

-- a stage from A to B, with ends E
abbrev pub Stage : Type 0 → Type 0 → Type 0 → Type 1
Stage E A B = A → Next E B → Type 0

-- a stage that is a function, with the end that each of its faults is
module _ {D E A B : Type 0} where
  abbrev pub by : (D → E) → (A → Result B D) → Stage E A B
  by end_of f a (Ends end) = (fault : D) × (f a ≡ Err fault) × (end ≡ end_of fault)
  by end_of f a (Goes b) = f a ≡ Ok b

-- one stage, and then another where the first goes on
module _ {E A B C : Type 0} where
  abbrev pub before : Stage E A B → Stage E B C → Stage E A C
  before first second a (Ends end) =
      first a (Ends end) ⊎ ((b : B) × first a (Goes b) × second b (Ends end))
  before first second a (Goes c) = (b : B) × first a (Goes b) × second b (Goes c)

-- what goes on is so
module _ {E B : Type 0} where
  abbrev pub IfGoes : Next E B → (B → Type 0) → Type 0
  IfGoes (Ends end) P = ⊤
  IfGoes (Goes b) P = P b
