-- Whole code: each symbol has one instruction, which fits the symbols and keeps the limits.
use Rattle.std.proofs.Common.{◌≡◌, Bool, true, false, ℕ, suc, ◌<◌, ◌≤◌, ◌⊎◌, Some, [], ◌∷◌, length}
use Rattle.std.specs.Prelude.{◌==◌, Contains, filter, slice_get}
use Rattle.c_ast.specs.declared.integers.Integers.{Integers}
use Rattle.rx_poly.specs.Variables.{uses_below}
use Rattle.rx_row.specs.Variables.{rows_use_below}
use Rattle.rx_term.specs.Variables.{polys_use_below}
use Rattle.rx_code.specs.Programs.{entry_of}
use Rattle.rx_code.specs.Rules.{failure_codes, instruction_within}
use Rattle.rx_code.specs.declared.action.Action.{Action}
use Rattle.rx_code.specs.declared.action.Action.TheVariants.{Go, Set, Test, Exclude, Divide, Call, Resume, Return}
use Rattle.rx_code.specs.declared.action.Instruction.{Instruction}
use Rattle.rx_code.specs.declared.code.Code.{Code}
use Rattle.rx_code.specs.declared.point.Point.{Point}

-- whether an action is that of a frame
abbrev pub is_resume : Action → Bool
is_resume (Go z) = false
is_resume (Set k p z) = false
is_resume (Test row y w) = false
is_resume (Exclude row z) = false
is_resume (Divide d p q z) = false
is_resume (Call f ps r) = false
is_resume (Resume z) = true
is_resume (Return p) = false

-- the instructions at the symbol of that number
abbrev pub is_at : ℕ → Instruction → Bool
is_at k d = d.at.symbol == k

module _ (c : Code) where
  -- the symbol is opened as a point or a frame with n variables
  abbrev pub IsOpened : ℕ → ℕ → Bool → Type 0
  IsOpened symbol width frame =
      slice_get c.opened symbol ≡ Some (record { width = width; frame = frame })

  -- the point is opened, and n integers are enough for its variables
  pub record IsTarget (count : ℕ) (z : Point) : Type 0 where
    pub opened : IsOpened z.symbol z.width false
    pub enough : z.width ≤ count

  -- the one instruction at a symbol
  pub record OneInstruction (k : ℕ) : Type 0 where
    pub instruction : Instruction
    pub alone : filter (is_at k) c.instructions ≡ instruction ∷ []

module _ (integers : Integers) (c : Code) where
  -- the action's points, frames and polynomials are in order at a point with n variables, and its
  -- failure is one of the kind
  abbrev pub Suits : ℕ → Action → Type 0
  Suits n (Go z) = IsTarget c n z
  Suits n (Set k p z) =
      (k ≤ n) × (((z.width ≤ n) ⊎ (k ≡ n)) × (IsTarget c (suc n) z × (uses_below n p ≡ true)))
  Suits n (Test row y w) = IsTarget c n y × (IsTarget c n w × (rows_use_below n (row ∷ []) ≡ true))
  Suits n (Exclude row z) =
      IsTarget c n z ×
      ((rows_use_below n (row ∷ []) ≡ true) × Contains (failure_codes integers) 2)
  Suits n (Divide d p q z) =
      IsTarget c (suc n) z × ((uses_below n p ≡ true) × (uses_below n q ≡ true))
  Suits n (Call f ps r) =
      IsOpened c r.symbol r.width true × ((r.width ≤ n) ×
      (IsOpened c (entry_of c.entries f) (length ps) false × (polys_use_below n ps ≡ true)))
  Suits n (Resume z) = IsTarget c (suc n) z
  Suits n (Return p) = uses_below n p ≡ true

  pub record FitsCode (d : Instruction) : Type 0 where
    pub opened : IsOpened c d.at.symbol d.at.width (is_resume d.action)
    pub narrow : d.at.width ≤ 128
    pub suits : Suits d.at.width d.action
    pub within : instruction_within d ≡ true

  pub record IsWhole : Type 0 where
    pub one : (k : ℕ) → k < length c.opened → OneInstruction c k
    pub fits : (d : Instruction) → Contains c.instructions d → FitsCode d
