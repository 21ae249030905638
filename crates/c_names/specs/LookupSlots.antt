-- Scopes (ISO/IEC 9899:1999, 6.2.1): the names in scope by slot, and where the innermost scope
-- begins.
use Rattle.std.specs.Prelude.{◌≡◌, ◌≢◌, ℕ, Bool, nat_eq, nat_lt, List, [], ◌∷◌, ◌++◌, length, drop, Result, Ok, Err, if◌then◌else◌}
use Rattle.std.specs.List.{list_any}
use Rattle.c_names.specs.Steps.{Checked}
use Rattle.c_names.specs.declared.error.ScopeEnd.{ScopeEnd}
use Rattle.c_names.specs.declared.error.ScopeEnd.TheVariants.{TwiceDeclared, TooManySlots, NoMemory}

pub record Scope : Type 0 where
  -- the names of the variables in scope, in the order of declaration: each has its place as its
  -- slot
  pub names : List ℕ
  -- how many of them the innermost scope found in scope when it began
  pub outer : ℕ

-- no variable is in scope
abbrev pub empty_scope : Scope
empty_scope = record { names = []; outer = 0 }

-- a scope begins inside
abbrev pub inner_scope : Scope → Scope
inner_scope s = record { names = s.names; outer = length s.names }

-- whether the innermost scope has a variable of this name
abbrev pub is_declared : Scope → ℕ → Bool
is_declared s name = list_any (λ standing. nat_eq standing name) (drop s.outer s.names)

-- a variable is declared: its slot is the next one. No name occurs twice in one scope (6.7p3), and
-- 64 slots may be in scope
abbrev pub declare : ℕ → ℕ → Scope → Checked Scope
declare token name s =
    if is_declared s name then Err (TwiceDeclared token)
    else if nat_lt (length s.names) 64 then Ok
    (record { names = s.names ++ name ∷ []; outer = s.outer })
    else Err (TooManySlots token)

-- the scope is this, except when out of memory
abbrev pub GivesScope : {A : Type 0} → Result A ScopeEnd → Scope → Checked Scope → Type 0
GivesScope (Ok done) behind answer = answer ≡ Ok behind
GivesScope (Err fault) behind answer = fault ≢ NoMemory → answer ≡ Err fault
