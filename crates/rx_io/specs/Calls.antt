-- The calls on one object in memory, counted together from 1.
use Rattle.std.specs.Prelude.{◌+◌, ◌-◌, ◌^◌, ℕ, min, List, Bool, ◌==◌}
use Rattle.std.specs.List.{list_any}

-- the number of the call that follows n others is in the list
abbrev pub is_listed : List ℕ → ℕ → Bool
is_listed numbers calls = list_any (λ number. number == calls + 1) numbers

-- a count of 64 bits one higher, or at its end
abbrev pub counted : ℕ → ℕ
counted count = min (count + 1) (2 ^ 64 - 1)
