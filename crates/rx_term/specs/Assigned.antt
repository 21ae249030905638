-- Lists of integers as assignments: the first is given to v0, the second to v1, and so on.
use Rattle.std.specs.Prelude.{ℕ, List, unwrap_or, slice_get, ℤ, pos}

-- the integer at the variable's place, 0 where there is none
abbrev pub assigned : List ℤ → ℕ → ℤ
assigned xs v = unwrap_or (slice_get xs v) (pos 0)
