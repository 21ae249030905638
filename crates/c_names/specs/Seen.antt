-- What a table of names knows.
use Rattle.std.specs.Prelude.{ℕ, List, Option, bytes_eq}
use Rattle.std.specs.Borrow.{Bor}
use Rattle.std.specs.Map.{lookup}

-- the number that a word was first seen with
abbrev pub number_in : List (Bor (List ℕ) × ℕ) → List ℕ → Option ℕ
number_in entries word = lookup (λ (k : Bor (List ℕ)). bytes_eq word k.now) entries
