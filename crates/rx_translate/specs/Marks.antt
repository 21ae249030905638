-- Marks of numbers: a list of truths, and which numbers have a mark.
use Rattle.std.specs.Prelude.{◌≡◌, ◌↔◌, ◌<◌, ◌^◌, ℕ, ◌+◌, Bool, true, false, List, [], ◌∷◌, length, replicate, slice_index_or, slice_set}
use Rattle.c_ast.specs.declared.program.Resolved.{Resolved}
use Rattle.rx_code.specs.Reached.{Reached}

-- the number has a mark
abbrev pub IsMarked : List Bool → ℕ → Type 0
IsMarked marks h = slice_index_or marks h false ≡ true

-- the numbers that have marks, where the first mark is that of n
abbrev pub marked_from : ℕ → List Bool → List ℕ
marked_from n [] = []
marked_from n (true ∷ marks) = n ∷ marked_from (n + 1) marks
marked_from n (false ∷ marks) = marked_from (n + 1) marks

-- the marks with those of these numbers, as far as they are there
abbrev pub marked_also : List Bool → List ℕ → List Bool
marked_also marks [] = marks
marked_also marks (k ∷ ks) = marked_also (slice_set marks k true) ks

-- n marks, those of these numbers
abbrev pub marks_of : ℕ → List ℕ → List Bool
marks_of count ks = marked_also (replicate count false) ks

-- just the functions that the two reach have marks
pub record MarksReached (program : Resolved) (f g : ℕ) (marks : List Bool) : Type 0 where
  pub size : length marks ≡ length program.functions
  pub reached : (h : ℕ) → IsMarked marks h ↔ Reached program f g h
  pub narrow : (h : ℕ) → IsMarked marks h → h < 2 ^ 32
