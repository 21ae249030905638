-- The numbers of the disequalities among rows.
use Rattle.std.specs.Prelude.{ℕ, suc, List, [], ◌∷◌}
use Rattle.rx_row.specs.declared.row.Row.{Row}
use Rattle.rx_row.specs.declared.row.Row.TheVariants.{Ge, Eq, Ne}

-- the row's number before the others, where it is a disequality
abbrev pub with_number : ℕ → Row → List ℕ → List ℕ
with_number i (Ge p) later = later
with_number i (Eq p) later = later
with_number i (Ne p) later = i ∷ later

-- the numbers of the disequalities, where the first row is number i
abbrev pub disequalities_from : ℕ → List Row → List ℕ
disequalities_from i [] = []
disequalities_from i (row ∷ rows) = with_number i row (disequalities_from (suc i) rows)
