-- What the refuter finds of rows: which certificate it tries next. What is found with it is what
-- `level` says of that kind, with the next phase in place of the certificates inside. So the first
-- place that passes the limits makes it `Beyond`, and the first leaf without multipliers `No`; that
-- no other place makes it `No` is not proved.
use Rattle.std.specs.Prelude.{ℕ, zero, suc, Option, Some, None, List, [], ◌∷◌, take}
use Rattle.rx_row.specs.declared.row.Row.{Row}
use Rattle.rx_cert.specs.Examination.{level}
use Rattle.rx_cert.specs.Findings.{Said, guard}
use Rattle.rx_cert.specs.declared.cert.Cert.TheOpen.{Cert-F}
use Rattle.rx_solve.specs.Bounds.{most_disequalities, most_ratios, most_solved}
use Rattle.rx_solve.specs.Disequalities.{disequalities_from}
use Rattle.rx_solve.specs.Divisions.{all_ratios}
use Rattle.rx_solve.specs.Pivots.{first_pivot}
use Rattle.rx_solve.specs.Roundings.{roundings, roundings_within}
use Rattle.rx_solve.specs.Sums.{summing}
use Rattle.rx_solve.specs.declared.divisions.Ratio.{Ratio}
use Rattle.rx_solve.specs.declared.pivots.Pivot.{Pivot}
use Rattle.rx_solve.specs.declared.roundings.Rounding.{Rounding}

-- ---- roundings

-- rows are rounded, one after the other, and then summed
abbrev pub rounding_by : List Rounding → List Row → Said
rounding_by [] rows = summing rows
rounding_by (r ∷ rs) rows = level (Cert-F.Cut ((r.at, r.by) ∷ []) r.divisor (rounding_by rs)) rows

-- by the roundings of the rows as they are before the first
abbrev pub rounding : List Row → Said
rounding rows = guard (roundings_within rows) (rounding_by (roundings rows) rows)

-- ---- ratios

-- both signs of each dividend
abbrev pub dividing_by : List Ratio → List Row → Said
dividing_by [] rows = rounding rows
dividing_by (r ∷ rs) rows =
    level (Cert-F.DivFacts r.num r.den (dividing_by rs) (dividing_by rs)) rows

-- the first three ratios in the rows
abbrev pub dividing : List Row → Said
dividing rows = dividing_by (take most_ratios (all_ratios rows)) rows

-- ---- disequalities

-- both signs of each disequality
abbrev pub differing_at : List ℕ → List Row → Said
differing_at [] rows = dividing rows
differing_at (i ∷ is) rows = level (Cert-F.Differ i (differing_at is) (differing_at is)) rows

-- the first six disequalities among the rows
abbrev pub differing : List Row → Said
differing rows = differing_at (take most_disequalities (disequalities_from 0 rows)) rows

-- ---- variables that rows say the value of

-- what is found with its value in place of the variable, or else without
abbrev pub solving_with : Option Pivot → (List Row → Said) → List Row → Said
solving_with None rest rows = differing rows
solving_with (Some p) rest rows = level (Cert-F.Solve p.first p.second p.variable rest) rows

-- they are replaced, at most n times
unfoldable pub solving : ℕ → List Row → Said
solving zero rows = differing rows
solving (suc n) rows = solving_with (first_pivot rows) (solving n) rows

-- whether the rows are refuted
abbrev pub refuted : List Row → Said
refuted rows = solving most_solved rows
