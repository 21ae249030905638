-- The last phase: multipliers from the elimination of all monomials, and the sum of rows that they
-- make.
use Rattle.std.specs.Prelude.{ℕ, suc, Bool, true, if◌then◌else◌, Option, Some, None, List, [], ◌∷◌, ◌++◌, ℤ, pos, ◌-ℤ◌}
use Rattle.std.specs.List.{flat_map, list_all}
use Rattle.rx_plain.specs.Formed.{Formed}
use Rattle.rx_poly.specs.Limits.{is_within}
use Rattle.rx_poly.specs.Terms.{is_zero}
use Rattle.rx_poly.specs.declared.body.Body.{Body}
use Rattle.rx_row.specs.Negation.{opposite}
use Rattle.rx_row.specs.declared.row.Row.{Row}
use Rattle.rx_row.specs.declared.row.Row.TheVariants.{Ge, Eq, Ne}
use Rattle.rx_cert.specs.Examination.{level}
use Rattle.rx_cert.specs.Findings.{Said, No, Beyond, guard}
use Rattle.rx_cert.specs.declared.cert.Cert.TheOpen.{Cert-F}
use Rattle.rx_solve.specs.Bounds.{most_polynomials}
use Rattle.rx_fm.specs.Elimination.{EliminationEnd, Large, nothing, found, elimination}

-- ---- the elimination

-- what the row says to be at least 0: of an equation p and -p
abbrev pub nonnegative : Row → List Body
nonnegative (Ge p) = p ∷ []
nonnegative (Eq p) = p ∷ opposite p ∷ []
nonnegative (Ne p) = []

abbrev pub all_nonnegative : List Row → List Body
all_nonnegative rows = flat_map nonnegative rows

-- whether what is formed for that keeps the limits
abbrev pub opposite_within : Row → Bool
opposite_within (Ge p) = true
opposite_within (Eq p) = is_within (opposite p)
opposite_within (Ne p) = true

-- the same with their limits: added to others, and of all rows
abbrev pub nonnegative_after : List Body → Row → Formed (List Body)
nonnegative_after done row = record { form = done ++ nonnegative row; within = opposite_within row }

abbrev pub nonnegative_formed : List Row → Formed (List Body)
nonnegative_formed rows =
    record { form = all_nonnegative rows; within = list_all opposite_within rows }

-- ---- the sum

-- the multiplier of the row, by those that are left, and what is left then: an equation has the
-- difference of its two, a disequality 0
abbrev pub next_multiplier : Row → List ℤ → Option (ℤ × List ℤ)
next_multiplier (Ge p) [] = None
next_multiplier (Ge p) (m ∷ ms) = Some (m, ms)
next_multiplier (Eq p) [] = None
next_multiplier (Eq p) (m ∷ []) = None
next_multiplier (Eq p) (m ∷ n ∷ ms) = Some (m -ℤ n, ms)
next_multiplier (Ne p) ms = Some (pos 0, ms)

-- a part of the sum, left out where its multiplier is 0
abbrev pub with_part : ℕ → ℤ → List (ℕ × ℤ) → List (ℕ × ℤ)
with_part i k ps = if is_zero k then ps else (i, k) ∷ ps

-- the part of row number i, where it has a multiplier, and then those of the rest
abbrev pub parts_with : ℕ → Option (ℤ × List ℤ) → (List ℤ → List (ℕ × ℤ)) → List (ℕ × ℤ)
parts_with i None rest = []
parts_with i (Some m) rest = with_part i m.0 (rest m.1)

-- the parts of rows, the first being number i, by the multipliers of what they say to be at least 0
abbrev pub parts_from : ℕ → List Row → List ℤ → List (ℕ × ℤ)
parts_from i [] ms = []
parts_from i (row ∷ rows) ms = parts_with i (next_multiplier row ms) (parts_from (suc i) rows)

-- what is found with the multipliers, where there are some
abbrev pub sum_found : List Row → EliminationEnd → Said
sum_found rows Large = Beyond
sum_found rows nothing = No
sum_found rows (found ms) = level (Cert-F.Sum (parts_from 0 rows ms)) rows

-- what is found of the rows by a sum; the elimination holds at most 4,096 polynomials
abbrev pub summing : List Row → Said
summing rows =
    guard (list_all opposite_within rows) (sum_found rows
    (elimination most_polynomials (all_nonnegative rows)))
