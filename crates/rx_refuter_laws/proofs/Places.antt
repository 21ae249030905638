-- Rows that stand at a place, and go on to stand there when others come after them.
use Rattle.std.proofs.Common.{◌≡◌, ◌∙◌, subst, refl, ℕ, zero, suc, ◌+◌, true, Some, List, [], ◌∷◌, ◌++◌, slice_get, arith}
use Rattle.std.proofs.lemmas.Bool.{and_from}
use Rattle.std.proofs.lemmas.List.Folds.{list_all-append}
use Rattle.rx_row.specs.declared.row.Row.{Row}
use Rattle.rx_refuter_laws.specs.Leaves.{has_poly, have_polys}

-- the rest of the rows, the first of them being number i
abbrev pub StandsFrom : List Row → ℕ → List Row → Type 0
StandsFrom rows i rest =
    (j : ℕ) (row : Row) → slice_get rest j ≡ Some row → slice_get rows (i + j) ≡ Some row

pub from_beginning : (rows : List Row) → StandsFrom rows 0 rows
from_beginning rows j row e =
    let same : j ≡ 0 + j = omega arith in subst (λ k. slice_get rows k ≡ Some row) same e

pub first_there : (rows : List Row) (i : ℕ) (row : Row) (rest : List Row) →
    StandsFrom rows i (row ∷ rest) → slice_get rows i ≡ Some row
first_there rows i row rest h =
    let same : i + 0 ≡ i = omega arith in
    subst (λ k. slice_get rows k ≡ Some row) same (h 0 row refl)

pub others_there : (rows : List Row) (i : ℕ) (row : Row) (rest : List Row) →
    StandsFrom rows i (row ∷ rest) → StandsFrom rows (suc i) rest
others_there rows i row rest h j r e =
    let same : i + suc j ≡ suc i + j = omega arith in
    subst (λ k. slice_get rows k ≡ Some r) same (h (suc j) r e)

-- a row goes on to stand at its place
pub still_there : (rows more : List Row) (i : ℕ) (row : Row) → slice_get rows i ≡ Some row →
    slice_get (rows ++ more) i ≡ Some row
still_there [] more i row e = cc
still_there (r ∷ rows) more zero row e = e
still_there (r ∷ rows) more (suc i) row e = still_there rows more i row e

-- rows of polynomials with such rows after them
pub polys_longer : (rows more : List Row) → have_polys rows ≡ true → have_polys more ≡ true →
    have_polys (rows ++ more) ≡ true
polys_longer rows more h g =
    list_all-append has_poly rows more ∙ and_from (have_polys rows) (have_polys more) h g

pub one_more : (rows : List Row) (row : Row) → have_polys rows ≡ true → has_poly row ≡ true →
    have_polys (rows ++ row ∷ []) ≡ true
one_more rows row h g = polys_longer rows (row ∷ []) h (and_from (has_poly row) true g refl)
