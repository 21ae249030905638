-- The leaves of the refuter's case splits. A leaf is the rows with all facts that are added on the
-- way to it; it is closed where the elimination finds multipliers of its rows, and open where it
-- ends without.
use Rattle.std.specs.Prelude.{◌≡◌, ℕ, zero, suc, Bool, Some, None, List, [], ◌∷◌, ◌++◌, take, slice_get, ℤ}
use Rattle.std.specs.List.{list_all}
use Rattle.rx_poly.specs.Normal.{is_poly}
use Rattle.rx_poly.specs.declared.body.Body.{Body}
use Rattle.rx_row.specs.Negation.{negation}
use Rattle.rx_row.specs.Parts.{poly_of, sum_of}
use Rattle.rx_row.specs.Substitution.{subst_rows}
use Rattle.rx_row.specs.declared.row.Row.{Row}
use Rattle.rx_row.specs.declared.row.Row.TheVariants.{Ge}
use Rattle.rx_fm.specs.Elimination.{elimination, found, nothing}
use Rattle.rx_fm.specs.Witness.{IsWitness}
use Rattle.rx_cert.specs.Differences.{disequal, one_less}
use Rattle.rx_cert.specs.DivisionFacts.{rows_at_least_zero, rows_below_zero}
use Rattle.rx_cert.specs.Elimination.{solution, zero_polynomial}
use Rattle.rx_cert.specs.Rounding.{rounding_row}
use Rattle.rx_solve.specs.Bounds.{most_disequalities, most_polynomials, most_ratios, most_solved}
use Rattle.rx_solve.specs.Disequalities.{disequalities_from}
use Rattle.rx_solve.specs.Divisions.{all_ratios}
use Rattle.rx_solve.specs.Pivots.{first_pivot}
use Rattle.rx_solve.specs.Roundings.{roundings}
use Rattle.rx_solve.specs.Sums.{all_nonnegative}
use Rattle.rx_solve.specs.declared.divisions.Ratio.{Ratio}
use Rattle.rx_solve.specs.declared.pivots.Pivot.{Pivot}
use Rattle.rx_solve.specs.declared.roundings.Rounding.{Rounding}

-- ---- variables that rows say the value of

-- the first such variable is replaced by its value in all rows, again and again: until no row says
-- the value of one, or as often as allowed
pub data Substitutes : ℕ → List Row → List Row → Type 0 where
  EnoughSubstituted : {rows : List Row} → Substitutes zero rows rows
  NoPivot : {n : ℕ} {rows : List Row} → first_pivot rows ≡ None → Substitutes (suc n) rows rows
  OneSubstituted : {n : ℕ} {rows leaf : List Row} (pivot : Pivot) (p value : Body) →
      first_pivot rows ≡ Some pivot → zero_polynomial rows pivot.first pivot.second ≡ Some p →
      solution pivot.variable p ≡ Some value →
      Substitutes n (subst_rows ((pivot.variable, value) ∷ []) rows) leaf →
      Substitutes (suc n) rows leaf

-- ---- disequalities

-- of each disequality p != 0 one side is taken: p - 1 >= 0 or -p - 1 >= 0 goes after the rows
pub data TakesSides : List ℕ → List Row → List Row → Type 0 where
  NoDisequality : {rows : List Row} → TakesSides [] rows rows
  Above : {i : ℕ} {is : List ℕ} {rows leaf : List Row} (p : Body) →
      disequal (slice_get rows i) ≡ Some p → TakesSides is (rows ++ Ge (one_less p) ∷ []) leaf →
      TakesSides (i ∷ is) rows leaf
  Below : {i : ℕ} {is : List ℕ} {rows leaf : List Row} (p : Body) →
      disequal (slice_get rows i) ≡ Some p → TakesSides is (rows ++ negation (Ge p) ∷ []) leaf →
      TakesSides (i ∷ is) rows leaf

-- ---- ratios

-- of each ratio one sign of the dividend is taken: what is known of the division then goes after
-- the rows
pub data TakesSigns : List Ratio → List Row → List Row → Type 0 where
  NoDividend : {rows : List Row} → TakesSigns [] rows rows
  AtLeastZero : {r : Ratio} {rs : List Ratio} {rows leaf : List Row} →
      TakesSigns rs (rows ++ rows_at_least_zero r.num r.den) leaf → TakesSigns (r ∷ rs) rows leaf
  BelowZero : {r : Ratio} {rs : List Ratio} {rows leaf : List Row} →
      TakesSigns rs (rows ++ rows_below_zero r.num r.den) leaf → TakesSigns (r ∷ rs) rows leaf

-- ---- roundings

-- each rounded row goes after the rows
pub data AddsRounded : List Rounding → List Row → List Row → Type 0 where
  NoRounding : {rows : List Row} → AddsRounded [] rows rows
  OneRounded : {r : Rounding} {rs : List Rounding} {rows leaf : List Row} (row : Row) →
      rounding_row r.divisor (sum_of rows ((r.at, r.by) ∷ [])) ≡ Some row →
      AddsRounded rs (rows ++ row ∷ []) leaf → AddsRounded (r ∷ rs) rows leaf

-- ---- leaves

-- at most 100 variables are replaced; then one side is taken of each of the first six
-- disequalities, and one sign of each of the first three dividends; then the first 64 roundings are
-- added
pub record Leaf (rows leaf : List Row) : Type 0 where
  pub replaced : List Row
  pub parted : List Row
  pub divided : List Row
  pub values : Substitutes most_solved rows replaced
  pub sides : TakesSides (take most_disequalities (disequalities_from 0 replaced)) replaced parted
  pub signs : TakesSigns (take most_ratios (all_ratios parted)) parted divided
  pub rounded : AddsRounded (roundings divided) divided leaf

-- the elimination of the leaf's monomials ends, and no polynomial is a negative number then
abbrev pub IsOpen : List Row → Type 0
IsOpen leaf = elimination most_polynomials (all_nonnegative leaf) ≡ nothing

-- the elimination finds multipliers of them that make a negative number
abbrev pub IsClosed : List Row → Type 0
IsClosed leaf = (ms : List ℤ) × (elimination most_polynomials (all_nonnegative leaf) ≡ found ms)

-- no multipliers of what the leaf's rows say to be at least 0 show a contradiction
abbrev pub HasNoMultipliers : List Row → Type 0
HasNoMultipliers leaf = (ms : List ℤ) → IsWitness (all_nonnegative leaf) ms → ⊥

-- some leaf of the rows is open, and no multipliers at all show a contradiction there
pub record HasOpenLeaf (rows : List Row) : Type 0 where
  pub leaf : List Row
  pub reached : Leaf rows leaf
  pub is_open : IsOpen leaf
  pub no_multipliers : HasNoMultipliers leaf

-- ---- rows of polynomials

-- the polynomial of the row is a normal form within the limits
abbrev pub has_poly : Row → Bool
has_poly row = is_poly (poly_of row)

-- those of all rows are, as they are of all rows that the program holds
abbrev pub have_polys : List Row → Bool
have_polys rows = list_all has_poly rows
