-- The roundings of the rows so far, and what the rest adds; how many more rows are looked at.
use Rattle.std.proofs.Common.{◌≡◌, ◌∙◌, ap, subst, sym, refl, cond, arith, ℕ, zero, suc, ◌+◌, ◌-◌, ◌<◌, ◌≤◌, nat_lt, Bool, true, false, ◌&&◌, List, [], ◌∷◌, ◌++◌, append_assoc, length, drop, take, get_or, add-one, pos}
use Rattle.std.proofs.Math.Seq.{drop-cons}
use Rattle.std.proofs.lemmas.Bool.{and_left}
use Rattle.std.proofs.lemmas.List.{append-nil, length-append}
use Rattle.std.specs.List.{list_all}
use Rattle.rx_row.specs.Parts.{poly_of}
use Rattle.rx_row.specs.declared.row.Row.{Row}
use Rattle.rx_row.specs.declared.row.Row.TheVariants.{Ge, Eq, Ne}
use Rattle.rx_fm.specs.Content.{content}
use Rattle.rx_solve.specs.Roundings.{has_sizes, looked_at, roundings, roundings_with, roundings_from, roundings_of, roundings_within}
use Rattle.rx_solve.specs.declared.roundings.Rounding.{Rounding}

-- what is found so far, and of the rest, row number i the first, is what is found of all; the rest
-- decides the limits
pub record Rounded (rows : List Row) (done : List Rounding) (i : ℕ) (rest : List Row) : Type 0 where
  pub all : done ++ roundings_from i rest ≡ roundings_from 0 rows
  pub limits : list_all has_sizes (looked_at (64 - length done) rest) ≡ roundings_within rows

-- a row has as many roundings whatever its number
same_count : (i j : ℕ) (row : Row) → length (roundings_of i row) ≡ length (roundings_of j row)
same_count i j row = by (nat_lt 1 (content (poly_of row))) row
  where
    by : (b : Bool) (r : Row) → length (cond b (roundings_with (pos (content (poly_of row))) i r)
        []) ≡ length (cond b (roundings_with (pos (content (poly_of row))) j r) [])
    by false r = refl
    by true (Ge p) = refl
    by true (Eq p) = refl
    by true (Ne p) = refl

-- where more are wanted, the next row is looked at
looked_first : (n : ℕ) (row : Row) (rest : List Row) → 0 < n → looked_at n (row ∷ rest) ≡ row ∷
    looked_at (n - length (roundings_of 0 row)) rest
looked_first zero row rest h = absurd (omega arith)
looked_first (suc n) row rest h = refl

module _ (rows : List Row) (done : List Rounding) (i : ℕ) (row : Row) (rest : List Row)
    (few : length done < 64) (r : Rounded rows done i (row ∷ rest)) where
  opened : (has_sizes row && list_all has_sizes
      (looked_at (64 - length done - length (roundings_of 0 row)) rest)) ≡ roundings_within rows
  opened =
      ap (list_all has_sizes) (sym (looked_first (64 - length done) row rest (omega (arith, few))))
      ∙ r.limits

  -- a row beyond the limits decides
  beyond_row : has_sizes row ≡ false → roundings_within rows ≡ false
  beyond_row e =
      sym opened ∙ and_left (has_sizes row) (list_all has_sizes
      (looked_at (64 - length done - length (roundings_of 0 row)) rest)) e

  -- one within them leaves it to the rest
  next_rounded : has_sizes row ≡ true → Rounded rows (done ++ roundings_of i row) (suc i) rest
  next_rounded e =
      let count = same_count i 0 row in
      let longer = length-append done (roundings_of i row) in
      let left : 64 - length (done ++ roundings_of i row) ≡
      64 - length done - length (roundings_of 0 row) = omega (arith, count, longer) in
      record {
        all = append_assoc done (roundings_of i row) (roundings_from (suc i) rest) ∙ r.all;
        limits =
            ap (λ n. list_all has_sizes (looked_at n rest)) left ∙
            ap (λ b. b && list_all has_sizes (looked_at
            (64 - length done - length (roundings_of 0 row)) rest)) (sym e) ∙ opened;
      }

module _ (rows : List Row) (done : List Rounding) (i : ℕ) (row : Row) (h : i < length rows)
    (is : row ≡ get_or rows i row) (few : length done < 64) (r : Rounded rows done i (drop i rows))
  where
    at_row : Rounded rows done i (row ∷ drop (suc i) rows)
    at_row =
        subst (Rounded rows done i) (drop-cons rows i row h ∙
        ap (λ x. x ∷ drop (suc i) rows) (sym is)) r

    pub beyond_here : has_sizes row ≡ false → roundings_within rows ≡ false
    beyond_here e = beyond_row rows done i row (drop (suc i) rows) few at_row e

    pub after_row : {next : List Rounding} → next ≡ done ++ roundings_of i row → has_sizes row ≡
        true → Rounded rows next (i + 1) (drop (i + 1) rows)
    after_row {next} e g =
        subst (λ n. Rounded rows next n (drop n rows)) (sym (add-one i))
        (subst (λ d. Rounded rows d (suc i) (drop (suc i) rows)) (sym e)
        (next_rounded rows done i row (drop (suc i) rows) few at_row g))

-- ---- the end

take_front : {A : Type 0} (n : ℕ) (xs ys : List A) → n ≤ length xs → take n (xs ++ ys) ≡ take n xs
take_front zero xs ys h = refl
take_front (suc n) [] ys h = absurd (omega arith)
take_front (suc n) (x ∷ xs) ys h = ap (λ zs. x ∷ zs) (take_front n xs ys (omega arith))

none_looked_at : (n : ℕ) (rest : List Row) → n ≡ 0 → list_all has_sizes (looked_at n rest) ≡ true
none_looked_at zero rest e = refl
none_looked_at (suc n) rest e = absurd (omega arith)

nothing_left : (n : ℕ) → list_all has_sizes (looked_at n []) ≡ true
nothing_left zero = refl
nothing_left (suc n) = refl

-- there are 64
pub enough : (rows : List Row) (done : List Rounding) (i : ℕ) (rest : List Row) → 64 ≤ length done →
    Rounded rows done i rest → (take 64 done ≡ roundings rows) × (roundings_within rows ≡ true)
enough rows done i rest h r = (
  sym (take_front 64 done (roundings_from i rest) h) ∙ ap (take 64) r.all,
  sym r.limits ∙ none_looked_at (64 - length done) rest (omega (arith, h)),
)

-- or no rows are left
pub all_rounded : (rows : List Row) (done : List Rounding) (i : ℕ) → Rounded rows done i [] →
    (take 64 done ≡ roundings rows) × (roundings_within rows ≡ true)
all_rounded rows done i r =
    (ap (take 64) (sym (append-nil done) ∙ r.all), sym r.limits ∙ nothing_left (64 - length done))
