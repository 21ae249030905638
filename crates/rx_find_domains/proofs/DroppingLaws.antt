-- A list without a row: it has no more rows than before, and fewer where the row was one of them.
use Rattle.std.proofs.Common.{◌≡◌, ◌∙◌, ap, sym, refl, arith, ℕ, zero, suc, ◌≤◌, ◌<◌, ◌+◌, Bool, true, false, not, inl, inr, Option, List, [], ◌∷◌, Contains, cond, get_or, length}
use Rattle.std.specs.List.{All}
use Rattle.std.specs.Prelude.{unwrap_or}
use Rattle.std.proofs.lemmas.Bool.{cases_lt, false≢true}
use Rattle.std.proofs.lemmas.List.{set_past}
use Rattle.std.proofs.lemmas.List.Elements.{All-cons, All-contains, All-nil}
use Rattle.std.proofs.lemmas.List.Sums.{count_by-le-length, length-filter, sum_by-set}
use Rattle.std.proofs.lemmas.Option.{slice_get-get_or}
use Rattle.rx_row.proofs.Same.{known_itself_row}
use Rattle.rx_row.specs.contracts.row.RowPartialEq.TheImpl as row_equal
use Rattle.rx_row.specs.declared.row.Row.{Row}
use Rattle.rx_find_domains.specs.Finding.{count_rows, list_of, others, without}

-- ---- one list

-- it is another row
abbrev pub differs : Row → Row → Bool
differs row other = not ((row_equal.ghosts).eq other row)

pub others_less : (row : Row) (rows : List Row) → length (others row rows) ≤ length rows
others_less row rows =
    let same = length-filter (differs row) rows in
    let most = count_by-le-length (differs row) rows in
    omega (arith, same, most)

-- where as many are left, the row wasn't there
all_differ : (row : Row) (rows : List Row) → length (others row rows) ≡ length rows →
    All (λ (other : Row). differs row other ≡ true) rows
all_differ row [] e = All-nil (λ (other : Row). differs row other ≡ true)
all_differ row (first ∷ rows) e =
    by (differs row first) refl e (all_differ row rows) where
      by : (b : Bool) → differs row first ≡ b
          → length (cond b (first ∷ others row rows) (others row rows)) ≡ length (first ∷ rows)
          → (length (others row rows) ≡ length rows →
          All (λ (other : Row). differs row other ≡ true) rows)
          → All (λ (other : Row). differs row other ≡ true) (first ∷ rows)
      by true is e rest =
          All-cons (λ (other : Row). differs row other ≡ true) first rows is
          (rest (omega (arith, e)))
      by false is e rest = let h = others_less row rows in absurd (omega (arith, e, h))

pub others_fewer : (row : Row) (rows : List Row) → Contains rows row →
    length (others row rows) < length rows
others_fewer row rows there =
    elim (cases_lt (length (others row rows)) (length rows)) [
      | inl fewer ↦ fewer
      | inr as_many ↦
          let most = others_less row rows in
          let all = all_differ row rows (omega (arith, most, as_many)) in
          let never : differs row row ≡ true =
          All-contains (λ (other : Row). differs row other ≡ true) rows row all there in
          absurd (false≢true (ap not (sym (known_itself_row row)) ∙ never))
    ]

-- ---- the lists

-- the list of a symbol, where there is one, or no rows
pub list_at : (lists : List (List Row)) (f : ℕ) → f < length lists → list_of lists f ≡
    get_or lists f []
list_at lists f there =
    ap (λ (o : Option (List Row)). unwrap_or o []) (slice_get-get_or lists f [] there)

pub list_past : (lists : List (List Row)) (f : ℕ) → length lists ≤ f → list_of lists f ≡ []
list_past [] f past = refl
list_past (rows ∷ lists) zero past = absurd (omega (arith, past))
list_past (rows ∷ lists) (suc f) past = list_past lists f (omega (arith, past))

module _ (lists : List (List Row)) (f : ℕ) (row : Row) where
  -- where there is such a list, the count falls as the list does
  counted : f < length lists →
      count_rows (without lists f row) + length (list_of lists f) ≡
      count_rows lists + length (others row (list_of lists f))
  counted there =
      ap (λ (n : ℕ). count_rows (without lists f row) + n) (ap length (list_at lists f there)) ∙
      sum_by-set length lists f (others row (list_of lists f)) [] there

  pub without_lowers : count_rows (without lists f row) ≤ count_rows lists
  without_lowers = elim (cases_lt f (length lists)) [
    | inl there ↦
        let sum = counted there in
        let less = others_less row (list_of lists f) in
        omega (arith, sum, less)
    | inr past ↦
        let same : count_rows (without lists f row) ≡ count_rows lists =
        ap count_rows (set_past lists f (others row (list_of lists f)) past) in
        omega (arith, same)
  ]

  pub without_fewer : Contains (list_of lists f) row →
      count_rows (without lists f row) < count_rows lists
  without_fewer among = elim (cases_lt f (length lists)) [
    | inl there ↦
        let sum = counted there in
        let fewer = others_fewer row (list_of lists f) among in
        omega (arith, sum, fewer)
    | inr past ↦
        let none = ap length (list_past lists f past) in
        let some = among.1 in
        absurd (omega (arith, none, some))
  ]
