-- A row is one of a list exactly where the list contains it, so a list to which it is added holds
-- where the list and the row do.
use Rattle.std.proofs.Common.{◌≡◌, ◌∙◌, ◌↔◌, ap, subst, sym, refl, ℕ, zero, suc, ◌<◌, Bool, true, false, ◌||◌, if◌then◌else◌, List, [], ◌∷◌, ◌++◌, length, get_or, Contains, ℤ, arith}
use Rattle.std.proofs.lemmas.List.Elements.{Contains-append_right}
use Rattle.std.proofs.lemmas.Bool.{false_from_ne_true, or_left, or_right}
use Rattle.rx_row.specs.Holds.{AllHold, RowHolds}
use Rattle.rx_row.specs.Membership.{pushed, stands_among}
use Rattle.rx_row.specs.declared.row.Row.{Row}
use Rattle.rx_row.proofs.RowLaws.{all_hold-contains, all_hold-push}
use Rattle.rx_row.proofs.Same.{row_eq, known_itself_row, known_same_row}

behind : (r : Row) (rs : List Row) (row : Row) → Contains rs row → Contains (r ∷ rs) row
behind r rs row c = Contains-append_right (r ∷ []) rs row c

first_or_after : (r : Row) (rs : List Row) (row : Row) →
    (stands_among rs row ≡ true → Contains rs row) → (b : Bool) → row_eq r row ≡ b →
    (b || stands_among rs row) ≡ true → Contains (r ∷ rs) row
first_or_after r rs row later true same h = (0, omega arith, known_same_row r row same)
first_or_after r rs row later false same h = behind r rs row (later h)

-- the test of the rows says which are among them
pub stands-contains : (rows : List Row) (row : Row) → stands_among rows row ≡ true →
    Contains rows row
stands-contains [] row e = cc
stands-contains (r ∷ rs) row e =
    first_or_after r rs row (stands-contains rs row) (row_eq r row) refl e

pub contains-stands : (rows : List Row) (row : Row) (k : ℕ) → k < length rows → get_or rows k row ≡
    row → stands_among rows row ≡ true
contains-stands [] row k h e = absurd (omega arith)
contains-stands (r ∷ rs) row zero h e =
    or_left (row_eq r row) (stands_among rs row)
    (subst (λ x. row_eq r x ≡ true) e (known_itself_row r))
contains-stands (r ∷ rs) row (suc k) h e =
    or_right (row_eq r row) (stands_among rs row) (contains-stands rs row k (omega arith) e)

-- so a `bool` that says which rows these are is the test
pub stands_is : (b : Bool) (rows : List Row) (row : Row) → ((b ≡ true) ↔ Contains rows row) → b ≡
    stands_among rows row
stands_is true rows row tells = let c = tells.0 refl in sym (contains-stands rows row c.0 c.1 c.2)
stands_is false rows row tells =
    sym (false_from_ne_true (stands_among rows row) (λ e. let no : false ≡ true =
    tells.1 (stands-contains rows row e) in cc))

-- a row of the list is not added
pub pushed_known : {b : Bool} (rows : List Row) (row : Row) → ((b ≡ true) ↔ Contains rows row) → b ≡
    true → rows ≡ pushed rows row
pushed_known {b} rows row tells e =
    ap (λ c. if c then rows else rows ++ row ∷ []) (sym e ∙ stands_is b rows row tells)

-- another one is
pub pushed_new : {b : Bool} (rows : List Row) (row : Row) → ((b ≡ true) ↔ Contains rows row) → b ≡
    false → rows ++ row ∷ [] ≡ pushed rows row
pushed_new {b} rows row tells e =
    ap (λ c. if c then rows else rows ++ row ∷ []) (sym e ∙ stands_is b rows row tells)

pub all_hold_pushed : (a : ℕ → ℤ) (rows : List Row) (row : Row) →
    AllHold a (pushed rows row) ↔ (AllHold a rows × RowHolds a row)
all_hold_pushed a rows row = by (stands_among rows row) refl
  where
    by : (b : Bool) → stands_among rows row ≡ b →
        AllHold a (if b then rows else rows ++ row ∷ []) ↔ (AllHold a rows × RowHolds a row)
    by true e = all_hold-contains a rows row (stands-contains rows row e)
    by false e = all_hold-push a rows row
