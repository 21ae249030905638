-- A plain row holds wherever the given rows do, and so do all rows of a list that is shown.
use Rattle.std.proofs.Common.{◌≡◌, ◌∙◌, ap, sym, refl, cond, ◌↔◌, ℕ, ◌+◌, ◌==◌, Bool, true, false, not, ◌||◌, Option, Some, None, Result, Ok, Err, IfOk, List, [], ◌∷◌, length, Contains, ℤ, pos, negsuc, ◌≤ℤ◌, int_lt, arith}
use Rattle.std.proofs.lemmas.Int.{ints}
use Rattle.std.proofs.lemmas.List.Elements.{All-cons, All-contains, All-nil}
use Rattle.std.proofs.lemmas.Bool.{eqb-true, or_left}
use Rattle.rx_poly.proofs.DivisionLaws.{constant_value}
use Rattle.rx_poly.proofs.TermLaws.{zero_is}
use Rattle.rx_poly.specs.Reading.{constant_of}
use Rattle.rx_poly.specs.Terms.{is_zero}
use Rattle.rx_poly.specs.Value.{value}
use Rattle.rx_poly.specs.declared.poly_end.PolyEnd.{PolyEnd}
use Rattle.rx_poly.specs.declared.body.Body.{out-Body}
use Rattle.rx_row.proofs.Membership.{stands-contains, stands_is}
use Rattle.rx_row.specs.Membership.{stands_among}
use Rattle.rx_row.specs.Holds.{AllHold, RowHolds}
use Rattle.rx_row.specs.declared.row.Row.{Row}
use Rattle.rx_row.specs.declared.row.Row.TheVariants.{Ge, Eq, Ne}
use Rattle.rx_cert.specs.Conditions.{conditions, in_order, is_evident, is_number_with, is_plain_row, shown_or, asked_for}
use Rattle.rx_cert.specs.Examination.{row_finding}
use Rattle.rx_cert.specs.Findings.{Said, Yes, No, Beyond}
use Rattle.rx_cert.specs.declared.cert.Cert.{Cert}
use Rattle.rx_cert.specs.declared.conditions.ConditionsAnswer.{ConditionsAnswer}
use Rattle.rx_cert.specs.declared.conditions.ConditionsAnswer.TheVariants.{Shown, WrongCount}
use Rattle.rx_cert.proofs.Law.{shown_holds}

-- ---- evident rows

told : (test : ℤ → Bool) (o : Option ℤ) (z : ℤ) → ((k : ℤ) → o ≡ Some k → z ≡ k) →
    is_number_with test o ≡ true → test z ≡ true
told test None z worth e = cc
told test (Some k) z worth e = ap test (worth k refl) ∙ e

not_below : (z : ℤ) → not (int_lt z (pos 0)) ≡ true → pos 0 ≤ℤ z
not_below (pos n) e = omega (arith, ints)
not_below (negsuc n) e = cc

not_zero : (z : ℤ) → not (is_zero z) ≡ true → z ≡ pos 0 → ⊥
not_zero z e is = let no : false ≡ true = sym (ap (λ k. not (is_zero k)) is) ∙ e in cc

evident_holds : (a : ℕ → ℤ) (row : Row) → is_evident row ≡ true → RowHolds a row
evident_holds a (Ge p) e =
    not_below (value a p) (told (λ k. not (int_lt k (pos 0))) (constant_of (out-Body p).terms)
    (value a p) (constant_value a p) e)
evident_holds a (Eq p) e =
    zero_is (value a p) (told is_zero (constant_of (out-Body p).terms) (value a p)
    (constant_value a p) e)
evident_holds a (Ne p) e =
    not_zero (value a p) (told (λ k. not (is_zero k)) (constant_of (out-Body p).terms) (value a p)
    (constant_value a p) e)

-- a plain row holds wherever the given rows do
pub plain_holds : (a : ℕ → ℤ) (given : List Row) (row : Row) → is_plain_row given row ≡ true →
    AllHold a given → RowHolds a row
plain_holds a given row e holds = by (stands_among given row) refl e
  where
    by : (b : Bool) → stands_among given row ≡ b → (b || is_evident row) ≡ true → RowHolds a row
    by true s h = All-contains (RowHolds a) given row holds (stands-contains given row s)
    by false s h = evident_holds a row h

-- what a `bool` for which rows are there, and one for what is evident, say of a plain row
pub plain_then : (b : Bool) (rows : List Row) (row : Row) → ((b ≡ true) ↔ Contains rows row) → b ≡
    true → b ≡ is_plain_row rows row
plain_then b rows row tells h =
    h ∙ sym (or_left (stands_among rows row) (is_evident row)
    (sym (stands_is b rows row tells) ∙ h))

pub plain_else : (b e : Bool) (rows : List Row) (row : Row) → ((b ≡ true) ↔ Contains rows row) → b ≡
    false → e ≡ is_evident row → e ≡ is_plain_row rows row
plain_else b e rows row tells h evident =
    evident ∙ ap (λ s. s || is_evident row) (sym h ∙ stands_is b rows row tells)

-- ---- lists

module _ (a : ℕ → ℤ) (given : List Row) (holds : AllHold a given) where
  plain_or_shown : (row : Row) (rows : List Row) (further other : Option ConditionsAnswer) →
      (further ≡ Some Shown → AllHold a rows) →
      (other ≡ Some Shown → RowHolds a row × AllHold a rows) →
      (b : Bool) → is_plain_row given row ≡ b → cond b further other ≡ Some Shown →
      AllHold a (row ∷ rows)
  plain_or_shown row rows further other f g true plain e =
      All-cons (RowHolds a) row rows (plain_holds a given row plain holds) (f e)
  plain_or_shown row rows further other f g false plain e =
      let both = g e in All-cons (RowHolds a) row rows both.0 both.1

  shown_parts : (found : Said) (i : ℕ) (later : Option ConditionsAnswer) → shown_or found i later ≡
      Some Shown → (found ≡ Yes) × (later ≡ Some Shown)
  shown_parts Beyond i later e = cc
  shown_parts Yes i later e = (refl, e)
  shown_parts No i later e = cc

  shown_row : (row : Row) (rows : List Row) (cert : Cert) (i : ℕ) (later : Option ConditionsAnswer)
      → (later ≡ Some Shown → AllHold a rows) → shown_or (row_finding given row cert) i later ≡
      Some Shown → RowHolds a row × AllHold a rows
  shown_row row rows cert i later f e =
      let parts = shown_parts (row_finding given row cert) i later e in
      (shown_holds given row cert parts.0 a holds, f parts.1)

  wrong_count : (row : Row) (rows : List Row) → Some WrongCount ≡ Some Shown → RowHolds a row ×
      AllHold a rows
  wrong_count row rows e = cc

  pub in_order_holds : (rows : List Row) (i : ℕ) (certs : List Cert) → in_order i given rows certs ≡
      Some Shown → AllHold a rows
  in_order_holds [] i certs e = All-nil (RowHolds a)
  in_order_holds (row ∷ rows) i [] e =
      plain_or_shown row rows (in_order (i + 1) given rows []) (Some WrongCount)
      (in_order_holds rows (i + 1) []) (wrong_count row rows) (is_plain_row given row) refl e
  in_order_holds (row ∷ rows) i (cert ∷ certs) e =
      plain_or_shown row rows (in_order (i + 1) given rows (cert ∷ certs))
      (shown_or (row_finding given row cert) i (in_order (i + 1) given rows certs))
      (in_order_holds rows (i + 1) (cert ∷ certs))
      (shown_row row rows cert i (in_order (i + 1) given rows certs)
      (in_order_holds rows (i + 1) certs))
      (is_plain_row given row) refl e

-- ---- numbers of rows

module _ (given : List Row) where
  renumbered_if : (b : Bool) (further other further' other' : Option ConditionsAnswer) →
      (further ≡ Some Shown → further' ≡ Some Shown) → (other ≡ Some Shown → other' ≡ Some Shown) →
      cond b further other ≡ Some Shown → cond b further' other' ≡ Some Shown
  renumbered_if true further other further' other' f g e = f e
  renumbered_if false further other further' other' f g e = g e

  renumbered_or : (found : Said) (i j : ℕ) (later later' : Option ConditionsAnswer) →
      (later ≡ Some Shown → later' ≡ Some Shown) → shown_or found i later ≡ Some Shown →
      shown_or found j later' ≡ Some Shown
  renumbered_or Beyond i j later later' f e = cc
  renumbered_or Yes i j later later' f e = f e
  renumbered_or No i j later later' f e = cc

  -- rows that are shown are shown whatever the number of the first
  pub renumbered : (rows : List Row) (i j : ℕ) (certs : List Cert) → in_order i given rows certs ≡
      Some Shown → in_order j given rows certs ≡ Some Shown
  renumbered [] i j certs e = refl
  renumbered (row ∷ rows) i j [] e =
      renumbered_if (is_plain_row given row) (in_order (i + 1) given rows []) (Some WrongCount)
      (in_order (j + 1) given rows []) (Some WrongCount) (renumbered rows (i + 1) (j + 1) [])
      (λ wrong. wrong) e
  renumbered (row ∷ rows) i j (cert ∷ certs) e =
      renumbered_if (is_plain_row given row) (in_order (i + 1) given rows (cert ∷ certs))
      (shown_or (row_finding given row cert) i (in_order (i + 1) given rows certs))
      (in_order (j + 1) given rows (cert ∷ certs))
      (shown_or (row_finding given row cert) j (in_order (j + 1) given rows certs))
      (renumbered rows (i + 1) (j + 1) (cert ∷ certs))
      (renumbered_or (row_finding given row cert) i j (in_order (i + 1) given rows certs)
      (in_order (j + 1) given rows certs) (renumbered rows (i + 1) (j + 1) certs)) e

-- ---- condition lists

-- as many certificates as are asked for, and each row is shown
pub conditions_parts : (given rows : List Row) (certs : List Cert) →
    conditions given (Some rows) certs ≡ Some Shown →
    (length certs ≡ asked_for given rows) × (in_order 0 given rows certs ≡ Some Shown)
conditions_parts given rows certs e = by (length certs == asked_for given rows) refl e
  where
    by : (b : Bool) → (length certs == asked_for given rows) ≡ b →
        cond b (in_order 0 given rows certs) (Some WrongCount) ≡ Some Shown →
        (length certs ≡ asked_for given rows) × (in_order 0 given rows certs ≡ Some Shown)
    by true same h = (eqb-true (length certs) (asked_for given rows) same, h)
    by false same h = cc

-- as many certificates as are asked for, and each row shown: the rows hold wherever the given ones
-- do
pub conditions_hold : (given rows : List Row) (certs : List Cert) →
    conditions given (Some rows) certs ≡ Some Shown → (a : ℕ → ℤ) → AllHold a given → AllHold a rows
conditions_hold given rows certs e a holds = by (length certs == asked_for given rows) e
  where
    by : (b : Bool) → cond b (in_order 0 given rows certs) (Some WrongCount) ≡ Some Shown →
        AllHold a rows
    by true h = in_order_holds a given holds rows 0 certs h
    by false h = cc

-- the same of an answer
pub answer_holds : (r : Result ConditionsAnswer PolyEnd) (given rows : List Row) (certs : List Cert)
    → IfOk r (λ c. in_order 0 given rows certs ≡ Some c) →
    IfOk r (λ c. c ≡ Shown → (a : ℕ → ℤ) → AllHold a given → AllHold a rows)
answer_holds (Ok c) given rows certs e =
    λ is a holds. in_order_holds a given holds rows 0 certs (e ∙ ap Some is)
answer_holds (Err x) given rows certs e = tt
