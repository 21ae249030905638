-- Rows that are to follow from others: those that aren't plain take one certificate each, in order.
use Rattle.std.specs.Prelude.{ℕ, ◌+◌, ◌==◌, Bool, false, not, ◌||◌, if◌then◌else◌, Option, Some, None, List, [], ◌∷◌, length, count_by, ℤ, pos, int_lt}
use Rattle.rx_poly.specs.Reading.{constant_of}
use Rattle.rx_poly.specs.Terms.{is_zero}
use Rattle.rx_poly.specs.declared.body.Body.{out-Body}
use Rattle.rx_row.specs.Membership.{stands_among}
use Rattle.rx_row.specs.declared.row.Row.{Row}
use Rattle.rx_row.specs.declared.row.Row.TheVariants.{Ge, Eq, Ne}
use Rattle.rx_cert.specs.Examination.{row_finding}
use Rattle.rx_cert.specs.Findings.{Said, Yes, No, Beyond}
use Rattle.rx_cert.specs.declared.cert.Cert.{Cert}
use Rattle.rx_cert.specs.declared.conditions.ConditionsAnswer.{ConditionsAnswer}
use Rattle.rx_cert.specs.declared.conditions.ConditionsAnswer.TheVariants.{Shown, WrongCount, NotShown}

-- ---- plain rows

-- the polynomial is a number, and that passes the test
abbrev pub is_number_with : (ℤ → Bool) → Option ℤ → Bool
is_number_with test None = false
is_number_with test (Some k) = test k

-- a number of at least 0 is said to be so, 0 to be 0, or another number not to be 0
abbrev pub is_evident : Row → Bool
is_evident (Ge p) = is_number_with (λ k. not (int_lt k (pos 0))) (constant_of (out-Body p).terms)
is_evident (Eq p) = is_number_with is_zero (constant_of (out-Body p).terms)
is_evident (Ne p) = is_number_with (λ k. not (is_zero k)) (constant_of (out-Body p).terms)

-- the row follows without a certificate
abbrev pub is_plain_row : List Row → Row → Bool
is_plain_row rows row = stands_among rows row || is_evident row

-- ---- condition lists

-- the certificates that a list asks for
abbrev pub asked_for : List Row → List Row → ℕ
asked_for given rows = count_by (λ row. not (is_plain_row given row)) rows

-- a row that isn't shown ends the list, and is named by its place
abbrev pub shown_or : Said → ℕ → Option ConditionsAnswer → Option ConditionsAnswer
shown_or Beyond i later = None
shown_or Yes i later = later
shown_or No i later = Some (NotShown i)

-- the rows in order, the first being number i, with the certificates that are left; as many are
-- given as are asked for
abbrev pub in_order : ℕ → List Row → List Row → List Cert → Option ConditionsAnswer
in_order i given [] certs = Some Shown
in_order i given (row ∷ rows) [] =
    if is_plain_row given row then in_order (i + 1) given rows [] else Some WrongCount
in_order i given (row ∷ rows) (cert ∷ certs) =
    if is_plain_row given row then in_order (i + 1) given rows (cert ∷ certs)
    else shown_or (row_finding given row cert) i (in_order (i + 1) given rows certs)

-- as many certificates as are asked for, and then row by row
abbrev pub counted : List Row → List Row → List Cert → Option ConditionsAnswer
counted given rows certs =
    if length certs == asked_for given rows then in_order 0 given rows certs else Some WrongCount

-- where a row of the list passes the limits itself there are no rows, and nothing else is looked
-- at; `None` is also the answer where a certificate comes to a polynomial that passes them
abbrev pub conditions : List Row → Option (List Row) → List Cert → Option ConditionsAnswer
conditions given None certs = None
conditions given (Some rows) certs = counted given rows certs

-- the list is shown, it isn't, or a polynomial passes the limits before either is seen
abbrev pub is_shown : Option ConditionsAnswer → Said
is_shown None = Beyond
is_shown (Some Shown) = Yes
is_shown (Some WrongCount) = No
is_shown (Some (NotShown i)) = No
