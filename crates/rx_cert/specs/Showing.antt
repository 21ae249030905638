-- Which rows follow from others, by a function that says of rows whether they are refuted.
use Rattle.std.specs.Prelude.{◌≡◌, if◌then◌else◌, List, [], ◌∷◌, ◌++◌}
use Rattle.rx_row.specs.Negation.{negation, negation_within}
use Rattle.rx_row.specs.declared.row.Row.{Row}
use Rattle.rx_cert.specs.Conditions.{is_plain_row}
use Rattle.rx_cert.specs.Examination.{verdict}
use Rattle.rx_cert.specs.Findings.{Said, Yes, and_also, guard}
use Rattle.rx_cert.specs.declared.cert.Cert.{Cert}

-- what is said of the given rows with the negation of the row after them; beyond where the negation
-- passes the limits
abbrev pub negation_said : (List Row → Said) → List Row → Row → Said
negation_said says given row = guard (negation_within row) (says (given ++ negation row ∷ []))

-- the row is plain, or its negation is said to be refuted
abbrev pub shown : (List Row → Said) → List Row → Row → Said
shown says given row = if is_plain_row given row then Yes else negation_said says given row

-- the rows in order, up to the first that isn't shown
abbrev pub all_shown : (List Row → Said) → List Row → List Row → Said
all_shown says given [] = Yes
all_shown says given (row ∷ rows) = and_also (shown says given row) (all_shown says given rows)

-- what is said to be refuted has a certificate
abbrev pub HasCertificates : (List Row → Said) → Type 0
HasCertificates says =
    (rows : List Row) → says rows ≡ Yes → (cert : Cert) × (verdict rows cert ≡ Yes)
