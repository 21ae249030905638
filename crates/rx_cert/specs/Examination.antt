-- Whether a certificate refutes rows: by cases over its kind, its parts examined from left to
-- right. New rows go after the others, also where they are there already.
use Rattle.std.specs.Prelude.{if◌then◌else◌, List, [], ◌∷◌, ◌++◌, slice_get}
use Rattle.rx_poly.specs.Terms.{is_zero}
use Rattle.rx_row.specs.Negation.{negation, negation_within}
use Rattle.rx_row.specs.Parts.{parts_within, sum_of}
use Rattle.rx_row.specs.declared.row.Row.{Row}
use Rattle.rx_cert.specs.Differences.{differ_finding, disequal}
use Rattle.rx_cert.specs.DivisionFacts.{at_least_zero_within, below_zero_within, rows_at_least_zero, rows_below_zero}
use Rattle.rx_cert.specs.Elimination.{zero_polynomial, solve_finding}
use Rattle.rx_cert.specs.Findings.{Said, No, and_also, with_row, guard}
use Rattle.rx_cert.specs.Rounding.{rounding_row}
use Rattle.rx_cert.specs.Sums.{sum_finding}
use Rattle.rx_cert.specs.declared.cert.Cert.{Cert}
use Rattle.rx_cert.specs.declared.cert.Cert.TheOpen.{Cert-F}
use Rattle.rx_cert.specs.declared.cert.Cert.TheFolds.{fold-Cert}

-- what is found of rows, by what the certificates inside find of the rows that they are given
abbrev pub level : Cert-F (List Row → Said) → List Row → Said
level (Cert-F.Sum parts) rows = sum_finding rows parts
level (Cert-F.Cut parts d rest) rows =
    guard (parts_within rows parts) (with_row rows (rounding_row d (sum_of rows parts)) rest)
level (Cert-F.Split row holds fails) rows = and_also
    (holds (rows ++ row ∷ []))
    (guard (negation_within row) (fails (rows ++ negation row ∷ [])))
level (Cert-F.Differ at above below) rows =
    differ_finding (disequal (slice_get rows at)) rows above below
level (Cert-F.Solve first second x rest) rows =
    solve_finding x (zero_polynomial rows first second) rows rest
level (Cert-F.DivFacts num d above below) rows = if is_zero d then No else and_also
    (guard (at_least_zero_within num d) (above (rows ++ rows_at_least_zero num d)))
    (guard (below_zero_within num d) (below (rows ++ rows_below_zero num d)))

abbrev pub examined : Cert → List Row → Said
examined = fold-Cert (List Row → Said) level

-- whether the certificate refutes the rows
abbrev pub verdict : List Row → Cert → Said
verdict rows cert = examined cert rows

-- whether the rows show the row: its negation after them is refuted
abbrev pub row_finding : List Row → Row → Cert → Said
row_finding rows row cert = guard (negation_within row) (verdict (rows ++ negation row ∷ []) cert)
