-- Tests that the variables of rows, and of a certificate, pass, at every level: that all are below
-- a number, say, or that all are a list's.
use Rattle.std.specs.Prelude.{ℕ, Bool, true, ◌&&◌, nat_lt, List}
use Rattle.std.specs.List.{list_all}
use Rattle.rx_poly_laws.specs.Tests.{passes}
use Rattle.rx_row.specs.Parts.{poly_of}
use Rattle.rx_row.specs.declared.row.Row.{Row}
use Rattle.rx_cert.specs.declared.cert.Cert.{Cert}
use Rattle.rx_cert.specs.declared.cert.Cert.TheOpen.{Cert-F}
use Rattle.rx_cert.specs.declared.cert.Cert.TheFolds.{fold-Cert}

-- all variables of the row pass the test
abbrev pub row_passes : (ℕ → Bool) → Row → Bool
row_passes test row = passes test (poly_of row)

-- all variables of the rows do
abbrev pub rows_pass : (ℕ → Bool) → List Row → Bool
rows_pass test rows = list_all (row_passes test) rows

-- those of a certificate: the row of a case split, the variable that is replaced, the dividend
abbrev pub passes_level : (ℕ → Bool) → Cert-F Bool → Bool
passes_level test (Cert-F.Sum parts) = true
passes_level test (Cert-F.Cut parts d rest) = rest
passes_level test (Cert-F.Split row holds fails) = row_passes test row && (holds && fails)
passes_level test (Cert-F.Differ at above below) = above && below
passes_level test (Cert-F.Solve first second x rest) = test x && rest
passes_level test (Cert-F.DivFacts num d above below) = passes test num && (above && below)

abbrev pub cert_passes : (ℕ → Bool) → Cert → Bool
cert_passes test = fold-Cert Bool (passes_level test)

-- all variables of the certificate are below the number
abbrev pub cert_uses_below : ℕ → Cert → Bool
cert_uses_below n = cert_passes (λ v. nat_lt v n)
