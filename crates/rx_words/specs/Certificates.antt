-- Certificates as words: their kind, their numbers and rows, and the certificates in them.
use Rattle.std.specs.Prelude.{ℕ, nat_le, Bool, ◌&&◌, List, [], ◌∷◌, ℤ, codes}
use Rattle.rx_poly.specs.Limits.{fits_i128}
use Rattle.rx_text.specs.Formats.{Format}
use Rattle.rx_text.specs.Numbers.{integer_text, integers, natural_text}
use Rattle.rx_text.specs.Polynomials.{is_readable_poly, poly_text}
use Rattle.rx_text.specs.Rows.{is_readable_row, row_text}
use Rattle.rx_cert.specs.Depth.{cert_depth}
use Rattle.rx_cert.specs.declared.cert.Cert.{Cert}
use Rattle.rx_cert.specs.declared.cert.Cert.TheOpen.{Cert-F}
use Rattle.rx_cert.specs.declared.cert.Cert.TheFolds.{fold-Cert}
use Rattle.rx_words.specs.Words.{counted, numbers, pairs, spaced, variables, word, words}

-- parts of a sum: how many, then the number of a row and its multiplier for each
abbrev pub part_lists : Format (List (ℕ × ℤ))
part_lists = counted (pairs numbers (word integers))

-- a certificate, by the texts of those in it
abbrev pub cert_text_level : Cert-F (List ℕ) → List ℕ
cert_text_level (Cert-F.Sum parts) = spaced (codes "sum" ∷ part_lists.text parts ∷ [])
cert_text_level (Cert-F.Cut parts div rest) =
    spaced (codes "cut" ∷ part_lists.text parts ∷ integer_text div ∷ rest ∷ [])
cert_text_level (Cert-F.Split row holds fails) =
    spaced (codes "split" ∷ row_text row ∷ holds ∷ fails ∷ [])
cert_text_level (Cert-F.Differ at above below) =
    spaced (codes "differ" ∷ natural_text at ∷ above ∷ below ∷ [])
cert_text_level (Cert-F.Solve first second var rest) =
    spaced (codes "solve" ∷ natural_text first ∷ natural_text second ∷ natural_text var ∷ rest ∷ [])
cert_text_level (Cert-F.DivFacts num den above below) =
    spaced (codes "div" ∷ poly_text num ∷ integer_text den ∷ above ∷ below ∷ [])

-- the text of a certificate
abbrev pub cert_text : Cert → List ℕ
cert_text = fold-Cert (List ℕ) cert_text_level

-- all in it has a text: numbers are those of u32 and i128, variables are below 1,000,000
abbrev pub is_readable_level : Cert-F Bool → Bool
is_readable_level (Cert-F.Sum parts) = part_lists.in_range parts
is_readable_level (Cert-F.Cut parts div rest) = part_lists.in_range parts && (fits_i128 div && rest)
is_readable_level (Cert-F.Split row holds fails) = is_readable_row row && (holds && fails)
is_readable_level (Cert-F.Differ at above below) = numbers.in_range at && (above && below)
is_readable_level (Cert-F.Solve first second var rest) =
    numbers.in_range first && (numbers.in_range second && (variables.in_range var && rest))
is_readable_level (Cert-F.DivFacts num den above below) =
    is_readable_poly num && (fits_i128 den && (above && below))

abbrev pub is_readable_cert : Cert → Bool
is_readable_cert = fold-Cert Bool is_readable_level

-- certificates that are at most so deep
abbrev pub certificates_within : ℕ → Format Cert
certificates_within most =
    words cert_text (λ cert. nat_le (cert_depth cert) most && is_readable_cert cert)

-- certificates that are at most 200 deep
abbrev pub certificates : Format Cert
certificates = certificates_within 200

-- how many certificates, and each of them
abbrev pub certificate_lists : Format (List Cert)
certificate_lists = counted certificates
