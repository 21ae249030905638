-- What is found by a certificate of each kind, by what those inside it find; how deep it is, and
-- which tests its variables pass.
use Rattle.std.proofs.Common.{◌≡◌, ◌∙◌, ap, refl, ℕ, ◌+◌, max, Bool, true, ◌&&◌, List, ℤ}
use Rattle.rx_poly_laws.specs.Tests.{passes}
use Rattle.rx_poly.specs.declared.body.Body.{Body}
use Rattle.rx_row.specs.declared.row.Row.{Row}
use Rattle.rx_cert.specs.Depth.{cert_depth, depth_level}
use Rattle.rx_cert.specs.Examination.{examined, verdict, level}
use Rattle.rx_cert.specs.Findings.{Said}
use Rattle.rx_cert.specs.Variables.{cert_passes, passes_level, row_passes}
use Rattle.rx_cert.specs.declared.cert.Cert.{Cert, Cert-F, fold_out-Cert, out-Cert, map-Cert}
use Rattle.rx_cert.specs.declared.cert.Cert.TheVariants.{Sum, Cut, Split, Differ, Solve, DivFacts, outs-Sum, outs-Cut, outs-Split, outs-Differ, outs-Solve, outs-DivFacts}

finding_is : (rows : List Row) (cert : Cert) → verdict rows cert ≡
    level (map-Cert Cert (List Row → Said) examined (out-Cert cert)) rows
finding_is rows cert =
    ap (λ (g : List Row → Said). g rows) (fold_out-Cert (List Row → Said) level cert)

pub finding_sum : (rows : List Row) (ps : List (ℕ × ℤ)) → verdict rows (Sum ps) ≡
    level (Cert-F.Sum ps) rows
finding_sum rows ps = finding_is rows (Sum ps) ∙ rw (outs-Sum ps) refl

pub finding_cut : (rows : List Row) (ps : List (ℕ × ℤ)) (d : ℤ) (rest : Cert) →
    verdict rows (Cut ps d rest) ≡ level (Cert-F.Cut ps d (examined rest)) rows
finding_cut rows ps d rest = finding_is rows (Cut ps d rest) ∙ rw (outs-Cut ps d rest) refl

pub finding_split : (rows : List Row) (row : Row) (first second : Cert) →
    verdict rows (Split row first second) ≡ level
    (Cert-F.Split row (examined first) (examined second)) rows
finding_split rows row first second =
    finding_is rows (Split row first second) ∙ rw (outs-Split row first second) refl

pub finding_differ : (rows : List Row) (at : ℕ) (above below : Cert) →
    verdict rows (Differ at above below) ≡ level
    (Cert-F.Differ at (examined above) (examined below)) rows
finding_differ rows at above below =
    finding_is rows (Differ at above below) ∙ rw (outs-Differ at above below) refl

pub finding_solve : (rows : List Row) (first second x : ℕ) (rest : Cert) →
    verdict rows (Solve first second x rest) ≡
    level (Cert-F.Solve first second x (examined rest)) rows
finding_solve rows first second x rest =
    finding_is rows (Solve first second x rest) ∙ rw (outs-Solve first second x rest) refl

pub finding_division : (rows : List Row) (num : Body) (d : ℤ) (above below : Cert) →
    verdict rows (DivFacts num d above below) ≡
    level (Cert-F.DivFacts num d (examined above) (examined below)) rows
finding_division rows num d above below =
    finding_is rows (DivFacts num d above below) ∙ rw (outs-DivFacts num d above below) refl

depth_is : (cert : Cert) → cert_depth cert ≡ depth_level
    (map-Cert Cert ℕ cert_depth (out-Cert cert))
depth_is cert = fold_out-Cert ℕ depth_level cert

pub depth_sum : (ps : List (ℕ × ℤ)) → cert_depth (Sum ps) ≡ 1
depth_sum ps = depth_is (Sum ps) ∙ rw (outs-Sum ps) refl

pub depth_cut : (ps : List (ℕ × ℤ)) (d : ℤ) (rest : Cert) → cert_depth (Cut ps d rest) ≡ 1 +
    cert_depth rest
depth_cut ps d rest = depth_is (Cut ps d rest) ∙ rw (outs-Cut ps d rest) refl

pub depth_split : (row : Row) (first second : Cert) → cert_depth (Split row first second) ≡ 1 +
    max (cert_depth first) (cert_depth second)
depth_split row first second =
    depth_is (Split row first second) ∙ rw (outs-Split row first second) refl

pub depth_differ : (at : ℕ) (above below : Cert) → cert_depth (Differ at above below) ≡ 1 +
    max (cert_depth above) (cert_depth below)
depth_differ at above below =
    depth_is (Differ at above below) ∙ rw (outs-Differ at above below) refl

pub depth_solve : (first second x : ℕ) (rest : Cert) → cert_depth (Solve first second x rest) ≡ 1 +
    cert_depth rest
depth_solve first second x rest =
    depth_is (Solve first second x rest) ∙ rw (outs-Solve first second x rest) refl

pub depth_division : (num : Body) (d : ℤ) (above below : Cert) →
    cert_depth (DivFacts num d above below) ≡ 1 + max (cert_depth above) (cert_depth below)
depth_division num d above below =
    depth_is (DivFacts num d above below) ∙ rw (outs-DivFacts num d above below) refl

passes_is : (test : ℕ → Bool) (cert : Cert) → cert_passes test cert ≡
    passes_level test (map-Cert Cert Bool (cert_passes test) (out-Cert cert))
passes_is test cert = fold_out-Cert Bool (passes_level test) cert

module _ (test : ℕ → Bool) where
  pub passes_sum : (ps : List (ℕ × ℤ)) → cert_passes test (Sum ps) ≡ true
  passes_sum ps = passes_is test (Sum ps) ∙ rw (outs-Sum ps) refl

  pub passes_cut : (ps : List (ℕ × ℤ)) (d : ℤ) (rest : Cert) → cert_passes test (Cut ps d rest) ≡
      cert_passes test rest
  passes_cut ps d rest = passes_is test (Cut ps d rest) ∙ rw (outs-Cut ps d rest) refl

  pub passes_split : (row : Row) (first second : Cert) → cert_passes test (Split row first second) ≡
      (row_passes test row && (cert_passes test first && cert_passes test second))
  passes_split row first second =
      passes_is test (Split row first second) ∙ rw (outs-Split row first second) refl

  pub passes_differ : (at : ℕ) (above below : Cert) → cert_passes test (Differ at above below) ≡
      (cert_passes test above && cert_passes test below)
  passes_differ at above below =
      passes_is test (Differ at above below) ∙ rw (outs-Differ at above below) refl

  pub passes_solve : (first second x : ℕ) (rest : Cert) →
      cert_passes test (Solve first second x rest) ≡ (test x && cert_passes test rest)
  passes_solve first second x rest =
      passes_is test (Solve first second x rest) ∙ rw (outs-Solve first second x rest) refl

  pub passes_division : (num : Body) (d : ℤ) (above below : Cert) →
      cert_passes test (DivFacts num d above below) ≡
      (passes test num && (cert_passes test above && cert_passes test below))
  passes_division num d above below =
      passes_is test (DivFacts num d above below) ∙ rw (outs-DivFacts num d above below) refl
