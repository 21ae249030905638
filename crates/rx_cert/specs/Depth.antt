-- How deep a certificate is: 1, and 1 more for each level of certificates in it.
use Rattle.std.specs.Prelude.{ℕ, ◌+◌, max}
use Rattle.rx_cert.specs.declared.cert.Cert.{Cert}
use Rattle.rx_cert.specs.declared.cert.Cert.TheOpen.{Cert-F}
use Rattle.rx_cert.specs.declared.cert.Cert.TheFolds.{fold-Cert}

abbrev pub depth_level : Cert-F ℕ → ℕ
depth_level (Cert-F.Sum parts) = 1
depth_level (Cert-F.Cut parts d rest) = 1 + rest
depth_level (Cert-F.Split row holds fails) = 1 + max holds fails
depth_level (Cert-F.Differ at above below) = 1 + max above below
depth_level (Cert-F.Solve first second x rest) = 1 + rest
depth_level (Cert-F.DivFacts num d above below) = 1 + max above below

abbrev pub cert_depth : Cert → ℕ
cert_depth = fold-Cert ℕ depth_level
