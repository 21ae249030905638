use Rattle.std.proofs.Common.{◌≡◌, take}
use Rattle.rx_cert.proofs.cert.copied_certs.Given as goal

abbrev pub invariant-loop-cert : goal.invariant-loop-cert
invariant-loop-cert l = l.made ≡ take l.cert-index l.certs
