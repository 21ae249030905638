use Rattle.std.proofs.Common.{◌≡◌, true, take}
use Rattle.std.specs.List.{list_all}
use Rattle.rx_words.specs.Certificates.{certificates}
use Rattle.rx_logwriting.proofs.certificates.each_cert_has_text.Given as goal

abbrev pub invariant-loop-cert : goal.invariant-loop-cert
invariant-loop-cert l = list_all certificates.in_range (take l.cert-index l.certs) ≡ true
