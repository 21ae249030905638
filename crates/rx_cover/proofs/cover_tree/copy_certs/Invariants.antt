use Rattle.std.proofs.Common.{◌≡◌, take}
use Rattle.rx_cover.proofs.cover_tree.copy_certs.Given as goal

abbrev pub invariant-loop-cert : goal.invariant-loop-cert
invariant-loop-cert l = l.copies ≡ take l.cert-index l.certs
