use Rattle.std.proofs.Common.{◌≡◌, true, take}
use Rattle.std.specs.List.{list_all}
use Rattle.rx_log.specs.Depth.{is_shallow}
use Rattle.rx_logwriting.proofs.depth.are_shallow.Given as goal

abbrev pub invariant-loop-cert : goal.invariant-loop-cert
invariant-loop-cert l = list_all is_shallow (take l.cert-index l.certs) ≡ true
