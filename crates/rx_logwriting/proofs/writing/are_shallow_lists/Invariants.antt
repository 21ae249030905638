use Rattle.std.proofs.Common.{◌≡◌, true, take}
use Rattle.std.specs.List.{list_all}
use Rattle.rx_log.specs.Depth.{are_shallow}
use Rattle.rx_logwriting.proofs.writing.are_shallow_lists.Given as goal

abbrev pub invariant-loop-certs : goal.invariant-loop-certs
invariant-loop-certs l = list_all are_shallow (take l.certs-index l.keeps) ≡ true
