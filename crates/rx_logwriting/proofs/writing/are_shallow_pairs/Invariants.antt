use Rattle.std.proofs.Common.{◌≡◌, true, take}
use Rattle.std.specs.List.{list_all}
use Rattle.rx_pairs.specs.declared.pair_cert.PairCert.{PairCert}
use Rattle.rx_log.specs.Depth.{are_shallow}
use Rattle.rx_logwriting.proofs.writing.are_shallow_pairs.Given as goal

abbrev pub invariant-loop-pair : goal.invariant-loop-pair
invariant-loop-pair l =
    list_all (λ (pair : PairCert). are_shallow pair.certs) (take l.pair-index l.pairs) ≡ true
