use Rattle.std.proofs.Common.{◌≡◌, true, take}
use Rattle.std.specs.List.{list_all}
use Rattle.rx_words.specs.Certificates.{certificate_lists}
use Rattle.rx_logwriting.proofs.ranges.keeps_have_text.Given as goal

abbrev pub invariant-loop-certs : goal.invariant-loop-certs
invariant-loop-certs l =
    list_all certificate_lists.in_range (take l.certs-index l.keeps) ≡ true
