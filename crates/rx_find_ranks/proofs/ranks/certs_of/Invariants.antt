-- Those of the first pairs.
use Rattle.std.proofs.Common.{◌≡◌, map}
use Rattle.rx_find_ranks.specs.Closing.{cert_of}
use Rattle.rx_find_ranks.proofs.ranks.certs_of.Given as goal

abbrev pub invariant-loop-found : goal.invariant-loop-found
invariant-loop-found l = l.certs ≡ map cert_of l.yielded
