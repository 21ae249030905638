-- What is left of the arguments decides.
use Rattle.std.proofs.Common.{◌≡◌, drop}
use Rattle.rx_wider_domains.specs.Groups.{taken}
use Rattle.rx_wider_domains.specs.Offers.{numbers_from}
use Rattle.rx_wider_domains.proofs.offers.take_numbers.Given as goal

abbrev pub invariant-loop-place : goal.invariant-loop-place
invariant-loop-place l =
    taken l.rows (numbers_from l.place (drop l.place l.args))
    ≡ taken l.fn.rows (numbers_from 0 l.args)
