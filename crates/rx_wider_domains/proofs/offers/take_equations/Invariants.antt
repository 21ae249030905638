-- What is left of the arguments decides.
use Rattle.std.proofs.Common.{◌≡◌, drop}
use Rattle.rx_wider_domains.specs.Groups.{taken}
use Rattle.rx_wider_domains.specs.Offers.{equations_from}
use Rattle.rx_wider_domains.proofs.offers.take_equations.Given as goal

abbrev pub invariant-loop-place : goal.invariant-loop-place
invariant-loop-place l =
    taken l.rows (equations_from l.places l.place (drop l.place l.args))
    ≡ taken l.fn.rows (equations_from l.places 0 l.args)
