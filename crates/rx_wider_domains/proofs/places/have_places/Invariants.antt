-- What is left decides.
use Rattle.std.proofs.Common.{◌≡◌, drop}
use Rattle.std.specs.List.{list_all}
use Rattle.rx_poly.specs.Variables.{is_one_of}
use Rattle.rx_wider_domains.specs.Places.{placed}
use Rattle.rx_wider_domains.proofs.places.have_places.Given as goal

abbrev pub invariant-loop-variable : goal.invariant-loop-variable
invariant-loop-variable l =
    list_all (λ v. is_one_of v (placed l.places)) (drop l.variable-index l.variables)
    ≡ list_all (λ v. is_one_of v (placed l.places)) l.variables
