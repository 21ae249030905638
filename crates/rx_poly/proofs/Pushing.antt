-- A list that is being built term by term: what is there, what the rest still adds, and that the
-- rest decides whether all fits.
use Rattle.std.proofs.Common.{◌≡◌, Bool, List, ◌++◌, ℤ}
use Rattle.rx_poly.specs.Limits.{all_fit}
use Rattle.rx_poly.specs.declared.body.Mono.{Mono}

-- `rest` is what is still to be added after `done`, and decides whether all fits
pub record Pushing (done rest whole : List (Mono × ℤ)) (fit : Bool) : Type 0 where
  pub made : done ++ rest ≡ whole
  pub fits : all_fit rest ≡ fit
