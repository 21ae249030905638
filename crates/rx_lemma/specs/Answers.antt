-- What the answer of naming says.
use Rattle.std.specs.Prelude.{◌≡◌, Option, Some, None, Result, Ok, Err}
use Rattle.rx_poly.specs.declared.poly_end.PolyEnd.{PolyEnd}
use Rattle.rx_poly.specs.declared.poly_end.PolyEnd.TheVariants.{Large}
use Rattle.rx_solve.specs.Attempts.{Tried, applies, beyond, fails}
use Rattle.rx_lemma.specs.Lemmas.{Generalisation, found_as}
use Rattle.rx_lemma.specs.declared.generalised.Generalised.{Generalised}

-- an answer that says what comes of trying to find one; that memory runs out is free
abbrev pub Finds : Tried Generalisation → Result (Option Generalised) PolyEnd → Type 0
Finds tried (Ok None) = tried ≡ fails
Finds tried (Ok (Some found)) = tried ≡ applies (found_as found)
Finds tried (Err e) = e ≡ Large → tried ≡ beyond
