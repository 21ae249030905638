-- What the answers say of generalisations that are found.
use Rattle.std.specs.Prelude.{◌≡◌, Option, Some, None, Result, Ok, Err, List, map}
use Rattle.rx_fm.specs.declared.fm_end.FmEnd.{FmEnd}
use Rattle.rx_fm.specs.declared.fm_end.FmEnd.TheVariants.{Large as TooLarge}
use Rattle.rx_lemma.specs.declared.generalised.Generalised.{Generalised}
use Rattle.rx_lemma.specs.Lemmas.{Generalisation, found_as}

-- an answer that has that generalisation, if there is one, or says that something passes the limits
abbrev pub FindsAny : Option (Option Generalisation) → Result (Option Generalised) FmEnd → Type 0
FindsAny made (Ok None) = made ≡ Some None
FindsAny made (Ok (Some found)) = made ≡ Some (Some (found_as found))
FindsAny made (Err e) = e ≡ TooLarge → made ≡ None

-- that has all of them
abbrev pub FindsAll : Option (List Generalisation) → Result (List Generalised) FmEnd → Type 0
FindsAll made (Ok found) = made ≡ Some (map found_as found)
FindsAll made (Err e) = e ≡ TooLarge → made ≡ None
