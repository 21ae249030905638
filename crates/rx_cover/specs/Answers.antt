-- What the answer to a call says of the trees.
use Rattle.std.specs.Prelude.{◌≡◌, Result, Ok, Err}
use Rattle.rx_cover.specs.Covering.{Covering, Covers, Fails, PassesLimits}
use Rattle.rx_cover.specs.declared.cover_end.CoverEnd.{CoverEnd}
use Rattle.rx_cover.specs.declared.cover_end.CoverEnd.TheVariants.{NotCovered, Large, NoMemory}

-- each answer names what is so; out of memory says nothing
abbrev pub Tells : Covering → Result (Unit {0}) CoverEnd → Type 0
Tells c (Ok _) = c ≡ Covers
Tells c (Err (NotCovered f)) = c ≡ Fails f
Tells c (Err (Large f)) = c ≡ PassesLimits f
Tells c (Err NoMemory) = Unit {0}
