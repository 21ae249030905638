-- What the answers to calls say of the ranks and of the descent.
use Rattle.std.specs.Prelude.{◌≡◌, Bool, ℕ, drop, List, Option, Some, None, Result, Ok, Err}
use Rattle.rx_pairs.specs.Inside.{descent_in}
use Rattle.rx_pairs.specs.Lowering.{Descends, Descent, NotLower, PassesLimits}
use Rattle.rx_pairs.specs.declared.descending.Witness.{Witness}
use Rattle.rx_pairs.specs.declared.listing.Listing.{Listing}
use Rattle.rx_pairs.specs.declared.pair.Pair.{Pair}
use Rattle.rx_pairs.specs.declared.pair_cert.PairCert.{PairCert}
use Rattle.rx_pairs.specs.declared.pair_end.PairEnd.{PairEnd}
use Rattle.rx_pairs.specs.declared.pair_end.PairEnd.TheVariants as ends
use Rattle.rx_pairs.specs.declared.table.RankTable.{RankTable}

-- each refusal names what is so; out of memory says nothing, and no pair has bad ranks
abbrev pub Refuses : Descent → PairEnd → Type 0
Refuses d (ends.BadRanks f) = ⊥
Refuses d (ends.NotLower i) = d ≡ NotLower i
Refuses d (ends.Large i) = d ≡ PassesLimits i
Refuses d ends.NoMemory = Unit {0}

-- all pairs are lower, or a refusal
abbrev pub Tells : Descent → Result (Unit {0}) PairEnd → Type 0
Tells d (Ok _) = d ≡ Descends
Tells d (Err e) = Refuses d e

-- the first symbol without a lawful rank, or else what is said of the pairs
abbrev pub TellsRanked : Option ℕ → Descent → Result (Unit {0}) PairEnd → Type 0
TellsRanked (Some f) d result = result ≡ Err (ends.BadRanks f)
TellsRanked None d result = Tells d result

-- the first pairs are lower, so that the others decide, or a refusal
abbrev pub Leaves : {A : Type 0} → (A → Descent) → Descent → Result A PairEnd → Type 0
Leaves rest d (Ok n) = d ≡ rest n
Leaves rest d (Err e) = Refuses d e

-- the descent from n pairs on
abbrev pub from_pair : RankTable → List PairCert → Bool → List Pair → ℕ → Descent
from_pair table certs whole pairs n = descent_in table whole n pairs (drop n certs)

abbrev pub lent_from : Witness → Bool → List Pair → ℕ → Descent
lent_from w = from_pair w.table.now w.certs.now

-- the same of pairs that are listed
abbrev pub lent_listing : Witness → Listing → ℕ → Descent
lent_listing w l = lent_from w l.whole l.pairs
