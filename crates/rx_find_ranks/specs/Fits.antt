-- The polynomials that components take, and what they say of the open pairs.
use Rattle.std.specs.Prelude.{◌≡◌, ℕ, true, Option, Some, None, List, Contains}
use Rattle.std.specs.List.{AllZip}
use Rattle.rx_rank.specs.Answers.{IsDecided, IsHeld}
use Rattle.rx_rank.specs.declared.attempt.Attempt.{Attempt}
use Rattle.rx_rank.specs.declared.fitting.Fit.{Fit}
use Rattle.rx_find_ranks.specs.Tables.{IsLawful, has_number, pairs_open}
use Rattle.rx_find_ranks.specs.declared.fits.Fits.{Fits}
use Rattle.rx_find_ranks.specs.declared.open_pair.OpenPair.{OpenPair}
use Rattle.rx_term.specs.declared.rule_set.SymInfo.{SymInfo}

-- they are over the arguments of their symbols; at the open pairs, which are those that were open
-- before in some order, their column holds, and it is said where it falls
pub record AreFits (infos : List SymInfo) (before : List OpenPair) (fits : Fits) : Type 0 where
  pub lawful : IsLawful infos fits.column.items
  pub holds : AllZip (IsHeld fits.column.items) (pairs_open fits.entries.items) fits.holds.items
  pub falls : AllZip (IsDecided fits.column.items) (pairs_open fits.entries.items) fits.falls.items
  pub among : (o : OpenPair) → Contains fits.entries.items o → Contains before o
  pub numbers : (k : ℕ) → has_number k before ≡ true → has_number k fits.entries.items ≡ true

-- they are those of a fit of these entries
pub record AreOf (fit : Fit) (entries : List OpenPair) (fits : Fits) : Type 0 where
  pub column : fits.column.items ≡ fit.values.items
  pub entries_are : fits.entries.items ≡ entries
  pub holds : fits.holds.items ≡ fit.holds.items
  pub falls : fits.falls.items ≡ fit.falls.items

-- there are some exactly where there is a fit
abbrev pub GoesWith : List OpenPair → Option Fit → Option Fits → Type 0
GoesWith entries None made = made ≡ None
GoesWith entries (Some fit) None = ⊥
GoesWith entries (Some fit) (Some fits) = AreOf fit entries fits

-- so of attempts, and what is noted stays
pub record AreTried (entries : List OpenPair) (tried : Attempt Fit) (after : Attempt Fits) : Type 0
  where
    pub made : GoesWith entries tried.made after.made
    pub noted : after.noted ≡ tried.noted
