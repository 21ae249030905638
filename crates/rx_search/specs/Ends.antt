-- How a search ends without a log.
use Rattle.std.specs.Prelude.{◌≡◌, ℕ}
use Rattle.rx_search.specs.Search.{Searched, NoRanks, LargeRanks, Large, Spent, NoPlan}
use Rattle.rx_search.specs.declared.search_end.SearchEnd.{SearchEnd}
use Rattle.rx_search.specs.declared.search_end.SearchEnd.TheVariants as search_end

-- the end says what the search comes to; that memory runs out is free
abbrev pub IsEnd : ℕ → ℕ → Searched → SearchEnd → Type 0
IsEnd depth budget searched search_end.NoRanks = searched ≡ NoRanks
IsEnd depth budget searched (search_end.LargeRanks rows) = searched ≡ LargeRanks rows
IsEnd depth budget searched (search_end.NoPlan d) = (searched ≡ NoPlan) × (d ≡ depth)
IsEnd depth budget searched (search_end.Spent v) = (searched ≡ Spent) × (v ≡ budget)
IsEnd depth budget searched (search_end.Large path rows) = searched ≡ Large path rows
IsEnd depth budget searched search_end.NoMemory = Unit {0}
