-- What is known of a solver behind a cache, and what becomes of it where it is asked.
use Rattle.std.specs.Prelude.{◌≡◌, ◌⊎◌, ℕ, Option, Result, List}
use Rattle.std.specs.Fn.{Mut, CalledAt}
use denote.Ref.{Bor}
use Rattle.rx_row.specs.declared.row.Row.{Row}
use Rattle.rx_cert.specs.declared.cert.Cert.{Cert}
use Rattle.rx_fm.specs.declared.fm_end.FmEnd.{FmEnd}
use Rattle.rx_solve.specs.Answers.{IsSolver}
use Rattle.rx_cache.specs.Cache.{AreRight, Entry, IsKept, IsPromoted, NoneHas, Repeats}
use Rattle.rx_cache.specs.declared.cached_answer.CachedAnswer.{CachedAnswer}
use Rattle.rx_cache.specs.declared.cached_solver.CachedSolver.{CachedSolver}

-- its entries, the most recently used first
abbrev pub entries_in : {S : Type 0} → CachedSolver S → List Entry
entries_in c = c.cache.entries

-- how many entries it holds at most
abbrev pub capacity_of : {S : Type 0} → CachedSolver S → ℕ
capacity_of c = c.cache.cap

-- the solver that it asks
abbrev pub solver_in : {S : Type 0} → CachedSolver S → S
solver_in c = c.solve

-- an entry has the rows: its answer is given once more, it goes to the front, and the solver isn't
-- asked
pub record IsRecalled {S : Type 0} (before : CachedSolver S) (rows : List Row)
    (result : Result (Option Cert) FmEnd) (after : CachedSolver S) : Type 0 where
  pub cached : CachedAnswer
  pub promoted : IsPromoted rows cached before.cache.entries after.cache.entries
  pub repeated : Repeats cached result
  pub unasked : after.solve ≡ before.solve

module _ {S : Type 0} (g : Mut S (Bor (List Row) × Unit {0}) (Result (Option Cert) FmEnd)) where
  -- no entry has the rows: the solver is asked and its answer given; it becomes an entry, or, where
  -- memory runs out, the cache stays as it was
  pub record IsSolved (before : CachedSolver S) (rows : List Row)
      (result : Result (Option Cert) FmEnd) (after : CachedSolver S) : Type 0 where
    pub unknown : NoneHas rows before.cache.entries
    pub asked : CalledAt g before.solve rows result after.solve
    pub stored : IsKept rows before.cache result after.cache ⊎ (after.cache ≡ before.cache)

  -- what becomes of it where the rows are asked for and that is answered
  abbrev pub AfterAsk : CachedSolver S → List Row → Result (Option Cert) FmEnd → CachedSolver S →
      Type 0
  AfterAsk before rows result after =
      IsRecalled before rows result after ⊎ IsSolved before rows result after

  -- what it asks is a solver, and each entry's answer is right for its rows
  pub record IsCachedSolver (c : CachedSolver S) : Type 0 where
    pub solver : IsSolver g c.solve
    pub right : AreRight c.cache.entries
