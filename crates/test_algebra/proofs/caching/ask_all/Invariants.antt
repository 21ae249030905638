-- What is known of the cached solver.
use Rattle.rx_cache.specs.CachedSolver.{IsCachedSolver}
use Rattle.test_algebra.proofs.caching.ask_all.Given as goal

abbrev pub invariant-loop-rows : goal.invariant-loop-rows
invariant-loop-rows g l = IsCachedSolver g.S.FnMut l.cached
