-- What is known of the cached solver is known after each call of the closure again.
use Rattle.std.proofs.Common.{rules}
use Rattle.rx_solve.proofs.Calls.{solver_while}
use Rattle.rx_cache.specs.CachedSolver.{IsCachedSolver}
use Rattle.rx_cli.proofs.inductions.seek_cached.Goals as goal

pub seek_by-requires-clause-solver : goal.seek_by-requires-clause-solver
seek_by-requires-clause-solver g c =
    solver_while _ (λ h. IsCachedSolver g.S.FnMut h.0) (λ h a i. search rules)
    (λ h a r h' k i. search rules) _ c.requires.known
