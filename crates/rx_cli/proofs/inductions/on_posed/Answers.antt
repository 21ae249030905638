-- What the refuter answers is right.
use Rattle.std.proofs.Common.{rules}
use Rattle.rx_solve.proofs.Calls.{solver_by}
use Rattle.rx_cli.proofs.inductions.on_posed.Goals as goal

pub new-requires-clause-solver : goal.new-requires-clause-solver
new-requires-clause-solver c = solver_by _ (λ f a. search rules) (λ f a r f' k. search rules) _
