-- What is left of the exchanges decides, with what was noted so far.
use Rattle.std.proofs.Common.{◌≡◌, drop, map}
use Rattle.rx_solve.specs.Answers.{IsSolver}
use Rattle.rx_solve.specs.Attempts.{first_applying}
use Rattle.rx_rank.specs.Answers.{pairs_at}
use Rattle.rx_rank.specs.Ranking.{exchanges, fit_exchanged}
use Rattle.rx_rank.specs.Tries.{noting}
use Rattle.rx_rank.proofs.exchange.first_exchanged.Given as goal

abbrev pub invariant-loop-number : goal.invariant-loop-number
invariant-loop-number g l = record {
  solver : IsSolver g.S.FnMut l.solve;
  decides :
      noting l.noted (first_applying (map (fit_exchanged l.component.kind l.component.parts.now
      l.component.hypotheses.now l.component.names.now l.component.name
      (pairs_at l.component.pairs.now))
      (drop l.number (exchanges l.component.parts.now l.component.hypotheses.now
      l.component.names.now l.component.name))))
      ≡ first_applying (map (fit_exchanged l.component.kind l.component.parts.now
      l.component.hypotheses.now l.component.names.now l.component.name
      (pairs_at l.component.pairs.now))
      (exchanges l.component.parts.now l.component.hypotheses.now l.component.names.now
      l.component.name));
}
