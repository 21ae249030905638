use Rattle.std.proofs.Common.{ap, sym, refl}
use Rattle.rx_log.specs.Acceptance.{BadRanks, once_ranked}
use Rattle.rx_check.specs.LineByLine.{passed}
use Rattle.rx_check.proofs.outcomes.bad_rank_at.Goals as goal

pub returns-in-Some-clause-ranks : goal.returns-in-Some-clause-ranks
returns-in-Some-clause-ranks c = λ columns next at.
    (BadRanks c.in-Some.sym, refl, ap (λ bad. once_ranked bad passed) (sym c.in-Some.ensures))
