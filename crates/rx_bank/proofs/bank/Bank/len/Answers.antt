-- No two keys of the set compare as equal.
use Rattle.std.proofs.Common.{subst}
use Rattle.rx_bank.specs.Numbers.{AreDistinct}
use Rattle.rx_bank.proofs.Numbering.{distinct_places}
use Rattle.rx_bank.proofs.bank.Bank.len.Goals as goal

pub returns-clause-distinct : goal.returns-clause-distinct
returns-clause-distinct c =
    subst AreDistinct c.self.view_is (distinct_places c.self.inside.polys.keys c.len.ensures.unique)
