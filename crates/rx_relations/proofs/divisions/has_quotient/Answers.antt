-- What is found to be the same is what compares as equal.
use Rattle.rx_relations.proofs.DivisionLaws.{same_quotient}
use Rattle.rx_relations.proofs.divisions.has_quotient.Goals as goal

pub returns : goal.returns
returns c =
    same_quotient c.is_same.result c.args.division.now.quotient c.args.quotient.now
    c.is_same.ensures
