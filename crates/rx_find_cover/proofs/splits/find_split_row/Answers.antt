-- The row that is found is one of the rules' rows.
use Rattle.rx_cover.specs.Covering.{symbol}
use Rattle.rx_find_cover.proofs.TreeLaws.{own_found}
use Rattle.rx_cover.specs.Redexes.{shape_at}
use Rattle.rx_find_cover.proofs.splits.find_split_row.Goals as goal

pub returns-clause-own : goal.returns-clause-own
returns-clause-own c =
    own_found c.args.path.now c.args.rules.now (shape_at (symbol c.args.sym) c.args.redex)
    c.find_open_row.result c.find_open_row.ensures
