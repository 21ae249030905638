use Rattle.std.proofs.Common.{Some, None}
use Rattle.rx_rulefile.proofs.KindWords.{symbols_once}
use Rattle.rx_rulefile.proofs.LineKinds.{symbol_kind, kind_ends}
use Rattle.rx_rulefile.proofs.line_reading.read_symbol.Goals as goal

pub returns-in-Some : goal.returns-in-Some
returns-in-Some c =
    kind_ends symbol_kind symbols_once c.args.line.now c.args.at c.requires c.read_numbered.result c.read_numbered.ensures
    (Some _) c.in-Some.ensures

pub returns-in-None : goal.returns-in-None
returns-in-None c =
    kind_ends symbol_kind symbols_once c.args.line.now c.args.at c.requires c.read_numbered.result c.read_numbered.ensures
    None c.in-None.ensures
