use Rattle.std.proofs.Common.{Some, None}
use Rattle.rx_rulefile.proofs.KindWords.{fail_codes_once}
use Rattle.rx_rulefile.proofs.LineKinds.{fails_kind, kind_ends}
use Rattle.rx_rulefile.proofs.line_reading.read_fails.Goals as goal

pub returns-in-Some : goal.returns-in-Some
returns-in-Some c =
    kind_ends fails_kind fail_codes_once c.args.line.now c.args.at c.requires c.read_fail_code.result c.read_fail_code.ensures
    (Some _) c.in-Some.ensures

pub returns-in-None : goal.returns-in-None
returns-in-None c =
    kind_ends fails_kind fail_codes_once c.args.line.now c.args.at c.requires c.read_fail_code.result c.read_fail_code.ensures
    None c.in-None.ensures
