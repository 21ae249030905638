-- A plain row is one of the rows, or evident, and holds wherever they do.
use Rattle.std.proofs.Common.{sym, ◌∙◌}
use Rattle.rx_cert.proofs.ConditionLaws.{plain_else, plain_holds, plain_then}
use Rattle.rx_cert.proofs.conditions.is_plain.Goals as goal

pub returns-then-contains-clause-plain : goal.returns-then-contains-clause-plain
returns-then-contains-clause-plain c =
    plain_then c.contains.result c.args.rows.now c.args.row.now c.contains.ensures
    c.if-contains.true

pub returns-else-contains-clause-plain : goal.returns-else-contains-clause-plain
returns-else-contains-clause-plain c =
    plain_else c.contains.result c.says_evident.result c.args.rows.now c.args.row.now
    c.contains.ensures c.if-contains.false c.says_evident.ensures

pub returns-else-contains-clause-holds : goal.returns-else-contains-clause-holds
returns-else-contains-clause-holds c = λ is a holds.
    plain_holds a c.args.rows.now c.args.row.now
    (sym (plain_else c.contains.result c.says_evident.result c.args.rows.now c.args.row.now
    c.contains.ensures c.if-contains.false c.says_evident.ensures) ∙ is) holds
