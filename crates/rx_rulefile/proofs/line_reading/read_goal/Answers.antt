use Rattle.std.proofs.Common.{Some, None}
use Rattle.rx_term_words.proofs.EquationLaws.{equations_once}
use Rattle.rx_rulefile.proofs.LineKinds.{goal_kind, kind_ends}
use Rattle.rx_rulefile.proofs.line_reading.read_goal.Goals as goal

pub returns-in-Some : goal.returns-in-Some
returns-in-Some c =
    kind_ends goal_kind equations_once c.args.line.now c.args.at c.requires
    c.in_ok-read_equation.field-0 c.in_ok-read_equation.ensures (Some _) c.in-Some.ensures

pub returns-in-None : goal.returns-in-None
returns-in-None c =
    kind_ends goal_kind equations_once c.args.line.now c.args.at c.requires
    c.in_ok-read_equation.field-0 c.in_ok-read_equation.ensures None c.in-None.ensures
