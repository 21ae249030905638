use Rattle.c_ast.proofs.StraightForms.{straight_over_parameters}
use Rattle.c_ast.proofs.laws.straight_expressions_are_one_notion.Goals as goal

pub returns : goal.returns
returns c = straight_over_parameters
