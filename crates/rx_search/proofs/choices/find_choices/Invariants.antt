-- The choices so far are those that are known so far.
use Rattle.std.proofs.Common.{All, map, take}
use Rattle.rx_term.specs.declared.rule.Equation.{Equation}
use Rattle.rx_solve.specs.Answers.{IsSolver}
use Rattle.rx_search.specs.Known.{chosen_by}
use Rattle.rx_search.specs.Nodes.{AreChoices, IsNode}
use Rattle.rx_search.proofs.choices.find_choices.Given as goal

abbrev pub invariant-loop-one : goal.invariant-loop-one
invariant-loop-one g l = record {
  solver : IsSolver g.S.FnMut l.solve;
  are : AreChoices l.node (map (chosen_by l.space.kind l.space.rules.now l.node.state)
      (take l.one-index l.known)) l.found;
  nodes : (goal : Equation) → IsNode l.space.kind l.space.rules.now goal l.node →
      All (λ c. IsNode l.space.kind l.space.rules.now goal c.node) l.found.choices;
}
