-- The choices so far are those that are tried so far.
use Rattle.std.proofs.Common.{◌≡◌, All, map, take}
use Rattle.std.specs.List.{filter_map}
use Rattle.rx_deepening.specs.Views.{seen_choice}
use Rattle.rx_solve.specs.Answers.{IsSolver}
use Rattle.rx_term.specs.declared.rule.Equation.{Equation}
use Rattle.rx_wider.specs.Calls.{node_of}
use Rattle.rx_wider.specs.Reached.{IsNode}
use Rattle.rx_wider.specs.Wider.{child}
use Rattle.rx_wider.proofs.choices.find_choices.Given as goal

abbrev pub invariant-loop-one : goal.invariant-loop-one
invariant-loop-one g l = record {
  solver : IsSolver g.S.FnMut l.solve;
  choices :
      map (seen_choice node_of) l.found ≡
      filter_map (child l.setting.kind l.setting.rules.now (node_of l.node))
      (take l.one-index l.candidates);
  nodes : (goal : Equation) → IsNode l.setting.kind l.setting.rules.now goal l.node →
      All (λ c. IsNode l.setting.kind l.setting.rules.now goal c.node) l.found;
}
