-- What is left of the rules decides.
use Rattle.std.proofs.Common.{◌≡◌, drop, map}
use Rattle.std.specs.List.{fold}
use Rattle.rx_solve.specs.Answers.{IsSolver}
use Rattle.rx_find_domains.specs.Finding.{at_part, pass}
use Rattle.rx_find_domains.specs.Parts.{rule_asking}
use Rattle.rx_find_domains.proofs.passes.pass.Given as goal

abbrev pub invariant-loop-rule : goal.invariant-loop-rule
invariant-loop-rule g l = record {
  solver : IsSolver g.S.FnMut l.solve;
  decides :
      fold at_part l.lists.items (map rule_asking (drop l.rule-index l.rules))
      ≡ pass l.parts l.goal l.fn.lists.items;
}
