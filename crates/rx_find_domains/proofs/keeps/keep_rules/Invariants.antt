-- The first rules have their certificates.
use Rattle.std.proofs.Common.{List, ◌++◌, map, take}
use Rattle.std.specs.List.{AllZip}
use Rattle.rx_domain.specs.Keeping.{KeptPart, rule_part}
use Rattle.rx_solve.specs.Answers.{IsSolver}
use Rattle.rx_find_domains.specs.Kept.{AreKeeps}
use Rattle.rx_find_domains.proofs.keeps.keep_rules.Given as goal

abbrev pub invariant-loop-rule : goal.invariant-loop-rule
invariant-loop-rule g l = record {
  solver : IsSolver g.S.FnMut l.solve;
  keeps : (parts : List KeptPart) → AllZip AreKeeps parts l.fn.keeps →
      AllZip AreKeeps (parts ++ map (rule_part l.rules) (take l.rule-index l.list)) l.keeps;
}
