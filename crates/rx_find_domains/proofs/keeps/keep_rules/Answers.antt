-- One rule more; at the end all have their certificates.
use Rattle.std.proofs.Common.{◌∙◌, ◌++◌, List, All, append-nil, map, subst, sym, take_all}
use Rattle.std.specs.List.{AllZip}
use Rattle.std.proofs.lemmas.List.Elements.{All-get_or}
use Rattle.rx_domain.specs.Keeping.{KeptPart, rule_part}
use Rattle.rx_term.specs.declared.rule.Rule.{Rule}
use Rattle.rx_find_domains.specs.Kept.{AreKeeps, IsShown}
use Rattle.rx_find_domains.proofs.KeepLaws.{rule_kept}
use Rattle.rx_find_domains.proofs.keeps.keep_rules.Goals as goal

pub loop-rule-init : goal.loop-rule-init
loop-rule-init g c = record {
  solver = c.requires.solver;
  keeps = λ parts are.
      subst (λ (ps : List KeptPart). AllZip AreKeeps ps c.args.keeps.now)
      (sym (append-nil parts)) are;
}

pub keep_rule-requires-clause-shown : goal.keep_rule-requires-clause-shown
keep_rule-requires-clause-shown g c =
    let Shown = λ (rule : Rule). IsShown (rule_part c.args.rules.now rule) in
    subst Shown (sym c.rule-item.is)
    (All-get_or Shown c.rules-list.result.now c.loop-rule.rule-index c.rule-item.result
    c.loop-rule-test.true
    (subst (λ (rules : List Rule). All Shown rules) (sym c.rules-list.ensures) c.requires.shown))

pub loop-rule-preserved : goal.loop-rule-preserved
loop-rule-preserved g c = record {
  solver = c.in_ok-certs.ensures.solver;
  keeps = λ parts are.
      rule_kept c.args.rules.now parts c.rules-list.result.now c.loop-rule.rule-index
      c.rule-item.result c.loop-rule-test.true c.rule-item.is c.loop-rule.keeps c.push.new.self
      c.in_ok-certs.certs c.in_ok-push.ensures.ok (c.loop-rule.invariant.keeps parts are)
      c.in_ok-certs.ensures.keeps;
}

pub returns-clause-keeps : goal.returns-clause-keeps
returns-clause-keeps g c = λ parts are.
    subst (λ (rules : List Rule). AllZip AreKeeps
    (parts ++ map (rule_part c.args.rules.now) rules) c.loop-rule.keeps)
    (take_all c.loop-rule.rule-index c.rules-list.result.now c.loop-rule-test.false ∙
    c.rules-list.ensures) (c.loop-rule.invariant.keeps parts are)
