-- The goal has its certificates, and the rules have theirs.
use Rattle.std.proofs.Common.{◌∙◌, ◌++◌, ◌∷◌, [], List, ap, map, subst, sym}
use Rattle.std.specs.List.{AllZip}
use Rattle.std.proofs.lemmas.List.Elements.{All-head, All-tail}
use Rattle.rx_cert.specs.declared.cert.Cert.{Cert}
use Rattle.rx_domain.specs.Keeping.{goal_part, rule_part}
use Rattle.rx_find_domains.specs.Kept.{AreKeeps, IsShown}
use Rattle.rx_find_domains.proofs.KeepLaws.{rules_are_shown}
use Rattle.rx_find_domains.proofs.keeps.keep_all.Goals as goal

pub keep_goal-requires-clause-shown : goal.keep_goal-requires-clause-shown
keep_goal-requires-clause-shown g c =
    All-head IsShown (goal_part c.args.rules.now c.args.goal.now)
    (map (rule_part c.args.rules.now) c.args.rules.now.rules) c.requires.shown

pub keep_rules-requires-clause-shown : goal.keep_rules-requires-clause-shown
keep_rules-requires-clause-shown g c =
    rules_are_shown c.args.rules.now c.args.rules.now.rules
    (All-tail IsShown (goal_part c.args.rules.now c.args.goal.now)
    (map (rule_part c.args.rules.now) c.args.rules.now.rules) c.requires.shown)

pub returns-clause-keeps : goal.returns-clause-keeps
returns-clause-keeps g c =
    c.in_ok-keep_rules.ensures.keeps (goal_part c.args.rules.now c.args.goal.now ∷ [])
    (subst (λ (ks : List (List Cert)).
    AllZip AreKeeps (goal_part c.args.rules.now c.args.goal.now ∷ []) ks)
    (sym (c.in_ok-push.ensures.ok ∙
    ap (λ (ks : List (List Cert)). ks ++ c.in_ok-certs.certs ∷ []) c.new-keeps.ensures))
    (c.in_ok-certs.ensures.keeps, tt))
