-- Over the rules with these domains.
use Rattle.std.proofs.Common.{subst, sym}
use Rattle.std.specs.Result.{IfOk}
use Rattle.rx_term.specs.declared.rule_set.RuleParts.{RuleParts}
use Rattle.rx_find_domains.specs.Kept.{AreAllKeeps, AreAllShown}
use Rattle.rx_find_domains.proofs.keeps.find_keeps.Goals as goal

pub keep_all-requires-clause-shown : goal.keep_all-requires-clause-shown
keep_all-requires-clause-shown g c =
    subst (λ (p : RuleParts). AreAllShown p c.args.goal.now) (sym c.in-Ok.ensures.exact.1)
    c.requires.shown

pub returns-in-Ok-clause-keeps : goal.returns-in-Ok-clause-keeps
returns-in-Ok-clause-keeps g c =
    subst (λ (p : RuleParts). IfOk c.keep_all.result (AreAllKeeps p c.args.goal.now))
    c.in-Ok.ensures.exact.1 c.keep_all.ensures.keeps
