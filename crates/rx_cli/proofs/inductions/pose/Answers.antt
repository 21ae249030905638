-- A rule that isn't well made is named by its number.
use Rattle.std.proofs.Common.{Err, subst}
use Rattle.rx_rulefile.specs.Reading.{ReadsRules}
use Rattle.rx_rulefile.specs.declared.rule_end.RuleEnd.{RuleEnd}
use Rattle.rx_rulefile.specs.declared.rule_end.RuleEnd.TheVariants.{NotMade}
use Rattle.rx_cli.proofs.Induced.{unmade_posed}
use Rattle.rx_cli.proofs.inductions.pose.Goals as goal

pub returns-in-Err-NotMade-clause-stage : goal.returns-in-Err-NotMade-clause-stage
returns-in-Err-NotMade-clause-stage c =
    let reads : ReadsRules c.args.source.now (Err (NotMade c.in-Err-NotMade.rule)) =
    subst (λ (e : RuleEnd). ReadsRules c.args.source.now (Err e)) c.in-Err-NotMade.field-0-is
    c.in-Err-NotMade.ensures in
    unmade_posed c.args.source.now c.in-Err-NotMade.rule reads
