-- The rules with the domains are made, and the line is judged over them.
use Rattle.std.proofs.Common.{◌≡◌, Some, None, List, ap, sym, subst, Option}
use Rattle.rx_domain.specs.Setting.{bad_domain, with_domains}
use Rattle.rx_row.specs.declared.row.Row.{Row}
use Rattle.rx_term.specs.declared.rule_set.RuleParts.{RuleParts}
use Rattle.rx_check.specs.declared.inside.Held.{Held}
use Rattle.rx_check.proofs.DomainAnswers.{Makes, good_judged}
use Rattle.rx_check.proofs.replayer.Replayer.judge_first.Goals as goal

pub returns-in_ok-self-in-Ok-clause-judges : goal.returns-in_ok-self-in-Ok-clause-judges
returns-in_ok-self-in-Ok-clause-judges c =
    let old = c.args.self.now in
    let sets = subst (λ (lists : List (List Row)).
    (bad_domain c.args.rules.now.symbols lists ≡ None)
    × (c.in-Ok.set ≡ with_domains c.args.rules.now lists)) c.as_slice.ensures c.in-Ok.ensures.exact
    in
    let put : record { set = Some c.in-Ok.set } ≡ c.put.new.self =
    ap (λ (s : Option RuleParts). record { set = s }) (sym c.put.ensures) in
    subst (λ (held : Held). Makes c.args.rules.now c.args.line old c.requires.open
    (record old.domains { held = held; kept = c.judge_inside.new.kept }) c.judge_inside.new.progress
    c.in_ok-self-in-Ok.field-0) put
    (good_judged c.args.rules.now c.args.line old c.requires.open c.in-Ok.set
    c.judge_inside.new.kept c.judge_inside.new.progress c.in_ok-self-in-Ok.field-0 c.requires.line
    c.requires.domains sets c.in_ok-self-in-Ok.ensures.judges)
