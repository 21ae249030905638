use Rattle.std.proofs.Common.{◌≤◌, List, ap, arith, length, refl, subst}
use Rattle.std.proofs.lemmas.List.{length-map}
use Rattle.rx_domain.specs.Keeping.{Keeping, parts_kept, rule_part}
use Rattle.rx_domain.proofs.Turns.{lists_end}
use Rattle.rx_log.specs.Acceptance.{NotKept, once_kept}
use Rattle.rx_term.specs.declared.rule.Rule.{Rule}
use Rattle.rx_check.specs.LineByLine.{passed}
use Rattle.rx_check.proofs.inside.missing_keep.Goals as goal

pub returns-then-kept-rules : goal.returns-then-kept-rules
returns-then-kept-rules c = λ target.
    let rules = c.args.used.now.rules in
    let count = length-map rules (rule_part c.args.used.now) in
    let there : c.args.kept ≤ length rules =
    subst (λ (all : List Rule). c.args.kept ≤ length all) c.rules.ensures c.if-kept-rules.true in (
      NotKept c.args.kept,
      refl,
      ap (λ (found : Keeping). once_kept found passed)
          (lists_end (parts_kept c.args.used.now target) c.args.kept
          (omega (arith, count, there))),
    )
