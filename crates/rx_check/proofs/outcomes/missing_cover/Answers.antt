use Rattle.std.proofs.Common.{◌≡◌, ◌<◌, List, Some, ap, length, subst}
use Rattle.rx_term.specs.declared.rule_set.SymInfo.{SymInfo}
use Rattle.rx_cover.proofs.CoveringLaws.{lists_end}
use Rattle.rx_log.specs.Acceptance.{NotCovered, once_covered}
use Rattle.rx_check.specs.LineByLine.{passed}
use Rattle.rx_check.proofs.outcomes.missing_cover.Goals as goal

pub returns-then-next-symbols-clause-covers : goal.returns-then-next-symbols-clause-covers
returns-then-next-symbols-clause-covers c = λ next at.
    let same : c.in-InCovers.next ≡ next = cc in
    let there : c.in-InCovers.next < length c.args.rules.now.symbols =
    subst (λ (infos : List SymInfo). c.in-InCovers.next < length infos) c.symbols.ensures
    c.if-next-symbols.true in (
      NotCovered next,
      ap (λ k. Some (NotCovered k)) same,
      ap (λ found. once_covered found passed)
          (lists_end c.args.rules.now next (subst (λ k. k < length c.args.rules.now.symbols) same
          there)),
    )
