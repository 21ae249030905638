-- Domains that are not bad make a rule set.
use Rattle.std.proofs.Common.{◌≡◌, ◌∙◌, ap, sym, subst, false, true, None, List}
use Rattle.rx_term.specs.Domains.{are_domains}
use Rattle.rx_term.specs.WellMade.{IsWellMade}
use Rattle.rx_term.specs.declared.rule_set.RuleParts.{RuleParts}
use Rattle.rx_term.specs.declared.rule_set.SymInfo.{SymInfo}
use Rattle.rx_domain.specs.Setting.{bad_domain, with_domains}
use Rattle.rx_domain.proofs.SettingLaws.{good_domains, well_made_too}
use Rattle.rx_domain.proofs.setting.set_domains.Goals as goal

pub unreachable-requires : goal.unreachable-requires
unreachable-requires c =
    let parts = c.args.rules.now in
    let lists = c.args.rows.now in
    let none : bad_domain parts.symbols lists ≡ None =
    ap (λ (infos : List SymInfo). bad_domain infos lists) (sym c.symbols.ensures) ∙
    sym c.bad_domain.ensures ∙ c.in_default.is in
    let copy : c.in_ok-copy.copy ≡ parts = c.in_ok-copy.ensures ∙ c.parts.ensures.parts in
    let is : c.with_domains-parts.result ≡ with_domains parts lists =
    c.with_domains-parts.ensures ∙
    (λ i. with_domains (copy i) (c.in_ok-copied_lists.ensures i)) in
    let whole = subst (λ (p : RuleParts).
    IsWellMade p × (are_domains p.symbols p.domains ≡ true)) (sym is)
    (well_made_too parts lists c.parts.ensures.made, good_domains parts.symbols lists none) in
    let made = c.from_parts.ensures.exact.1 whole in
    let never : false ≡ true = rw c.in-None.is at made in
    cc
