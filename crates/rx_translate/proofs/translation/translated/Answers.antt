use Rattle.std.proofs.Common.{◌≡◌, ap, false, true}
use Rattle.rx_term.specs.Domains.{are_domains}
use Rattle.rx_term.specs.declared.rule_set.RuleParts.{RuleParts}
use Rattle.rx_translate.proofs.Translated.{compiled_is, parts_made}
use Rattle.rx_translate.proofs.translation.translated.Goals as goal

pub unreachable-requires : goal.unreachable-requires
unreachable-requires c =
    let program = c.args.program.now in
    let places = c.in_ok-places.places in
    let code = c.in_ok-code.code in
    let compiled = compiled_is c.args.integers c.as_slice.result.now program.functions
    c.as_slice-2.result.now places code c.as_slice.ensures c.as_slice-2.ensures
    c.in_ok-code.ensures.forms in
    let made = parts_made c.args.integers program c.args.first c.args.second places
    c.in_ok-places.ensures code
    compiled c.requires.first_there c.requires.second_there c.in_ok-parts.parts
    c.in_ok-parts.ensures.forms
    c.requires.scoped in
    let domains = ap (λ (p : RuleParts). are_domains p.symbols p.domains)
    c.in_ok-parts.ensures.forms.0 in
    let none : false ≡ true = c.in_default.ensures.exact.1 (made, domains) in
    cc
