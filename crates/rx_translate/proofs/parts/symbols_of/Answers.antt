use Rattle.std.proofs.Common.{◌≡◌, ◌∙◌, subst, List}
use Rattle.std.specs.Prelude.{IfOk}
use Rattle.rx_term.specs.declared.rule_set.SymInfo.{SymInfo}
use Rattle.rx_translate.proofs.Infos.{all_entries, all_heads, symbols_are}
use Rattle.rx_translate.proofs.parts.symbols_of.Goals as goal

pub infos-requires-clause-all_entries : goal.infos-requires-clause-all_entries
infos-requires-clause-all_entries c =
    all_entries c.args.code.now c.as_slice-opened.result.now c.as_slice.result.now
    c.as_slice-2.result.now c.as_slice-3.result.now c.as_slice-4.result.now
    c.as_slice-opened.ensures c.as_slice.ensures
    c.as_slice-2.ensures (c.as_slice-3.ensures.value ∙ c.in_ok-entries.ensures)
    (c.as_slice-4.ensures.value ∙ c.in_ok-heads.ensures)

pub infos-requires-clause-all_heads : goal.infos-requires-clause-all_heads
infos-requires-clause-all_heads c =
    all_heads c.args.code.now c.as_slice-opened.result.now c.as_slice.result.now
    c.as_slice-2.result.now c.as_slice-3.result.now c.as_slice-4.result.now
    c.as_slice-opened.ensures c.as_slice.ensures
    c.as_slice-2.ensures (c.as_slice-3.ensures.value ∙ c.in_ok-entries.ensures)
    (c.as_slice-4.ensures.value ∙ c.in_ok-heads.ensures)

pub returns : goal.returns
returns c =
    subst (λ (is : List SymInfo). IfOk c.infos.result (λ (infos : List SymInfo). infos ≡ is))
    (symbols_are c.args.code.now c.as_slice-opened.result.now c.as_slice.result.now
    c.as_slice-2.result.now c.as_slice-3.result.now c.as_slice-4.result.now
    c.as_slice-opened.ensures
    c.as_slice.ensures c.as_slice-2.ensures (c.as_slice-3.ensures.value ∙ c.in_ok-entries.ensures)
    (c.as_slice-4.ensures.value ∙ c.in_ok-heads.ensures))
    c.infos.ensures
