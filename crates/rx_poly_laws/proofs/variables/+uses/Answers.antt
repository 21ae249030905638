-- A part that has the variable decides; where none does, the whole doesn't.
use Rattle.std.proofs.Common.{◌∙◌, ap, sym, ℤ}
use Rattle.std.specs.List.{list_any}
use Rattle.rx_poly.specs.declared.body.Mono.{Mono}
use Rattle.rx_poly.specs.Variables.{atom_uses, mono_uses}
use Rattle.rx_poly.proofs.VariableLaws.{mono_uses_is, none_passes, one_passes, uses_is}
use Rattle.rx_poly_laws.proofs.variables.+uses.Goals as goal

pub mono_uses-returns-then-atom_uses : goal.mono_uses-returns-then-atom_uses
mono_uses-returns-then-atom_uses t c =
    let items = c.as_slice-atom-items in
    sym (mono_uses_is c.args.var c.args.mono.now ∙
    ap (list_any (atom_uses c.args.var)) (sym items.ensures)
    ∙ one_passes (atom_uses c.args.var) items.result.now c.loop-atom.atom-index c.atom-item.result
    c.loop-atom-test.true c.atom-item.is
    (sym c.atom_uses.ensures ∙ c.if-atom_uses.true) c.loop-atom.invariant)

pub mono_uses-returns : goal.mono_uses-returns
mono_uses-returns t c =
    let items = c.as_slice-atom-items in
    sym (mono_uses_is c.args.var c.args.mono.now ∙
    ap (list_any (atom_uses c.args.var)) (sym items.ensures)
    ∙ none_passes (atom_uses c.args.var) items.result.now c.loop-atom.atom-index
    c.loop-atom-test.false c.loop-atom.invariant)

pub body_uses-returns-then-mono_uses : goal.body_uses-returns-then-mono_uses
body_uses-returns-then-mono_uses t c =
    let items = c.as_slice-term-items in
    sym (uses_is c.args.var c.args.body.now ∙
    ap (list_any (λ (u : Mono × ℤ). mono_uses c.args.var u.0)) (sym items.ensures)
    ∙ one_passes (λ (u : Mono × ℤ). mono_uses c.args.var u.0) items.result.now
    c.loop-term.term-index c.term-item.result c.loop-term-test.true c.term-item.is
    (sym c.mono_uses.ensures ∙ c.if-mono_uses.true) c.loop-term.invariant)

pub body_uses-returns : goal.body_uses-returns
body_uses-returns t c =
    let items = c.as_slice-term-items in
    sym (uses_is c.args.var c.args.body.now ∙
    ap (list_any (λ (u : Mono × ℤ). mono_uses c.args.var u.0)) (sym items.ensures)
    ∙ none_passes (λ (u : Mono × ℤ). mono_uses c.args.var u.0) items.result.now
    c.loop-term.term-index c.loop-term-test.false c.loop-term.invariant)
