-- Nothing is left, so the greatest so far is that of all.
use Rattle.std.proofs.Common.{◌∙◌, ap, sym, ℤ}
use Rattle.rx_poly.specs.Limits.{greatest}
use Rattle.rx_poly.specs.Variables.{atom_bound, mono_bound}
use Rattle.rx_poly.specs.declared.body.Mono.{Mono}
use Rattle.rx_poly.proofs.VariableLaws.{greatest_end, mono_bound_is, variable_bound_is}
use Rattle.rx_poly.proofs.variables.+bounds.Goals as goal

pub body_bound-returns : goal.body_bound-returns
body_bound-returns t c =
    let items = c.as_slice-term-items in
    greatest_end (λ (u : Mono × ℤ). mono_bound u.0) items.result.now c.loop-term.term-index
    c.loop-term.bound c.loop-term-test.false c.loop-term.invariant
    ∙ ap (greatest (λ (u : Mono × ℤ). mono_bound u.0)) items.ensures ∙
    sym (variable_bound_is c.args.body.now)

pub mono_bound-returns : goal.mono_bound-returns
mono_bound-returns t c =
    let items = c.as_slice-atom-items in
    greatest_end atom_bound items.result.now c.loop-atom.atom-index c.loop-atom.bound
    c.loop-atom-test.false c.loop-atom.invariant
    ∙ ap (greatest atom_bound) items.ensures ∙ sym (mono_bound_is c.args.mono.now)
