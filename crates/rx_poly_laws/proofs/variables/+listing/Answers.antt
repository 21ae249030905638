-- Nothing is left, so the variables so far are those of all.
use Rattle.std.proofs.Common.{◌∙◌, ◌++◌, ap, sym, ℤ}
use Rattle.std.specs.List.{flat_map}
use Rattle.rx_poly.specs.Variables.{atom_variables, mono_variables}
use Rattle.rx_poly.specs.declared.body.Mono.{Mono}
use Rattle.rx_poly.proofs.VariableLaws.{listed_end, mono_variables_is, variables_is}
use Rattle.rx_poly_laws.proofs.variables.+listing.Goals as goal

pub push_body-returns : goal.push_body-returns
push_body-returns t c =
    let items = c.as_slice-term-items in
    listed_end (λ (u : Mono × ℤ). mono_variables u.0) items.result.now c.loop-term.term-index
    c.loop-term.found.items c.args.found.now.items c.loop-term-test.false c.loop-term.invariant
    ∙ ap (λ ts. c.args.found.now.items ++ flat_map (λ (u : Mono × ℤ). mono_variables u.0) ts)
    items.ensures ∙ ap (λ vs. c.args.found.now.items ++ vs) (sym (variables_is c.args.body.now))

pub push_mono-returns : goal.push_mono-returns
push_mono-returns t c =
    let items = c.as_slice-atom-items in
    listed_end atom_variables items.result.now c.loop-atom.atom-index c.loop-atom.found.items
    c.args.found.now.items c.loop-atom-test.false c.loop-atom.invariant
    ∙ ap (λ xs. c.args.found.now.items ++ flat_map atom_variables xs) items.ensures ∙
    ap (λ vs. c.args.found.now.items ++ vs) (sym (mono_variables_is c.args.mono.now))
