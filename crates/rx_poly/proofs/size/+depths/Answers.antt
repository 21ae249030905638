-- A part that is too deep makes the whole too deep; where none was found, the whole is not.
use Rattle.std.proofs.Common.{◌∙◌, ap, sym, ℤ, nat_le}
use Rattle.rx_poly.proofs.Depths.{too_deep, not_deep}
use Rattle.rx_poly.proofs.Levels.{body_depth_is, mono_depth_is}
use Rattle.rx_poly.specs.Limits.{greatest, atom_depth, mono_depth}
use Rattle.rx_poly.specs.declared.body.Mono.{Mono}
use Rattle.rx_poly.proofs.size.+depths.Goals as goal

pub body_fits_in-returns-then-not-mono_fits_in : goal.body_fits_in-returns-then-not-mono_fits_in
body_fits_in-returns-then-not-mono_fits_in t c =
    let items = c.as_slice-term-items in
    too_deep (λ (u : Mono × ℤ). mono_depth u.0) items.result.now c.loop-term.term-index c.args.limit
    c.term-item.result c.loop-term-test.true c.term-item.is
    (sym c.mono_fits_in.ensures ∙ c.if-not-mono_fits_in.true) c.loop-term.invariant
    ∙ ap (λ ts. nat_le (greatest (λ (u : Mono × ℤ). mono_depth u.0) ts) c.args.limit) items.ensures
    ∙ ap (λ n. nat_le n c.args.limit) (sym (body_depth_is c.args.body.now))

pub body_fits_in-returns : goal.body_fits_in-returns
body_fits_in-returns t c =
    let items = c.as_slice-term-items in
    not_deep (λ (u : Mono × ℤ). mono_depth u.0) items.result.now c.loop-term.term-index c.args.limit
    c.loop-term-test.false c.loop-term.invariant
    ∙ ap (λ ts. nat_le (greatest (λ (u : Mono × ℤ). mono_depth u.0) ts) c.args.limit) items.ensures
    ∙ ap (λ n. nat_le n c.args.limit) (sym (body_depth_is c.args.body.now))

pub mono_fits_in-returns-then-not-atom_fits_in : goal.mono_fits_in-returns-then-not-atom_fits_in
mono_fits_in-returns-then-not-atom_fits_in t c =
    let items = c.as_slice-atom-items in
    too_deep atom_depth items.result.now c.loop-atom.atom-index c.args.limit c.atom-item.result
    c.loop-atom-test.true c.atom-item.is
    (sym c.atom_fits_in.ensures ∙ c.if-not-atom_fits_in.true) c.loop-atom.invariant
    ∙ ap (λ xs. nat_le (greatest atom_depth xs) c.args.limit) items.ensures
    ∙ ap (λ n. nat_le n c.args.limit) (sym (mono_depth_is c.args.mono.now))

pub mono_fits_in-returns : goal.mono_fits_in-returns
mono_fits_in-returns t c =
    let items = c.as_slice-atom-items in
    not_deep atom_depth items.result.now c.loop-atom.atom-index c.args.limit c.loop-atom-test.false
    c.loop-atom.invariant
    ∙ ap (λ xs. nat_le (greatest atom_depth xs) c.args.limit) items.ensures
    ∙ ap (λ n. nat_le n c.args.limit) (sym (mono_depth_is c.args.mono.now))
