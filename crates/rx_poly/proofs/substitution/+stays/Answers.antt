-- A part with a variable that doesn't stay decides; where there is none, the whole stays.
use Rattle.std.proofs.Common.{◌∙◌, ap, sym, ℤ}
use Rattle.std.specs.List.{list_all}
use Rattle.rx_poly.proofs.Staying.{body_stays_is, mono_stays_is}
use Rattle.rx_poly.proofs.Walks.{one_fails, all_pass}
use Rattle.rx_poly.specs.Replacements.{replacements, atom_stays, mono_stays}
use Rattle.rx_poly.specs.declared.body.Mono.{Mono}
use Rattle.rx_poly.proofs.substitution.+stays.Goals as goal

pub body_stays-returns-then-not-mono_stays : goal.body_stays-returns-then-not-mono_stays
body_stays-returns-then-not-mono_stays t c =
    let test = λ (u : Mono × ℤ). mono_stays (replacements c.args.with) u.0 in
    let items = c.as_slice-term-items in
    let fails = one_fails test items.result.now c.loop-term.term-index c.term-item.result
    c.loop-term-test.true c.term-item.is
    (sym c.mono_stays.ensures ∙ c.if-not-mono_stays.true) c.loop-term.invariant in
    sym (body_stays_is (replacements c.args.with) c.args.body.now ∙
    ap (list_all test) (sym items.ensures) ∙ fails)

pub body_stays-returns : goal.body_stays-returns
body_stays-returns t c =
    let test = λ (u : Mono × ℤ). mono_stays (replacements c.args.with) u.0 in
    let items = c.as_slice-term-items in
    let all = all_pass test items.result.now c.loop-term.term-index c.loop-term-test.false
    c.loop-term.invariant in
    sym (body_stays_is (replacements c.args.with) c.args.body.now ∙
    ap (list_all test) (sym items.ensures) ∙ all)

pub mono_stays-returns-then-not-atom_stays : goal.mono_stays-returns-then-not-atom_stays
mono_stays-returns-then-not-atom_stays t c =
    let test = atom_stays (replacements c.args.with) in
    let items = c.as_slice-atom-items in
    let fails = one_fails test items.result.now c.loop-atom.atom-index c.atom-item.result
    c.loop-atom-test.true c.atom-item.is
    (sym c.atom_stays.ensures ∙ c.if-not-atom_stays.true) c.loop-atom.invariant in
    sym (mono_stays_is (replacements c.args.with) c.args.mono.now ∙
    ap (list_all test) (sym items.ensures) ∙ fails)

pub mono_stays-returns : goal.mono_stays-returns
mono_stays-returns t c =
    let test = atom_stays (replacements c.args.with) in
    let items = c.as_slice-atom-items in
    let all = all_pass test items.result.now c.loop-atom.atom-index c.loop-atom-test.false
    c.loop-atom.invariant in
    sym (mono_stays_is (replacements c.args.with) c.args.mono.now ∙
    ap (list_all test) (sym items.ensures) ∙ all)
