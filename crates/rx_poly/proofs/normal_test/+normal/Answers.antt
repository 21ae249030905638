-- A part that is not normal makes the whole not normal; where all are, the order decides.
use Rattle.std.proofs.Common.{◌∙◌, ap, sym, ℤ, Bool, ◌&&◌}
use Rattle.std.proofs.lemmas.Bool.{and_left}
use Rattle.std.specs.List.{list_all}
use Rattle.rx_poly.proofs.Levels.{is_normal_is, is_normal_mono_is}
use Rattle.rx_poly.proofs.Walks.{one_fails, all_pass}
use Rattle.rx_poly.specs.Limits.{fits_i128}
use Rattle.rx_poly.specs.Normal.{is_normal_atom, is_normal_mono, is_sorted}
use Rattle.rx_poly.specs.Order.{atom_cmp, mono_cmp}
use Rattle.rx_poly.specs.Terms.{is_sparse_sorted}
use Rattle.rx_poly.specs.declared.body.Mono.{Mono, out-Mono}
use Rattle.rx_poly.specs.declared.body.Body.{out-Body}
use Rattle.rx_poly.proofs.normal_test.+normal.Goals as goal

abbrev passes : Mono × ℤ → Bool
passes u = is_normal_mono u.0 && fits_i128 u.1

pub body_is_normal-returns-then-not-mono_is_normal :
    goal.body_is_normal-returns-then-not-mono_is_normal
body_is_normal-returns-then-not-mono_is_normal t c =
    let items = c.as_slice-term-items in
    let fails = one_fails passes items.result.now c.loop-term.term-index c.term-item.result
    c.loop-term-test.true c.term-item.is
    (and_left (is_normal_mono c.term-item.result.0) (fits_i128 c.term-item.result.1)
    (sym c.mono_is_normal.ensures ∙ c.if-not-mono_is_normal.true)) c.loop-term.invariant in
    sym (is_normal_is c.args.body.now ∙ and_left (list_all passes (out-Body c.args.body.now).terms)
    (is_sparse_sorted mono_cmp (out-Body c.args.body.now).terms)
    (ap (list_all passes) (sym items.ensures) ∙ fails))

pub body_is_normal-returns : goal.body_is_normal-returns
body_is_normal-returns t c =
    let items = c.as_slice-term-items in
    let all = all_pass passes items.result.now c.loop-term.term-index c.loop-term-test.false
    c.loop-term.invariant in
    c.are_listed.ensures ∙ ap (is_sparse_sorted mono_cmp) c.as_slice.ensures
    ∙ ap (λ b. b && is_sparse_sorted mono_cmp (out-Body c.args.body.now).terms)
    (sym all ∙ ap (list_all passes) items.ensures) ∙ sym (is_normal_is c.args.body.now)

pub mono_is_normal-returns-then-not-atom_is_normal :
    goal.mono_is_normal-returns-then-not-atom_is_normal
mono_is_normal-returns-then-not-atom_is_normal t c =
    let items = c.as_slice-atom-items in
    let fails = one_fails is_normal_atom items.result.now c.loop-atom.atom-index c.atom-item.result
    c.loop-atom-test.true c.atom-item.is
    (sym c.atom_is_normal.ensures ∙ c.if-not-atom_is_normal.true) c.loop-atom.invariant in
    sym (is_normal_mono_is c.args.mono.now ∙ and_left
    (list_all is_normal_atom (out-Mono c.args.mono.now).atoms)
    (is_sorted atom_cmp (out-Mono c.args.mono.now).atoms)
    (ap (list_all is_normal_atom) (sym items.ensures) ∙ fails))

pub mono_is_normal-returns : goal.mono_is_normal-returns
mono_is_normal-returns t c =
    let items = c.as_slice-atom-items in
    let all = all_pass is_normal_atom items.result.now c.loop-atom.atom-index c.loop-atom-test.false
    c.loop-atom.invariant in
    c.are_sorted.ensures ∙ ap (is_sorted atom_cmp) c.as_slice.ensures
    ∙ ap (λ b. b && is_sorted atom_cmp (out-Mono c.args.mono.now).atoms)
    (sym all ∙ ap (list_all is_normal_atom) items.ensures) ∙
    sym (is_normal_mono_is c.args.mono.now)
