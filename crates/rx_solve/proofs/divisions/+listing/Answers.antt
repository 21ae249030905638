-- Nothing is left, so the ratios so far are those of all.
use Rattle.std.proofs.Common.{◌≡◌, ◌∙◌, ◌++◌, List, OnOk, ap, subst, sym, ℤ}
use Rattle.std.specs.List.{flat_map}
use Rattle.rx_poly.proofs.VariableLaws.{listed_end}
use Rattle.rx_poly.specs.declared.body.Mono.{Mono}
use Rattle.rx_solve.specs.Divisions.{atom_ratios, mono_ratios, ratios}
use Rattle.rx_solve.specs.declared.divisions.Ratio.{Ratio}
use Rattle.rx_solve.proofs.RatioLaws.{after_Var, after_parts, mono_ratios_is, ratios_Div, ratios_Mod, ratios_is}
use Rattle.rx_solve.proofs.Walks.{listed_next}
use Rattle.rx_solve.proofs.divisions.+listing.Goals as goal

pub push_body-returns : goal.push_body-returns
push_body-returns t c =
    let items = c.as_slice-term-items in
    listed_end (λ (u : Mono × ℤ). mono_ratios u.0) items.result.now c.loop-term.term-index
    c.loop-term.found.items c.args.found.now.items c.loop-term-test.false c.loop-term.invariant
    ∙ ap (λ ts. c.args.found.now.items ++ flat_map (λ (u : Mono × ℤ). mono_ratios u.0) ts)
    items.ensures ∙ ap (λ vs. c.args.found.now.items ++ vs) (sym (ratios_is c.args.body.now))

pub push_mono-returns : goal.push_mono-returns
push_mono-returns t c =
    let items = c.as_slice-atom-items in
    listed_end atom_ratios items.result.now c.loop-atom.atom-index c.loop-atom.found.items
    c.args.found.now.items c.loop-atom-test.false c.loop-atom.invariant
    ∙ ap (λ xs. c.args.found.now.items ++ flat_map atom_ratios xs) items.ensures ∙
    ap (λ vs. c.args.found.now.items ++ vs) (sym (mono_ratios_is c.args.mono.now))

pub push_atom-returns-in-Var : goal.push_atom-returns-in-Var
push_atom-returns-in-Var t c =
    after_Var c.args.found.now.items c.args.atom.now c.in-Var.field-0 c.in-Var.is

pub push_atom-returns-in_ok-push_body-in-Div : goal.push_atom-returns-in_ok-push_body-in-Div
push_atom-returns-in_ok-push_body-in-Div t c =
    let old = c.args.found.now.items in
    let num = c.in-Div.num in
    let den = c.in-Div.den in
    let before : c.push_body.new.found.items ++ ratios den ≡ old ++ atom_ratios c.args.atom.now =
    ap (λ rs. rs ++ ratios den) (c.in_ok-push_body-in-Div.ensures ∙
    ap (λ rs. rs ++ ratios num) c.in_ok-push_own-in-Div.ensures)
    ∙ after_parts old num den ∙ ap (λ rs. old ++ rs)
    (sym (ratios_Div num den) ∙ ap atom_ratios (sym c.in-Div.is)) in
    subst (λ (rs : List Ratio). OnOk c.push_body-in-Div.result
    (c.push_body-in-Div.new.found.items ≡ rs)) before c.push_body-in-Div.ensures

pub push_atom-returns-in_ok-push_body-in-Mod : goal.push_atom-returns-in_ok-push_body-in-Mod
push_atom-returns-in_ok-push_body-in-Mod t c =
    let old = c.args.found.now.items in
    let num = c.in-Mod.num in
    let den = c.in-Mod.den in
    let before : c.push_body-in-Mod.new.found.items ++ ratios den ≡ old ++
    atom_ratios c.args.atom.now =
    ap (λ rs. rs ++ ratios den) (c.in_ok-push_body-in-Mod.ensures ∙
    ap (λ rs. rs ++ ratios num) c.in_ok-push_own-in-Mod.ensures)
    ∙ after_parts old num den ∙ ap (λ rs. old ++ rs)
    (sym (ratios_Mod num den) ∙ ap atom_ratios (sym c.in-Mod.is)) in
    subst (λ (rs : List Ratio). OnOk c.push_body-in-Mod-2.result
    (c.push_body-in-Mod-2.new.found.items ≡ rs)) before c.push_body-in-Mod-2.ensures

pub push_body-loop-term-preserved : goal.push_body-loop-term-preserved
push_body-loop-term-preserved t c =
    let items = c.as_slice-term-items.result.now in
    let at = c.loop-term in
    listed_next items at.term-index c.term-item.result c.loop-term-test.true c.term-item.is
    (λ (u : Mono × ℤ). mono_ratios u.0) at.found.items c.push_mono.new.found.items
    (c.args.found.now.items ++ flat_map (λ (u : Mono × ℤ). mono_ratios u.0) items) at.invariant
    c.in_ok-push_mono.ensures

pub push_mono-loop-atom-preserved : goal.push_mono-loop-atom-preserved
push_mono-loop-atom-preserved t c =
    let items = c.as_slice-atom-items.result.now in
    let at = c.loop-atom in
    listed_next items at.atom-index c.atom-item.result c.loop-atom-test.true c.atom-item.is
    atom_ratios at.found.items c.push_atom.new.found.items
    (c.args.found.now.items ++ flat_map atom_ratios items) at.invariant c.in_ok-push_atom.ensures
