use Rattle.std.proofs.Common.{◌≡◌, ◌++◌, ◌-◌, ◌≤◌, ◌∙◌, ℤ, List, length, drop, ap, arith}
use Rattle.std.proofs.lemmas.List.{length-drop, take_all}
use Rattle.c_code.proofs.Slots.{kept-call}
use Rattle.c_machine.proofs.store.Store.call.Goals as goal

pub returns-clause-kept : goal.returns-clause-kept
returns-clause-kept c =
    let inside = c.self.inside in
    let first : c.saturating_sub-first.result ≡ length inside.values.items - c.args.count =
    cc (c.saturating_sub-first.ensures, c.len.ensures) in
    let shown = rw (c.deref.ensures.value, first) at c.in_ok-push_all.ensures.added in
    let few : length (drop (length inside.values.items - c.args.count) inside.values.items) ≤
    length inside.values.items - (length inside.values.items - c.args.count) =
    let many = length-drop (length inside.values.items - c.args.count) inside.values.items in
    omega arith in
    let all = take_all (length inside.values.items - (length inside.values.items - c.args.count))
    (drop (length inside.values.items - c.args.count) inside.values.items) few in
    let added = shown ∙ ap (λ (xs : List ℤ). inside.slots.items ++ xs) all in
    let less = rw first at c.truncate.ensures.items in
    let base : c.len-self-inside.result ≡ length inside.slots.items =
    cc (c.len-self-inside.ensures) in
    rw base (kept-call inside.base inside.slots.items inside.values.items inside.scopes.items
    c.args.self.now c.self.view_is c.args.count
    c.push_all.new.slots.items c.truncate.new.self.items added less)
