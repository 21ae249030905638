-- The arguments of a call, from left to right.
use Rattle.std.proofs.Common.{◌∙◌, ap, sym, ◌+◌, map, drop}
use Rattle.std.specs.List.{concat}
use Rattle.std.specs.Option.{option_or}
use Rattle.c_ast.specs.Variables.{variables}
use Rattle.c_assigned.specs.Sets.{first_unset}
use Rattle.c_assigned.proofs.Reading.{unset_turn, unset_end, unset_Apply}
use Rattle.c_assigned.proofs.reads.+first_unset.Goals as goal

pub returns-in-Some-first_unset-3 : goal.returns-in-Some-first_unset-3
returns-in-Some-first_unset-3 t c =
    let a = c.args in
    let unset = first_unset a.names.now a.scope.now a.set.now a.own in
    let items = c.as_slice-argument-items in
    let rest = unset (concat (map variables (drop (c.loop-argument.argument-index + 1)
    items.result.now))) in
    let turn = unset_turn a.names.now a.scope.now a.set.now a.own items.result.now
    c.loop-argument.argument-index c.argument-item.result c.loop-argument-test.true
    c.argument-item.is in
    sym (ap (λ e. unset (variables e)) c.in-Apply.is ∙
    unset_Apply a.names.now a.scope.now a.set.now a.own c.in-Apply.field-0 c.in-Apply.arguments
    ∙ ap (λ es. unset (concat (map variables es))) (sym items.ensures) ∙
    sym c.loop-argument.invariant ∙ turn ∙
    ap (λ o. option_or o rest) (sym c.in-Some-first_unset-3.ensures))

pub loop-argument-preserved : goal.loop-argument-preserved
loop-argument-preserved t c =
    let a = c.args in
    let unset = first_unset a.names.now a.scope.now a.set.now a.own in
    let items = c.as_slice-argument-items.result.now in
    let rest = unset (concat (map variables (drop (c.loop-argument.argument-index + 1) items))) in
    let turn = unset_turn a.names.now a.scope.now a.set.now a.own items
    c.loop-argument.argument-index c.argument-item.result c.loop-argument-test.true
    c.argument-item.is in
    sym (turn ∙ ap (λ o. option_or o rest) (sym c.in_default.ensures)) ∙ c.loop-argument.invariant

pub returns-after-loop-argument : goal.returns-after-loop-argument
returns-after-loop-argument t c =
    let a = c.args in
    let unset = first_unset a.names.now a.scope.now a.set.now a.own in
    let items = c.as_slice-argument-items in
    sym (ap (λ e. unset (variables e)) c.in-Apply.is ∙
    unset_Apply a.names.now a.scope.now a.set.now a.own c.in-Apply.field-0 c.in-Apply.arguments
    ∙ ap (λ es. unset (concat (map variables es))) (sym items.ensures) ∙
    sym c.loop-argument.invariant ∙ unset_end a.names.now a.scope.now a.set.now a.own
    items.result.now c.loop-argument.argument-index c.loop-argument-test.false)
