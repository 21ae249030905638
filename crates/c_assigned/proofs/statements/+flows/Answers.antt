-- The forms whose parts were walked, and one statement of a list more.
use Rattle.std.proofs.Common.{◌≡◌, ◌∙◌, ap, arith, length, [], None, option_map, if◌then◌else◌}
use Rattle.c_ast.specs.Variables.{variables}
use Rattle.std.specs.Option.{option_or}
use Rattle.c_assigned.specs.Sets.{restrict, first_unset}
use Rattle.c_assigned.specs.Flows.{fall_through, nested_optional, unset_in_test, stmt_flow}
use Rattle.c_assigned.proofs.FlowLaws.{going_on}
use Rattle.c_assigned.proofs.FlowEquations.{if_walked, for_walked}
use Rattle.c_assigned.proofs.statements.+flows.Goals as goal

pub stmt_flow-returns-in_ok-fails-in-If-clause-flow :
    goal.stmt_flow-returns-in_ok-fails-in-If-clause-flow
stmt_flow-returns-in_ok-fails-in-If-clause-flow t c =
    c.after_branches.ensures
    ∙ if_walked c.args.names.now c.args.scope.now.items c.args.set c.args.stmt.now c.in-If.test
    c.in-If.inner c.in-If.other c.in-If.is
    c.first_unset-tested.result c.in_ok-holds-in-If.holds c.in_ok-fails-in-If.fails c.get.result.now
    c.in_ok-held-in-If.held c.inside.new.scope.items
    (c.first_unset-tested.ensures ∙ ap (λ sc.
    first_unset c.args.names.now sc c.args.set None (variables c.in-If.test))
    c.as_slice-in-If.ensures.value) c.get.ensures c.in_ok-held-in-If.ensures
    c.in_ok-holds-in-If.ensures.flow c.in_ok-holds-in-If.ensures.scope
    c.in_ok-fails-in-If.ensures.flow

pub in_order-loop-statement-preserved : goal.in_order-loop-statement-preserved
in_order-loop-statement-preserved t c =
    let l = c.loop-statement in
    let s = c.statement-item.result in
    let names = c.args.names.now in
    let behind = c.take-behind.ensures.value in
    going_on names c.args.scope.now.items c.args.set c.args.statements.now l.scope.items l.flow
    l.statement-index l.invariant
    c.loop-statement-test.true s c.statement-item.is c.in_ok-next.next c.stmt_flow.new.scope.items
    (c.in_ok-next.ensures.flow ∙ ap (λ set. (stmt_flow names s l.scope.items set).flow) behind)
    (c.in_ok-next.ensures.scope ∙ ap (λ set. (stmt_flow names s l.scope.items set).scope) behind)
    c.in_ok-next.ensures.kept c.in_ok-next.ensures.few c.sequence-flow.result c.sequence-flow.ensures

pub stmt_flow-returns-in_ok-changed-in-For-clause-flow :
    goal.stmt_flow-returns-in_ok-changed-in-For-clause-flow
stmt_flow-returns-in_ok-changed-in-For-clause-flow t c =
    let names = c.args.names.now in
    let f = c.in-For in
    let begun = c.in_ok-begun-in-For.begun in
    let turn = c.in_ok-turn-in-For.turn in
    let changed = c.in_ok-changed-in-For.changed in
    let tested = c.unset_in_test-tested.ensures ∙
    ap (λ sc. unset_in_test names sc begun.behind f.test) c.as_slice-in-For-2.ensures.value in
    let unset = c.first_of-unset.ensures ∙ (λ k. option_or (tested k) (c.first_of.ensures k)) in
    let outside : c.len-outside.result ≡ length c.args.scope.now.items =
    omega (arith, c.len-outside.ensures) in
    c.for_after.ensures
    ∙ (λ k. (fall_through [] (restrict (outside k) (if c.is_endless.ensures k then turn.breaks else
    begun.behind)) (option_or begun.unset (unset k))).flow)
    ∙ for_walked names c.args.scope.now.items c.args.set c.args.stmt.now f.first f.test f.change
    f.inner f.is begun turn changed
    c.as_slice-in-For.result.now c.in_order.new.scope.items c.inside-in-For.new.scope.items
    c.get-in-For.result.now c.in_ok-turned-in-For.turned
    c.as_slice-in-For.ensures c.in_ok-begun-in-For.ensures.flow c.in_ok-begun-in-For.ensures.scope
    c.get-in-For.ensures c.in_ok-turned-in-For.ensures c.in_ok-turn-in-For.ensures.flow
    c.in_ok-turn-in-For.ensures.scope
    (c.in_ok-changed-in-For.ensures.flow ∙ ap
    (λ set. nested_optional (option_map (stmt_flow names) f.change)
    c.inside-in-For.new.scope.items set) c.meet-going.ensures)
