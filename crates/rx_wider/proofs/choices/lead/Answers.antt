-- The node that a choice leads to.
use Rattle.std.proofs.Common.{◌∙◌, ap, sym}
use Rattle.rx_settle.specs.declared.tasked.Tasked.{Tasked}
use Rattle.rx_wider.specs.Calls.{with_steps}
use Rattle.rx_wider.proofs.Leading.{fits_there, node_there, rooted_there}
use Rattle.rx_wider.proofs.Walking.{taken_as}
use Rattle.rx_wider.proofs.choices.lead.Goals as goal

pub is_fit-requires-clause-roots : goal.is_fit-requires-clause-roots
is_fit-requires-clause-roots g c =
    let a = c.args in
    let s = a.setting.now in
    let (goal, is) = c.requires.node in
    rooted_there s.kind s.rules.now a.node.now a.candidate.now c.try_steps.new.state c.in-Some.taken
    (taken_as s.rules.now c.in_ok-at.at.state a.node.now.at.state c.try_steps.new.state
    c.as_slice-steps.result.now a.candidate.now.steps
    (ap (λ (t : Tasked). t.state) c.in_ok-at.ensures) c.as_slice-steps.ensures
    c.in_ok-taken.field-0 c.in_ok-taken.ensures.taken c.in-Some.taken c.in-Some.is) goal is

pub is_fit-requires-clause-fits : goal.is_fit-requires-clause-fits
is_fit-requires-clause-fits g c =
    let a = c.args in
    let s = a.setting.now in
    let (goal, is) = c.requires.node in
    fits_there s.kind s.rules.now a.node.now a.candidate.now c.try_steps.new.state c.in-Some.taken
    (taken_as s.rules.now c.in_ok-at.at.state a.node.now.at.state c.try_steps.new.state
    c.as_slice-steps.result.now a.candidate.now.steps
    (ap (λ (t : Tasked). t.state) c.in_ok-at.ensures) c.as_slice-steps.ensures
    c.in_ok-taken.field-0 c.in_ok-taken.ensures.taken c.in-Some.taken c.in-Some.is) goal is

pub returns-in_ok-next-clause-nodes : goal.returns-in_ok-next-clause-nodes
returns-in_ok-next-clause-nodes g c = λ goal is.
    let a = c.args in
    let s = a.setting.now in
    node_there s.kind s.rules.now a.node.now a.candidate.now c.try_steps.new.state c.in-Some.taken
    (taken_as s.rules.now c.in_ok-at.at.state a.node.now.at.state c.try_steps.new.state
    c.as_slice-steps.result.now a.candidate.now.steps
    (ap (λ (t : Tasked). t.state) c.in_ok-at.ensures) c.as_slice-steps.ensures
    c.in_ok-taken.field-0 c.in_ok-taken.ensures.taken c.in-Some.taken c.in-Some.is) goal is
    c.requires.can c.in_ok-next.next
    (c.in_ok-next.ensures
    ∙ ap (λ task. with_steps a.node.now c.in-Some.taken task c.try_steps.new.state)
    c.as_slice.ensures)
    (sym c.in_ok-is_fit.ensures.fit ∙ c.if-branch.true)
