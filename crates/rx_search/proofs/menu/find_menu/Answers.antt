-- The menu is what was found, or none.
use Rattle.std.proofs.Common.{◌∙◌, All, None, ap, map, subst, sym}
use Rattle.std.specs.Prelude.{IfOk, Result}
use Rattle.rx_plain.specs.declared.no_memory.NoMemory.{NoMemory}
use Rattle.rx_deepening.specs.Views.{seen_choice}
use Rattle.rx_search.specs.Calls.{node_of}
use Rattle.rx_search.specs.Known.{IsKnownAt, IsRightAt, chosen_by}
use Rattle.rx_search.specs.Menu.{chosen_at}
use Rattle.rx_search.specs.Nodes.{AreChoices}
use Rattle.rx_search.specs.declared.node_choices.Choices.{Choices}
use Rattle.rx_search.proofs.Lifting.{chosen_known, right_at}
use Rattle.rx_search.proofs.Menus.{first_open, menu_found, menu_over}
use Rattle.rx_search.proofs.menu.find_menu.Goals as goal

pub returns-in_default-clause-menu : goal.returns-in_default-clause-menu
returns-in_default-clause-menu g c =
    let s = c.args.space.now in
    (λ i. record { choices = map (seen_choice node_of) (c.new.ensures i); note = None })
    ∙ menu_over s.kind s.rules.now c.args.node.now
    (subst (IsKnownAt s.rules.now c.args.node.now) c.in_default.is c.requires.known)

pub find_choices-tried-requires-clause-right : goal.find_choices-tried-requires-clause-right
find_choices-tried-requires-clause-right g c =
    let s = c.args.space.now in
    let n = c.args.node.now in
    let is = subst (IsKnownAt s.rules.now n) c.in-Some.is c.requires.known in
    subst (All (IsRightAt s.rules.now n.state)) (sym (c.as_slice-all.ensures ∙ c.get.ensures))
    (right_at s.kind s.rules.now n.state is.goal c.in-Some.known (first_open n is.goal is.first)
    is.right)

pub returns-clause-menu : goal.returns-clause-menu
returns-clause-menu g c =
    let s = c.args.space.now in
    let n = c.args.node.now in
    let is = subst (IsKnownAt s.rules.now n) c.in-Some.is c.requires.known in
    let all =
    ap (map (chosen_by s.kind s.rules.now n.state)) (c.as_slice-all.ensures ∙ c.get.ensures)
    ∙ chosen_known s.kind s.rules.now n.state is.goal c.in-Some.known
    (first_open n is.goal is.first) is.right
    in
    menu_found s.kind s.rules.now n is.goal c.in_ok-found.found c.in_ok-note.note is.first
    (subst (λ (r : Result Choices NoMemory). IfOk r (AreChoices n
    (chosen_at s.kind s.rules.now n.state is.goal)))
    (sym c.dropped.ensures ∙ c.in_ok-found.was)
    (subst (λ cs. IfOk c.find_choices-tried.result (AreChoices n cs)) all
    c.find_choices-tried.ensures.choices))
    c.in_ok-note.ensures
