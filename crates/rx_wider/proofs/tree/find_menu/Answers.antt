-- All choices can be tried.
use Rattle.std.proofs.Common.{◌∙◌, All, subst, sym}
use Rattle.rx_settle.specs.Tasks.{descendants}
use Rattle.rx_wider.specs.Reached.{CanBeTried}
use Rattle.rx_wider.proofs.PlanLaws.{all_can}
use Rattle.rx_wider.proofs.tree.find_menu.Goals as goal

pub find_choices-requires-clause-can : goal.find_choices-requires-clause-can
find_choices-requires-clause-can g c =
    let parts = c.args.explorer.now.setting.now.rules.now in
    let tails = c.args.explorer.now.tails.now in
    subst (All (CanBeTried parts))
    (sym (c.as_slice-candidates.ensures ∙ c.get.ensures ∙ c.in_ok-all.ensures.found))
    (all_can parts (descendants parts tails) c.in-Some.first)
