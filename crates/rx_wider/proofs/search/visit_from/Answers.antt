-- The visits stand behind the lemmas on the tail calls of the rules.
use Rattle.std.proofs.Common.{◌≡◌, ◌∙◌, ap, subst}
use Rattle.std.specs.List.{fold}
use Rattle.std.specs.Prelude.{IfOk, option_map}
use Rattle.rx_wider.specs.Calls.{moves_of, opening_of}
use Rattle.rx_wider.specs.Tails.{Opening, with_lemma}
use Rattle.rx_wider.specs.Wider as spec
use Rattle.rx_wider.proofs.search.visit_from.Goals as goal

pub visit_behind-requires-clause-begun : goal.visit_behind-requires-clause-begun
visit_behind-requires-clause-begun g c = (
  c.args.target.now.goal.now,
  c.in_ok-opened.ensures.begun c.args.from.now c.requires.begun,
)

pub returns-clause-found : goal.returns-clause-found
returns-clause-found g c =
    let kind = c.args.target.now.setting.now.kind in
    let parts = c.args.target.now.setting.now.rules.now in
    let goal = c.args.target.now.goal.now in
    subst (λ (opening : Opening). IfOk c.visit_behind.result (λ o. option_map moves_of o ≡
    spec.found_behind kind parts c.args.reach.depth c.args.reach.budget opening goal))
    (c.in_ok-opened.ensures.opening
    ∙ ap (fold (with_lemma kind parts goal) (opening_of c.args.begun))
    (c.as_slice.ensures ∙ c.in_ok-tails.ensures))
    (c.visit_behind.ensures.found goal
    (c.in_ok-opened.ensures.begun c.args.from.now c.requires.begun))
