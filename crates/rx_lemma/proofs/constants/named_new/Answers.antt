-- The goal, its rows and what the new variables represent are those of the definition.
use Rattle.std.proofs.Common.{◌∙◌, ap, ◌++◌, [], ◌∷◌}
use Rattle.rx_poly.specs.declared.body.Body.{Body}
use Rattle.rx_lemma.proofs.NamingLaws.{named_made}
use Rattle.rx_lemma.proofs.constants.named_new.Goals as goal

pub returns : goal.returns
returns c =
    named_made c.args.side c.args.place c.args.integer.now c.args.row c.args.naming
    c.in_ok-goal.goal c.push.new.self c.push-2.new.self
    c.in_ok-goal.ensures c.in_ok-push.ensures.pushed
    (c.in_ok-push-2.ensures.ok ∙ ap (λ (p : Body). c.args.naming.subst ++ (c.args.naming.fresh, p) ∷
    []) c.in_ok-constant.ensures)
