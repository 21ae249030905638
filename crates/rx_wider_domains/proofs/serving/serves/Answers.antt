-- The domains are lawful, and the set with them is ready or not.
use Rattle.std.proofs.Common.{◌≡◌, ◌∙◌, ap, sym, subst, None, Bool, List}
use Rattle.std.specs.Result.{IfOk}
use Rattle.rx_row.specs.declared.row.Row.{Row}
use Rattle.rx_domain.specs.Setting.{bad_domain, with_domains}
use Rattle.rx_wider_domains.proofs.LawfulLists.{domains_lawful}
use Rattle.rx_wider_domains.proofs.ServingLaws.{served_by}
use Rattle.rx_wider_domains.proofs.serving.serves.Goals as goal

pub set_inside-requires : goal.set_inside-requires
set_inside-requires g c =
    subst (λ (lists : List (List Row)). bad_domain c.args.aim.rules.now.symbols lists ≡ None)
    (sym (c.as_slice.ensures ∙ c.in_ok-rows.ensures.rows))
    (domains_lawful c.args.aim.rules.now c.args.aim.goal.now c.args.lists.now)

pub returns-clause-serves : goal.returns-clause-serves
returns-clause-serves g c =
    subst (λ (s : Bool). IfOk c.is_ready.result (λ b. b ≡ s))
    (served_by c.args.aim.rules.now c.args.aim.goal.now c.args.lists.now c.in_ok-rows.rows
    c.in_ok-inside.inside c.in_ok-rows.ensures.rows
    (c.in_ok-inside.ensures ∙ ap (with_domains c.args.aim.rules.now) c.as_slice.ensures))
    c.is_ready.ensures.ready
