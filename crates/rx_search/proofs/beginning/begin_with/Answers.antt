-- A search begins inside the domains, or nowhere.
use Rattle.std.proofs.Common.{◌∙◌, ap, refl, subst, sym}
use Rattle.rx_search.specs.Begun.{BeginsWith, begun_unless}
use Rattle.rx_search.proofs.beginning.begin_with.Goals as goal

pub returns-in-Ok-None-clause-begun : goal.returns-in-Ok-None-clause-begun
returns-in-Ok-None-clause-begun g c =
    let begun = c.in-Ok-None.ensures in (
      refl,
      begun.ready c.in-Ok-None.field-0-is,
      sym begun.begun
          ∙ ap (λ o. begun_unless o c.args.inside.domains.rows) c.in-Ok-None.field-0-is,
    )

pub returns-in-Ok-Some-clause-begun : goal.returns-in-Ok-Some-clause-begun
returns-in-Ok-Some-clause-begun g c =
    subst (BeginsWith c.args.inside c.args.noted) (sym c.dropped.ensures)
    (sym c.in-Ok-Some.ensures.begun
    ∙ ap (λ o. begun_unless o c.args.inside.domains.rows) c.in-Ok-Some.field-0-is)
