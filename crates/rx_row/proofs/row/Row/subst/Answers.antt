-- Substitution and assignment commute.
use Rattle.rx_row.specs.declared.row.Row.TheVariants.{Ge, Eq, Ne}
use Rattle.rx_row.proofs.SubstitutionLaws.{subst_row-holds}
use Rattle.rx_row.proofs.row.Row.subst.Goals as goal

pub returns-in_ok-subst-in-Ge-clause-holds : goal.returns-in_ok-subst-in-Ge-clause-holds
returns-in_ok-subst-in-Ge-clause-holds c =
    λ a. rw (c.in_ok-subst-in-Ge.ensures.forms.0, c.in-Ge.is)
    (subst_row-holds a c.args.with.now (Ge c.in-Ge.poly))

pub returns-in_ok-subst-in-Eq-clause-holds : goal.returns-in_ok-subst-in-Eq-clause-holds
returns-in_ok-subst-in-Eq-clause-holds c =
    λ a. rw (c.in_ok-subst-in-Eq.ensures.forms.0, c.in-Eq.is)
    (subst_row-holds a c.args.with.now (Eq c.in-Eq.poly))

pub returns-in_ok-subst-in-Ne-clause-holds : goal.returns-in_ok-subst-in-Ne-clause-holds
returns-in_ok-subst-in-Ne-clause-holds c =
    λ a. rw (c.in_ok-subst-in-Ne.ensures.forms.0, c.in-Ne.is)
    (subst_row-holds a c.args.with.now (Ne c.in-Ne.poly))
