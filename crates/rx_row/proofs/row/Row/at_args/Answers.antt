-- Substitution and assignment commute.
use Rattle.rx_poly.specs.Substitution.{numbered}
use Rattle.rx_row.specs.declared.row.Row.TheVariants.{Ge, Eq, Ne}
use Rattle.rx_row.proofs.SubstitutionLaws.{subst_row-holds}
use Rattle.rx_row.proofs.row.Row.at_args.Goals as goal

pub returns-in_ok-at_args-in-Ge-clause-holds : goal.returns-in_ok-at_args-in-Ge-clause-holds
returns-in_ok-at_args-in-Ge-clause-holds c =
    λ a. rw (c.in_ok-at_args-in-Ge.ensures.forms.0, c.in-Ge.is)
    (subst_row-holds a (numbered c.args.args.now) (Ge c.in-Ge.poly))

pub returns-in_ok-at_args-in-Eq-clause-holds : goal.returns-in_ok-at_args-in-Eq-clause-holds
returns-in_ok-at_args-in-Eq-clause-holds c =
    λ a. rw (c.in_ok-at_args-in-Eq.ensures.forms.0, c.in-Eq.is)
    (subst_row-holds a (numbered c.args.args.now) (Eq c.in-Eq.poly))

pub returns-in_ok-at_args-in-Ne-clause-holds : goal.returns-in_ok-at_args-in-Ne-clause-holds
returns-in_ok-at_args-in-Ne-clause-holds c =
    λ a. rw (c.in_ok-at_args-in-Ne.ensures.forms.0, c.in-Ne.is)
    (subst_row-holds a (numbered c.args.args.now) (Ne c.in-Ne.poly))
