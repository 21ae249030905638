-- The other call's variable decides.
use Rattle.std.proofs.Common.{◌∙◌, subst, sym, ℕ, Option}
use Rattle.rx_lemma.specs.Naming.{Answers, naming_by, naming_constant}
use Rattle.rx_lemma.proofs.constants.name_constant.Goals as goal

pub returns-in-Some : goal.returns-in-Some
unfolding naming_constant
returns-in-Some c =
    subst (λ (o : Option ℕ). Answers (naming_by c.args.side c.args.place c.args.integer.now
    c.args.naming o) c.name_by.result)
    (sym c.in-Some.is ∙ c.other_variable.ensures) c.name_by.ensures

pub returns-in-None : goal.returns-in-None
unfolding naming_constant
returns-in-None c =
    subst (λ (o : Option ℕ). Answers (naming_by c.args.side c.args.place c.args.integer.now
    c.args.naming o) c.name_new.result)
    (sym c.in-None.is ∙ c.other_variable.ensures) c.name_new.ensures
