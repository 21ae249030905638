-- No row gives the variable the value.
use Rattle.std.proofs.Common.{◌∙◌, ap, subst, sym, Bool}
use Rattle.std.specs.Prelude.{if◌then◌else◌}
use Rattle.rx_solve.specs.Attempts.{Tried, applies}
use Rattle.rx_lemma.specs.Naming.{Answers, gives, named_as, naming_new}
use Rattle.rx_lemma.specs.declared.constants.Naming.{Naming}
use Rattle.rx_lemma.proofs.NamingLaws.{decided}
use Rattle.rx_lemma.proofs.constants.name_by.Goals as goal

pub returns : goal.returns
returns c =
    let n = c.args.naming in
    let there = applies (named_as c.args.side c.args.place c.args.variable n) in
    let new = naming_new c.args.side c.args.place c.args.integer.now n in
    let same = decided (gives c.args.variable c.args.integer.now n.goal.rows) c.in_ok-known.known
    there new c.in_ok-known.ensures.forms.0 c.in_ok-known.ensures.forms.1
    ∙ ap (λ (b : Bool). if b then there else new) c.if-known.false in
    subst (λ (t : Tried Naming). Answers t c.name_new.result) (sym same) c.name_new.ensures
