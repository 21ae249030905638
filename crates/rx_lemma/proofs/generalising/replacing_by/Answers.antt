-- The new equation is that of the definition.
use Rattle.std.proofs.Common.{◌∙◌, ap, subst}
use Rattle.rx_term.specs.declared.rule.Equation.{Equation}
use Rattle.rx_lemma.specs.GeneraliseAnswers.{FindsAny}
use Rattle.rx_lemma.specs.Generalising.{generalised, replacing, replacing_by}
use Rattle.rx_lemma.specs.declared.lemma.LemmaKind.TheVariants.{ReplaceRepeated}
use Rattle.rx_lemma.proofs.generalising.replacing_by.Goals as goal

pub returns-clause-answer : goal.returns-clause-answer
unfolding replacing_by
returns-clause-answer g c =
    subst (λ (e : Equation). FindsAny (generalised c.args.rules.now c.args.goal.now ReplaceRepeated e
    c.args.with) c.generalise.result)
    (c.in_ok-new.ensures ∙ ap (replacing c.args.goal.now) c.as_slice.ensures)
    c.generalise.ensures.answer
