-- One that has no text is enough.
use Rattle.std.proofs.Common.{◌∙◌, ap, sym}
use Rattle.std.proofs.lemmas.List.Folds.{list_all_at}
use Rattle.rx_text.specs.Polynomials.{polynomials}
use Rattle.rx_words.specs.Words.{pairs, variables, word}
use Rattle.rx_logwriting.proofs.substitutions.each_replacement_has_text.Goals as goal

pub returns-then-not-replacement_has_text : goal.returns-then-not-replacement_has_text
returns-then-not-replacement_has_text c =
    let has_text = (pairs variables (word polynomials)).in_range in
    sym (list_all_at has_text c.args.subst.now c.loop-replacement.replacement-index
    c.replacement-item.result
    c.loop-replacement-test.true
    (ap has_text (sym c.replacement-item.is)
    ∙ (sym c.replacement_has_text.ensures ∙ c.if-not-replacement_has_text.true)))
