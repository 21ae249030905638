-- Term by term it is the same.
use Rattle.std.proofs.Common.{◌∙◌, ap, false}
use Rattle.rx_poly.specs.declared.body.Body.{Body, out-Body}
use Rattle.rx_lemma.specs.Values.{is_valued, valued_from}
use Rattle.rx_lemma.proofs.ValueLaws.{valued_by_terms}
use Rattle.rx_lemma.proofs.values.is_valued.Goals as goal

pub returns : goal.returns
unfolding is_valued
returns c =
    c.are_valued.ensures ∙ ap (valued_from false)
    (c.as_slice.ensures ∙ ap (λ (b : Body). (out-Body b).terms) c.body.ensures.body)
    ∙ valued_by_terms (out-Body c.args.poly.now).terms
