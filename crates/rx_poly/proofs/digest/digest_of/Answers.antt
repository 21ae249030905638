-- Each turn takes the number on by one term.
use Rattle.std.proofs.Common.{◌∙◌, ap, drop, ◌+◌}
use Rattle.std.specs.List.{fold}
use Rattle.rx_poly.specs.Digest.{with_term}
use Rattle.rx_poly.proofs.Digesting.{fold_next, fold_end}
use Rattle.rx_poly.proofs.digest.digest_of.Goals as goal

pub loop-term-preserved : goal.loop-term-preserved
loop-term-preserved c =
    let terms = c.args.terms.now in
    let i = c.loop-term.term-index in
    ap (λ d. fold with_term d (drop (i + 1) terms)) c.after_term-digest.ensures
    ∙ fold_next with_term c.loop-term.digest terms i c.loop-term-test.true c.term-item.is
    c.loop-term.invariant

pub returns : goal.returns
returns c =
    fold_end with_term c.loop-term.digest c.args.terms.now c.loop-term.term-index
    c.loop-term-test.false c.loop-term.invariant
