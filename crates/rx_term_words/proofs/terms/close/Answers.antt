-- Each frame wants a bracket.
use Rattle.rx_term_words.proofs.FrameLaws.{not_closed, one_closed}
use Rattle.rx_term_words.proofs.terms.close.Goals as goal

pub returns-in_default-skip_word : goal.returns-in_default-skip_word
returns-in_default-skip_word c =
    not_closed c.args.bytes.now c.args.at _ _ c.loop-sym.invariant c.in-Some.ensures
    c.in_default-skip_word.ensures

pub loop-sym-preserved : goal.loop-sym-preserved
loop-sym-preserved c =
    let v = c.args-in-Some.view_is in
    let n = c.in_ok-new.ensures in
    one_closed c.args.bytes.now c.args.at (c.in-Some.sym, c.in-Some.args) c.loop-sym.invariant
    c.in-Some.ensures c.in-Some-skip_word.ensures cc
