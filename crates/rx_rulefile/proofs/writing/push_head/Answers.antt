use Rattle.std.proofs.lemmas.Result.{on_ok_weaker}
use Rattle.rx_rulefile.proofs.Written.{head_written}
use Rattle.rx_rulefile.proofs.writing.push_head.Goals as goal

pub returns : goal.returns
returns c =
    on_ok_weaker c.push_word-2.result
    (λ h. head_written c.args.out.now.items c.push_word.new.out.items c.push_natural.new.out.items
    c.push_word-2.new.out.items c.args.fails c.in_ok-push_word.ensures c.in_ok-push_natural.ensures
    h)
    c.push_word-2.ensures
