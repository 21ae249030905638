use Rattle.std.proofs.Common.{◌≡◌, ◌++◌, take}
use Rattle.rx_words.specs.Words.{each_spaced}
use Rattle.rx_words.proofs.lists.push_spaced.Given as goal

abbrev pub invariant-loop-thing : goal.invariant-loop-thing
invariant-loop-thing g l =
    l.out.items ≡ l.initial.out.items ++ each_spaced g.T.Text.text (take l.thing-index l.things)
