use Rattle.std.proofs.Common.{◌≡◌, true, take}
use Rattle.std.specs.List.{list_all}
use Rattle.rx_text.specs.Numbers.{integers}
use Rattle.rx_words.specs.Words.{numbers, pairs, word}
use Rattle.rx_logwriting.proofs.lists.parts_have_text.Given as goal

abbrev pub invariant-loop-part : goal.invariant-loop-part
invariant-loop-part l =
    list_all (pairs numbers (word integers)).in_range (take l.part-index l.parts) ≡ true
