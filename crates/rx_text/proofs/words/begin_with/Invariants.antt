-- The letters so far are the same.
use Rattle.std.proofs.Common.{◌≡◌, take}
use Rattle.rx_text.proofs.words.begin_with.Given as goal

abbrev pub invariant-loop-at : goal.invariant-loop-at
invariant-loop-at l = take l.at l.word ≡ take l.at l.bytes
