use Rattle.std.proofs.Common.{drop}
use Rattle.rx_translate.proofs.Entries.{Seeking}
use Rattle.rx_translate.proofs.rules.entry_of.Given as goal

abbrev pub invariant-loop-place : goal.invariant-loop-place
invariant-loop-place l = Seeking l.f (drop l.place-index l.entries) l.entries
