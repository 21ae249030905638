-- Those so far, and then what is left, make all.
use Rattle.std.proofs.Common.{◌≡◌, drop}
use Rattle.std.specs.List.{fold}
use Rattle.rx_lemma.specs.Repeated.{taken_of, with_taken}
use Rattle.rx_lemma.proofs.repeated.taken_of.Given as goal

abbrev pub invariant-loop-one : goal.invariant-loop-one
invariant-loop-one l = fold (with_taken l.all) l.done (drop l.one-index l.all) ≡ taken_of l.all
