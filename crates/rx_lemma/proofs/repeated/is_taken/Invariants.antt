-- What is left decides.
use Rattle.std.proofs.Common.{◌≡◌, drop}
use Rattle.std.specs.List.{list_any}
use Rattle.rx_lemma.specs.Repeated.{is_taken_by}
use Rattle.rx_lemma.proofs.repeated.is_taken.Given as goal

abbrev pub invariant-loop-one : goal.invariant-loop-one
invariant-loop-one l =
    list_any (is_taken_by l.all l.poly) (drop l.one-index l.all) ≡
    list_any (is_taken_by l.all l.poly) l.all
