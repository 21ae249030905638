-- That many, and those among what is left, are all.
use Rattle.std.proofs.Common.{◌≡◌, ◌≤◌, ◌+◌, drop, length}
use Rattle.std.specs.Prelude.{filter}
use Rattle.rx_lemma.specs.Repeated.{is_same_occurrence}
use Rattle.rx_lemma.proofs.repeated.count_same.Given as goal

abbrev pub invariant-loop-other : goal.invariant-loop-other
invariant-loop-other l = record {
  few : l.count ≤ l.other-index;
  all : length (filter (is_same_occurrence l.one) (drop l.other-index l.all)) + l.count ≡
      length (filter (is_same_occurrence l.one) l.all);
}
