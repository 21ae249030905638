-- The places that are left decide.
use Rattle.std.proofs.Common.{◌≡◌, ◌-◌}
use Rattle.rx_lemma.specs.Naming.{naming_from}
use Rattle.rx_lemma.proofs.constants.name_places.Given as goal

abbrev pub invariant-loop-place : goal.invariant-loop-place
invariant-loop-place l =
    naming_from l.side l.place (l.count - l.place) l.naming ≡
    naming_from l.side 0 l.count l.fn.naming
