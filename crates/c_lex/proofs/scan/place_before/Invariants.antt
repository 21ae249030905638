use Rattle.std.proofs.Common.{◌≡◌, ◌+◌, drop}
use Rattle.c_lex.specs.Bytes as spec
use Rattle.c_lex.specs.Classes.{stop_test}
use Rattle.c_lex.proofs.scan.place_before.Given as goal

-- the first place is looked for from the place that is reached
abbrev pub invariant-loop-at : goal.invariant-loop-at
invariant-loop-at l =
    l.at + spec.until (stop_test l.stop) (drop l.at l.text) ≡ spec.until (stop_test l.stop) l.text
