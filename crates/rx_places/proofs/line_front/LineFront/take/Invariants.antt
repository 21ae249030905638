-- The bytes so far were taken.
use Rattle.std.proofs.Common.{take}
use Rattle.rx_places.specs.FrontsKept.{Leads}
use Rattle.rx_places.proofs.line_front.LineFront.take.Given as goal

abbrev pub invariant-loop-byte : goal.invariant-loop-byte
invariant-loop-byte l = Leads l.initial.self (take l.byte-index l.piece) l.self
