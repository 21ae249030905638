use Rattle.std.proofs.Common.{◌<◌, length, drop, option_copied}
use Rattle.c_refute.specs.Points.{points, arity, finding_at}
use Rattle.c_refute.proofs.Walked.{Walked}
use Rattle.c_refute.proofs.PointLists.{Leads}
use Rattle.c_refute.proofs.comparison.compare.Given as goal

abbrev pub invariant-loop : goal.invariant-loop
invariant-loop l = record {
  walked : Walked (finding_at l.fn.program l.fn.f l.fn.g (option_copied l.fn.pre) l.fn.rounds)
      (points l.fn.side (arity l.fn.program l.fn.f))
      l.counter l.tally.alike l.tally.undecided;
  leads : l.counter < length (points l.fn.side (arity l.fn.program l.fn.f)) →
      Leads l.fn.side l.point.items (drop l.counter (points l.fn.side (arity l.fn.program l.fn.f)));
}
