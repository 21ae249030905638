use Rattle.std.proofs.Common.{◌≡◌, ◌+◌}
use Rattle.rx_term.specs.Stacks.{depth_of, redex_place}
use Rattle.rx_term.proofs.Walks.{rest_in}
use Rattle.rx_term.proofs.term.Term.redex_place.Given as goal

abbrev pub invariant-loop-here : goal.invariant-loop-here
invariant-loop-here l =
    record {
      counted : l.count + depth_of l.here ≡ depth_of l.self;
      place : rest_in l.count (redex_place l.here) ≡ redex_place l.self;
    }
