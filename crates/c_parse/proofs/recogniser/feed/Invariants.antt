use Rattle.std.proofs.Common.{◌≡◌, length, reverse}
use Rattle.c_parse.specs.Recogniser.{fed}
use Rattle.c_parse.proofs.recogniser.feed.Given as goal

abbrev pub invariant-loop-symbol : goal.invariant-loop-symbol
invariant-loop-symbol l =
    fed (reverse l.stack.items) l.kind ≡ fed (reverse l.initial.stack.items) l.kind

abbrev pub decreases-loop-symbol : goal.decreases-loop-symbol
decreases-loop-symbol l = length l.stack.items
