use Rattle.std.proofs.Common.{◌≡◌}
use Rattle.rx_term.specs.Stacks.{plug_reversed, replace_at}
use Rattle.rx_term.proofs.term.Term.replace.Given as goal

abbrev pub invariant-loop-left : goal.invariant-loop-left
invariant-loop-left l =
    plug_reversed l.upper (replace_at l.left l.rest l.inner) ≡ replace_at l.place l.fn.self l.inner

abbrev pub decreases-loop-left : goal.decreases-loop-left
decreases-loop-left l = l.left
