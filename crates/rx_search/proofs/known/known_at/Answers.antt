-- The goal at which the node has choices is the one that they are known of.
use Rattle.std.proofs.Common.{◌∙◌, sym}
use Rattle.rx_search.proofs.known.known_at.Goals as goal

pub returns-clause-found : goal.returns-clause-found
returns-clause-found g c = record {
  goal = c.in-Some.goal;
  first = sym c.in_ok-goal.ensures ∙ c.in-Some.is;
  right = c.in_ok-known.ensures.right;
}
