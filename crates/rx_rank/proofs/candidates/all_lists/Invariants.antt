-- The lists so far, and those of the anchors that are left.
use Rattle.std.proofs.Common.{◌≡◌, ◌++◌, ◌||◌, drop, map}
use Rattle.rx_anchors.specs.Choices.{lists_in}
use Rattle.rx_anchors.specs.Members.{arity_of}
use Rattle.rx_rank.specs.Candidates.{are_noted, candidates_at}
use Rattle.rx_rank.proofs.candidates.all_lists.Given as goal

abbrev pub invariant-loop-symbol : goal.invariant-loop-symbol
invariant-loop-symbol l = record {
  lists :
      lists_in l.lists.items ++ map (candidates_at l.component.kind l.component.parts.now
      l.component.hypotheses.now l.component.names.now l.component.name)
      (drop l.symbol-index l.anchors)
      ≡ map (candidates_at l.component.kind l.component.parts.now l.component.hypotheses.now
      l.component.names.now l.component.name) l.anchors;
  noted :
      (l.noted || are_noted l.component.names.now l.component.name
      (l.component.parts.now.rules ++ l.component.hypotheses.now)
      (map (arity_of l.component.parts.now.symbols) (drop l.symbol-index l.anchors)))
      ≡ are_noted l.component.names.now l.component.name
      (l.component.parts.now.rules ++ l.component.hypotheses.now)
      (map (arity_of l.component.parts.now.symbols) l.anchors);
}
