-- A node once it is settled.
use Rattle.std.proofs.Common.{◌≡◌, Bool, Ok, List, ◌++◌, map, sym, ap, subst, ◌∙◌}
use Rattle.std.proofs.lemmas.List.{map-append}
use Rattle.std.proofs.lemmas.List.Elements.{All-append}
use Rattle.rx_term.specs.declared.rule.Equation.{Equation}
use Rattle.rx_term.specs.declared.rule_set.RuleParts.{RuleParts}
use Rattle.rx_inference.specs.States.{State}
use Rattle.rx_inference.specs.declared.step.Step.{Step}
use Rattle.rx_proofs.specs.Runs as runs
use Rattle.rx_rank.specs.Ranking.{ranked}
use Rattle.rx_rank.specs.declared.kind.RankingKind.{RankingKind}
use Rattle.rx_settle.specs.Answers.{AreDeep, IsSettled, after_all}
use Rattle.rx_moves.specs.Moves.{move_of}
use Rattle.rx_settle.specs.Settling.{most_moves, settle}
use Rattle.rx_settle.specs.declared.settled.Settled.{Settled as Found}
use Rattle.rx_search.specs.Calls.{node_of}
use Rattle.rx_search.specs.Nodes.{IsNode}
use Rattle.rx_search.specs.NodeNodes.{is_closed}
use Rattle.rx_search.specs.Search.{settled}
use Rattle.rx_search.specs.declared.node.Node.{Node}
use Rattle.rx_settle.proofs.ReachedLaws.{IsDeep, after_append}
use Rattle.rx_deepening.specs.Views.{seen_settled}

module _ (parts : RuleParts) (node : Node) (new : State) (found : Found)
    (is : IsSettled parts node.state new (settle parts most_moves node.state) found) where
  -- the node that was found
  abbrev pub after : List Step → Node
  after steps = record { steps = steps; state = new; left = found.left }

  -- it is seen as the definition says
  pub settled_seen : (steps : List Step) (closed : Bool) → steps ≡ node.steps ++ found.steps →
      closed ≡ is_closed new.goals
      → seen_settled node_of (record { node = after steps; closed = closed; note = found.note }) ≡
      settled parts (node_of node)
  settled_seen steps closed same none =
      let s = settle parts most_moves node.state in
      let moves : map move_of steps ≡ map move_of node.steps ++ s.moves =
      ap (map move_of) same ∙ map-append move_of node.steps found.steps ∙
      ap (λ ms. map move_of node.steps ++ ms) is.moves in
      let goals : closed ≡ is_closed s.state.goals = none ∙
      ap (λ (state : State). is_closed state.goals) is.state in
      λ i. record {
        node = record { moves = moves i; state = is.state i; left = is.left i };
        closed = goals i;
        note = is.note i;
      }

  -- and it is a node of the search
  pub settled_node : (kind : RankingKind) (goal : Equation)
      (steps : List Step) → steps ≡ node.steps ++ found.steps →
      new.hypotheses ≡ node.state.hypotheses
      → IsNode kind parts goal node → IsNode kind parts goal (after steps)
  settled_node kind goal steps same hypotheses old = record {
    reached = record {
      made = old.reached.made;
      fits = old.reached.fits;
      applies =
          subst (λ (xs : List Step). after_all parts (runs.start goal) xs ≡ Ok new) (sym same)
          (after_append parts (runs.start goal) node.state new node.steps found.steps
          old.reached.applies is.applies);
      deep =
          subst AreDeep (sym same) (All-append IsDeep node.steps found.steps old.reached.deep
          is.deep);
    };
    ranked = ap (ranked kind parts) hypotheses ∙ old.ranked;
  }
