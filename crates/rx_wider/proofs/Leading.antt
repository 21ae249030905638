-- Where a choice leads.
use Rattle.std.proofs.Common.{◌≡◌, ◌∙◌, ap, sym, subst, refl, Bool, true, false, Option, Some, None, List, ◌++◌, map, length, All}
use Rattle.std.specs.Prelude.{if◌then◌else◌, option_and_then, option_map}
use Rattle.std.proofs.lemmas.List.{map-append}
use Rattle.rx_cert.specs.Findings.{Said, Yes, No, Beyond}
use Rattle.rx_pairs.specs.Pairs.{HasRoot, SidesFit}
use Rattle.rx_rank.specs.Ranking.{ranked}
use Rattle.rx_rank.specs.declared.kind.RankingKind.{RankingKind}
use Rattle.rx_shapes.specs.Shown.{is_yes}
use Rattle.rx_term.specs.declared.rule.Equation.{Equation}
use Rattle.rx_term.specs.declared.rule_set.RuleParts.{RuleParts}
use Rattle.rx_inference.specs.States.{State}
use Rattle.rx_inference.specs.declared.step.Step.{Step}
use Rattle.rx_moves.specs.Moves.{Move, move_of}
use Rattle.rx_settle.specs.Settling.{most_moves}
use Rattle.rx_settle.specs.Reached.{IsReachedBy}
use Rattle.rx_settle.specs.Tasks.{tasks_after}
use Rattle.rx_settle.proofs.ReachedLaws.{reached_fits, reached_more, reached_rooted}
use Rattle.rx_wider.specs.Calls.{node_of, with_steps}
use Rattle.rx_wider.specs.Menu.{led}
use Rattle.rx_wider.specs.Nodes.{after_moves, has_ranks, if_fit, is_fit, node_with}
use Rattle.rx_wider.specs.Nodes as nodes
use Rattle.rx_wider.specs.Reached.{AreTaken, CanBeTried, IsNode}
use Rattle.rx_wider.specs.declared.candidates.Candidate.{Candidate}
use Rattle.rx_wider.specs.declared.node.Node.{Node}

yes_is : (said : Said) → is_yes said ≡ true → said ≡ Yes
yes_is Yes e = refl
yes_is No e = absurd cc
yes_is Beyond e = absurd cc

-- ranks that are found
pub ranks_are : (kind : RankingKind) (parts : RuleParts)
    (state : State) → has_ranks kind parts state.hypotheses ≡ true →
    ranked kind parts state.hypotheses ≡ Yes
ranks_are kind parts state e = yes_is (ranked kind parts state.hypotheses) e

module _ (kind : RankingKind) (parts : RuleParts) (node : Node) (c : Candidate) where
  abbrev moves : List Move
  moves = map move_of c.steps

  abbrev led_by : Option State → Option nodes.Node
  led_by o =
      option_map (node_with (node_of node) moves c.task) (option_and_then
      (if_fit kind parts c.keeps) o)

  abbrev if_so : Bool → State → Option nodes.Node
  if_so b state = option_map (node_with (node_of node) moves c.task)
      (if b then Some state else None)

  -- a move doesn't apply
  pub led_nowhere : after_moves parts node.at.state moves ≡ None → None ≡ led kind parts
      (node_of node) c
  led_nowhere e = sym (ap led_by e)

  module _ (new : State) (steps : List Step)
      (taken : AreTaken parts node.at.state new moves steps) where
    -- ranks aren't found
    pub led_unfit : is_fit kind parts c.keeps new.hypotheses ≡ false →
        None ≡ led kind parts (node_of node) c
    led_unfit e = sym (ap led_by taken.leads ∙ ap (λ b. if_so b new) e)

    seen_after : node_of (with_steps node steps c.task new) ≡
        node_with (node_of node) moves c.task new
    seen_after = λ i. record {
      moves =
          (map-append move_of node.steps steps ∙
          ap (λ ms. map move_of node.steps ++ ms) taken.moves) i;
      at = record {
        state = new;
        tasks =
            tasks_after c.task node.at.tasks (length node.at.state.goals) (length new.goals);
      };
      left = most_moves;
    }

    pub led_there : (found : Node) → found ≡ with_steps node steps c.task new →
        is_fit kind parts c.keeps new.hypotheses ≡ true →
        Some (node_of found) ≡ led kind parts (node_of node) c
    led_there found is e =
        ap Some (ap node_of is ∙ seen_after)
        ∙ sym (ap led_by taken.leads ∙ ap (λ b. if_so b new) e)

    -- what is reached there
    reached_there : (goal : Equation) → IsNode kind parts goal node →
        IsReachedBy parts goal (node.steps ++ steps) new
    reached_there goal is =
        reached_more parts goal node.steps node.at.state is.reached steps new taken.applies
        taken.deep

    pub rooted_there : (goal : Equation) → IsNode kind parts goal node → All HasRoot new.hypotheses
    rooted_there goal is =
        reached_rooted parts goal (node.steps ++ steps) new (reached_there goal is)

    pub fits_there : (goal : Equation) → IsNode kind parts goal node →
        All (SidesFit parts) new.hypotheses
    fits_there goal is =
        reached_fits parts goal (node.steps ++ steps) new (reached_there goal is)

    ranked_by : (goal : Equation) → IsNode kind parts goal node → CanBeTried parts c → (b : Bool) →
        c.keeps ≡ b → (if b then has_ranks kind parts new.hypotheses else true) ≡ true →
        ranked kind parts new.hypotheses ≡ Yes
    ranked_by goal is can true keeps e = ranks_are kind parts new e
    ranked_by goal is can false keeps e =
        ap (ranked kind parts) (can.unkept keeps node.at.state new taken.leads) ∙ is.ranked

    pub node_there : (goal : Equation) → IsNode kind parts goal node → CanBeTried parts c →
        (found : Node) → found ≡ with_steps node steps c.task new →
        is_fit kind parts c.keeps new.hypotheses ≡ true → IsNode kind parts goal found
    node_there goal is can found same e =
        subst (IsNode kind parts goal) (sym same) (record {
          reached = reached_there goal is;
          ranked = ranked_by goal is can c.keeps refl e;
        })
