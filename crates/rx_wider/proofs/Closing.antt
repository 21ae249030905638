-- The node that a search gives: it is closed, and its moves are those of the definition.
use Rattle.std.proofs.Common.{◌≡◌, ◌∙◌, ℕ, suc, true, Option, List, [], ◌∷◌, map, length, refl, sym, ap, subst, arith}
use Rattle.std.specs.Prelude.{IfSome, min, option_map}
use Rattle.std.proofs.lemmas.Bool.{eqb-true}
use Rattle.rx_deepening.proofs.ClosedLaws.{closed_told}
use Rattle.rx_deepening.specs.Outcomes.{outcome}
use Rattle.rx_deepening.specs.Views.{IfClosed, seen_outcome}
use Rattle.rx_deepening.specs.Visits.{all_visits}
use Rattle.rx_deepening.specs.declared.outcome.Outcome.{Outcome}
use Rattle.rx_deepening.specs.declared.outcome.Outcome.TheVariants as outcomes
use Rattle.rx_term.specs.declared.rule.Equation.{Equation}
use Rattle.rx_term.specs.declared.rule.Rule.{Rule}
use Rattle.rx_term.specs.declared.rule_set.RuleParts.{RuleParts}
use Rattle.rx_moves.specs.Moves.{move_of}
use Rattle.rx_rank.specs.declared.kind.RankingKind.{RankingKind}
use Rattle.rx_settle.specs.Settling.{most_moves}
use Rattle.rx_wider.specs.Calls.{closed_of, moves_of, node_of, opening_of}
use Rattle.rx_wider.specs.Nodes as nodes
use Rattle.rx_wider.specs.Nodes.{is_closed}
use Rattle.rx_wider.specs.Reached.{IsBegun, IsClosedNode, IsNode}
use Rattle.rx_wider.specs.Wider as spec
use Rattle.rx_wider.specs.Wider.{closed_moves, menu, settled}
use Rattle.rx_wider.specs.declared.node.Node.{Node}
use Rattle.rx_wider.specs.declared.opening.Begun.{Begun}

-- no goal is left where they are none
no_goals : (goals : List Equation) → is_closed goals ≡ true → goals ≡ []
no_goals [] e = refl
no_goals (goal ∷ goals) e =
    absurd (let h = eqb-true (suc (length goals)) 0 e in omega (arith, h))

abbrev Found : Type 0
Found = Outcome Node (Unit {0})

-- the moves of the closed node of an outcome
pub moves_seen : (o : Found) → option_map moves_of (closed_of o) ≡
    closed_moves (seen_outcome node_of o)
moves_seen (outcomes.Closed node) = refl
moves_seen (outcomes.Noted note) = refl
moves_seen outcomes.Spent = refl
moves_seen outcomes.Through = refl

module _ (kind : RankingKind) (parts : RuleParts) (tails : List Rule) (goal : Equation)
    (depth budget : ℕ)
    (first : nodes.Node) where
  abbrev come : Outcome nodes.Node (Unit {0})
  come = outcome budget (all_visits (settled parts) (menu kind parts tails) depth first)

  pub node_closed : (o : Found) → seen_outcome node_of o ≡ come → IfClosed
      (IsNode kind parts goal) o →
      IfSome (closed_of o) (IsClosedNode kind parts goal)
  node_closed (outcomes.Closed node) seen is = record {
    is = is;
    closed =
        no_goals node.at.state.goals
        (closed_told (λ (n : nodes.Node). is_closed n.at.state.goals) (settled parts)
        (menu kind parts tails) (λ n. refl) depth budget first (node_of node) (sym seen));
  }
  node_closed (outcomes.Noted note) seen is = tt
  node_closed outcomes.Spent seen is = tt
  node_closed outcomes.Through seen is = tt

-- ---- behind an opening

module _ (kind : RankingKind) (parts : RuleParts) (from goal : Equation) (begun : Begun)
    (is : IsBegun kind parts from goal begun) (start : Node)
    (same : start ≡ record {
      steps = begun.steps;
      at = record { state = begun.state; tasks = [] ∷ [] };
      left = most_moves;
    }) where
  pub start_is_node : IsNode kind parts from start
  start_is_node = subst (IsNode kind parts from) (sym same) is.is

  start_seen : node_of start ≡ spec.start (opening_of begun) goal
  start_seen =
      ap node_of same
      ∙ (λ i. record {
        moves = map move_of begun.steps;
        at = record {
          state = record { goals = is.goals i; hypotheses = begun.state.hypotheses };
          tasks = [] ∷ [];
        };
        left = most_moves;
      })

  module _ (depth budget : ℕ) (tails : List Rule) (kept : tails ≡ begun.state.hypotheses)
      (o : Found) (seen : seen_outcome node_of o ≡ outcome (min budget spec.most_visits)
      (all_visits (settled parts) (menu kind parts tails) depth (node_of start))) where
    pub found_there : (found : Option Node) → found ≡ closed_of o →
        option_map moves_of found ≡
        spec.found_behind kind parts depth budget (opening_of begun) goal
    found_there found e =
        ap (option_map moves_of) e ∙ moves_seen o
        ∙ ap closed_moves (seen ∙ (λ i. outcome (min budget spec.most_visits)
        (all_visits (settled parts) (menu kind parts (kept i)) depth (start_seen i))))

    pub closed_there : (found : Option Node) → found ≡ closed_of o →
        IfClosed (IsNode kind parts from) o → IfSome found (IsClosedNode kind parts from)
    closed_there found e nodes =
        subst (λ (x : Option Node). IfSome x (IsClosedNode kind parts from)) (sym e)
        (node_closed kind parts tails from depth (min budget spec.most_visits)
        (node_of start) o seen
        nodes)
