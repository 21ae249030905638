-- The choices at the first goal of a settled node: to keep an equation of which the goal is an
-- instance, for four plans of which sides are unfolded then; and to unfold either side.
use Rattle.std.specs.Prelude.{ℕ, ◌++◌, Bool, true, false, if◌then◌else◌, is_some, Option, Some, None, List, [], ◌∷◌, map, option_and_then, option_map, option_to_list}
use Rattle.std.specs.List.{list_all}
use Rattle.rx_poly.specs.Substitution.{numbered}
use Rattle.rx_term.specs.Meaning.{redex_of}
use Rattle.rx_term.specs.declared.rule.Equation.{Equation}
use Rattle.rx_term.specs.declared.rule_set.RuleParts.{RuleParts}
use Rattle.rx_inference.specs.Pieces.{side_of}
use Rattle.rx_inference.specs.declared.step.Side.{Side}
use Rattle.rx_inference.specs.declared.step.Side.TheVariants.{Left, Right}
use Rattle.rx_inference.specs.declared.step.Step.TheVariants as steps
use Rattle.rx_moves.specs.Moves.{move_of}
use Rattle.rx_rank.specs.declared.kind.RankingKind.{RankingKind}
use Rattle.rx_shapes.specs.Kept.{kept}
use Rattle.rx_shapes.specs.Places.{places_of}
use Rattle.rx_shapes.specs.Remainders.{remainders_of}
use Rattle.rx_wider.specs.Nodes.{Node, after_moves, if_fit, node_with}
use Rattle.rx_wider.specs.declared.candidates.Candidate.{Candidate}
use Rattle.rx_wider.specs.declared.candidates.Plan.{Plan}

-- ---- before they are tried

-- the sides that are unfolded by a plan after the first one
abbrev pub rest_of : Plan → List Side
rest_of p = option_to_list p.second

-- each of the sides has a redex
abbrev pub have_redexes : Equation → List Side → Bool
have_redexes goal sides = list_all (λ side. is_some (redex_of (side_of side goal))) sides

-- the goal becomes the equation, of which it is the instance at its places, those of remainders
-- last; then its side is expanded and the equation kept
abbrev pub keeping : Equation → Plan → Equation → Candidate
keeping goal p equation = record {
  number = p.number;
  keeps = true;
  steps =
      steps.Generalise equation.left equation.right equation.rows
      (numbered (places_of goal ++ remainders_of goal)) []
      ∷ steps.Expand p.first true
      ∷ [];
  task = rest_of p;
}

-- the side is expanded; nothing is unfolded after it
abbrev pub unfolding_only : ℕ → Side → Candidate
unfolding_only number side = record {
  number = number;
  keeps = false;
  steps = steps.Expand side false ∷ [];
  task = [];
}

-- `descend` says what comes of a goal whose sides are unfolded
module _ (parts : RuleParts) (descend : List Side → Equation → Option (List Equation))
    (goal : Equation) where
  -- the equation that is kept, where the sides of the plan have redexes
  abbrev pub kept_equation : List Side → Option Equation
  kept_equation sides =
      if have_redexes goal sides then kept parts descend sides goal else None

  -- the choice by a plan, where there is one
  abbrev pub kept_by : Plan → List Candidate
  kept_by p = option_to_list (option_map (keeping goal p) (kept_equation (p.first ∷ rest_of p)))

  -- the left side and then the right one, the other way round, and one of them alone; and then to
  -- unfold a side without keeping
  abbrev pub candidates : List Candidate
  candidates =
      kept_by (record { number = 1; first = Left; second = Some Right })
      ++ kept_by (record { number = 2; first = Right; second = Some Left })
      ++ kept_by (record { number = 3; first = Left; second = None })
      ++ kept_by (record { number = 4; first = Right; second = None })
      ++ unfolding_only 5 Left ∷ []
      ++ unfolding_only 6 Right ∷ []

-- ---- where they lead

module _ (kind : RankingKind) (parts : RuleParts) (node : Node) where
  -- the node that the choice leads to, where it applies
  abbrev pub led : Candidate → Option Node
  led c =
      option_map (node_with node (map move_of c.steps) c.task)
      (option_and_then (if_fit kind parts c.keeps)
      (after_moves parts node.at.state (map move_of c.steps)))
