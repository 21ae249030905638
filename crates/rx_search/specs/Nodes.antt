-- Which nodes a search comes to, as calls have them, and what comes of choices at one.
use Rattle.std.specs.Prelude.{◌≡◌, Bool, true, false, Some, None, List, map}
use Rattle.std.specs.List.{filter_map}
use Rattle.std.specs.Option.{option_map}
use Rattle.std.specs.Borrow.{GName}
use Rattle.rx_cert.specs.Findings.{Said, Yes, No, Beyond}
use Rattle.rx_solve.specs.Attempts.{Tried}
use Rattle.rx_term.specs.declared.rule.Equation.{Equation}
use Rattle.rx_term.specs.declared.rule_set.RuleParts.{RuleParts}
use Rattle.rx_term.specs.declared.rule.Rule.{Rule}
use Rattle.rx_inference.specs.declared.step.Step.{Step}
use Rattle.rx_proofs.specs.Runs as runs
use Rattle.rx_rank.specs.Ranking.{ranked}
use Rattle.rx_rank.specs.declared.kind.RankingKind.{RankingKind}
use Rattle.rx_settle.specs.Reached.{IsReachedBy}
use Rattle.rx_moves.specs.Moves.{Decompose, Expand, Generalise, Move}
use Rattle.rx_settle.specs.Settling.{most_moves}
use Rattle.rx_moves.specs.Trying.{Next}
use Rattle.rx_search.specs.Menu.{Chosen, is_any_noted}
use Rattle.rx_search.specs.Calls.{node_of}
use Rattle.rx_search.specs.NodeNodes.{node_with}
use Rattle.rx_search.specs.Search.{child}
use Rattle.rx_search.specs.declared.node.Node.{Node}
use Rattle.rx_rank.specs.declared.attempt.Attempt.{Attempt}
use Rattle.rx_search.specs.declared.node_choices.Choices.{Choices}
use Rattle.rx_deepening.specs.Views.{seen_choice}

-- the steps lead from the goal to the state
abbrev pub IsReached : RuleParts → Equation → Node → Type 0
IsReached parts goal node = IsReachedBy parts goal node.steps node.state

module _ (kind : RankingKind) (parts : RuleParts) (goal : Equation) where
  -- so of the node, and there are ranks with the hypotheses that were kept
  pub record IsNode (node : Node) : Type 0 where
    pub reached : IsReached parts goal node
    pub ranked : ranked kind parts node.state.hypotheses ≡ Yes

  -- steps lead from the goal to no goal, and there are ranks with the hypotheses that were kept
  pub record IsProved (steps : List Step) (hypotheses : List Rule) : Type 0 where
    pub reached : IsReachedBy parts goal steps (runs.finished hypotheses)
    pub ranked : ranked kind parts hypotheses ≡ Yes

-- ---- choices

module _ (from : Node) where
  -- the node that a choice leads to, and the note, are those of what was tried
  pub record IsTried (tried : Tried Next) (found : Attempt Node) : Type 0 where
    pub made : option_map node_of found.made ≡
        option_map (node_with most_moves (node_of from)) tried.made
    pub noted : found.noted ≡ tried.noted

  -- the choices that apply, with their nodes, and whether something was noted, are those that were
  -- tried
  pub record AreChoices (cs : List Chosen) (found : Choices) : Type 0 where
    pub choices : map (seen_choice node_of) found.choices ≡ filter_map (child (node_of from)) cs
    pub noted : found.noted ≡ is_any_noted cs

-- an expansion that doesn't keep the goal, Decompose, or Generalise
abbrev pub KeepsNone : Move → Type 0
KeepsNone (Expand side keep) = keep ≡ false
KeepsNone Decompose = Unit {0}
KeepsNone (Generalise next subst) = Unit {0}
KeepsNone _ = ⊥

-- what comes of a choice that leads to the node, by what is found of its hypotheses
abbrev pub if_ranked : Said → Node → Bool → Attempt Node
if_ranked Yes node noted = record { made = Some node; noted = noted }
if_ranked No node noted = record { made = None; noted = noted }
if_ranked Beyond node noted = record { made = None; noted = true }

-- ---- what is searched

-- the rules, how they are ranked, and the goal; and which solver and which finder of lemmas are
-- asked
pub record Problem : Type 0 where
  pub kind : RankingKind
  pub parts : RuleParts
  pub goal : Equation
  pub solver : GName
  pub finder : GName
