-- Which nodes the wider search comes to, and what its calls say of steps that they try.
use Rattle.std.specs.Prelude.{◌≡◌, All, true, false, Option, Some, None, Ok, List, [], ◌∷◌, map}
use Rattle.std.specs.Borrow.{GName}
use Rattle.rx_cert.specs.Findings.{Yes}
use Rattle.rx_term.specs.WellMade.{IsWellMade}
use Rattle.rx_term.specs.declared.rule.Equation.{Equation}
use Rattle.rx_term.specs.declared.rule.Rule.{Rule}
use Rattle.rx_term.specs.declared.rule_set.RuleParts.{RuleParts}
use Rattle.rx_inference.specs.States.{State}
use Rattle.rx_inference.specs.declared.step.Side.{Side}
use Rattle.rx_inference.specs.declared.step.Side.TheVariants.{Left}
use Rattle.rx_inference.specs.declared.step.Step.{Step}
use Rattle.rx_rank.specs.Ranking.{ranked}
use Rattle.rx_rank.specs.declared.kind.RankingKind.{RankingKind}
use Rattle.rx_memo.specs.Kept.{IsKept}
use Rattle.rx_memo.specs.declared.goal_memo.Kept.{Kept}
use Rattle.rx_moves.specs.Moves.{Expand, Move, Postulate, move_of}
use Rattle.rx_pairs.specs.declared.listing.Listing.{Listing}
use Rattle.rx_proofs.specs.Goals.{IsFitting}
use Rattle.rx_settle.specs.Answers.{AreDeep, after_all}
use Rattle.rx_settle.specs.Certified.{asks_rows}
use Rattle.rx_settle.specs.Reached.{IsReachedBy}
use Rattle.rx_wider.specs.Menu.{candidates}
use Rattle.rx_wider.specs.Nodes.{after_moves, is_closed}
use Rattle.rx_wider.specs.Tails.{expanded_alone, goal_under, lemma_settled}
use Rattle.rx_wider.specs.declared.candidates.Candidate.{Candidate}
use Rattle.rx_wider.specs.declared.lemmas.Walked.{Walked}
use Rattle.rx_wider.specs.declared.node.Node.{Node}
use Rattle.rx_wider.specs.declared.opening.Begun.{Begun}

-- ---- nodes

module _ (kind : RankingKind) (parts : RuleParts) (goal : Equation) where
  -- the steps lead from the goal to the state, and there are ranks with the hypotheses that were
  -- kept
  pub record IsRanked (steps : List Step) (state : State) : Type 0 where
    pub reached : IsReachedBy parts goal steps state
    pub ranked : ranked kind parts state.hypotheses ≡ Yes

  abbrev pub IsNode : Node → Type 0
  IsNode node = IsRanked node.steps node.at.state

  -- so of an opening, with that goal alone
  pub record IsBegun (alone : Equation) (begun : Begun) : Type 0 where
    pub goals : begun.state.goals ≡ alone ∷ []
    pub is : IsRanked begun.steps begun.state

  -- a node at which no goal is left
  pub record IsClosedNode (node : Node) : Type 0 where
    pub is : IsNode node
    pub closed : node.at.state.goals ≡ []

-- a search may start from the goal: the rules are well made, it fits them, and they have ranks
pub record StartsAt (kind : RankingKind) (parts : RuleParts) (goal : Equation) : Type 0 where
  pub made : IsWellMade parts
  pub fits : IsFitting parts goal
  pub ranked : ranked kind parts [] ≡ Yes

-- ---- steps that are tried

-- each asks rows, and not that rows are refuted
abbrev pub AskRows : List Step → Type 0
AskRows steps = All (λ step. asks_rows step ≡ true) steps

-- the steps have these moves and lead to the new state; no certificate is deep
pub record AreTaken (parts : RuleParts) (old new : State) (tried : List Move)
    (steps : List Step) : Type 0 where
  pub moves : map move_of steps ≡ tried
  pub leads : after_moves parts old tried ≡ Some new
  pub applies : after_all parts old steps ≡ Ok new
  pub deep : AreDeep steps

-- all of the moves apply, by these steps; or one of them doesn't
abbrev pub TakesAll : RuleParts → State → State → List Move → Option (List Step) → Type 0
TakesAll parts old new moves None = after_moves parts old moves ≡ None
TakesAll parts old new moves (Some steps) = AreTaken parts old new moves steps

-- ---- lemmas

module _ (parts : RuleParts) where
  -- the lemma is posed before the goal of the state by a step; or it can't be
  abbrev pub Poses : State → Equation → Option (List Step) → Type 0
  Poses old lemma taken =
      (new : State) × TakesAll parts old new (Postulate lemma ∷ []) taken

  -- steps from a goal lead to the lemma before other goals, under these hypotheses
  pub record IsPosed (hypotheses : List Rule) (lemma : Equation) : Type 0 where
    pub from : Equation
    pub steps : List Step
    pub others : List Equation
    pub reached :
        IsReachedBy parts from steps
        (record { goals = lemma ∷ others; hypotheses = hypotheses })

  -- the goals of the lemma are settled by these steps, and none is left; or some is
  abbrev pub IsSettledLemma : State → Option Walked → Type 0
  IsSettledLemma old None = is_closed (lemma_settled parts old).after.state.goals ≡ false
  IsSettledLemma old (Some walked) =
      (map move_of walked.steps ≡ (lemma_settled parts old).moves)
      × (walked.state ≡ (lemma_settled parts old).after.state)
      × (walked.state.goals ≡ [])
      × (walked.state.hypotheses ≡ old.hypotheses)
      × (after_all parts old walked.steps ≡ Ok walked.state)
      × AreDeep walked.steps

-- the lemma alone is expanded and kept by these steps, and there are ranks with it; or it isn't
abbrev pub Expands : RankingKind → RuleParts → List Rule → Equation → Option Walked → Type 0
Expands kind parts hypotheses lemma None = expanded_alone kind parts hypotheses lemma ≡ None
Expands kind parts hypotheses lemma (Some walked) =
    AreTaken parts (goal_under hypotheses lemma) walked.state (Expand Left true ∷ []) walked.steps
    × (ranked kind parts walked.state.hypotheses ≡ Yes)

-- ---- choices

-- a choice that can be tried; and where no ranks are to be found, it keeps nothing
pub record CanBeTried (parts : RuleParts) (c : Candidate) : Type 0 where
  pub rows : AskRows c.steps
  pub unkept : c.keeps ≡ false → (old new : State) →
      after_moves parts old (map move_of c.steps) ≡ Some new → new.hypotheses ≡ old.hypotheses

-- what a memo has of goals are all their choices
pub record AreChoices (parts : RuleParts)
    (descend : List Side → Equation → Option (List Equation))
    (memo : List (Kept (List Candidate))) : Type 0 where
  pub all : (goal : Equation) (known : List Candidate) → IsKept memo goal known →
      known ≡ candidates parts descend goal

-- ---- what is searched

-- the rules, how they are ranked, their pairs, the lemmas before all, and which solver is asked
pub record Explored : Type 0 where
  pub kind : RankingKind
  pub parts : RuleParts
  pub pairs : Listing
  pub tails : List Rule
  pub solver : GName

-- with the goal
pub record Problem : Type 0 where
  pub goal : Equation
  pub explored : Explored
