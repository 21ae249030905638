-- What is known of a goal: what comes of each choice where the goal is alone, before ranks are
-- found. No choice looks at other goals or at hypotheses, so it is the same at each state that
-- begins with the goal.
use Rattle.std.specs.Prelude.{◌≡◌, true, false, All, IfSome, Option, Some, None, List, [], map, slice_get}
use Rattle.std.specs.Option.{option_map}
use Rattle.rx_solve.specs.Attempts.{Tried}
use Rattle.rx_rank.specs.declared.kind.RankingKind.{RankingKind}
use Rattle.rx_term.specs.declared.rule.Equation.{Equation}
use Rattle.rx_term.specs.declared.rule_set.RuleParts.{RuleParts}
use Rattle.rx_inference.specs.States.{State}
use Rattle.rx_memo.specs.Kept.{IsKept}
use Rattle.rx_memo.specs.declared.goal_memo.Kept.{Kept}
use Rattle.rx_steps.specs.Alone.{alone}
use Rattle.rx_moves.specs.Answers.{IsTaken}
use Rattle.rx_moves.specs.Moves.{move_of}
use Rattle.rx_moves.specs.Trying.{Next}
use Rattle.rx_find_lemmas.specs.Lemmas.{step_to}
use Rattle.rx_find_lemmas.specs.declared.lemma.Lemma.{Lemma}
use Rattle.rx_search.specs.Calls.{open_goal}
use Rattle.rx_search.specs.Candidates.{number_of}
use Rattle.rx_search.specs.declared.candidates.Candidate.{Candidate}
use Rattle.rx_search.specs.declared.node.Node.{Node}
use Rattle.rx_search.specs.declared.node_choices.KnownChoice.{KnownChoice}
use Rattle.rx_settle.specs.Certified.{asks_rows}
use Rattle.rx_settle.specs.Known.{lifted}
use Rattle.rx_search.specs.Menu.{Attempted, Chosen, attempted, attempted_at, choice, if_ranks}
use Rattle.rx_search.specs.Nodes.{KeepsNone}

-- the same at a state that begins with the goal
abbrev pub attempted_onto : State → Attempted → Attempted
attempted_onto state a = attempted a.number a.keeps (lifted state a.tried)

-- ---- what calls try

-- a choice that can be tried: its step asks rows; and where no ranks are to be found, it keeps
-- nothing
pub record CanBeTried (c : Candidate) : Type 0 where
  pub rows : asks_rows c.step ≡ true
  pub unkept : c.keeps ≡ false → KeepsNone (move_of c.step)

-- ---- what calls know

-- a lemma as a known choice: its step applies where the goal is alone
abbrev pub known_lemma : Lemma → KnownChoice
known_lemma lemma = record {
  number = number_of lemma.kind;
  keeps = false;
  step = Some (step_to lemma);
  noted = false;
  after = alone lemma.goal;
}

-- the move of the step and the state after it, if it applies
abbrev pub next_known : KnownChoice → Option Next
next_known k = option_map (λ step. record { move = move_of step; state = k.after }) k.step

-- what is seen of a known choice
abbrev pub seen_known : KnownChoice → Attempted
seen_known k = attempted k.number k.keeps (record { made = next_known k; noted = k.noted })

-- what comes of it at a state, and the choice that it is there
abbrev pub tried_at : RankingKind → RuleParts → State → KnownChoice → Tried Next
tried_at kind parts state k = if_ranks kind parts k.keeps (lifted state (seen_known k).tried)

abbrev pub chosen_by : RankingKind → RuleParts → State → KnownChoice → Chosen
chosen_by kind parts state k = choice k.number (tried_at kind parts state k)

-- the step leads from the state of the goal alone to the one after it; and where no ranks are to be
-- found, no hypothesis is kept
pub record IsRightChoice (parts : RuleParts) (goal : Equation) (k : KnownChoice) : Type 0 where
  pub taken : IfSome k.step (IsTaken parts (alone goal) k.after)
  pub unkept : k.keeps ≡ false → k.after.hypotheses ≡ []

-- so it is of the first goal of a state
pub record IsRightAt (parts : RuleParts) (state : State) (k : KnownChoice) : Type 0 where
  pub goal : Equation
  pub first : Some goal ≡ slice_get state.goals 0
  pub right : IsRightChoice parts goal k

-- these choices are known of the goal
pub record AreOf (parts : RuleParts) (goal : Equation) (all : List Attempted)
    (known : List KnownChoice) : Type 0 where
  pub seen : map seen_known known ≡ all
  pub right : All (IsRightChoice parts goal) known

-- all choices are
abbrev pub IsRight : RuleParts → Equation → List KnownChoice → Type 0
IsRight parts goal known = AreOf parts goal (attempted_at parts (alone goal) goal) known

-- what a memo has of goals is right
pub record AreRight (parts : RuleParts) (memo : List (Kept (List KnownChoice))) : Type 0 where
  pub all : (goal : Equation) (known : List KnownChoice) → IsKept memo goal known →
      IsRight parts goal known

-- ---- at a node

-- the choices are known of the goal at which the node has choices
pub record IsRightFor (parts : RuleParts) (node : Node) (known : List KnownChoice) : Type 0 where
  pub goal : Equation
  pub first : open_goal node ≡ Some goal
  pub right : IsRight parts goal known

-- or it has none
abbrev pub IsKnownAt : RuleParts → Node → Option (List KnownChoice) → Type 0
IsKnownAt parts node None = open_goal node ≡ None
IsKnownAt parts node (Some known) = IsRightFor parts node known
