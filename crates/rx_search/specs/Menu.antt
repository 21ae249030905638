-- The choices at a settled goal: the four expansions, Decompose, and lemmas. Each that applies
-- leads to another node; one that keeps the goal as a hypothesis only where ranks are found with
-- it.
use Rattle.std.specs.Prelude.{if◌then◌else◌, ℕ, Bool, false, Option, Some, None, List, [], ◌∷◌, ◌++◌, map}
use Rattle.std.specs.List.{list_any}
use Rattle.rx_solve.specs.Attempts.{Tried, beyond, where_shown}
use Rattle.rx_term.specs.declared.rule.Equation.{Equation}
use Rattle.rx_term.specs.declared.rule_set.RuleParts.{RuleParts}
use Rattle.rx_inference.specs.States.{State}
use Rattle.rx_lemma.specs.Lemmas.{Generalisation}
use Rattle.rx_find_lemmas.specs.Finding.{lemmas_at}
use Rattle.rx_rank.specs.Ranking.{ranked}
use Rattle.rx_rank.specs.declared.kind.RankingKind.{RankingKind}
use Rattle.rx_moves.specs.Moves.{move_of}
use Rattle.rx_moves.specs.Trying.{Next, attempt, then_try}
use Rattle.rx_search.specs.Candidates.{expansions, lemma_candidate}
use Rattle.rx_search.specs.declared.candidates.Candidate.{Candidate}

-- ---- choices before ranks are found

-- a choice by its number, whether ranks are to be found with what it keeps, and what comes of its
-- step
pub record Attempted : Type 0 where
  pub number : ℕ
  pub keeps : Bool
  pub tried : Tried Next

abbrev pub attempted : ℕ → Bool → Tried Next → Attempted
attempted number keeps tried = record { number = number; keeps = keeps; tried = tried }

module _ (parts : RuleParts) (state : State) where
  -- what comes of a choice
  abbrev pub attempted_by : Candidate → Attempted
  attempted_by c = attempted c.number c.keeps (attempt parts state (move_of c.step))

  -- of lemmas; where they pass the limits none applies, and that is noted once
  abbrev pub attempted_lemmas : Option (List Generalisation) → List Attempted
  attempted_lemmas None = attempted 6 false beyond ∷ []
  attempted_lemmas (Some ls) = map attempted_by (map lemma_candidate ls)

  -- what comes of all, in order
  abbrev pub attempted_all : Option (List Generalisation) → List Attempted
  attempted_all lemmas = map attempted_by expansions ++ attempted_lemmas lemmas

  abbrev pub attempted_at : Equation → List Attempted
  attempted_at goal = attempted_all (lemmas_at parts goal)

-- ---- choices

-- a choice by its number, and what comes of trying it
pub record Chosen : Type 0 where
  pub number : ℕ
  pub tried : Tried Next

abbrev pub choice : ℕ → Tried Next → Chosen
choice number tried = record { number = number; tried = tried }

-- what comes of it once ranks are found with what it keeps
abbrev pub if_ranks : RankingKind → RuleParts → Bool → Tried Next → Tried Next
if_ranks kind parts keeps tried =
    if keeps
    then then_try tried
    (λ (next : Next). where_shown (ranked kind parts next.state.hypotheses) next)
    else tried

-- the choice that it is then
abbrev pub chosen_of : RankingKind → RuleParts → Attempted → Chosen
chosen_of kind parts a = choice a.number (if_ranks kind parts a.keeps a.tried)

module _ (kind : RankingKind) (parts : RuleParts) (state : State) where
  -- all choices in order
  abbrev pub chosen_at : Equation → List Chosen
  chosen_at goal = map (chosen_of kind parts) (attempted_at parts state goal)

  -- where no goal is left there are none
  abbrev pub chosen_first : List Equation → List Chosen
  chosen_first [] = []
  chosen_first (goal ∷ goals) = chosen_at goal

  abbrev pub chosen : List Chosen
  chosen = chosen_first state.goals

-- something passes the limits on the way to the choices
abbrev pub is_any_noted : List Chosen → Bool
is_any_noted cs = list_any (λ (c : Chosen). c.tried.noted) cs
