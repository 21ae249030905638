-- What is known of the first goal of a state, at that state: other goals and hypotheses change
-- nothing of it.
use Rattle.std.proofs.Common.{◌≡◌, ℕ, Bool, true, false, Option, Some, None, Result, List, [], ◌∷◌, ◌++◌, map, refl, sym, ap, subst, ◌∙◌, All}
use Rattle.std.specs.Prelude.{IfOk, IfSome, slice_get}
use Rattle.std.specs.Option.{option_map}
use Rattle.rx_plain.specs.declared.no_memory.NoMemory.{NoMemory}
use Rattle.std.proofs.lemmas.List.{append-nil}
use Rattle.std.proofs.lemmas.List.Elements.{All-weaker}
use Rattle.rx_solve.specs.Attempts.{Tried, beyond}
use Rattle.rx_term.specs.declared.rule.Equation.{Equation}
use Rattle.rx_term.specs.declared.rule.Rule.{Rule}
use Rattle.rx_term.specs.declared.rule_set.RuleParts.{RuleParts}
use Rattle.rx_inference.specs.Kinds.{formed}
use Rattle.rx_inference.specs.States.{State}
use Rattle.rx_inference.specs.declared.step.Side.TheVariants.{Left, Right}
use Rattle.rx_inference.specs.declared.step.Step.{Step}
use Rattle.rx_lemma.specs.Lemmas.{Generalisation}
use Rattle.rx_find_lemmas.specs.Finding.{lemmas_at}
use Rattle.rx_rank.specs.Ranking.{ranked}
use Rattle.rx_rank.specs.declared.kind.RankingKind.{RankingKind}
use Rattle.rx_steps.specs.Alone.{alone, onto}
use Rattle.rx_moves.specs.Answers.{IsTaken}
use Rattle.rx_settle.specs.Known.{lifted}
use Rattle.rx_moves.specs.Moves.{Decompose, Expand, Generalise, Move, move_of, step_of}
use Rattle.rx_moves.specs.Trying.{Next, attempt}
use Rattle.rx_search.specs.Known.{IsRight, IsRightAt, IsRightChoice, attempted_onto, chosen_by, seen_known, tried_at}
use Rattle.rx_search.specs.Candidates.{lemma_candidate, number_of}
use Rattle.rx_search.specs.Menu.{Attempted, attempted, attempted_all, attempted_at, attempted_by, chosen_at, chosen_of, if_ranks}
use Rattle.rx_search.specs.Calls.{led}
use Rattle.rx_search.specs.Nodes.{IsNode, IsReached, IsTried, if_ranked}
use Rattle.rx_rank.specs.declared.attempt.Attempt.{Attempt}
use Rattle.rx_search.specs.declared.node_choices.KnownChoice.{KnownChoice}
use Rattle.rx_search.specs.declared.node.Node.{Node}
use Rattle.rx_settle.proofs.KnownLaws.{applied_lifted, attempt_lifted}
use Rattle.rx_search.proofs.Trying.{keeping_none, keeping_ranked_call, led_by, reached_by}
use Rattle.rx_settle.specs.Settling.{most_moves}

-- ---- all choices

module _ (kind : RankingKind) (parts : RuleParts) (state : State) where
  each_seen : (ks : List KnownChoice) → map (chosen_by kind parts state) ks ≡
      map (chosen_of kind parts) (map (attempted_onto state) (map seen_known ks))
  each_seen [] = refl
  each_seen (k ∷ ks) = ap (λ cs. chosen_by kind parts state k ∷ cs) (each_seen ks)

-- and what is attempted is that of the goal alone
module _ (parts : RuleParts) (goal : Equation) (goals : List Equation)
    (hypotheses : List Rule) where
  abbrev here : State
  here = record { goals = goal ∷ goals; hypotheses = hypotheses }

  one_onto : (number : ℕ) (keeps : Bool) (move : Move) → formed parts (Some goal) hypotheses
      (step_of move) ≡ formed parts (Some goal) [] (step_of move)
      → attempted number keeps (attempt parts here move) ≡
      attempted_onto here (attempted number keeps (attempt parts (alone goal) move))
  one_onto number keeps move same =
      ap (attempted number keeps) (attempt_lifted parts goal goals hypotheses move same)

  each_onto : (ls : List Generalisation) →
      map (attempted_by parts here) (map lemma_candidate ls) ≡
      map (attempted_onto here) (map (attempted_by parts (alone goal)) (map lemma_candidate ls))
  each_onto [] = refl
  each_onto (l ∷ ls) = λ i.
      one_onto (number_of l.kind) false (Generalise l.goal l.subst) refl i ∷ each_onto ls i

  -- the expansions and Decompose, before others
  steps_onto : (others more : List Attempted) → others ≡ map (attempted_onto here) more →
      attempted 1 true (attempt parts here (Expand Left true))
      ∷ attempted 2 true (attempt parts here (Expand Right true))
      ∷ attempted 3 false (attempt parts here (Expand Left false))
      ∷ attempted 4 false (attempt parts here (Expand Right false))
      ∷ attempted 5 false (attempt parts here Decompose)
      ∷ others ≡
      map (attempted_onto here)
      (attempted 1 true (attempt parts (alone goal) (Expand Left true))
      ∷ attempted 2 true (attempt parts (alone goal) (Expand Right true))
      ∷ attempted 3 false (attempt parts (alone goal) (Expand Left false))
      ∷ attempted 4 false (attempt parts (alone goal) (Expand Right false))
      ∷ attempted 5 false (attempt parts (alone goal) Decompose)
      ∷ more)
  steps_onto others more same = λ i.
      one_onto 1 true (Expand Left true) refl i
      ∷ one_onto 2 true (Expand Right true) refl i
      ∷ one_onto 3 false (Expand Left false) refl i
      ∷ one_onto 4 false (Expand Right false) refl i
      ∷ one_onto 5 false Decompose refl i
      ∷ same i

  all_onto_by : (made : Option (List Generalisation)) → attempted_all parts here made ≡
      map (attempted_onto here) (attempted_all parts (alone goal) made)
  all_onto_by None =
      steps_onto (attempted 6 false beyond ∷ []) (attempted 6 false beyond ∷ []) refl
  all_onto_by (Some ls) =
      steps_onto (map (attempted_by parts here) (map lemma_candidate ls))
      (map (attempted_by parts (alone goal)) (map lemma_candidate ls)) (each_onto ls)

  all_onto : attempted_at parts here goal ≡
      map (attempted_onto here) (attempted_at parts (alone goal) goal)
  all_onto = all_onto_by (lemmas_at parts goal)

  known_here : (kind : RankingKind) (ks : List KnownChoice) → map seen_known ks ≡
      attempted_at parts (alone goal) goal
      → map (chosen_by kind parts here) ks ≡ chosen_at kind parts here goal
  known_here kind ks seen =
      each_seen kind parts here ks
      ∙ ap (λ all. map (chosen_of kind parts) (map (attempted_onto here) all)) seen
      ∙ sym (ap (map (chosen_of kind parts)) all_onto)

-- ---- what is known of the first goal

module _ (kind : RankingKind) (parts : RuleParts) (state : State) (first : Equation)
    (known : List KnownChoice)
    (begins : Some first ≡ slice_get state.goals 0) (is : IsRight parts first known) where
  abbrev with_goals : List Equation → State
  with_goals gs = record { goals = gs; hypotheses = state.hypotheses }

  -- it is right there
  pub right_at : All (IsRightAt parts state) known
  right_at =
      All-weaker (IsRightChoice parts first) (IsRightAt parts state)
      (λ k right. record { goal = first; first = begins; right = right }) known is.right

  chosen_by_goals : (gs : List Equation) → Some first ≡ slice_get gs 0 →
      map (chosen_by kind parts (with_goals gs)) known ≡ chosen_at kind parts (with_goals gs) first
  chosen_by_goals [] e = cc
  chosen_by_goals (g ∷ gs) e =
      let same : first ≡ g = cc in
      subst (λ x. map (chosen_by kind parts (with_goals (x ∷ gs))) known ≡
      chosen_at kind parts (with_goals (x ∷ gs)) first) same
      (known_here parts first gs state.hypotheses kind known is.seen)

  -- and gives the choices
  pub chosen_known : map (chosen_by kind parts state) known ≡ chosen_at kind parts state first
  chosen_known = chosen_by_goals state.goals begins

-- ---- one choice at a node

module _ (kind : RankingKind) (parts : RuleParts) (from : Node) (k : KnownChoice)
    (is : IsRightAt parts from.state k) where
  abbrev state_with : List Equation → State
  state_with gs = record { goals = gs; hypotheses = from.state.hypotheses }

  abbrev after_here : State
  after_here = onto from.state k.after

  abbrev tried_of : Option Step → Tried Next
  tried_of o = lifted from.state (record {
    made = option_map (λ step. record { move = move_of step; state = k.after }) o;
    noted = k.noted;
  })

  abbrev IsTakenAlone : Step → Type 0
  IsTakenAlone step = IsTaken parts (alone is.goal) k.after step

  taken_by : (step : Step) → IsTakenAlone step → (gs : List Equation) → Some is.goal ≡
      slice_get gs 0 → IsTaken parts (state_with gs) (onto (state_with gs) k.after) step
  taken_by step taken [] e = cc
  taken_by step taken (g ∷ gs) e =
      let same : is.goal ≡ g = cc in
      let moved = subst (λ x. IsTaken parts (alone x) k.after step) same taken in
      record {
        applies = applied_lifted parts g gs from.state.hypotheses step k.after moved.applies;
        deep = moved.deep;
      }

  tried_by : (o : Option Step) → IfSome o IsTakenAlone → IsTried from (tried_of o)
      (led most_moves from o k.noted after_here)
  tried_by None taken = led_by parts from from.state (tried_of None) None k.noted refl (refl, refl)
  tried_by (Some step) taken =
      led_by parts from after_here (tried_of (Some step)) (Some step) k.noted refl
      (refl, taken_by step taken from.state.goals is.first)

  reached_here : (goal : Equation) → IsReached parts goal from → (o : Option Step) →
      IfSome o IsTakenAlone → IfSome (led most_moves from o k.noted after_here).made
      (IsReached parts goal)
  reached_here goal reached None taken = tt
  reached_here goal reached (Some step) taken =
      reached_by parts from after_here (tried_of (Some step)) goal (Some step) k.noted
      (refl, taken_by step taken from.state.goals is.first) reached

  -- nothing is kept: there are ranks still
  node_by : k.keeps ≡ false → (goal : Equation) → IsNode kind parts goal from → (o : Option Step) →
      IfSome o IsTakenAlone → IfSome (led most_moves from o k.noted after_here).made
      (IsNode kind parts goal)
  node_by e goal node None taken = tt
  node_by e goal node (Some step) taken =
      let hypotheses =
      ap (λ hs. from.state.hypotheses ++ hs) (is.right.unkept e) ∙
      append-nil from.state.hypotheses in
      record {
        reached = reached_here goal node.reached (Some step) taken;
        ranked = ap (ranked kind parts) hypotheses ∙ node.ranked;
      }

  module _ (t : Attempt Node) (same : t ≡ led most_moves from k.step k.noted after_here) where
    -- what comes of it before ranks are found
    plainly_tried : IsTried from (lifted from.state (seen_known k).tried) t
    plainly_tried =
        subst (IsTried from (lifted from.state (seen_known k).tried)) (sym same)
        (tried_by k.step is.right.taken)

    pub known_reached : (goal : Equation) → IsReached parts goal from → IfSome t.made
        (IsReached parts goal)
    known_reached goal reached =
        subst (λ (t : Attempt Node). IfSome t.made (IsReached parts goal)) (sym same)
        (reached_here goal reached k.step is.right.taken)

    -- where nothing is kept
    module _ (unkept : k.keeps ≡ false) where
      pub unkept_tried : IsTried from (tried_at kind parts from.state k) t
      unkept_tried =
          subst
          (λ b. IsTried from (if_ranks kind parts b (lifted from.state (seen_known k).tried)) t)
          (sym unkept) plainly_tried

      pub unkept_node : (goal : Equation) → IsNode kind parts goal from → IfSome t.made
          (IsNode kind parts goal)
      unkept_node goal node =
          subst (λ (t : Attempt Node). IfSome t.made (IsNode kind parts goal)) (sym same)
          (node_by unkept goal node k.step is.right.taken)

    -- where the goal is kept
    module _ (kept : k.keeps ≡ true) where
      pub kept_some : (next : Node) → t.made ≡ Some next →
          (result : Result (Attempt Node) NoMemory) →
          IfOk result (λ x. x ≡ if_ranked (ranked kind parts next.state.hypotheses) next t.noted) →
          IfOk result (IsTried from (tried_at kind parts from.state k))
      kept_some next leads result is_ranked =
          subst
          (λ b. IfOk result (IsTried from
          (if_ranks kind parts b (lifted from.state (seen_known k).tried))))
          (sym kept)
          (keeping_ranked_call from kind parts (lifted from.state (seen_known k).tried) t next
          plainly_tried leads result is_ranked)

      pub kept_none : t.made ≡ None → IsTried from (tried_at kind parts from.state k)
          (record { made = None; noted = t.noted })
      kept_none leads =
          subst
          (λ b. IsTried from (if_ranks kind parts b (lifted from.state (seen_known k).tried))
          (record { made = None; noted = t.noted }))
          (sym kept)
          (keeping_none from kind parts (lifted from.state
          (seen_known k).tried) t plainly_tried leads)
