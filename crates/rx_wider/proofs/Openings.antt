-- A lemma on a tail call: where its steps lead, before the goal and alone.
use Rattle.std.proofs.Common.{◌≡◌, ◌∙◌, ap, sym, subst, Bool, true, false, Option, Some, None, Ok, Err, List, [], ◌∷◌, ◌++◌, map, All, append_assoc}
use Rattle.std.specs.Prelude.{if◌then◌else◌, option_and_then}
use Rattle.std.proofs.lemmas.List.{append-nil, map-append}
use Rattle.rx_cert.specs.Findings.{Said, Yes, No, Beyond}
use Rattle.rx_solve.specs.Attempts.{where_shown}
use Rattle.rx_pairs.specs.Pairs.{HasRoot, SidesFit}
use Rattle.rx_rank.specs.Ranking.{ranked}
use Rattle.rx_rank.specs.declared.kind.RankingKind.{RankingKind}
use Rattle.rx_row.specs.declared.row.Row.{Row}
use Rattle.rx_term.specs.Domains.{inside_of}
use Rattle.rx_term.specs.declared.rule.Equation.{Equation}
use Rattle.rx_term.specs.declared.rule.Rule.{Rule}
use Rattle.rx_term.specs.declared.rule_set.RuleParts.{RuleParts}
use Rattle.rx_inference.specs.Forming.{provided}
use Rattle.rx_inference.specs.Making.{asking_before}
use Rattle.rx_inference.specs.Pieces.{is_equation}
use Rattle.rx_inference.specs.States.{State, taken}
use Rattle.rx_inference.specs.declared.form_end.FormEnd.TheVariants.{Large}
use Rattle.rx_inference.specs.declared.step.Side.TheVariants.{Left}
use Rattle.rx_inference.specs.declared.step.Step.{Step}
use Rattle.rx_moves.specs.Moves.{Expand, Postulate, move_of}
use Rattle.rx_moves.specs.Trying.{Next, asked_shown, attempt, next_if_formed}
use Rattle.rx_settle.specs.Reached.{IsReachedBy}
use Rattle.rx_settle.proofs.ReachedLaws.{after_before, reached_fits, reached_more, reached_rooted}
use Rattle.rx_shapes.specs.Shown.{is_yes}
use Rattle.rx_wider.specs.Calls.{opening_of}
use Rattle.rx_wider.specs.Nodes.{after_moves, has_ranks, if_ranked, is_closed}
use Rattle.rx_wider.specs.Reached.{AreTaken, Expands, IsBegun, IsPosed, IsSettledLemma, Poses}
use Rattle.rx_wider.specs.Tails.{Opening, expanded_alone, goal_under, lemma_settled, shown, with_shown}
use Rattle.rx_wider.specs.declared.lemmas.Walked.{Walked}
use Rattle.rx_wider.specs.declared.opening.Begun.{Begun}

-- ---- posing an equation

module _ (parts : RuleParts) (hypotheses : List Rule) (goal lemma : Equation) where
  abbrev pub both_goals : State
  both_goals = record { goals = lemma ∷ goal ∷ []; hypotheses = hypotheses }

  abbrev stays : Option Next → Option State
  stays made = option_and_then (λ (next : Next). Some next.state) made

  module _ (inside : List Row) where
    shown_state : (said : Said) (new : State) →
        stays (where_shown said (record {
          move = Postulate lemma;
          state = taken (goal_under hypotheses goal) (asking_before inside lemma goal);
        })).made ≡ Some new → new ≡ both_goals
    shown_state Yes new e =
        let same : taken (goal_under hypotheses goal) (asking_before inside lemma goal) ≡ new =
        cc in
        sym same
        ∙ (λ i. record { goals = lemma ∷ goal ∷ []; hypotheses = append-nil hypotheses i })
    shown_state No new e = absurd cc
    shown_state Beyond new e = absurd cc

    formed_state : (b w : Bool) (new : State) →
        stays (next_if_formed (goal_under hypotheses goal) (Postulate lemma)
        (provided b (if w then Ok (asking_before inside lemma goal) else Err Large))).made
        ≡ Some new → new ≡ both_goals
    formed_state true true new e =
        shown_state (asked_shown goal.rows lemma.rows (asking_before inside lemma goal).asked) new e
    formed_state true false new e = absurd cc
    formed_state false w new e = absurd cc

  posed_state : (new : State) →
      after_moves parts (goal_under hypotheses goal) (Postulate lemma ∷ []) ≡ Some new →
      new ≡ both_goals
  unfolding attempt
  posed_state new e =
      formed_state (inside_of parts lemma).form (is_equation parts lemma)
      (inside_of parts lemma).within new e

-- ---- a lemma that was posed

module _ (kind : RankingKind) (parts : RuleParts) (from goal lemma : Equation) (begun : Begun)
    (is : IsBegun kind parts from goal begun) where
  abbrev pub hypotheses : List Rule
  hypotheses = begun.state.hypotheses

  pub start_is : begun.state ≡ goal_under hypotheses goal
  start_is = λ i. record { goals = is.goals i; hypotheses = hypotheses }

  module _ (new : State) (posing : List Step)
      (poses : AreTaken parts begun.state new (Postulate lemma ∷ []) posing) where
    new_is : new ≡ both_goals parts hypotheses goal lemma
    new_is =
        posed_state parts hypotheses goal lemma new
        (ap (λ s. after_moves parts s (Postulate lemma ∷ [])) (sym start_is) ∙ poses.leads)

    posed_reached : IsReachedBy parts from (begun.steps ++ posing)
        (both_goals parts hypotheses goal lemma)
    posed_reached =
        subst (IsReachedBy parts from (begun.steps ++ posing)) new_is
        (reached_more parts from begun.steps begun.state is.is.reached posing new poses.applies
        poses.deep)

    pub is_posed : IsPosed parts hypotheses lemma
    is_posed = record {
      from = from;
      steps = begun.steps ++ posing;
      others = goal ∷ [];
      reached = posed_reached;
    }

    -- ---- expanded, and settled

    module _ (walked : Walked)
        (expands : AreTaken parts (goal_under hypotheses lemma) walked.state
        (Expand Left true ∷ []) walked.steps)
        (ranks : ranked kind parts walked.state.hypotheses ≡ Yes) (settled : Walked)
        (closes : IsSettledLemma parts walked.state (Some settled)) where
      abbrev pub joined_steps : List Step
      joined_steps = begun.steps ++ posing ++ walked.steps ++ settled.steps

      abbrev pub joined : Begun
      joined = record {
        steps = joined_steps;
        state = record {
          goals = goal ∷ settled.state.goals;
          hypotheses = settled.state.hypotheses;
        };
      }

      expanded_reached : IsReachedBy parts from (begun.steps ++ posing ++ walked.steps)
          (record {
            goals = walked.state.goals ++ goal ∷ [];
            hypotheses = walked.state.hypotheses;
          })
      expanded_reached =
          reached_more parts from (begun.steps ++ posing)
          (both_goals parts hypotheses goal lemma) posed_reached walked.steps _
          (after_before parts (goal ∷ []) (goal_under hypotheses lemma) walked.state walked.steps
          expands.applies) expands.deep

      settled_reached : IsReachedBy parts from joined_steps
          (record {
            goals = settled.state.goals ++ goal ∷ [];
            hypotheses = settled.state.hypotheses;
          })
      settled_reached =
          let (moves, state, closed, same, applies, deep) = closes in
          reached_more parts from (begun.steps ++ posing ++ walked.steps) _ expanded_reached
          settled.steps _
          (after_before parts (goal ∷ []) walked.state settled.state settled.steps applies) deep

      pub joined_begun : IsBegun kind parts from goal joined
      joined_begun =
          let (moves, state, closed, same, applies, deep) = closes in
          record {
            goals = ap (λ gs. goal ∷ gs) closed;
            is = record {
              reached =
                  subst (λ gs. IsReachedBy parts from joined_steps
                  (record { goals = gs; hypotheses = settled.state.hypotheses }))
                  (ap (λ gs. gs ++ goal ∷ []) closed ∙ ap (λ gs. goal ∷ gs) (sym closed))
                  settled_reached;
              ranked = ap (ranked kind parts) same ∙ ranks;
            };
          }

      -- what is seen of it
      pub joined_seen : Some (opening_of joined) ≡ with_shown (opening_of begun) lemma
          (lemma_settled parts walked.state)
      joined_seen =
          let (moves, state, closed, same, applies, deep) = closes in
          let goals : (lemma_settled parts walked.state).after.state.goals ≡ [] =
          ap (λ (s : State). s.goals) (sym state) ∙ closed in
          let settling = lemma_settled parts walked.state in
          let taken : map move_of joined_steps ≡
          map move_of begun.steps ++ (Postulate lemma ∷ Expand Left true ∷ settling.moves) =
          map-append move_of (begun.steps ++ posing ++ walked.steps) settled.steps
          ∙ ap (λ ms. ms ++ map move_of settled.steps)
          (map-append move_of (begun.steps ++ posing) walked.steps
          ∙ ap (λ ms. ms ++ map move_of walked.steps) (map-append move_of begun.steps posing))
          ∙ (λ i. map move_of begun.steps ++ poses.moves i ++ expands.moves i ++ moves i)
          ∙ ap (λ ms. ms ++ settling.moves) (append_assoc (map move_of begun.steps)
          (Postulate lemma ∷ []) (Expand Left true ∷ []))
          ∙ append_assoc (map move_of begun.steps) (Postulate lemma ∷ Expand Left true ∷ [])
          settling.moves in
          let closed_is : is_closed settling.after.state.goals ≡ true = ap is_closed goals in
          (λ i. Some (record {
            moves = taken i;
            hypotheses = ap (λ (s : State). s.hypotheses) state i;
          }))
          ∙ sym (ap (λ b. if b then Some (record {
            moves =
                map move_of begun.steps ++
                (Postulate lemma ∷ Expand Left true ∷ settling.moves);
            hypotheses = settling.after.state.hypotheses;
          }) else None) closed_is)

-- ---- what is shown

module _ (kind : RankingKind) (parts : RuleParts) (from goal lemma : Equation) (begun : Begun)
    (is : IsBegun kind parts from goal begun) where
  abbrev after_expanding : Option State → Option Opening
  after_expanding o = option_and_then (λ (after : State).
      with_shown (opening_of begun) lemma (lemma_settled parts after)) o

  abbrev after_posing : Option State → Option Opening
  after_posing o = option_and_then (λ (before : State).
      after_expanding (expanded_alone kind parts begun.state.hypotheses lemma)) o

  posed_is : (o : Option State) → after_moves parts begun.state (Postulate lemma ∷ []) ≡ o →
      shown kind parts goal (opening_of begun) lemma ≡ after_posing o
  posed_is o e =
      ap (λ s. after_posing (after_moves parts s (Postulate lemma ∷ [])))
      (sym (start_is kind parts from goal lemma begun is))
      ∙ ap after_posing e

  -- it can't be posed
  pub shown_unposed : Poses parts begun.state lemma None →
      None ≡ shown kind parts goal (opening_of begun) lemma
  shown_unposed (new, none) = sym (posed_is None none)

  module _ (new : State) (posing : List Step)
      (poses : AreTaken parts begun.state new (Postulate lemma ∷ []) posing) where
    once_posed : shown kind parts goal (opening_of begun) lemma ≡
        after_expanding (expanded_alone kind parts begun.state.hypotheses lemma)
    once_posed = posed_is (Some new) poses.leads

    -- it isn't expanded, or there are no ranks with it
    pub shown_unexpanded : Expands kind parts begun.state.hypotheses lemma None →
        None ≡ shown kind parts goal (opening_of begun) lemma
    shown_unexpanded none = sym (once_posed ∙ ap after_expanding none)

    module _ (walked : Walked)
        (expands : Expands kind parts begun.state.hypotheses lemma (Some walked)) where
      ranked_is : has_ranks kind parts walked.state.hypotheses ≡ true
      ranked_is = ap is_yes expands.1

      alone_is : expanded_alone kind parts begun.state.hypotheses lemma ≡ Some walked.state
      alone_is =
          ap (option_and_then (if_ranked kind parts)) expands.0.leads
          ∙ ap (λ b. if b then Some walked.state else None) ranked_is

      once_expanded : shown kind parts goal (opening_of begun) lemma ≡
          with_shown (opening_of begun) lemma (lemma_settled parts walked.state)
      once_expanded = once_posed ∙ ap after_expanding alone_is

      -- a goal of it is left
      pub shown_unsettled : IsSettledLemma parts walked.state None →
          None ≡ shown kind parts goal (opening_of begun) lemma
      shown_unsettled left =
          let settling = lemma_settled parts walked.state in
          sym (once_expanded ∙ ap (λ b. if b then Some (record {
            moves =
                map move_of begun.steps ++
                (Postulate lemma ∷ Expand Left true ∷ settling.moves);
            hypotheses = settling.after.state.hypotheses;
          }) else None) left)

      module _ (settled : Walked)
          (closes : IsSettledLemma parts walked.state (Some settled)) (next : Begun)
          (same : next ≡ joined kind parts from goal lemma begun is new posing poses walked
          expands.0
          expands.1 settled closes) where
        pub shown_there : Some (opening_of next) ≡ shown kind parts goal (opening_of begun) lemma
        shown_there =
            ap (λ (b : Begun). Some (opening_of b)) same
            ∙ joined_seen kind parts from goal lemma begun is new posing poses walked expands.0
            expands.1 settled closes
            ∙ sym once_expanded

        pub begun_there : IsBegun kind parts from goal next
        begun_there =
            subst (IsBegun kind parts from goal) (sym same)
            (joined_begun kind parts from goal lemma begun is new posing poses walked expands.0
            expands.1 settled closes)

-- ---- the hypotheses of the expanded lemma

module _ (parts : RuleParts) (hypotheses : List Rule) (lemma : Equation)
    (posed : IsPosed parts hypotheses lemma) (new : State) (steps : List Step)
    (expands : AreTaken parts (goal_under hypotheses lemma) new (Expand Left true ∷ []) steps)
  where
    kept_reached : IsReachedBy parts posed.from (posed.steps ++ steps) (record {
      goals = new.goals ++ posed.others;
      hypotheses = new.hypotheses;
    })
    kept_reached =
        reached_more parts posed.from posed.steps _ posed.reached steps _
        (after_before parts posed.others (goal_under hypotheses lemma) new steps expands.applies)
        expands.deep

    pub kept_rooted : All HasRoot new.hypotheses
    kept_rooted = reached_rooted parts posed.from (posed.steps ++ steps) _ kept_reached

    pub kept_fit : All (SidesFit parts) new.hypotheses
    kept_fit = reached_fits parts posed.from (posed.steps ++ steps) _ kept_reached
