-- Moves with tasks one after the other: those that were made, and what settles the state after
-- them, settle the first one.
use Rattle.std.proofs.Common.{◌≡◌, ◌∙◌, ap, subst, sym, refl, arith, ℕ, suc, ◌+◌, ◌-◌, ◌<◌, ◌≤◌, Some, None, Ok, List, [], ◌∷◌, ◌++◌, append_assoc}
use Rattle.std.specs.Prelude.{All, map}
use Rattle.std.proofs.lemmas.List.{append-nil, map-append}
use Rattle.std.proofs.lemmas.List.Elements.{All-append, All-cons, All-nil}
use Rattle.rx_cert.specs.Depth.{cert_depth}
use Rattle.rx_term.specs.declared.rule_set.RuleParts.{RuleParts}
use Rattle.rx_inference.specs.Judging.{certificates}
use Rattle.rx_inference.specs.States.{applied}
use Rattle.rx_inference.specs.declared.step.Step.{Step}
use Rattle.rx_moves.specs.Moves.{Move, move_of}
use Rattle.rx_settle.specs.Answers.{AreDeep, after, after_all}
use Rattle.rx_settle.specs.Settling.{most_moves}
use Rattle.rx_settle.specs.TaskAnswers.{AreTaskedSteps, Makes, with_one_more}
use Rattle.rx_settle.specs.Tasks.{AllHaveTasks, TaskedNext, TaskedSettled, moved_on, settle_tasked, tasked_move}
use Rattle.rx_settle.specs.declared.tasked.Tasked.{Tasked}
use Rattle.rx_settle.specs.declared.tasks.TaskedSteps.{TaskedSteps}
use Rattle.rx_settle.proofs.MoveLaws.{after_more}
use Rattle.rx_settle.proofs.TaskCounts.{stay}

-- moves before what settles a state
abbrev joined : List Move → TaskedSettled → TaskedSettled
joined moves later =
    record { moves = moves ++ later.moves; after = later.after; left = later.left }

joined_again : (moves : List Move) (move : Move) (later : TaskedSettled) →
    joined moves (joined (move ∷ []) later) ≡ joined (moves ++ move ∷ []) later
joined_again moves move later =
    ap (λ ms. let s : TaskedSettled = record {
      moves = ms;
      after = later.after;
      left = later.left;
    } in s) (sym (append_assoc moves (move ∷ []) later.moves))

module _ (parts : RuleParts) where
  -- a move is made
  turn : (left : ℕ) (at : Tasked) (next : TaskedNext) → tasked_move parts at ≡ Some next →
      settle_tasked parts (suc left) at ≡
      joined (next.move ∷ []) (settle_tasked parts left next.after)
  unfolding settle_tasked
  turn left at next e = ap (λ m. moved_on at left m (settle_tasked parts left)) e

  -- none is
  rest : (left : ℕ) (at : Tasked) → tasked_move parts at ≡ None →
      settle_tasked parts (suc left) at ≡ record { moves = []; after = at; left = 1 + left }
  unfolding settle_tasked
  rest left at e = ap (λ m. moved_on at left m (settle_tasked parts left)) e

  end : (at : Tasked) →
      settle_tasked parts 0 at ≡ record { moves = []; after = at; left = 0 }
  unfolding settle_tasked
  end at = refl

  module _ (start : Tasked) where
    -- the steps so far make the state, and with what settles that they settle the first one
    pub record Moving (at : Tasked) (so_far : TaskedSteps) : Type 0 where
      pub decides : settle_tasked parts most_moves start ≡
          joined (map move_of so_far.steps) (settle_tasked parts so_far.left at)
      pub applies : after_all parts start.state so_far.steps ≡ Ok at.state
      pub deep : AreDeep so_far.steps
      pub hypotheses : at.state.hypotheses ≡ start.state.hypotheses
      pub each : AllHaveTasks start → AllHaveTasks at

    pub begin : Moving start (record { steps = []; left = most_moves })
    begin =
        record {
          decides = refl;
          applies = refl;
          deep =
              All-nil (λ (step : Step). All (λ cert. cert_depth cert ≤ 174) (certificates step));
          hypotheses = refl;
          each = λ h. h;
        }

    -- no move is made any more
    ends : (at : Tasked) (so_far : TaskedSteps) → Moving at so_far →
        settle_tasked parts so_far.left at ≡
        record { moves = []; after = at; left = so_far.left } →
        AreTaskedSteps parts start at (settle_tasked parts most_moves start) so_far
    ends at so_far moving is =
        let later : TaskedSettled = record { moves = []; after = at; left = so_far.left } in
        let whole : settle_tasked parts most_moves start ≡
        joined (map move_of so_far.steps) later = moving.decides ∙
        ap (joined (map move_of so_far.steps)) is in
        subst (λ s. AreTaskedSteps parts start at s so_far) (sym whole) (record {
          moves = sym (append-nil (map move_of so_far.steps));
          after = refl;
          left = refl;
          applies = moving.applies;
          deep = moving.deep;
        })

    -- none is left
    pub no_move_left : (at : Tasked) (so_far : TaskedSteps) → so_far.left ≡ 0 →
        Moving at so_far →
        AreTaskedSteps parts start at (settle_tasked parts most_moves start) so_far
    no_move_left at so_far none moving =
        ends at so_far moving
        (subst (λ n. settle_tasked parts n at ≡ record { moves = []; after = at; left = n })
        (sym none) (end at))

    module _ (at new : Tasked) (so_far : TaskedSteps) (some : 0 < so_far.left)
        (moving : Moving at so_far) where
      one_less : so_far.left ≡ suc (so_far.left - 1)
      one_less = omega arith

      -- none applies
      pub none_applies : Makes parts at new (tasked_move parts at) None →
          AreTaskedSteps parts start new (settle_tasked parts most_moves start) so_far
      none_applies none =
          let left : 1 + (so_far.left - 1) ≡ so_far.left = omega arith in
          let here : settle_tasked parts so_far.left at ≡
          record { moves = []; after = at; left = so_far.left } =
          ap (λ n. settle_tasked parts n at) one_less ∙ rest (so_far.left - 1) at none.0 ∙
          ap (λ n. let s : TaskedSettled = record { moves = []; after = at; left = n } in s) left
          in
          subst (λ t. AreTaskedSteps parts start t (settle_tasked parts most_moves start) so_far)
          (sym none.1) (ends at so_far moving here)

      -- and there are as many tasks as goals
      pub none_each : Makes parts at new (tasked_move parts at) None → AllHaveTasks start →
          AllHaveTasks new
      none_each none h = subst (λ (t : Tasked). AllHaveTasks t) (sym none.1) (moving.each h)

      module _ (more : TaskedSteps) (step : Step) (is : more ≡ with_one_more so_far step) where
        -- a move is made: fewer are left
        pub fewer_left : more.left < so_far.left
        fewer_left = let e = ap (λ (s : TaskedSteps). s.left) is in omega arith

        -- and those that were made make the new state
        pub one_applies : new.state.hypotheses ≡ at.state.hypotheses →
            Makes parts at new (tasked_move parts at) (Some step) → Moving new more
        one_applies same makes =
            let next : TaskedNext = record { move = move_of step; after = new } in
            let left = so_far.left - 1 in
            let here : settle_tasked parts so_far.left at ≡
            joined (move_of step ∷ []) (settle_tasked parts left new) =
            ap (λ n. settle_tasked parts n at) one_less ∙ turn left at next makes.0 in
            let decides : settle_tasked parts most_moves start ≡
            joined (map move_of so_far.steps ++ move_of step ∷ [])
            (settle_tasked parts left new) =
            moving.decides ∙ ap (joined (map move_of so_far.steps)) here ∙
            joined_again (map move_of so_far.steps) (move_of step)
            (settle_tasked parts left new) in
            subst (λ (m : TaskedSteps). Moving new m) (sym is) (record {
              decides =
                  decides ∙ ap (λ ms. joined ms (settle_tasked parts left new))
                  (sym (map-append move_of so_far.steps (step ∷ [])));
              applies =
                  after_more parts start.state so_far.steps step ∙
                  ap (λ r. after r (λ mid. applied parts mid step)) moving.applies ∙
                  makes.1.applies;
              deep =
                  All-append (λ (s : Step). All (λ cert. cert_depth cert ≤ 174) (certificates s))
                  so_far.steps (step ∷ []) moving.deep
                  (All-cons (λ (s : Step). All (λ cert. cert_depth cert ≤ 174) (certificates s))
                  step [] makes.1.deep (All-nil (λ (s : Step).
                  All (λ cert. cert_depth cert ≤ 174) (certificates s))));
              hypotheses = same ∙ moving.hypotheses;
              each = λ h. stay parts at new step (moving.each h) makes;
            })
