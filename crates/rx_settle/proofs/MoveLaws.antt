-- Moves one after the other: those that were made, and what settles the state after them, settle
-- the first state.
use Rattle.std.proofs.Common.{◌≡◌, ◌∙◌, ap, subst, sym, refl, arith, ℕ, suc, ◌+◌, ◌-◌, ◌<◌, ◌≤◌, Bool, true, false, Option, Some, None, Ok, Err, List, [], ◌∷◌, ◌++◌, append_assoc}
use Rattle.std.specs.Prelude.{All, IfOk, Result, map}
use Rattle.std.specs.Option.{option_or}
use Rattle.std.proofs.lemmas.List.{append-nil, map-append}
use Rattle.std.proofs.lemmas.List.Elements.{All-append, All-cons, All-nil}
use Rattle.rx_cert.specs.Depth.{cert_depth}
use Rattle.rx_row.specs.declared.row.Row.{Row}
use Rattle.rx_term.specs.declared.rule.Equation.{Equation}
use Rattle.rx_term.specs.declared.rule_set.RuleParts.{RuleParts}
use Rattle.rx_inference.specs.Judging.{StepFault, certificates}
use Rattle.rx_inference.specs.States.{State, applied}
use Rattle.rx_inference.specs.declared.step.Step.{Step}
use Rattle.rx_settle.specs.Advances.{Advances, IsThere, Records, recorded, rows_where, with_note}
use Rattle.rx_settle.specs.Answers.{AreDeep, IsSettled, IsTrial, Takes, after, after_all}
use Rattle.rx_moves.specs.Moves.{Move, move_of}
use Rattle.rx_settle.specs.Settling as settling
use Rattle.rx_settle.specs.Settling.{moved, most_moves, rows_if, settle, settling_move}
use Rattle.rx_moves.specs.Trying.{Next}
use Rattle.rx_settle.specs.declared.settled.Settled.{Settled}
use Rattle.rx_settle.specs.declared.trial.Trial.{Trial}

-- ---- notes

or_later : {A : Type 0} (a b c : Option A) → option_or (option_or a b) c ≡
    option_or a (option_or b c)
or_later None b c = refl
or_later (Some x) b c = refl

or_none : {A : Type 0} (a : Option A) → option_or a None ≡ a
or_none None = refl
or_none (Some x) = refl

-- ---- one trial is recorded

-- rows are noted only where something was
pub rows_noted : (noted : Bool) (goals : List Equation) → rows_where noted (rows_if true goals) ≡
    rows_if noted goals
rows_noted true goals = refl
rows_noted false goals = refl

module _ (parts : RuleParts) (old new : State) (before after_it : Settled) where
  advanced_by : (o : Option Step) (made : Bool) →
      Takes parts old new (settling_move parts old).made o → IsThere o made
      → after_it ≡ recorded (with_note before (rows_if (settling_move parts old).noted old.goals)) o
      → Advances parts old new before after_it made
  advanced_by None made takes there is =
      subst (λ b. Advances parts old new before after_it b) (sym there) (takes, is)
  advanced_by (Some step) made takes there is =
      subst (λ b. Advances parts old new before after_it b) (sym there) (step, (takes, is))

  pub advanced : (trial : Trial) (rows : Option (List Row)) (made : Bool) →
      IsTrial parts old new (settling_move parts old) trial → rows ≡ rows_if true old.goals →
      Records before rows trial after_it made
      → Advances parts old new before after_it made
  advanced trial rows made is same records =
      let noted : rows_where trial.noted rows ≡ rows_if (settling_move parts old).noted old.goals =
      ap (rows_where trial.noted) same ∙ rows_noted trial.noted old.goals ∙
      ap (λ b. rows_if b old.goals) is.noted in
      advanced_by trial.taken made is.taken records.told
      (records.after_it ∙ ap (λ r. recorded (with_note before r) trial.taken) noted)

  pub advanced_answer : {E : Type 0} (trial : Trial) (rows : Option (List Row)) (r : Result Bool E)
      → IsTrial parts old new (settling_move parts old) trial → rows ≡ rows_if true old.goals
      → IfOk r (Records before rows trial after_it) →
      IfOk r (Advances parts old new before after_it)
  advanced_answer trial rows (Ok made) is same records = advanced trial rows made is same records
  advanced_answer trial rows (Err e) is same records = tt

-- ---- steps one after the other

pub after_more : (parts : RuleParts) (start : State) (steps : List Step) (step : Step) →
    after_all parts start (steps ++ step ∷ []) ≡
    after (after_all parts start steps) (λ mid. applied parts mid step)
after_more parts start [] step = by (applied parts start step)
  where
    by : (r : Result State StepFault) → after r (λ next. Ok next) ≡ r
    by (Ok next) = refl
    by (Err fault) = refl
after_more parts start (first ∷ steps) step =
    by (applied parts start first) (λ next. after_more parts next steps step)
  where
    by : (r : Result State StepFault) → ((next : State) →
        after_all parts next (steps ++ step ∷ []) ≡
        after (after_all parts next steps) (λ mid. applied parts mid step))
        → after r (λ next. after_all parts next (steps ++ step ∷ [])) ≡
        after (after r (λ next. after_all parts next steps)) (λ mid. applied parts mid step)
    by (Ok next) later = later next
    by (Err fault) later = refl

-- ---- moves one after the other

-- moves and a note before what settles a state
abbrev joined : List Move → Option (List Row) → settling.Settled → settling.Settled
joined moves note later =
    record {
      moves = moves ++ later.moves;
      state = later.state;
      left = later.left;
      note =
          option_or note later.note;
    }

joined_again : (moves : List Move) (note : Option (List Row)) (move : Move)
    (more : Option (List Row)) (later : settling.Settled)
    → joined moves note (joined (move ∷ []) more later) ≡
    joined (moves ++ move ∷ []) (option_or note more) later
joined_again moves note move more later =
    ap (λ ms. let s : settling.Settled = record {
      moves = ms;
      state = later.state;
      left = later.left;
      note =
          option_or note (option_or more later.note);
    } in s)
    (sym (append_assoc moves (move ∷ []) later.moves))
    ∙ ap (λ n. let s : settling.Settled = record {
      moves = (moves ++ move ∷ []) ++ later.moves;
      state = later.state;
      left = later.left;
      note = n;
    } in s) (sym (or_later note more later.note))

module _ (parts : RuleParts) where
  abbrev noted_at : State → Option (List Row)
  noted_at at = rows_if (settling_move parts at).noted at.goals

  -- a move is made
  turn : (left : ℕ) (at : State) (next : Next) → (settling_move parts at).made ≡ Some next →
      settle parts (suc left) at ≡ joined (next.move ∷ []) (noted_at at)
      (settle parts left next.state)
  unfolding settle
  turn left at next e = ap (λ m. moved at left (noted_at at) m (settle parts left)) e

  -- none is
  rest : (left : ℕ) (at : State) → (settling_move parts at).made ≡ None →
      settle parts (suc left) at ≡ record {
        moves = [];
        state = at;
        left = 1 + left;
        note =
            noted_at at;
      }
  unfolding settle
  rest left at e = ap (λ m. moved at left (noted_at at) m (settle parts left)) e

  end : (at : State) → settle parts 0 at ≡ record { moves = []; state = at; left = 0; note = None }
  unfolding settle
  end at = refl

  module _ (start : State) where
    -- the steps so far make the state, and with what settles that they settle the first one
    pub record Moving (at : State) (so_far : Settled) : Type 0 where
      pub decides : settle parts most_moves start ≡
          joined (map move_of so_far.steps) so_far.note (settle parts so_far.left at)
      pub applies : after_all parts start so_far.steps ≡ Ok at
      pub deep : AreDeep so_far.steps
      pub hypotheses : at.hypotheses ≡ start.hypotheses

    pub begin : Moving start (record { steps = []; left = most_moves; note = None })
    begin =
        record {
          decides = refl;
          applies = refl;
          deep =
              All-nil (λ (step : Step). All (λ cert. cert_depth cert ≤ 174) (certificates step));
          hypotheses = refl;
        }

    -- no move is left, or none is made
    ends : (at : State) (so_far : Settled) (later : settling.Settled) → Moving at so_far →
        settle parts so_far.left at ≡ later → later.moves ≡ [] → later.state ≡ at
        → (found : Settled) → found ≡ with_note so_far later.note → later.left ≡ so_far.left →
        IsSettled parts start at (settle parts most_moves start) found
    ends at so_far later moving is none same found noted left =
        let whole : settle parts most_moves start ≡
        joined (map move_of so_far.steps) so_far.note later = moving.decides ∙
        ap (joined (map move_of so_far.steps) so_far.note) is in
        subst (λ s. IsSettled parts start at s found) (sym whole)
        (subst (λ (f : Settled). IsSettled parts start at
        (joined (map move_of so_far.steps) so_far.note later) f) (sym noted) (record {
          moves =
              sym (ap (λ ms. map move_of so_far.steps ++ ms) none ∙
              append-nil (map move_of so_far.steps));
          state = sym same;
          left = sym left;
          note = refl;
          applies = moving.applies;
          deep = moving.deep;
        }))

    pub no_move_left : (at : State) (so_far : Settled) → so_far.left ≡ 0 → Moving at so_far →
        IsSettled parts start at (settle parts most_moves start) so_far
    no_move_left at so_far none moving =
        let is : settle parts so_far.left at ≡
        record { moves = []; state = at; left = 0; note = None } =
        ap (λ n. settle parts n at) none ∙ end at in
        let noted : so_far ≡ with_note so_far None =
        ap (λ n. let s : Settled = record so_far { note = n } in s) (sym (or_none so_far.note))
        in
        ends at so_far (record { moves = []; state = at; left = 0; note = None }) moving is refl
        refl so_far noted (sym none)

    module _ (at new : State) (so_far more : Settled) (some : 0 < so_far.left)
        (moving : Moving at so_far) where
      one_less : so_far.left ≡ suc (so_far.left - 1)
      one_less = omega arith

      -- no move applies
      pub none_applies : Advances parts at new so_far more false →
          IsSettled parts start new (settle parts most_moves start) more
      none_applies (takes, is) =
          let here : settle parts so_far.left at ≡
          record { moves = []; state = at; left = 1 + (so_far.left - 1); note = noted_at at } =
          ap (λ n. settle parts n at) one_less ∙ rest (so_far.left - 1) at takes.0 in
          let left : 1 + (so_far.left - 1) ≡ so_far.left = omega arith in
          subst (λ s. IsSettled parts start s (settle parts most_moves start) more) (sym takes.1)
          (ends at so_far (record {
            moves = [];
            state = at;
            left = 1 + (so_far.left - 1);
            note =
                noted_at at;
          }) moving here refl refl more is left)

      -- and the hypotheses are those of the first state
      pub none_keeps : Advances parts at new so_far more false → new.hypotheses ≡ start.hypotheses
      none_keeps (takes, is) = ap (λ (s : State). s.hypotheses) takes.1 ∙ moving.hypotheses

      -- a move is made: fewer are left
      pub fewer_left : Advances parts at new so_far more true → more.left < so_far.left
      fewer_left (step, (takes, is)) = let e = ap (λ (s : Settled). s.left) is in omega arith

      -- and those that were made make the new state
      pub one_applies : new.hypotheses ≡ at.hypotheses → Advances parts at new so_far more true →
          Moving new more
      one_applies same (step, (takes, is)) =
          let next : Next = record { move = move_of step; state = new } in
          let left = so_far.left - 1 in
          let here : settle parts so_far.left at ≡
          joined (move_of step ∷ []) (noted_at at) (settle parts left new) =
          ap (λ n. settle parts n at) one_less ∙ turn left at next takes.0 in
          let decides : settle parts most_moves start ≡
          joined (map move_of so_far.steps ++ move_of step ∷ [])
          (option_or so_far.note (noted_at at)) (settle parts left new) =
          moving.decides ∙ ap (joined (map move_of so_far.steps) so_far.note) here ∙
          joined_again (map move_of so_far.steps) so_far.note (move_of step) (noted_at at)
          (settle parts left new) in
          subst (λ (m : Settled). Moving new m) (sym is) (record {
            decides =
                decides ∙ ap (λ ms. joined ms (option_or so_far.note (noted_at at))
                (settle parts left new)) (sym (map-append move_of so_far.steps (step ∷ [])));
            applies =
                after_more parts start so_far.steps step ∙
                ap (λ r. after r (λ mid. applied parts mid step)) moving.applies ∙ takes.1.applies;
            deep =
                All-append (λ (s : Step). All (λ cert. cert_depth cert ≤ 174) (certificates s))
                so_far.steps (step ∷ []) moving.deep
                (All-cons (λ (s : Step). All (λ cert. cert_depth cert ≤ 174) (certificates s)) step
                [] takes.1.deep (All-nil (λ (s : Step).
                All (λ cert. cert_depth cert ≤ 174) (certificates s))));
            hypotheses = same ∙ moving.hypotheses;
          })
