-- Steps that are tried one after another.
use Rattle.std.proofs.Common.{◌≡◌, ◌∙◌, ap, sym, subst, refl, true, Option, Some, None, Ok, Err, List, [], ◌∷◌, ◌++◌, map, append_assoc}
use Rattle.std.specs.Prelude.{option_and_then}
use Rattle.std.proofs.lemmas.List.{append-nil, map-append}
use Rattle.std.proofs.lemmas.List.Elements.{All-append, All-cons, All-head, All-nil, All-tail}
use Rattle.rx_cert.specs.Findings.{Said, Yes, No, Beyond}
use Rattle.rx_solve.specs.Attempts.{where_shown}
use Rattle.rx_term.specs.declared.rule_set.RuleParts.{RuleParts}
use Rattle.rx_inference.specs.Forming.{Forming}
use Rattle.rx_inference.specs.Judging.{first_rows}
use Rattle.rx_inference.specs.Kinds.{formed}
use Rattle.rx_inference.specs.States.{State, taken}
use Rattle.rx_inference.specs.declared.form_end.FormEnd.TheVariants as form_end
use Rattle.rx_inference.specs.declared.formed_step.FormedStep.{FormedStep}
use Rattle.rx_inference.specs.declared.step.Step.{Step}
use Rattle.rx_moves.specs.Moves.{Move, move_of, step_of}
use Rattle.rx_moves.specs.Trying.{Next, asked_shown, attempt, next_if_formed}
use Rattle.rx_settle.specs.Answers.{AreDeep, Takes, after_all}
use Rattle.rx_settle.specs.Certified.{asks_rows}
use Rattle.rx_settle.proofs.ReachedLaws.{IsDeep, after_one}
use Rattle.rx_wider.specs.Nodes.{after_moves}
use Rattle.rx_wider.specs.Reached.{AreTaken, AskRows, TakesAll}
use Rattle.std.specs.Prelude.{slice_get}

abbrev pub AsksRows : Step → Type 0
AsksRows step = asks_rows step ≡ true

-- ---- a move that applies is the one that was tried

module _ (parts : RuleParts) (state : State) (move : Move) (next : Next) where
  shown_move : (f : FormedStep) (said : Said)
      → (where_shown said (record { move = move; state = taken state f })).made ≡ Some next →
      next.move ≡ move
  shown_move f Yes e =
      let same : record { move = move; state = taken state f } ≡ next = cc in
      ap (λ (n : Next). n.move) (sym same)
  shown_move f No e = absurd cc
  shown_move f Beyond e = absurd cc

  formed_move : (x : Forming FormedStep) → (next_if_formed state move x).made ≡ Some next →
      next.move ≡ move
  formed_move (Ok f) e =
      shown_move f (asked_shown (first_rows state.goals) (first_rows f.goals) f.asked) e
  formed_move (Err form_end.Large) e = absurd cc
  formed_move (Err form_end.NoGoal) e = absurd cc
  formed_move (Err form_end.WrongShape) e = absurd cc
  formed_move (Err form_end.NoSuchRule) e = absurd cc
  formed_move (Err form_end.NoMemory) e = absurd cc

  tried_move : (attempt parts state move).made ≡ Some next → next.move ≡ move
  unfolding attempt
  tried_move e =
      formed_move (formed parts (slice_get state.goals 0) state.hypotheses (step_of move)) e

-- ---- moves one after another

abbrev goes_on : RuleParts → List Move → Option Next → Option State
goes_on parts moves made =
    option_and_then (λ (next : Next). after_moves parts next.state moves) made

module _ (parts : RuleParts) (old : State) (steps : List Step) where
  -- the steps that were taken so far, and those that are left to be tried
  pub record Walking (now : State) (made rest : List Step) : Type 0 where
    pub moves : map move_of made ++ map move_of rest ≡ map move_of steps
    pub leads :
        after_moves parts now (map move_of rest) ≡ after_moves parts old (map move_of steps)
    pub applies : after_all parts old made ≡ Ok now
    pub deep : AreDeep made
    pub rows : AskRows rest

  pub begin : AskRows steps → Walking old [] steps
  begin rows = record {
    moves = refl;
    leads = refl;
    applies = refl;
    deep = All-nil IsDeep;
    rows = rows;
  }

  pub next_asks : (now : State) (made rest : List Step) (step : Step) →
      Walking now made (step ∷ rest) → asks_rows step ≡ true
  next_asks now made rest step w = All-head AsksRows step rest w.rows

  -- the next one applies
  pub one_more : (now new : State) (made rest : List Step) (step taken : Step) →
      Walking now made (step ∷ rest) →
      Takes parts now new (attempt parts now (move_of step)).made (Some taken) →
      Walking new (made ++ taken ∷ []) rest
  one_more now new made rest step taken w takes =
      let (is, by) = takes in
      let next : Next = record { move = move_of taken; state = new } in
      let same : move_of taken ≡ move_of step =
      tried_move parts now (move_of step) next is in
      record {
        moves =
            ap (λ ms. ms ++ map move_of rest) (map-append move_of made (taken ∷ []))
            ∙ append_assoc (map move_of made) (move_of taken ∷ []) (map move_of rest)
            ∙ ap (λ m. map move_of made ++ m ∷ map move_of rest) same
            ∙ w.moves;
        leads = sym (ap (goes_on parts (map move_of rest)) is) ∙ w.leads;
        applies = after_one parts old now new made taken w.applies by.applies;
        deep =
            All-append IsDeep made (taken ∷ []) w.deep
            (All-cons IsDeep taken [] by.deep (All-nil IsDeep));
        rows = All-tail AsksRows step rest w.rows;
      }

  -- the next one doesn't
  pub failed : (now new : State) (made rest : List Step) (step : Step) →
      Walking now made (step ∷ rest) →
      Takes parts now new (attempt parts now (move_of step)).made None →
      TakesAll parts old new (map move_of steps) None
  failed now new made rest step w takes =
      sym w.leads ∙ ap (goes_on parts (map move_of rest)) takes.0

  -- none is left
  pub ended : (now : State) (made : List Step) → Walking now made [] →
      TakesAll parts old now (map move_of steps) (Some made)
  ended now made w = record {
    moves = sym (append-nil (map move_of made)) ∙ w.moves;
    leads = sym w.leads;
    applies = w.applies;
    deep = w.deep;
  }

-- ---- of calls

module _ (parts : RuleParts) (old start new : State) (steps others : List Step)
    (begins : old ≡ start) (same : steps ≡ others) (found : Option (List Step))
    (takes : TakesAll parts old new (map move_of steps) found) where
  -- what is tried, and from where
  pub takes_as : TakesAll parts start new (map move_of others) found
  takes_as =
      subst (λ xs. TakesAll parts start new (map move_of xs) found) same
      (subst (λ s. TakesAll parts s new (map move_of steps) found) begins takes)

  pub taken_as : (taken : List Step) → found ≡ Some taken →
      AreTaken parts start new (map move_of others) taken
  taken_as taken is = subst (TakesAll parts start new (map move_of others)) is takes_as
