-- Turns one after the other: what was found, and what comes in the turns that are left, is what is
-- found from the first state.
use Rattle.std.proofs.Common.{◌≡◌, ◌∙◌, ap, sym, refl, arith, ℕ, zero, suc, ◌-◌, ◌<◌, Bool, true, false, ◌||◌, ◌⊎◌, inl, inr, Option, Some, None, Ok, Err, List, [], ◌∷◌, ◌++◌, append_assoc, length, length-append}
use Rattle.std.specs.Prelude.{◌==◌, if◌then◌else◌, nat_le, nat_lt, option_and_then, take, OnOk, Result}
use Rattle.std.proofs.lemmas.Bool.{eqb-false, eqb-true, leb-true, ltb-true}
use Rattle.rx_term.specs.declared.rule.Equation.{Equation}
use Rattle.rx_term.specs.declared.rule_set.RuleParts.{RuleParts}
use Rattle.rx_inference.specs.declared.step.Step.{Step}
use Rattle.rx_moves.specs.Moves.{move_of}
use Rattle.rx_settle.specs.TaskAnswers.{Makes, after_stuck, found_at_end, found_from, is_over}
use Rattle.rx_settle.specs.Tasks.{TaskedNext, descend, if_few, most_descendants, none_where_done, tasked_move, turned, without_first}
use Rattle.rx_settle.specs.declared.descending.Descent.{Descent}
use Rattle.rx_settle.specs.declared.tasked.Tasked.{Tasked}

-- ---- what is taken away

-- one goal more
stuck_again : (stuck one : List Equation) (found : Option (List Equation)) →
    after_stuck stuck (after_stuck one found) ≡ after_stuck (stuck ++ one) found
stuck_again stuck one None = refl
stuck_again stuck one (Some more) = ap (λ gs. Some gs) (sym (append_assoc stuck one more))

-- ---- when nothing more is to be found

some_of : (a b c : Bool) → (a || b || c) ≡ true → (a ≡ true) ⊎ ((b ≡ true) ⊎ (c ≡ true))
some_of true b c e = inl refl
some_of false true c e = inr (inl refl)
some_of false false true e = inr (inr refl)
some_of false false false e = cc

none_of : (a b c : Bool) → (a || b || c) ≡ false → (a ≡ false) × ((b ≡ false) × (c ≡ false))
none_of true b c e = cc
none_of false true c e = cc
none_of false false true e = cc
none_of false false false e = (refl, (refl, refl))

no_length : (goals : List Equation) → length goals ≡ 0 → goals ≡ []
no_length [] e = refl
no_length (goal ∷ goals) e = absurd (omega arith)

-- too many goals stay too many
module _ (stuck : List Equation) (many : most_descendants < length stuck) where
  not_few : (goals : List Equation) → most_descendants < length goals → if_few goals ≡ None
  not_few goals more = by (nat_le (length goals) most_descendants) refl
    where
      by : (b : Bool) → nat_le (length goals) most_descendants ≡ b →
          (if b then Some goals else None) ≡ None
      by true e = absurd (let h = leb-true (length goals) most_descendants e in omega arith)
      by false e = refl

  too_many : (found : Option (List Equation)) →
      option_and_then if_few (after_stuck stuck found) ≡ None
  too_many None = refl
  too_many (Some more) =
      let longer = length-append stuck more in not_few (stuck ++ more) (omega arith)

-- ---- turns

module _ (parts : RuleParts) where
  -- where no goal is left
  no_goal : (turns : ℕ) (at : Tasked) → at.state.goals ≡ [] → descend parts turns at ≡ Some []
  unfolding descend
  no_goal zero at none = ap none_where_done none
  no_goal (suc n) at none =
      ap (λ gs. turned at gs (tasked_move parts at) (descend parts n)) none

  no_turn : (at : Tasked) → descend parts 0 at ≡ none_where_done at.state.goals
  unfolding descend
  no_turn at = refl

  module _ (turns : ℕ) (at : Tasked) (goal : Equation) (goals : List Equation)
      (is : at.state.goals ≡ goal ∷ goals) where
    one_turn : (made : Option TaskedNext) → tasked_move parts at ≡ made →
        descend parts (suc turns) at ≡ turned at (goal ∷ goals) made (descend parts turns)
    unfolding descend
    one_turn made e =
        ap (λ gs. turned at gs (tasked_move parts at) (descend parts turns)) is ∙
        ap (λ m. turned at (goal ∷ goals) m (descend parts turns)) e

  -- nothing more is to be found: this is what was found
  pub over_ends : (d : Descent) → is_over d ≡ true →
      option_and_then if_few (found_from parts d) ≡ found_at_end d
  over_ends d over =
      by (some_of (d.left == 0) (length d.at.state.goals == 0)
      (nat_lt most_descendants (length d.stuck)) over)
    where
      same : (found : Option (List Equation)) → descend parts d.left d.at ≡ found →
          none_where_done d.at.state.goals ≡ found →
          option_and_then if_few (found_from parts d) ≡ found_at_end d
      same found one other =
          ap (λ f. option_and_then if_few (after_stuck d.stuck f)) (one ∙ sym other)

      by : ((d.left == 0) ≡ true) ⊎ (((length d.at.state.goals == 0) ≡ true) ⊎
          (nat_lt most_descendants (length d.stuck) ≡ true)) →
          option_and_then if_few (found_from parts d) ≡ found_at_end d
      by (inl none) =
          same (none_where_done d.at.state.goals)
          (ap (λ n. descend parts n d.at) (eqb-true d.left 0 none) ∙ no_turn d.at) refl
      by (inr (inl none)) =
          let goals = no_length d.at.state.goals (eqb-true (length d.at.state.goals) 0 none) in
          same (Some []) (no_goal d.left d.at goals) (ap none_where_done goals)
      by (inr (inr many)) =
          let more = ltb-true most_descendants (length d.stuck) many in
          too_many d.stuck more (descend parts d.left d.at) ∙
          sym (too_many d.stuck more (none_where_done d.at.state.goals))

  -- a turn is left, and a goal
  module _ (old : Descent) (goes_on : is_over old ≡ false) where
    tests : ((old.left == 0) ≡ false) × (((length old.at.state.goals == 0) ≡ false) ×
        (nat_lt most_descendants (length old.stuck) ≡ false))
    tests =
        none_of (old.left == 0) (length old.at.state.goals == 0)
        (nat_lt most_descendants (length old.stuck)) goes_on

    turn_left : 0 < old.left
    turn_left = let h = eqb-false old.left 0 tests.0 in omega arith

    one_less : old.left ≡ suc (old.left - 1)
    one_less = let h = turn_left in omega arith

    -- the move of this turn, or none, and what comes after it
    whole : (made : Option TaskedNext) → tasked_move parts old.at ≡ made →
        (goals : List Equation) → old.at.state.goals ≡ goals →
        found_from parts old ≡
        after_stuck old.stuck (turned old.at goals made (descend parts (old.left - 1)))
    whole made e [] is =
        absurd (eqb-false (length old.at.state.goals) 0 tests.1.0 (ap length is))
    whole made e (goal ∷ goals) is =
        ap (after_stuck old.stuck) (ap (λ n. descend parts n old.at) one_less ∙
        one_turn (old.left - 1) old.at goal goals is made e)

    -- a move is made
    pub turn_moves : (new : Tasked) (step : Step) →
        Makes parts old.at new (tasked_move parts old.at) (Some step) →
        found_from parts (record { at = new; stuck = old.stuck; left = old.left - 1 }) ≡
        found_from parts old
    turn_moves new step makes =
        by old.at.state.goals refl
      where
        next : TaskedNext
        next = record { move = move_of step; after = new }

        by : (goals : List Equation) → old.at.state.goals ≡ goals →
            after_stuck old.stuck (descend parts (old.left - 1) new) ≡ found_from parts old
        by [] is = absurd (eqb-false (length old.at.state.goals) 0 tests.1.0 (ap length is))
        by (goal ∷ goals) is = sym (whole (Some next) makes.0 (goal ∷ goals) is)

    -- or the first goal is taken away
    turn_aside : (mid : Tasked) → Makes parts old.at mid (tasked_move parts old.at) None →
        (new : Descent) → new ≡ record {
          at = without_first mid;
          stuck = old.stuck ++ take 1 mid.state.goals;
          left = old.left - 1;
        } →
        found_from parts new ≡ found_from parts old
    turn_aside mid none new is_new =
        ap (found_from parts) is_new ∙
        ap (λ (t : Tasked). after_stuck (old.stuck ++ take 1 t.state.goals)
        (descend parts (old.left - 1) (without_first t))) none.1 ∙
        by old.at.state.goals refl
      where
        by : (goals : List Equation) → old.at.state.goals ≡ goals →
            after_stuck (old.stuck ++ take 1 old.at.state.goals)
            (descend parts (old.left - 1) (without_first old.at)) ≡ found_from parts old
        by [] is = absurd (eqb-false (length old.at.state.goals) 0 tests.1.0 (ap length is))
        by (goal ∷ goals) is =
            ap (λ gs. after_stuck (old.stuck ++ take 1 gs)
            (descend parts (old.left - 1) (without_first old.at))) is ∙
            sym (stuck_again old.stuck (goal ∷ [])
            (descend parts (old.left - 1) (without_first old.at))) ∙
            sym (whole None none.0 (goal ∷ goals) is)

    pub aside_answer : {A E : Type 0} (mid : Tasked) (new : Descent) (r : Result A E) →
        Makes parts old.at mid (tasked_move parts old.at) None →
        OnOk r (new ≡ record {
          at = without_first mid;
          stuck = old.stuck ++ take 1 mid.state.goals;
          left = old.left - 1;
        }) →
        OnOk r (found_from parts new ≡ found_from parts old)
    aside_answer mid new (Ok x) none is_new = turn_aside mid none new is_new
    aside_answer mid new (Err e) none is_new = tt
