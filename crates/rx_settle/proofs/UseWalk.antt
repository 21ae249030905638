-- Hypotheses used in order: what is left of them decides, with what was noted so far.
use Rattle.std.proofs.Common.{◌≡◌, ◌∙◌, ap, subst, sym, refl, arith, ℕ, zero, suc, ◌+◌, ◌<◌, ◌≤◌, Bool, true, false, ◌||◌, Option, Some, None, Ok, Err, List, [], ◌∷◌, length, drop, drop_of_length-le, add-one}
use Rattle.std.specs.Prelude.{is_some, slice_get}
use Rattle.std.specs.Option.{option_map_or}
use Rattle.rx_plain.proofs.Booleans.{or_false}
use Rattle.rx_solve.specs.Attempts.{Tried, fails, first_applying, made_or}
use Rattle.rx_term.specs.declared.rule.Equation.{Equation}
use Rattle.rx_term.specs.declared.rule.Rule.{Rule}
use Rattle.rx_term.specs.declared.rule_set.RuleParts.{RuleParts}
use Rattle.rx_inference.specs.States.{State}
use Rattle.rx_inference.specs.declared.step.Side.TheVariants.{Left, Right}
use Rattle.rx_settle.specs.Answers.{IsTrial}
use Rattle.rx_settle.specs.AtFirst.{at_first, using_all, using_sides}
use Rattle.rx_settle.specs.Uses.{using_each, using_on}
use Rattle.rx_settle.specs.declared.uses.Matching.{Matching}
use Rattle.rx_moves.specs.Trying.{Next, noting}
use Rattle.rx_settle.specs.Untaken.{IsUntaken}
use Rattle.rx_settle.specs.declared.trial.Trial.{Trial}
use Rattle.rx_moves.proofs.TriedLaws.{none_by, noting_again, nothing_noted, one_tried, some_by, tried_after}
use Rattle.rx_settle.proofs.TrialLaws.{first_takes, none_made, same_state, trial_of}

-- the hypotheses, counted in a list that is borrowed
pub is_within : (list : List Rule) (state : State) (count n : ℕ) → list ≡ state.hypotheses → count ≡
    length list → n < count → n < length state.hypotheses
is_within list state count n same counted inside =
    let e = ap (λ (hs : List Rule). length hs) same in omega arith

pub is_past : (list : List Rule) (state : State) (count n : ℕ) → list ≡ state.hypotheses → count ≡
    length list → count ≤ n → length state.hypotheses ≤ n
is_past list state count n same counted over =
    let e = ap (λ (hs : List Rule). length hs) same in omega arith

-- an element, and what comes from it on
element_at : {A : Type 0} (xs : List A) (n : ℕ) → n < length xs → (x : A) ×
    ((drop n xs ≡ x ∷ drop (suc n) xs) × (slice_get xs n ≡ Some x))
element_at [] n h = absurd (omega arith)
element_at (x ∷ xs) zero h = (x, (refl, refl))
element_at (x ∷ xs) (suc n) h = element_at xs n (omega arith)

module _ (parts : RuleParts) (state : State) (how : Matching) where
  -- what comes of the hypotheses from a number on
  abbrev rest_at : ℕ → Equation → Tried Next
  rest_at n goal = first_applying (using_each parts state how goal n (drop n state.hypotheses))

  abbrev rest : ℕ → Tried Next
  rest n = at_first (rest_at n) state.goals

  abbrev sides : ℕ → Tried Next
  sides n = at_first (using_sides parts state how n) state.goals

  abbrev whole : Tried Next
  whole = at_first (using_all parts state how) state.goals

  -- what was noted, and the hypotheses from a number on, decide
  pub record Using (noted : Bool) (n : ℕ) : Type 0 where
    pub decides : noting noted (rest n) ≡ whole

  pub begin : Using false 0
  begin = record { decides = nothing_noted whole }

  -- ---- one hypothesis

  -- its two sides, and then the others
  pair_first : (left right later : Tried Next) → first_applying (left ∷ right ∷ []) ≡
      made_or left.made left.noted right
  pair_first left right later = ap (made_or left.made left.noted) (one_tried right)

  both_sides : (left right later : Tried Next) →
      made_or left.made left.noted (made_or right.made right.noted later)
      ≡ made_or (first_applying (left ∷ right ∷ [])).made (first_applying (left ∷ right ∷ [])).noted
      later
  both_sides left right later =
      sym (tried_after left right later)
      ∙ ap (λ (t : Tried Next). made_or t.made t.noted later) (sym (pair_first left right later))

  module _ (n : ℕ) (inside : n < length state.hypotheses) where
    here : (h : Rule) × ((drop n state.hypotheses ≡ h ∷ drop (suc n) state.hypotheses) ×
        (slice_get state.hypotheses n ≡ Some h))
    here = element_at state.hypotheses n inside

    -- at a goal
    step_at : (goal : Equation) → rest_at n goal ≡
        made_or (using_sides parts state how n goal).made (using_sides parts state how n goal).noted
        (rest_at (n + 1) goal)
    step_at goal =
        let left = using_on parts state how goal n here.0 Left in
        let right = using_on parts state how goal n here.0 Right in
        let later = rest_at (n + 1) goal in
        let from : drop n state.hypotheses ≡ here.0 ∷ drop (n + 1) state.hypotheses = here.1.0 ∙
        ap (λ k. here.0 ∷ drop k state.hypotheses) (sym (add-one n)) in
        let sides_are : first_applying (left ∷ right ∷ []) ≡ using_sides parts state how n goal =
        ap
        (λ (o : Option Rule). first_applying (option_map_or
        (λ (h : Rule). using_on parts state how goal n h Left) o fails ∷
        option_map_or (λ (h : Rule). using_on parts state how goal n h Right) o fails ∷ []))
        (sym here.1.1) in
        ap (λ hs. first_applying (using_each parts state how goal n hs)) from
        ∙ both_sides left right later
        ∙ ap (λ (t : Tried Next). made_or t.made t.noted later) sides_are

    by_goals : (goals : List Equation) → at_first (rest_at n) goals
        ≡ made_or (at_first (using_sides parts state how n) goals).made
        (at_first (using_sides parts state how n) goals).noted (at_first (rest_at (n + 1)) goals)
    by_goals [] = refl
    by_goals (goal ∷ goals) = step_at goal

    step : rest n ≡ made_or (sides n).made (sides n).noted (rest (n + 1))
    step = by_goals state.goals

    module _ (noted : Bool) (so_far : Using noted n) (t : Trial) (mid : State)
        (trial : IsTrial parts state mid (sides n) t) where
      -- it isn't used
      pub next_failed : is_some t.taken ≡ false → Using (noted || t.noted) (n + 1)
      next_failed unset =
          let none = none_by t.taken unset in
          let later = rest (n + 1) in
          let so : made_or (sides n).made (sides n).noted later ≡ noting t.noted later =
          ap (λ m. made_or m (sides n).noted later)
          (none_made parts state mid (sides n) t trial none)
          ∙ ap (λ b. noting b later) (sym trial.noted) in
          record {
            decides = noting_again noted t.noted later ∙ ap (noting noted) (sym so) ∙
                ap (noting noted) (sym step) ∙ so_far.decides;
          }

      -- it is
      pub this_applies : is_some t.taken ≡ true →
          IsTrial parts state mid whole (record { taken = t.taken; noted = noted || t.noted })
      this_applies set =
          let some = some_by t.taken set in
          let first = trial_of parts state mid _ _ t (sym step)
          (first_takes parts state mid (sides n) t trial (rest (n + 1)) some.0 some.1) in
          trial_of parts state mid (noting noted (rest n)) whole
          (record { taken = t.taken; noted = noted || t.noted }) so_far.decides
          (record { noted = ap (λ b. noted || b) first.noted; taken = first.taken })

  -- no hypothesis is left
  none_left : (noted : Bool) (n : ℕ) → drop n state.hypotheses ≡ [] → Using noted n →
      IsTrial parts state state whole (record { taken = None; noted = noted })
  none_left noted n none so_far =
      let ended : noting noted fails ≡ whole = ap (noting noted) (sym (by_goals state.goals)) ∙
      so_far.decides in
      let same : record { taken = None; noted = noted || false } ≡
      record { taken = None; noted = noted } =
      ap (λ b. let u : Trial = record { taken = None; noted = b } in u) (or_false noted) in
      subst (λ u. IsTrial parts state state whole u) same
      (trial_of parts state state (noting noted fails) whole
      (record { taken = None; noted = noted || false }) ended
      (record { noted = refl; taken = (refl, refl) }))
    where
      by_goals : (goals : List Equation) → at_first (rest_at n) goals ≡ fails
      by_goals [] = refl
      by_goals (goal ∷ goals) = ap (λ hs. first_applying (using_each parts state how goal n hs)) none

  -- ---- where the state is as before

  module _ (at : State) (same : at ≡ state) (noted : Bool) (n : ℕ) (so_far : Using noted n) where
    module _ (inside : n < length state.hypotheses) (t u : Trial) (mid : State)
        (trial : IsTrial parts at mid (at_first (using_sides parts at how n) at.goals) t)
        (more : u ≡ record { taken = t.taken; noted = noted || t.noted }) where
      trial_here : IsTrial parts state mid (sides n) t
      trial_here =
          subst (λ s. IsTrial parts s mid (at_first (using_sides parts s how n) s.goals) t) same trial

      pub goes_on : (now : Bool) → IsUntaken u (Ok now) → (mid ≡ state) × Using now (n + 1)
      goes_on now untaken =
          let unset : is_some u.taken ≡ false = ap (λ (x : Trial). is_some x.taken) untaken in
          let none : is_some t.taken ≡ false = sym (ap (λ (x : Trial). is_some x.taken) more) ∙
          unset in (
            same_state parts state mid (sides n) t trial_here (none_by t.taken none),
            subst (λ (x : Trial). Using x.noted (n + 1)) (sym more ∙ untaken)
                (next_failed n inside noted so_far t mid trial_here none),
          )

      pub ends : (same : Trial) → IsUntaken u (Err same) → IsTrial parts state mid whole same
      ends same taken =
          let is : same ≡ record { taken = t.taken; noted = noted || t.noted } = taken.0 ∙ more in
          let some : is_some t.taken ≡ true = sym (ap (λ (x : Trial). is_some x.taken) is) ∙
          taken.1 in
          subst (λ (x : Trial). IsTrial parts state mid whole x) (sym is)
          (this_applies n inside noted so_far t mid trial_here some)

    pub ended : length state.hypotheses ≤ n →
        IsTrial parts state at whole (record { taken = None; noted = noted })
    ended over =
        subst (λ s. IsTrial parts state s whole (record { taken = None; noted = noted })) (sym same)
        (none_left noted n (drop_of_length-le state.hypotheses over) so_far)
