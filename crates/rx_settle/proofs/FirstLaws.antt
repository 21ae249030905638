-- What is tried at the first goal.
use Rattle.std.proofs.Common.{◌≡◌, ◌∙◌, ap, subst, sym, refl, Bool, false, ◌||◌, Some, None, Ok, Err, List, [], ◌∷◌}
use Rattle.std.specs.Prelude.{IfOk, Result, slice_get}
use Rattle.rx_solve.specs.Attempts.{Tried, fails, first_applying}
use Rattle.rx_term.specs.declared.rule.Equation.{Equation}
use Rattle.rx_term.specs.declared.rule_set.RuleParts.{RuleParts}
use Rattle.rx_inference.specs.States.{State, taken}
use Rattle.rx_settle.specs.Answers.{IsTrial}
use Rattle.rx_settle.specs.AtFirst.{at_first}
use Rattle.rx_moves.specs.Trying.{Next}
use Rattle.rx_settle.specs.Untaken.{IsUntaken}
use Rattle.rx_settle.specs.declared.trial.Trial.{Trial}
use Rattle.rx_plain.proofs.Booleans.{or_false}
use Rattle.rx_moves.specs.Answers.{Gives, IsFound, IsFoundAt}
use Rattle.rx_moves.specs.declared.found.Found.{Found}
use Rattle.rx_moves.specs.declared.found.Ready.{Ready}
use Rattle.rx_settle.proofs.TrialLaws.{answer_of, failed_trial, taken_first, trial_of, untaken_second}

module _ (tried : Equation → Tried Next) where
  -- there is a goal
  pub at_goal : (goals : List Equation) (goal : Equation) → Some goal ≡ slice_get goals 0 →
      at_first tried goals ≡ tried goal
  at_goal [] goal is = cc
  at_goal (g ∷ gs) goal is = let same : g ≡ goal = cc in ap tried same

  -- there is none
  pub at_none : (goals : List Equation) → slice_get goals 0 ≡ None → at_first tried goals ≡ fails
  at_none [] is = refl
  at_none (g ∷ gs) is = cc

  pub no_goal : (parts : RuleParts) (old : State) (t : Trial) → slice_get old.goals 0 ≡ None → t ≡
      record { taken = None; noted = false } → IsTrial parts old old (at_first tried old.goals) t
  no_goal parts old t none is =
      failed_trial parts old (at_first tried old.goals) t (at_none old.goals none) is

  -- an answer at the goal
  pub goal_answer : {E : Type 0} (parts : RuleParts) (old new : State) (goal : Equation)
      (other : Tried Next) (r : Result Trial E) → Some goal ≡ slice_get old.goals 0 → other ≡
      tried goal
      → IfOk r (IsTrial parts old new other) →
      IfOk r (IsTrial parts old new (at_first tried old.goals))
  goal_answer parts old new goal other r first e is =
      answer_of parts old new other (at_first tried old.goals) r
      (e ∙ sym (at_goal old.goals goal first)) is

-- two things, one after the other
pub both_first : (one other : Equation → Tried Next) (goals : List Equation) →
    first_applying (at_first one goals ∷ at_first other goals ∷ []) ≡
    at_first (λ goal. first_applying (one goal ∷ other goal ∷ [])) goals
both_first one other [] = refl
both_first one other (goal ∷ goals) = refl

module _ (parts : RuleParts) (old mid : State) (one : Equation → Tried Next)
    (other : State → Equation → Tried Next) (t : Trial)
    (is : IsTrial parts old mid (at_first one old.goals) t) where
  abbrev both : Tried Next
  both = at_first (λ goal. first_applying (one goal ∷ other old goal ∷ [])) old.goals

  -- the first is taken
  pub first_of_both : (same : Trial) → IsUntaken t (Err same) → IsTrial parts old mid both same
  first_of_both same e =
      trial_of parts old mid _ both same (both_first one (other old) old.goals)
      (taken_first parts old mid (at_first one old.goals) t is (at_first (other old) old.goals) same
      e)

  -- it isn't, and the second decides
  pub second_of_both : (u v : Trial) (new : State) (noted : Bool) → IsUntaken t (Ok noted) →
      IsTrial parts mid new (at_first (other mid) mid.goals) u → v ≡
      record { taken = u.taken; noted = noted || u.noted }
      → IsTrial parts old new both v
  second_of_both u v new noted e more same =
      trial_of parts old new _ both v (both_first one (other old) old.goals)
      (untaken_second parts old mid (at_first one old.goals) t is
      (λ s. at_first (other s) s.goals) u v new noted e more same)

-- ---- what is found at the first goal

module _ (parts : RuleParts) (old : State) (tried : Tried Next) where
  -- its step is taken
  pub found_taken : (found : Found) (ready : Ready) (new : State) (t u : Trial) →
      found.ready ≡ Some ready → new ≡ taken old ready.made →
      t ≡ record { taken = Some ready.step; noted = false } →
      u ≡ record { taken = t.taken; noted = found.noted || t.noted } →
      IsFound parts old tried found → IsTrial parts old new tried u
  found_taken found ready new t u is same taken_so after is_found =
      let gives : Gives parts old tried.made (Some ready) =
      subst (λ o. Gives parts old tried.made o) is is_found.gives in
      let whole : u ≡ record { taken = Some ready.step; noted = found.noted || false } =
      after ∙ ap (λ (x : Trial).
      let v : Trial = record { taken = x.taken; noted = found.noted || x.noted } in v) taken_so in
      subst (λ x. IsTrial parts old new tried x) (sym whole)
      (subst (λ n. IsTrial parts old n tried
      (record { taken = Some ready.step; noted = found.noted || false })) (sym same)
      (record { noted = or_false found.noted ∙ is_found.noted; taken = gives }))

  -- there is none
  pub found_untaken : (found : Found) (u : Trial) → found.ready ≡ None →
      u ≡ record { taken = None; noted = found.noted } →
      IsFound parts old tried found → IsTrial parts old old tried u
  found_untaken found u is none is_found =
      let gives : Gives parts old tried.made None =
      subst (λ o. Gives parts old tried.made o) is is_found.gives in
      subst (λ x. IsTrial parts old old tried x) (sym none)
      (record { noted = is_found.noted; taken = (gives, refl) })

-- what is found at the first goal, once it is taken
pub found_answer : {E : Type 0} (at : State → Tried Next) (parts : RuleParts) (old new : State)
    (goal : Equation) (tried : Equation → Tried Next) (found : Found) (r : Result Trial E) →
    Some goal ≡ slice_get old.goals 0 → at old ≡ tried goal → IsFoundAt parts goal at found →
    IfOk r (λ t. (ps : RuleParts) (tr : Tried Next) → IsFound ps old tr found →
    IsTrial ps old new tr t) →
    IfOk r (IsTrial parts old new (at_first tried old.goals))
found_answer at parts old new goal tried found (Ok t) first same is taken_so =
    trial_of parts old new (tried goal) _ t (sym (at_goal tried old.goals goal first))
    (taken_so parts (tried goal) (subst (λ x. IsFound parts old x found) same (is old first)))
found_answer at parts old new goal tried found (Err e) first same is taken_so = tt
