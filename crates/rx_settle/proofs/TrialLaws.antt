-- Trials one after the other: the first that takes a step decides, with what was noted before.
use Rattle.std.specs.Prelude.{IfOk, Result, Ok, Err, is_some}
use Rattle.std.proofs.Common.{◌≡◌, ◌∙◌, ap, subst, sym, refl, Bool, true, false, ◌||◌, Option, Some, None, [], ◌∷◌}
use Rattle.rx_solve.specs.Attempts.{Tried, beyond, fails, first_applying, made_or}
use Rattle.rx_term.specs.declared.rule_set.RuleParts.{RuleParts}
use Rattle.rx_inference.specs.States.{State}
use Rattle.rx_inference.specs.declared.step.Step.{Step}
use Rattle.rx_settle.specs.Answers.{IsTrial, Takes}
use Rattle.rx_moves.specs.Trying.{Next, noting}
use Rattle.rx_settle.specs.Untaken.{IsUntaken}
use Rattle.rx_settle.specs.declared.trial.Trial.{Trial}
use Rattle.rx_moves.proofs.TriedLaws.{none_by, one_tried, some_by}

module _ (parts : RuleParts) (old mid : State) (first : Tried Next) (t : Trial)
    (is : IsTrial parts old mid first t) where
  taken_by : (o : Option Step) → t.taken ≡ o → Takes parts old mid first.made o
  taken_by o e = subst (λ x. Takes parts old mid first.made x) e is.taken

  -- no step was taken: the state is as before
  pub same_state : t.taken ≡ None → mid ≡ old
  same_state e = (taken_by None e).1

  pub none_made : t.taken ≡ None → first.made ≡ None
  none_made e = (taken_by None e).0

  -- a step was taken: what comes later isn't tried
  pub first_takes : (later : Tried Next) (step : Step) → t.taken ≡ Some step →
      IsTrial parts old mid (made_or first.made first.noted later) t
  first_takes later step e =
      let made = (taken_by (Some step) e).0 in
      let whole : made_or first.made first.noted later ≡ first =
      ap (λ m. made_or m first.noted later) made ∙
      sym (ap (λ m. let u : Tried Next = record { made = m; noted = first.noted } in u) made) in
      subst (λ x. IsTrial parts old mid x t) (sym whole) is

  -- no step was: what comes later decides
  pub later_takes : (later : Tried Next) (u : Trial) (new : State) → t.taken ≡ None →
      IsTrial parts old new later u
      → IsTrial parts old new (made_or first.made first.noted later)
      (record { taken = u.taken; noted = t.noted || u.noted })
  later_takes later u new e more =
      let whole : made_or first.made first.noted later ≡ noting t.noted later =
      ap (λ m. made_or m first.noted later) (none_made e) ∙
      ap (λ n. noting n later) (sym is.noted) in
      subst (λ x. IsTrial parts old new x (record { taken = u.taken; noted = t.noted || u.noted }))
      (sym whole)
      (record { noted = ap (λ n. t.noted || n) more.noted; taken = more.taken })

  -- the same of what is tried at the state then
  pub then_takes : (later : State → Tried Next) (u : Trial) (new : State) → t.taken ≡ None →
      IsTrial parts mid new (later mid) u
      → IsTrial parts old new (made_or first.made first.noted (later old))
      (record { taken = u.taken; noted = t.noted || u.noted })
  then_takes later u new e more =
      later_takes (later old) u new e (subst (λ s. IsTrial parts s new (later s) u) (same_state e)
      more)

-- ---- two things

module _ (parts : RuleParts) (old mid : State) (first : Tried Next) (t : Trial)
    (is : IsTrial parts old mid first t) where
  -- the first is taken
  pub two_first : (second : Tried Next) → is_some t.taken ≡ true →
      IsTrial parts old mid (first_applying (first ∷ second ∷ [])) t
  two_first second e =
      let some = some_by t.taken e in first_takes parts old mid first t is
      (first_applying (second ∷ [])) some.0 some.1

  -- it isn't, and the second decides
  pub two_second : (second : State → Tried Next) (u : Trial) (new : State) → is_some t.taken ≡
      false → IsTrial parts mid new (second mid) u
      → IsTrial parts old new (first_applying (first ∷ second old ∷ []))
      (record { taken = u.taken; noted = t.noted || u.noted })
  two_second second u new e more =
      then_takes parts old mid first t is (λ s. first_applying (second s ∷ [])) u new
      (none_by t.taken e)
      (subst (λ x. IsTrial parts mid new x u) (sym (one_tried (second mid))) more)

module _ (parts : RuleParts) (old mid : State) (first : Tried Next) (t : Trial)
    (is : IsTrial parts old mid first t) where
  -- the same where it is known separately whether a step is taken
  pub taken_first : (second : Tried Next) (same : Trial) → IsUntaken t (Err same) →
      IsTrial parts old mid (first_applying (first ∷ second ∷ [])) same
  taken_first second same e =
      subst (λ x. IsTrial parts old mid (first_applying (first ∷ second ∷ [])) x) (sym e.0)
      (two_first parts old mid first t is second
      (sym (ap (λ (x : Trial). is_some x.taken) e.0) ∙ e.1))

  untaken_none : (noted : Bool) → IsUntaken t (Ok noted) → is_some t.taken ≡ false
  untaken_none noted e = ap (λ (x : Trial). is_some x.taken) e

  pub untaken_second : (second : State → Tried Next) (u v : Trial) (new : State) (noted : Bool) →
      IsUntaken t (Ok noted) → IsTrial parts mid new (second mid) u → v ≡
      record { taken = u.taken; noted = noted || u.noted }
      → IsTrial parts old new (first_applying (first ∷ second old ∷ [])) v
  untaken_second second u v new noted e more same =
      let whole = two_second parts old mid first t is second u new (untaken_none noted e) more in
      let equal : record { taken = u.taken; noted = t.noted || u.noted } ≡ v =
      ap (λ (x : Trial). let w : Trial = record { taken = u.taken; noted = x.noted || u.noted }
      in w) e ∙ sym same in
      subst (λ x. IsTrial parts old new (first_applying (first ∷ second old ∷ [])) x) equal whole

  pub untaken_same : (noted : Bool) → IsUntaken t (Ok noted) → mid ≡ old
  untaken_same noted e =
      same_state parts old mid first t is (none_by t.taken (untaken_none noted e))

-- the same trial of equal things
pub trial_of : (parts : RuleParts) (old new : State) (tried other : Tried Next) (t : Trial) →
    tried ≡ other → IsTrial parts old new tried t → IsTrial parts old new other t
trial_of parts old new tried other t e is = subst (λ x. IsTrial parts old new x t) e is

-- nothing applies
pub failed_trial : (parts : RuleParts) (old : State) (tried : Tried Next) (t : Trial) → tried ≡
    fails → t ≡ record { taken = None; noted = false } → IsTrial parts old old tried t
failed_trial parts old tried t e is =
    subst (λ u. IsTrial parts old old tried u) (sym is)
    (record {
      noted = sym (ap (λ (x : Tried Next). x.noted) e);
      taken =
          (ap (λ (x : Tried Next). x.made) e, refl);
    })

-- something passes the limits
pub beyond_trial : (parts : RuleParts) (old : State) (tried : Tried Next) (t : Trial) → tried ≡
    beyond → t ≡ record { taken = None; noted = true } → IsTrial parts old old tried t
beyond_trial parts old tried t e is =
    subst (λ u. IsTrial parts old old tried u) (sym is)
    (record {
      noted = sym (ap (λ (x : Tried Next). x.noted) e);
      taken =
          (ap (λ (x : Tried Next). x.made) e, refl);
    })

-- the same answer under a test
pub answer_of : {E : Type 0} (parts : RuleParts) (old new : State) (tried other : Tried Next)
    (r : Result Trial E) → tried ≡ other → IfOk r (IsTrial parts old new tried) →
    IfOk r (IsTrial parts old new other)
answer_of parts old new tried other (Ok t) e is = trial_of parts old new tried other t e is
answer_of parts old new tried other (Err x) e is = tt
