-- What comes of a hypothesis on a side: what comes of it at its only place there.
use Rattle.std.proofs.Common.{◌≡◌, ◌≢◌, ◌∙◌, ap, subst, sym, refl, ℕ, zero, suc, ◌+◌, ◌<◌, Bool, true, false, Option, Some, None, Ok, Err, List, arith}
use Rattle.std.specs.Prelude.{◌↔◌, IfOk, Result, map, slice_get}
use Rattle.std.specs.List.{range_with_len}
use Rattle.std.specs.Option.{option_map_or}
use Rattle.rx_poly.specs.declared.body.Body.{Body}
use Rattle.rx_fm.specs.declared.fm_end.FmEnd.{FmEnd}
use Rattle.rx_fm.specs.declared.fm_end.FmEnd.TheVariants as fm_end
use Rattle.rx_solve.specs.Attempts.{Tried, applies, beyond, fails, first_applying, made_or}
use Rattle.rx_term.specs.Stacks.{depth_of}
use Rattle.rx_term.specs.declared.rule.Equation.{Equation}
use Rattle.rx_term.specs.declared.rule.Rule.{Rule}
use Rattle.rx_term.specs.declared.rule_set.RuleParts.{RuleParts}
use Rattle.rx_inference.specs.Pieces.{side_of}
use Rattle.rx_inference.specs.States.{State}
use Rattle.rx_inference.specs.declared.step.Side.{Side}
use Rattle.rx_match.specs.Matching.{is_place}
use Rattle.rx_match.specs.Uses.{UseAnswers}
use Rattle.rx_match.specs.declared.finding.Use.{Use}
use Rattle.rx_match.proofs.PlaceLaws.{place_is}
use Rattle.rx_match.proofs.UseLaws.{no_use_beside_elsewhere, no_use_elsewhere}
use Rattle.rx_settle.specs.Answers.{IsTrial}
use Rattle.rx_settle.specs.AtFirst.{at_first, using_number}
use Rattle.rx_settle.specs.Candidates.{IsCandidate, IsCandidateAt, IsCandidateFor, IsCandidateOf, candidate_tried}
use Rattle.rx_moves.specs.Moves.{Hyp}
use Rattle.rx_moves.specs.Trying.{Next, attempt, then_try}
use Rattle.rx_settle.specs.Uses.{use_by, using_at, using_on}
use Rattle.rx_settle.specs.declared.uses.Candidate.{Candidate}
use Rattle.rx_settle.specs.declared.uses.Candidate.TheVariants as candidate
use Rattle.rx_settle.specs.declared.uses.Matcher.{Matcher}
use Rattle.rx_settle.specs.declared.uses.Matching.{Matching}
use Rattle.rx_settle.specs.declared.uses.Matching.TheVariants.{PartAlone, BothSides}
use Rattle.rx_settle.specs.declared.trial.Trial.{Trial}
use Rattle.rx_settle.proofs.FirstLaws.{at_goal, at_none}
use Rattle.rx_moves.proofs.TriedLaws.{nothing_noted, one_tried}
use Rattle.rx_settle.proofs.TrialLaws.{answer_of, beyond_trial, failed_trial}

-- ---- one place of many

-- what fails changes nothing
failing_first : (first later : Tried Next) → first ≡ fails → made_or first.made first.noted later ≡
    later
failing_first first later e =
    ap (λ (t : Tried Next). made_or t.made t.noted later) e ∙ nothing_noted later

-- what comes before nothing that applies
alone : (first later : Tried Next) → later ≡ fails → made_or first.made first.noted later ≡ first
alone first later e = ap (made_or first.made first.noted) e ∙ one_tried first

module _ (f : ℕ → Tried Next) where
  -- none applies
  pub none_applies : (n from : ℕ) → ((i : ℕ) → f i ≡ fails) →
      first_applying (map f (range_with_len from n)) ≡ fails
  none_applies zero from none = refl
  none_applies (suc n) from none =
      failing_first (f from) _ (none from) ∙ none_applies n (from + 1) none

  after_it : (n from place : ℕ) → place < from → ((i : ℕ) → i ≢ place → f i ≡ fails) →
      first_applying (map f (range_with_len from n)) ≡ fails
  after_it zero from place past others = refl
  after_it (suc n) from place past others =
      let here : from ≢ place = λ e. omega arith in
      let beyond_it : place < from + 1 = omega arith in
      failing_first (f from) _ (others from here) ∙ after_it n (from + 1) place beyond_it others

  -- one alone may apply
  pub one_applies : (k n from place : ℕ) → from + k ≡ place → k < n →
      ((i : ℕ) → i ≢ place → f i ≡ fails) → first_applying (map f (range_with_len from n)) ≡ f place
  one_applies k zero from place e h others = absurd (omega arith)
  one_applies zero (suc n) from place e h others =
      let same : from ≡ place = omega arith in
      let past : place < from + 1 = omega arith in
      alone (f from) _ (after_it n (from + 1) place past others) ∙ ap f same
  one_applies (suc k) (suc n) from place e h others =
      let here : from ≢ place = λ same. omega arith in
      let there : (from + 1) + k ≡ place = omega arith in
      let within : k < n = omega arith in
      failing_first (f from) _ (others from here) ∙
      one_applies k n (from + 1) place there within others

-- ---- what comes of a use

module _ (place : ℕ) (tried : Tried (List (ℕ × Body))) (r : Result (Option Use) FmEnd)
    (of : UseAnswers tried r) where
  -- what comes of it, by what comes of the use
  by_use : (other : Tried (List (ℕ × Body))) → tried ≡ other → (parts : RuleParts)
      (state : State) (number : ℕ) (side : Side) →
      then_try tried (λ subst. attempt parts state (Hyp side place number subst)) ≡
      then_try other (λ subst. attempt parts state (Hyp side place number subst))
  by_use other e parts state number side =
      ap (λ (t : Tried (List (ℕ × Body))). then_try t
      (λ subst. attempt parts state (Hyp side place number subst))) e

  pub for_use : (u : Use) → r ≡ Ok (Some u) →
      IsCandidateFor tried place (candidate.Use place u.subst)
  for_use u is parts state number side =
      by_use (applies u.subst) (subst (λ x. UseAnswers tried x) is of) parts state number side
      ∙ nothing_noted (attempt parts state (Hyp side place number u.subst))

  pub for_no_use : r ≡ Ok None → IsCandidateFor tried place candidate.Fails
  for_no_use is parts state number side =
      by_use fails (subst (λ x. UseAnswers tried x) is of) parts state number side

  for_large : (e : FmEnd) → r ≡ Err e → e ≡ fm_end.Large →
      IsCandidateFor tried place candidate.TooLarge
  for_large e is same parts state number side =
      let large : e ≡ fm_end.Large → tried ≡ beyond = subst (λ x. UseAnswers tried x) is of in
      by_use beyond (large same) parts state number side

  pub for_end : {E : Type 0} (e : FmEnd) (found : Result Candidate E) → r ≡ Err e →
      IfOk found (λ c. e ≡ fm_end.Large) → IfOk found (λ c. c ≡ candidate.TooLarge) →
      IfOk found (IsCandidateFor tried place)
  for_end e (Ok c) is large same =
      subst (λ (d : Candidate). IsCandidateFor tried place d) (sym same) (for_large e is large)
  for_end e (Err x) is large same = tt

-- ---- at a place

module _ (by : Matcher) (goal : Equation) (hypothesis : Rule) (side : Side) (place : ℕ) where
  -- it is what comes of the use
  pub at_answer : {E : Type 0} (how : Matching) (r : Result Candidate E) → by.how ≡ how →
      IfOk r (IsCandidateFor (use_by how by.rules.now goal hypothesis side place) place) →
      IfOk r (IsCandidateAt by goal hypothesis side place)
  at_answer how (Ok c) same of = λ state number.
      ap (λ (h : Matching). using_at by.rules.now state h goal number hypothesis side place) same
      ∙ of by.rules.now state number side
  at_answer how (Err e) same of = tt

  -- where the part hasn't the shape there is no use
  elsewhere : is_place goal hypothesis side place ≡ false →
      (state : State) (number : ℕ) →
      using_at by.rules.now state by.how goal number hypothesis side place ≡ fails
  elsewhere h state number =
      ap (λ (t : Tried (List (ℕ × Body))). then_try t
      (λ subst. attempt by.rules.now state (Hyp side place number subst))) (no_use by.how)
    where
      no_use : (how : Matching) → use_by how by.rules.now goal hypothesis side place ≡ fails
      no_use PartAlone = no_use_elsewhere goal hypothesis side place h
      no_use BothSides = no_use_beside_elsewhere goal hypothesis side place h by.rules.now

-- ---- on a side

module _ (by : Matcher) (goal : Equation) (hypothesis : Rule) (side : Side) (found : Option ℕ)
    (is : (place : ℕ) → (found ≡ Some place) ↔ (is_place goal hypothesis side place ≡ true)) where
  not_there : (place : ℕ) → (found ≡ Some place → ⊥) → is_place goal hypothesis side place ≡ false
  not_there place other = cases (is_place goal hypothesis side place) refl
    where
      cases : (b : Bool) → is_place goal hypothesis side place ≡ b →
          is_place goal hypothesis side place ≡ false
      cases true e = absurd (other ((is place).1 e))
      cases false e = e

  -- at no place
  pub on_no_place : found ≡ None → IsCandidate by goal hypothesis side candidate.Fails
  on_no_place none state number =
      none_applies (using_at by.rules.now state by.how goal number hypothesis side)
      (1 + depth_of (side_of side goal)) 0
      (λ i. elsewhere by goal hypothesis side i (not_there i (λ e. cc)) state number)

  -- at the only one
  pub on_place : (place : ℕ) (c : Candidate) → found ≡ Some place →
      IsCandidateAt by goal hypothesis side place c → IsCandidate by goal hypothesis side c
  on_place place c here at state number =
      let deep : depth_of (side_of side goal) ≡ place + depth_of hypothesis.left =
      place_is goal hypothesis side place ((is place).0 here) in
      let within : place < 1 + depth_of (side_of side goal) = omega arith in
      let whole : 0 + place ≡ place = omega arith in
      one_applies (using_at by.rules.now state by.how goal number hypothesis side) place
      (1 + depth_of (side_of side goal)) 0 place whole within
      (λ i other. elsewhere by goal hypothesis side i
      (not_there i (λ e. let same : Some place ≡ Some i = sym here ∙ e in other (cc))) state
      number)
      ∙ at state number

  pub on_place_answer : {E : Type 0} (place : ℕ) (r : Result Candidate E) → found ≡ Some place →
      IfOk r (IsCandidateAt by goal hypothesis side place) →
      IfOk r (IsCandidate by goal hypothesis side)
  on_place_answer place (Ok c) here at = on_place place c here at
  on_place_answer place (Err e) here at = tt

-- ---- at the first goal

module _ (by : Matcher) (state : State) (number : ℕ) (side : Side) where
  pub no_first : slice_get state.goals 0 ≡ None →
      IsCandidateOf by state number side candidate.Fails
  no_first none =
      at_none (using_number by.rules.now state by.how number side) state.goals none

  module _ (goal : Equation) (first : Some goal ≡ slice_get state.goals 0) where
    pub no_hypothesis : (list : List Rule) → list ≡ state.hypotheses → slice_get list number ≡
        None → IsCandidateOf by state number side candidate.Fails
    no_hypothesis list same none =
        at_goal (using_number by.rules.now state by.how number side) state.goals goal first
        ∙ ap (λ (o : Option Rule). option_map_or
        (λ (h : Rule). using_on by.rules.now state by.how goal number h side) o fails)
        (sym (ap (λ hs. slice_get hs number) same) ∙ none)

    pub of_hypothesis : (list : List Rule) (hypothesis : Rule) (c : Candidate) → list ≡
        state.hypotheses → Some hypothesis ≡ slice_get list number →
        IsCandidate by goal hypothesis side c → IsCandidateOf by state number side c
    of_hypothesis list hypothesis c same there on =
        at_goal (using_number by.rules.now state by.how number side) state.goals goal first
        ∙ ap (λ (o : Option Rule). option_map_or
        (λ (h : Rule). using_on by.rules.now state by.how goal number h side) o fails)
        (sym (there ∙ ap (λ hs. slice_get hs number) same))
        ∙ on state number

    pub of_answer : {E : Type 0} (list : List Rule) (hypothesis : Rule) (r : Result Candidate E) →
        list ≡ state.hypotheses → Some hypothesis ≡ slice_get list number →
        IfOk r (IsCandidate by goal hypothesis side) →
        IfOk r (IsCandidateOf by state number side)
    of_answer list hypothesis (Ok c) same there on = of_hypothesis list hypothesis c same there on
    of_answer list hypothesis (Err e) same there on = tt

-- ---- trials

module _ (by : Matcher) (old : State) (number : ℕ) (side : Side) (c : Candidate)
    (of : IsCandidateOf by old number side c) where
  abbrev tried_of : Tried Next
  tried_of = at_first (using_number by.rules.now old by.how number side) old.goals

  comes : (d : Candidate) → c ≡ d → tried_of ≡ candidate_tried by.rules.now old number side d
  comes d is = of ∙ ap (candidate_tried by.rules.now old number side) is

  pub use_fails : (t : Trial) → c ≡ candidate.Fails →
      t ≡ record { taken = None; noted = false } → IsTrial by.rules.now old old tried_of t
  use_fails t is same = failed_trial by.rules.now old _ t (comes candidate.Fails is) same

  pub use_beyond : (t : Trial) → c ≡ candidate.TooLarge →
      t ≡ record { taken = None; noted = true } → IsTrial by.rules.now old old tried_of t
  use_beyond t is same = beyond_trial by.rules.now old _ t (comes candidate.TooLarge is) same

  pub use_tried : {E : Type 0} (place : ℕ) (ws : List (ℕ × Body)) (new : State)
      (r : Result Trial E) → c ≡ candidate.Use place ws
      → IfOk r (IsTrial by.rules.now old new
      (attempt by.rules.now old (Hyp side place number ws))) →
      IfOk r (IsTrial by.rules.now old new tried_of)
  use_tried place ws new r is tried =
      answer_of by.rules.now old new (attempt by.rules.now old (Hyp side place number ws)) _ r
      (sym (comes (candidate.Use place ws) is)) tried
