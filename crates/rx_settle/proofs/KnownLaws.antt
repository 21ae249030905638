-- The items before hypotheses look at the first goal alone: what comes of them where it is alone
-- comes of them at each state that begins with it.
use Rattle.std.proofs.Common.{◌≡◌, ◌∙◌, ap, subst, sym, refl, ℕ, ◌+◌, ◌||◌, Bool, true, false, ◌⊎◌, inl, inr, Option, Some, None, Ok, Err, List, [], ◌∷◌, ◌++◌}
use Rattle.std.specs.Prelude.{Result, if◌then◌else◌, is_some, slice_get}
use Rattle.std.proofs.lemmas.List.{append-nil}
use Rattle.rx_cert.specs.Findings.{Said, Yes, No, Beyond}
use Rattle.rx_solve.specs.Attempts.{Tried, fails, first_applying, made_or, where_shown}
use Rattle.rx_term.specs.declared.rule.Equation.{Equation}
use Rattle.rx_term.specs.declared.rule.Rule.{Rule}
use Rattle.rx_term.specs.declared.rule_set.RuleParts.{RuleParts}
use Rattle.rx_term.specs.declared.term.Sym.{Sym}
use Rattle.rx_term.specs.declared.term.Term.{Term}
use Rattle.rx_term.specs.Stacks.{suffix_at}
use Rattle.rx_memo.specs.Kept.{IsKept, IsThat}
use Rattle.rx_memo.specs.declared.goal_memo.Kept.{Kept}
use Rattle.rx_memo.proofs.Buckets.{nothing_kept}
use Rattle.rx_inference.specs.Forming.{Forming, found_or, limited, provided, ◌>>=◌}
use Rattle.rx_inference.specs.Judging.{StepFault, Judgement, certificates, first_rows, judged}
use Rattle.rx_inference.specs.Judging as judging
use Rattle.rx_inference.specs.Kinds.{formed}
use Rattle.rx_inference.specs.Making.{hypothesis_with, used_by}
use Rattle.rx_inference.specs.Pieces.{have_one_shape, is_substitution, side_of}
use Rattle.rx_inference.specs.States.{State, applied, carried_out, taken, taken_if}
use Rattle.rx_inference.specs.declared.form_end.FormEnd.TheVariants as form_end
use Rattle.rx_inference.specs.declared.formed_step.FormedStep.{FormedStep}
use Rattle.rx_inference.specs.declared.step.Side.{Side}
use Rattle.rx_inference.specs.declared.step.Side.TheVariants.{Left, Right}
use Rattle.rx_inference.specs.declared.step.Step.{Step}
use Rattle.rx_inference.specs.declared.step.Step.TheVariants as step
use Rattle.rx_lemma.specs.Naming.{naming_of}
use Rattle.rx_lemma.specs.Lemmas.{Generalisation}
use Rattle.rx_steps.specs.Alone.{alone, onto}
use Rattle.rx_settle.specs.Answers.{IsTrial, Takes}
use Rattle.rx_settle.specs.AtFirst.{at_first, before_uses, deleting}
use Rattle.rx_moves.specs.Unfolding.{leaving_sides, unfolding_sides}
use Rattle.rx_settle.specs.Known.{AreKnown, IsKnown, lifted, next_onto, tried_alone}
use Rattle.rx_moves.specs.Moves.{Absurd, Equal, Expand, Generalise, Move, Simplify, move_of, step_of}
use Rattle.rx_settle.specs.Settling.{named}
use Rattle.rx_moves.specs.Unfolding.{by_rules, is_at_loop_point, is_tried, leaving_at, redex_symbol, simplifying, unfolding_at}
use Rattle.rx_moves.specs.Trying.{Next, asked_shown, attempt, next_if_formed, then_by}
use Rattle.rx_settle.specs.declared.known.Known.{Known}
use Rattle.rx_settle.specs.declared.trial.Trial.{Trial}
use Rattle.rx_moves.proofs.TriedLaws.{none_by, some_by}

module _ (parts : RuleParts) (goal : Equation) (goals : List Equation) (hypotheses : List Rule) where
  abbrev pub state : State
  state = record { goals = goal ∷ goals; hypotheses = hypotheses }

  -- ---- one move

  abbrev next_of : Move → FormedStep → List Equation → Next
  next_of move f gs = record {
    move = move;
    state = record { goals = gs ++ goals; hypotheses = hypotheses ++ f.kept };
  }

  formed_lifted : (move : Move) (x : Forming FormedStep) → next_if_formed state move x ≡
      lifted state (next_if_formed (alone goal) move x)
  formed_lifted move (Ok f) = by (asked_shown goal.rows (first_rows f.goals) f.asked)
    where
      by : (said : Said) → where_shown said (record { move = move; state = taken state f }) ≡
          lifted state (where_shown said (record { move = move; state = taken (alone goal) f }))
      by Yes =
          ap (λ gs. let t : Tried Next = record { made = Some (next_of move f gs); noted = false } in t)
          (sym (append-nil f.goals))
      by No = refl
      by Beyond = refl
  formed_lifted move (Err form_end.Large) = refl
  formed_lifted move (Err form_end.NoGoal) = refl
  formed_lifted move (Err form_end.WrongShape) = refl
  formed_lifted move (Err form_end.NoSuchRule) = refl
  formed_lifted move (Err form_end.NoMemory) = refl

  -- the move is formed without hypotheses as with them
  pub attempt_lifted : (move : Move) → formed parts (Some goal) hypotheses (step_of move) ≡
      formed parts (Some goal) [] (step_of move) → attempt parts state move ≡
      lifted state (attempt parts (alone goal) move)
  unfolding attempt
  attempt_lifted move same =
      ap (next_if_formed state move) same ∙
      formed_lifted move (formed parts (Some goal) [] (step_of move))

  -- ---- things in order

  made_lifted : (t u later other : Tried Next) → t ≡ lifted state u → later ≡ lifted state other →
      made_or t.made t.noted later ≡ lifted state (made_or u.made u.noted other)
  made_lifted t u later other e f =
      ap (λ (x : Tried Next). made_or x.made x.noted later) e
      ∙ ap (λ (x : Tried Next). made_or (next_onto state u.made) u.noted x) f
      ∙ by u.made u.noted
    where
      by : (m : Option Next) (n : Bool) → made_or (next_onto state m) n (lifted state other) ≡
          lifted state (made_or m n other)
      by None n = refl
      by (Some x) n = refl

  one_lifted : (t u : Tried Next) → t ≡ lifted state u → first_applying (t ∷ []) ≡
      lifted state (first_applying (u ∷ []))
  one_lifted t u e = made_lifted t u fails fails e refl

  both_lifted : (t u other more : Tried Next) → t ≡ lifted state u → other ≡ lifted state more →
      first_applying (t ∷ other ∷ []) ≡ lifted state (first_applying (u ∷ more ∷ []))
  both_lifted t u other more e f =
      made_lifted t u (first_applying (other ∷ [])) (first_applying (more ∷ [])) e
      (one_lifted other more f)

  either_lifted : (b : Bool) (t u other more : Tried Next) → t ≡ lifted state u → other ≡
      lifted state more → (if b then t else other) ≡ lifted state (if b then u else more)
  either_lifted true t u other more e f = e
  either_lifted false t u other more e f = f

  -- ---- the items

  deleting_lifted : deleting parts state ≡ lifted state (deleting parts (alone goal))
  deleting_lifted =
      both_lifted (attempt parts state Absurd) (attempt parts (alone goal) Absurd)
      (attempt parts state Equal) (attempt parts (alone goal) Equal) (attempt_lifted Absurd refl)
      (attempt_lifted Equal refl)

  -- a rule before others, where it is tried
  abbrev with_rule : State → Side → Option Sym → ℕ → List Rule → Bool → List (Tried Next)
  with_rule s side from n rules b =
      if b then attempt parts s (Simplify side n) ∷ by_rules parts s side from (n + 1) rules
      else by_rules parts s side from (n + 1) rules

  rules_lifted : (side : Side) (from : Option Sym) (n : ℕ) (rules : List Rule) →
      first_applying (by_rules parts state side from n rules) ≡
      lifted state (first_applying (by_rules parts (alone goal) side from n rules))
  rules_lifted side from n [] = refl
  rules_lifted side from n (rule ∷ rules) =
      by (is_tried parts from rule) (rules_lifted side from (n + 1) rules)
    where
      by : (b : Bool) → first_applying (by_rules parts state side from (n + 1) rules) ≡
          lifted state (first_applying (by_rules parts (alone goal) side from (n + 1) rules))
          → first_applying (with_rule state side from n rules b) ≡
          lifted state (first_applying (with_rule (alone goal) side from n rules b))
      by true others =
          made_lifted (attempt parts state (Simplify side n))
          (attempt parts (alone goal) (Simplify side n))
          (first_applying (by_rules parts state side from (n + 1) rules))
          (first_applying (by_rules parts (alone goal) side from (n + 1) rules))
          (attempt_lifted (Simplify side n) refl) others
      by false others = others

  unfolding_lifted : (side : Side) → unfolding_at parts state side (redex_symbol side goal) ≡
      lifted state (unfolding_at parts (alone goal) side (redex_symbol side goal))
  unfolding_lifted side =
      either_lifted (is_at_loop_point parts (redex_symbol side goal)) fails fails
      (first_applying (simplifying parts state side None ∷
      attempt parts state (Expand side false) ∷ []))
      (first_applying (simplifying parts (alone goal) side None ∷
      attempt parts (alone goal) (Expand side false) ∷ []))
      refl
      (both_lifted (simplifying parts state side None) (simplifying parts (alone goal) side None)
      (attempt parts state (Expand side false)) (attempt parts (alone goal) (Expand side false))
      (rules_lifted side None 0 parts.rules) (attempt_lifted (Expand side false) refl))

  leaving_lifted : (side : Side) → leaving_at parts state side (redex_symbol side goal) ≡
      lifted state (leaving_at parts (alone goal) side (redex_symbol side goal))
  leaving_lifted side =
      let redex = redex_symbol side goal in
      either_lifted (is_at_loop_point parts redex) (simplifying parts state side redex)
      (simplifying parts (alone goal) side redex) fails fails
      (rules_lifted side redex 0 parts.rules) refl

  abbrev name_with : State → Generalisation → Tried Next
  name_with s lemma = attempt parts s (Generalise lemma.goal lemma.subst)

  named_lifted : named parts state goal ≡ lifted state (named parts (alone goal) goal)
  named_lifted = by (naming_of parts goal).made
    where
      by : (o : Option Generalisation) → then_by o (naming_of parts goal).noted (name_with state) ≡
          lifted state (then_by o (naming_of parts goal).noted (name_with (alone goal)))
      by None = refl
      by (Some lemma) =
          ap (λ (t : Tried Next). let u : Tried Next = record {
            made = t.made;
            noted = (naming_of parts goal).noted || t.noted;
          } in u) (attempt_lifted (Generalise lemma.goal lemma.subst) refl)

  unfoldings_lifted : unfolding_sides parts state goal ≡
      lifted state (unfolding_sides parts (alone goal) goal)
  unfoldings_lifted =
      both_lifted (unfolding_at parts state Left (redex_symbol Left goal))
      (unfolding_at parts (alone goal) Left (redex_symbol Left goal))
      (unfolding_at parts state Right (redex_symbol Right goal))
      (unfolding_at parts (alone goal) Right (redex_symbol Right goal)) (unfolding_lifted Left)
      (unfolding_lifted Right)

  leavings_lifted : leaving_sides parts state goal ≡
      lifted state (leaving_sides parts (alone goal) goal)
  leavings_lifted =
      both_lifted (leaving_at parts state Left (redex_symbol Left goal))
      (leaving_at parts (alone goal) Left (redex_symbol Left goal))
      (leaving_at parts state Right (redex_symbol Right goal))
      (leaving_at parts (alone goal) Right (redex_symbol Right goal)) (leaving_lifted Left)
      (leaving_lifted Right)

  -- all four
  pub before_lifted : before_uses parts state goal ≡ lifted state (tried_alone parts goal)
  unfolding tried_alone
  before_lifted =
      let one = alone goal in
      let names = first_applying (named parts one goal ∷ []) in
      let leaves = first_applying (leaving_sides parts one goal ∷ named parts one goal ∷ []) in
      let unfolds = first_applying (unfolding_sides parts one goal ∷ leaving_sides parts one goal ∷
      named parts one goal ∷ []) in
      made_lifted (deleting parts state) (deleting parts one)
      (first_applying (unfolding_sides parts state goal ∷ leaving_sides parts state goal ∷
      named parts state goal ∷ []))
      unfolds deleting_lifted
      (made_lifted (unfolding_sides parts state goal) (unfolding_sides parts one goal)
      (first_applying (leaving_sides parts state goal ∷ named parts state goal ∷ []))
      leaves unfoldings_lifted
      (made_lifted (leaving_sides parts state goal) (leaving_sides parts one goal)
      (first_applying (named parts state goal ∷ []))
      names leavings_lifted
      (one_lifted (named parts state goal) (named parts one goal) named_lifted)))

  -- ---- one step

  -- without hypotheses none is used
  none_used : (o : Option Term) (b : Bool) (next : Term → Rule → Forming FormedStep)
      (f : FormedStep) → (found_or form_end.WrongShape o >>= (λ part.
      provided b (Err form_end.NoSuchRule) >>= next part)) ≡ Ok f → ⊥
  none_used None b next f e = cc
  none_used (Some part) true next f e = cc
  none_used (Some part) false next f e = cc

  -- so what is formed without hypotheses is formed with them
  formed_more : (s : Step) (f : FormedStep) → formed parts (Some goal) [] s ≡ Ok f →
      formed parts (Some goal) hypotheses s ≡ Ok f
  formed_more (step.Simplify side rule certs) f e = e
  formed_more (step.Hyp side place hyp ws certs) f e =
      absurd (none_used (suffix_at place (side_of side goal)) (is_substitution ws)
      (λ part hypothesis. provided (have_one_shape part hypothesis.left) (limited
      (used_by goal side place (hypothesis_with ws part hypothesis)))) f e)
  formed_more (step.Expand side keep) f e = e
  formed_more (step.Delete by) f e = e
  formed_more step.EqDelete f e = e
  formed_more (step.Generalise left right rows ws certs) f e = e
  formed_more (step.Postulate left right rows certs) f e = e
  formed_more (step.Split row) f e = e
  formed_more (step.Decompose certs) f e = e
  formed_more (step.Results left right certs) f e = e

  pub applied_lifted : (s : Step) (after : State) → applied parts (alone goal) s ≡ Ok after →
      applied parts state s ≡ Ok (onto state after)
  applied_lifted s after e = by (formed parts (Some goal) [] s) refl e
    where
      judged_by : (f : FormedStep) (j : Judgement) → taken_if (alone goal) f j ≡ Ok after →
          taken_if state f j ≡ Ok (onto state after)
      judged_by f judging.Shown e =
          let same : taken (alone goal) f ≡ after = cc in
          ap (λ gs. let r : Result State StepFault = Ok (record {
            goals = gs ++ goals;
            hypotheses = hypotheses ++ f.kept;
          }) in r) (sym (append-nil f.goals))
          ∙ ap (λ a. let r : Result State StepFault = Ok (onto state a) in r) same
      judged_by f (judging.Fault fault) e = cc

      by : (x : Forming FormedStep) → formed parts (Some goal) [] s ≡ x →
          carried_out (alone goal) (certificates s) x ≡ Ok after →
          applied parts state s ≡ Ok (onto state after)
      by (Ok f) is e =
          ap (carried_out state (certificates s)) (formed_more s f is)
          ∙ judged_by f (judged goal.rows (first_rows f.goals) f.asked (certificates s)) e
      by (Err end) is e = cc

  -- ---- a trial

  module _ (after : State) (t : Trial)
      (is : IsTrial parts (alone goal) after (tried_alone parts goal) t) where
    noted_lifted : t.noted ≡ (before_uses parts state goal).noted
    noted_lifted = is.noted ∙ sym (ap (λ (x : Tried Next). x.noted) before_lifted)

    made_by : (o : Option Next) → (tried_alone parts goal).made ≡ o →
        (before_uses parts state goal).made ≡ next_onto state o
    made_by o e = ap (λ (x : Tried Next). x.made) before_lifted ∙ ap (next_onto state) e

    takes_by : (o : Option Step) → t.taken ≡ o →
        Takes parts (alone goal) after (tried_alone parts goal).made o
    takes_by o e =
        subst (λ x. Takes parts (alone goal) after (tried_alone parts goal).made x) e is.taken

    -- no step is taken
    unmade : t.taken ≡ None → IsTrial parts state state (before_uses parts state goal) t
    unmade e = record {
      noted = noted_lifted;
      taken = subst (λ o. Takes parts state state (before_uses parts state goal).made o) (sym e)
          (made_by None (takes_by None e).0, refl);
    }

    -- or one is
    made : (s : Step) → t.taken ≡ Some s →
        IsTrial parts state (onto state after) (before_uses parts state goal) t
    made s e =
        let takes = takes_by (Some s) e in
        record {
          noted = noted_lifted;
          taken = subst
              (λ o. Takes parts state (onto state after) (before_uses parts state goal).made o)
              (sym e) (
                made_by (Some (record { move = move_of s; state = after })) takes.0,
                record { applies = applied_lifted s after takes.1.applies; deep = takes.1.deep },
              );
        }

-- ---- a state that begins with the goal

module _ (parts : RuleParts) (goal : Equation) (after : State) (t : Trial)
    (is : IsTrial parts (alone goal) after (tried_alone parts goal) t) (old : State)
    (first : Some goal ≡ slice_get old.goals 0) where
  abbrev old_with : List Equation → State
  old_with goals = record { goals = goals; hypotheses = old.hypotheses }

  abbrev IsTrialTo : List Equation → State → Type 0
  IsTrialTo goals new =
      IsTrial parts (old_with goals) new (at_first (before_uses parts (old_with goals)) goals) t

  -- no step is taken
  pub none_made : is_some t.taken ≡ false →
      IsTrial parts old old (at_first (before_uses parts old) old.goals) t
  none_made none = by old.goals first
    where
      by : (goals : List Equation) → Some goal ≡ slice_get goals 0 → IsTrialTo goals (old_with goals)
      by [] e = cc
      by (g ∷ gs) e =
          let same : goal ≡ g = cc in
          unmade parts g gs old.hypotheses after t
          (subst (λ x. IsTrial parts (alone x) after (tried_alone parts x) t) same is)
          (none_by t.taken none)

  -- or one is
  pub one_made : is_some t.taken ≡ true →
      IsTrial parts old (onto old after) (at_first (before_uses parts old) old.goals) t
  one_made some = by old.goals first
    where
      by : (goals : List Equation) → Some goal ≡ slice_get goals 0 →
          IsTrialTo goals (onto (old_with goals) after)
      by [] e = cc
      by (g ∷ gs) e =
          let same : goal ≡ g = cc in
          let found = some_by t.taken some in
          made parts g gs old.hypotheses after t
          (subst (λ x. IsTrial parts (alone x) after (tried_alone parts x) t) same is) found.0
          found.1

-- ---- what is known of a goal

-- the items where it is alone
pub found_alone : (parts : RuleParts) (goal : Equation) (start after : State) (t : Trial) → start ≡
    alone goal → IsTrial parts start after (at_first (before_uses parts start) start.goals) t →
    IsTrial parts (alone goal) after (tried_alone parts goal) t
unfolding tried_alone
found_alone parts goal start after t e is =
    subst (λ s. IsTrial parts s after (at_first (before_uses parts s) s.goals) t) e is

module _ (parts : RuleParts) (goal : Equation) (known : Known) (t : Trial)
    (same : t ≡ known.trial) (old new : State) (first : Some goal ≡ slice_get old.goals 0)
    (right : IsKnown parts goal known) where
  tried_so : IsTrial parts (alone goal) known.after (tried_alone parts goal) t
  tried_so =
      subst (λ x. IsTrial parts (alone goal) known.after (tried_alone parts goal) x)
      (sym same) right.trial

  abbrev IsTrialOf : State → Type 0
  IsTrialOf s = IsTrial parts old s (at_first (before_uses parts old) old.goals) t

  pub made_known : is_some t.taken ≡ true → new ≡ onto old known.after → IsTrialOf new
  made_known some e =
      subst IsTrialOf (sym e) (one_made parts goal known.after t tried_so old first some)

  pub unmade_known : is_some t.taken ≡ false → new ≡ old → IsTrialOf new
  unmade_known none e =
      subst IsTrialOf (sym e) (none_made parts goal known.after t tried_so old first none)

-- ---- a memo

-- where nothing is kept all is right
pub none_known : (parts : RuleParts) (memo : List (Kept Known)) → memo ≡ [] → AreKnown parts memo
none_known parts memo none = record { all = λ g v has. absurd (nothing_kept memo none g v has) }

-- it stays right, with what is right
pub still_known : (parts : RuleParts) (old new : List (Kept Known)) (goal at : Equation)
    (known kept : Known) → AreKnown parts old → IsKnown parts goal known → at ≡ goal → kept ≡
    known → ((g : Equation) (v : Known) → IsKept new g v → IsKept old g v ⊎ IsThat at kept g v)
    → AreKnown parts new
still_known parts old new goal at known kept right is here same more = record {
  all = λ g v has. elim (more g v has) [
    | inl before ↦ right.all g v before
    | inr that ↦
        subst (λ x. IsKnown parts x v) (sym (that.goal_is ∙ here))
        (subst (IsKnown parts goal) (sym (that.value_is ∙ same)) is)
  ];
}
