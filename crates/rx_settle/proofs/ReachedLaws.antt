-- Steps one after the other: appended, as a run, and behind which other goals stay; and what the
-- hypotheses of a state that they reach are like.
use Rattle.std.proofs.Common.{◌≡◌, ◌∙◌, Result, Ok, Err, Option, Some, None, List, [], ◌∷◌, ◌++◌, refl, sym, ap, subst, All, append_assoc}
use Rattle.std.proofs.lemmas.List.Elements.{All-append, All-nil}
use Rattle.rx_cert.specs.declared.cert.Cert.{Cert}
use Rattle.rx_term.specs.WellMade.{IsWellMade}
use Rattle.rx_term.specs.declared.rule.Equation.{Equation}
use Rattle.rx_term.specs.declared.rule.Rule.{Rule}
use Rattle.rx_term.specs.declared.rule_set.RuleParts.{RuleParts}
use Rattle.rx_inference.specs.Forming.{Forming}
use Rattle.rx_inference.specs.Judging.{Fault, Judgement, Shown, StepFault, certificates, first_rows, judged}
use Rattle.rx_inference.specs.Kinds.{formed}
use Rattle.rx_inference.specs.States.{State, applied, carried_out, taken, taken_if}
use Rattle.rx_inference.specs.declared.formed_step.FormedStep.{FormedStep}
use Rattle.rx_inference.specs.declared.step.Step.{Step}
use Rattle.rx_pairs.specs.Pairs.{HasRoot, SidesFit}
use Rattle.rx_proofs.specs.Goals.{IsFitting}
use Rattle.rx_proofs.specs.Runs.{NoStep, OneMore, Run}
use Rattle.rx_proofs.specs.Runs as joins
use Rattle.rx_proofs.proofs.Rooted.{run_rooted}
use Rattle.rx_proofs.proofs.Runs.{kept_hypotheses_fit}
use Rattle.rx_cert.specs.Depth.{cert_depth}
use Rattle.rx_solve.specs.Bounds.{most_deep}
use Rattle.rx_settle.specs.Answers.{AreDeep, after, after_all}
use Rattle.rx_settle.specs.Reached.{IsReachedBy}
use Rattle.std.specs.Prelude.{◌≤◌}

-- the certificates of a step are at most 174 deep
abbrev pub IsDeep : Step → Type 0
IsDeep step = All (λ (cert : Cert). cert_depth cert ≤ most_deep) (certificates step)

module _ (parts : RuleParts) where
  -- ---- more steps after those

  one_appended : (mid end : State) (xs ys : List Step) (answer : Result State StepFault)
      → ((next : State) → after_all parts next xs ≡ Ok mid → after_all parts next (xs ++ ys) ≡
      Ok end)
      → after answer (λ next. after_all parts next xs) ≡ Ok mid →
      after answer (λ next. after_all parts next (xs ++ ys)) ≡ Ok end
  one_appended mid end xs ys (Ok next) later e = later next e
  one_appended mid end xs ys (Err fault) later e = absurd cc

  pub after_append : (state mid end : State) (xs ys : List Step) → after_all parts state xs ≡
      Ok mid → after_all parts mid ys ≡ Ok end
      → after_all parts state (xs ++ ys) ≡ Ok end
  after_append state mid end [] ys first later =
      let same : state ≡ mid = cc in subst (λ s. after_all parts s ys ≡ Ok end) (sym same) later
  after_append state mid end (x ∷ xs) ys first later =
      one_appended mid end xs ys (applied parts state x)
      (λ next e. after_append next mid end xs ys e later) first

  -- one step alone
  pub after_only : (state end : State) (x : Step) → applied parts state x ≡ Ok end →
      after_all parts state (x ∷ []) ≡ Ok end
  after_only state end x applies =
      ap (λ answer. after answer (λ next. after_all parts next [])) applies

  -- one step more
  pub after_one : (state mid end : State) (xs : List Step) (x : Step) → after_all parts state xs ≡
      Ok mid → applied parts mid x ≡ Ok end
      → after_all parts state (xs ++ x ∷ []) ≡ Ok end
  after_one state mid end xs x first applies =
      after_append state mid end xs (x ∷ []) first (after_only mid end x applies)

  -- ---- a run

  module _ (end : State) where
    one_more : (state : State) (x : Step) (xs : List Step) (answer : Result State StepFault) →
        applied parts state x ≡ answer
        → ((next : State) → after_all parts next xs ≡ Ok end → Run parts end next)
        → after answer (λ next. after_all parts next xs) ≡ Ok end → Run parts end state
    one_more state x xs (Ok next) is later e = OneMore state next x is (later next e)
    one_more state x xs (Err fault) is later e = absurd cc

    pub runs : (state : State) (xs : List Step) → after_all parts state xs ≡ Ok end →
        Run parts end state
    runs state [] e = let same : state ≡ end = cc in subst (Run parts end) (sym same) NoStep
    runs state (x ∷ xs) e =
        one_more state x xs (applied parts state x) refl (λ next. runs next xs) e

  -- ---- other goals stay behind those that steps are made on

  module _ (others : List Equation) where
    abbrev pub before_others : State → State
    before_others state =
        record { goals = state.goals ++ others; hypotheses = state.hypotheses }

    taken_before : (goal : Equation) (goals : List Equation) (hypotheses : List Rule)
        (f : FormedStep) (end : State) (j : Judgement)
        → taken_if (record { goals = goal ∷ goals; hypotheses = hypotheses }) f j ≡ Ok end
        → taken_if (record { goals = goal ∷ (goals ++ others); hypotheses = hypotheses }) f j ≡
        Ok (before_others end)
    taken_before goal goals hypotheses f end Shown e =
        let same : taken (record { goals = goal ∷ goals; hypotheses = hypotheses }) f ≡ end = cc in
        (λ i. Ok (record {
          goals = sym (append_assoc f.goals goals others) i;
          hypotheses = hypotheses ++ f.kept;
        }))
        ∙ ap (λ (s : State). Ok (before_others s)) same
    taken_before goal goals hypotheses f end (Fault fault) e = absurd cc

    carried_before : (goal : Equation) (goals : List Equation) (hypotheses : List Rule)
        (certs : List Cert) (end : State) (x : Forming FormedStep)
        → carried_out (record { goals = goal ∷ goals; hypotheses = hypotheses }) certs x ≡ Ok end
        → carried_out (record { goals = goal ∷ (goals ++ others); hypotheses = hypotheses }) certs
        x ≡ Ok (before_others end)
    carried_before goal goals hypotheses certs end (Ok f) e =
        taken_before goal goals hypotheses f end
        (judged goal.rows (first_rows f.goals) f.asked certs) e
    carried_before goal goals hypotheses certs end (Err fault) e = absurd cc

    applied_before : (goals : List Equation) (hypotheses : List Rule) (step : Step) (end : State)
        → applied parts (record { goals = goals; hypotheses = hypotheses }) step ≡ Ok end
        → applied parts (record { goals = goals ++ others; hypotheses = hypotheses }) step ≡
        Ok (before_others end)
    applied_before [] hypotheses step end e = absurd cc
    applied_before (goal ∷ goals) hypotheses step end e =
        carried_before goal goals hypotheses (certificates step) end
        (formed parts (Some goal) hypotheses step) e

    one_before : (state end : State) (x : Step) (xs : List Step)
        (answer : Result State StepFault) → applied parts state x ≡ answer
        → ((next : State) → after_all parts next xs ≡ Ok end →
        after_all parts (before_others next) xs ≡ Ok (before_others end))
        → after answer (λ next. after_all parts next xs) ≡ Ok end
        → after (applied parts (before_others state) x) (λ next. after_all parts next xs) ≡
        Ok (before_others end)
    one_before state end x xs (Ok next) is later e =
        ap (λ answer. after answer (λ next. after_all parts next xs))
        (applied_before state.goals state.hypotheses x next is)
        ∙ later next e
    one_before state end x xs (Err fault) is later e = absurd cc

    pub after_before : (state end : State) (xs : List Step) → after_all parts state xs ≡ Ok end →
        after_all parts (before_others state) xs ≡ Ok (before_others end)
    after_before state end [] e =
        let same : state ≡ end = cc in ap (λ (s : State). Ok (before_others s)) same
    after_before state end (x ∷ xs) e =
        one_before state end x xs (applied parts state x) refl
        (λ next. after_before next end xs) e

  -- ---- what is reached

  pub reached_start : (goal : Equation) → IsWellMade parts → IsFitting parts goal →
      IsReachedBy parts goal [] (joins.start goal)
  reached_start goal made fits =
      record { made = made; fits = fits; applies = refl; deep = All-nil IsDeep }

  module _ (goal : Equation) (steps : List Step) (state : State)
      (reached : IsReachedBy parts goal steps state) where
    pub reached_more : (more : List Step) (end : State) → after_all parts state more ≡ Ok end →
        AreDeep more → IsReachedBy parts goal (steps ++ more) end
    reached_more more end applies deep = record {
      made = reached.made;
      fits = reached.fits;
      applies =
          after_append (joins.start goal) state end steps more reached.applies applies;
      deep = All-append IsDeep steps more reached.deep deep;
    }

    -- the left sides of hypotheses are no results
    pub reached_rooted : All HasRoot state.hypotheses
    reached_rooted =
        run_rooted parts state (joins.start goal)
        (runs state (joins.start goal) steps reached.applies) (All-nil HasRoot)

    -- and their sides fit
    pub reached_fits : All (SidesFit parts) state.hypotheses
    reached_fits =
        kept_hypotheses_fit parts goal state reached.made reached.fits
        (runs state (joins.start goal) steps reached.applies)
