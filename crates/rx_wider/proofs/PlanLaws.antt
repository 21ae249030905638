-- The choices at a goal, before they are tried.
use Rattle.std.proofs.Common.{◌≡◌, ◌∙◌, ap, sym, subst, refl, ℕ, true, false, Option, Some, None, List, [], ◌∷◌, ◌++◌, All, ◌⊎◌, inl, inr}
use Rattle.std.specs.Prelude.{IfSome, option_and_then, option_map, option_to_list}
use Rattle.std.proofs.lemmas.List.{append-nil}
use Rattle.std.proofs.lemmas.List.Elements.{All-append, All-cons, All-nil}
use Rattle.rx_cert.specs.Findings.{Said, Yes, No, Beyond, and_also}
use Rattle.rx_cert.specs.Showing.{all_shown, shown}
use Rattle.rx_cert.specs.declared.cert.Cert.{Cert}
use Rattle.rx_solve.specs.Refuter.{refuted}
use Rattle.rx_solve.specs.Shown.{IsAllShown}
use Rattle.rx_solve.specs.declared.showing.AllShown.{AllShown}
use Rattle.rx_solve.specs.declared.showing.AllShown.TheVariants as all_shown_by
use Rattle.rx_row.specs.declared.row.Row.{Row}
use Rattle.rx_poly.specs.Substitution.{numbered}
use Rattle.rx_shapes.specs.Places.{places_of}
use Rattle.rx_shapes.specs.Remainders.{remainders_of}
use Rattle.rx_shapes.specs.Shown.{is_shown, is_yes}
use Rattle.rx_memo.specs.Kept.{IsKept, IsThat}
use Rattle.rx_memo.specs.declared.goal_memo.Kept.{Kept}
use Rattle.rx_memo.proofs.Buckets.{nothing_kept}
use Rattle.rx_term.specs.declared.rule.Equation.{Equation}
use Rattle.rx_term.specs.declared.rule_set.RuleParts.{RuleParts}
use Rattle.rx_inference.specs.States.{State}
use Rattle.rx_inference.specs.declared.step.Side.{Side}
use Rattle.rx_inference.specs.declared.step.Side.TheVariants.{Left, Right}
use Rattle.rx_inference.specs.declared.step.Step.TheVariants as steps
use Rattle.rx_moves.specs.Moves.{Expand}
use Rattle.rx_moves.specs.Trying.{Next, attempt}
use Rattle.rx_settle.proofs.KeepingLaws.{expansion_keeps}
use Rattle.rx_wider.specs.Menu.{candidates, keeping, kept_by, kept_equation, rest_of, unfolding_only}
use Rattle.rx_wider.specs.Reached.{AreChoices, CanBeTried}
use Rattle.rx_wider.specs.declared.candidates.Candidate.{Candidate}
use Rattle.rx_wider.specs.declared.candidates.Plan.{Plan}
use Rattle.rx_wider.proofs.Walking.{AsksRows}

abbrev Descends : Type 0
Descends = List Side → Equation → Option (List Equation)

-- ---- one plan

module _ (parts : RuleParts) (descend : Descends) (goal : Equation) (plan : Plan)
    (sides : List Side) (same : sides ≡ plan.first ∷ rest_of plan)
    (old : List Candidate) where
  abbrev with_kept : Option Equation → List Candidate
  with_kept o = old ++ option_to_list (option_map (keeping goal plan) o)

  kept_there : (o : Option Equation) → o ≡ kept_equation parts descend goal sides →
      with_kept o ≡ old ++ kept_by parts descend goal plan
  kept_there o is = ap with_kept (is ∙ ap (kept_equation parts descend goal) same)

  pub kept_added : (new : List Candidate) (equation : Equation) (c : Candidate) →
      Some equation ≡ kept_equation parts descend goal sides → c ≡ keeping goal plan equation →
      new ≡ old ++ c ∷ [] → new ≡ old ++ kept_by parts descend goal plan
  kept_added new equation c is made added =
      added ∙ ap (λ x. old ++ x ∷ []) made ∙ kept_there (Some equation) is

  pub none_added : None ≡ kept_equation parts descend goal sides →
      old ≡ old ++ kept_by parts descend goal plan
  none_added is = sym (append-nil old) ∙ kept_there None is

-- ---- all can be tried

module _ (parts : RuleParts) where
  abbrev Can : Candidate → Type 0
  Can c = CanBeTried parts c

  keeping_can : (goal : Equation) (plan : Plan) (equation : Equation) →
      Can (keeping goal plan equation)
  keeping_can goal plan equation = record {
    rows =
        All-cons AsksRows (steps.Generalise equation.left equation.right equation.rows
        (numbered (places_of goal ++ remainders_of goal)) []) (steps.Expand plan.first true ∷ []) refl
        (All-cons AsksRows (steps.Expand plan.first true) [] refl (All-nil AsksRows));
    unkept = λ e old new leads. absurd cc;
  }

  kept_can : (goal : Equation) (plan : Plan) (o : Option Equation) →
      All Can (option_to_list (option_map (keeping goal plan) o))
  kept_can goal plan None = All-nil Can
  kept_can goal plan (Some equation) =
      All-cons Can (keeping goal plan equation) [] (keeping_can goal plan equation) (All-nil Can)

  only_keeps : (side : Side) (old new : State) (made : Option Next) →
      (attempt parts old (Expand side false)).made ≡ made →
      option_and_then (λ (next : Next). Some next.state) made ≡ Some new →
      new.hypotheses ≡ old.hypotheses
  only_keeps side old new None is e = absurd cc
  only_keeps side old new (Some next) is e =
      let same : next.state ≡ new = cc in
      ap (λ (s : State). s.hypotheses) (sym same) ∙ expansion_keeps old parts side next is

  only_can : (number : ℕ) (side : Side) → Can (unfolding_only number side)
  only_can number side = record {
    rows = All-cons AsksRows (steps.Expand side false) [] refl (All-nil AsksRows);
    unkept =
        λ e old new leads. only_keeps side old new
        (attempt parts old (Expand side false)).made refl leads;
  }

  one_only : (number : ℕ) (side : Side) → All Can (unfolding_only number side ∷ [])
  one_only number side =
      All-cons Can (unfolding_only number side) [] (only_can number side) (All-nil Can)

  module _ (descend : Descends) (goal : Equation) where
    by_plan : (plan : Plan) → All Can (kept_by parts descend goal plan)
    by_plan plan =
        kept_can goal plan (kept_equation parts descend goal (plan.first ∷ rest_of plan))

    both : (xs ys : List Candidate) → All Can xs → All Can ys → All Can (xs ++ ys)
    both xs ys all more = All-append Can xs ys all more

    pub all_can : All Can (candidates parts descend goal)
    all_can =
        both _ _ (both _ _ (both _ _ (both _ _ (both _ _
        (by_plan (record { number = 1; first = Left; second = Some Right }))
        (by_plan (record { number = 2; first = Right; second = Some Left })))
        (by_plan (record { number = 3; first = Left; second = None })))
        (by_plan (record { number = 4; first = Right; second = None })))
        (one_only 5 Left)) (one_only 6 Right)

-- ---- what is known of goals

module _ (parts : RuleParts) (descend : Descends) where
  pub none_known : (memo : List (Kept (List Candidate))) → memo ≡ [] →
      AreChoices parts descend memo
  none_known memo none =
      record { all = λ goal known kept. absurd (nothing_kept memo none goal known kept) }

  pub one_known : (old new : List (Kept (List Candidate))) (goal : Equation)
      (known : List Candidate) → AreChoices parts descend old →
      known ≡ candidates parts descend goal →
      ((g : Equation) (v : List Candidate) → IsKept new g v →
      IsKept old g v ⊎ IsThat goal known g v) → AreChoices parts descend new
  one_known old new goal known are is more = record {
    all = λ g v kept. elim (more g v kept) [
      | inl before ↦ are.all g v before
      | inr that ↦
          that.value_is ∙ is ∙ ap (candidates parts descend) (sym that.goal_is)
    ];
  }

-- ---- one row

alone_shown : (said : Said) → and_also said Yes ≡ Yes → true ≡ is_yes said
alone_shown Yes e = refl
alone_shown No e = absurd cc
alone_shown Beyond e = absurd cc

-- of a list with that row alone
pub one_shown : (given rows : List Row) (row : Row) (a : AllShown) (certs : List Cert) →
    rows ≡ row ∷ [] → a ≡ all_shown_by.Shown certs → IsAllShown given rows a →
    true ≡ is_shown given row
one_shown given rows row a certs same is shows =
    let those : IsAllShown given rows (all_shown_by.Shown certs) =
    subst (IsAllShown given rows) is shows in
    alone_shown (shown refuted given row)
    (sym (ap (all_shown refuted given) same) ∙ those.0)

-- ---- choices

-- what holds of the node, if there is one, holds of it
pub led_to : {A : Type 0} (found : Option A) (x : A) (P : A → Type 0) → found ≡ Some x →
    IfSome found P → P x
led_to {A} found x P is holds = subst (λ (found : Option A). IfSome found P) is holds
