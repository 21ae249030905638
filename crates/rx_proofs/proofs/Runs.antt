-- Back over the steps of a run, and what an accepted run means.
use Rattle.std.proofs.Common.{◌≡◌, ℕ, ◌⊎◌, inl, inr, Bool, true, false, None, List, [], ◌∷◌, sym, ap, subst, ◌∙◌, ℤ, arith, All, Contains}
use Rattle.std.proofs.lemmas.List.{append-nil}
use Rattle.std.proofs.lemmas.List.Elements.{All-cons, All-head, All-tail, All-nil, All-contains, Contains-append_left, Contains-append_cases}
use Rattle.rx_row.specs.Holds.{AllHold}
use Rattle.rx_row.specs.Negation.{negation}
use Rattle.rx_rewriting.specs.Terms.{Ground}
use Rattle.rx_rewriting.specs.Steps.{Here, Step, Joinable}
use Rattle.rx_rewriting.specs.Ranks.{Weight, weight_of}
use Rattle.rx_rewriting.specs.Premises.{HaveConvertibleNormalForms, EndsInside, IsReplaceable, IsReplaceableHere, Lowers, ClosedUnder, Reducible}
use Rattle.rx_rewriting.proofs.Chains.{Step-by_rule}
use Rattle.rx_rewriting.proofs.Conversion.{joined_end_alike}
use Rattle.rx_rewriting.proofs.Induction.{ends_inside}
use Rattle.rx_rewriting.proofs.UnderFrames.{replaceable_under_frames, stays_under_frames}
use Rattle.rx_term.specs.Bounds.{equation_bound}
use Rattle.rx_term.specs.Covered.{IsCoveredOver}
use Rattle.rx_term.specs.Differences.{term_differences}
use Rattle.rx_term.specs.Domains.{IsInside, are_domains, root_domains}
use Rattle.rx_term.specs.Meaning.{Instance, ground_at}
use Rattle.rx_term.specs.Paired.{rules_of_shape}
use Rattle.rx_term.specs.Shapes.{shape_of}
use Rattle.rx_term.specs.WellMade.{IsWellMade}
use Rattle.rx_term.specs.declared.rule.Equation.{Equation}
use Rattle.rx_term.specs.declared.rule.Rule.{Rule}
use Rattle.rx_term.specs.declared.rule_set.RuleParts.{RuleParts}
use Rattle.rx_term.specs.declared.term.Term.TheVariants.{Frame}
use Rattle.rx_term.proofs.CoveredLaws.{covered_moves}
use Rattle.rx_term.proofs.FittingLaws.{ground_fits}
use Rattle.rx_term.proofs.RuleLaws.{steps_fit}
use Rattle.rx_domain.proofs.Inside.{inside_exchange, inside_inner, meets_none, redexes_inside}
use Rattle.rx_domain.proofs.Kept.{goal_inside, steps_stay_inside}
use Rattle.rx_inference.specs.Making.{differing, expanded_by, from_side, kept_if, results_of, with_result}
use Rattle.rx_inference.specs.Pieces.{with_rows}
use Rattle.rx_inference.specs.States.{State}
use Rattle.rx_inference.specs.declared.step.Side.{Side}
use Rattle.rx_cover.specs.Covering.{Covers, covering}
use Rattle.rx_cover.specs.declared.cover_tree.CoverTree.{CoverTree}
use Rattle.rx_cover.proofs.CoveringLaws.{covers_all}
use Rattle.rx_pairs.specs.Inside.{descends_in}
use Rattle.rx_pairs.specs.Lowering.{Descends}
use Rattle.rx_pairs.specs.Pairs.{HasRoot, SidesFit}
use Rattle.rx_pairs.specs.Ranks.{bad_rank, rank_of}
use Rattle.rx_pairs.specs.declared.pair_cert.PairCert.{PairCert}
use Rattle.rx_pairs.specs.declared.table.RankTable.{RankTable}
use Rattle.rx_proofs.specs.Goals.{Both, Fitting, IsGood, IsBacked, IsFitting, IsGoalInside}
use Rattle.rx_proofs.specs.Runs.{Run, Accepted, IsKept, IsProof, start, finished}
use Rattle.rx_proofs.specs.Runs as runs
use Rattle.rx_proofs.proofs.Bridge.{Made, applied_makes}
use Rattle.rx_proofs.proofs.Forward.{FittingState, InsideState, next_fits, next_inside, run_fits, run_inside, start_fits, start_inside}
use Rattle.rx_proofs.proofs.InsideDescent.{inside_descend}
use Rattle.rx_proofs.proofs.Lists.{All-formed_back, All-map_back, All-parts}
use Rattle.rx_proofs.proofs.MadeInside.{AreSidesInside}
use Rattle.rx_proofs.proofs.Making.{Makes}
use Rattle.rx_proofs.proofs.Making as making
use Rattle.rx_proofs.proofs.Rooted.{run_rooted}
use Rattle.rx_proofs.proofs.StepLaws as laws
use Rattle.rx_proofs.proofs.StepLaws.{Setting}

-- ---- back: good goals, backed hypotheses

module _ (parts : RuleParts) (final : List Rule) (setting : Setting parts) where
  abbrev Good : Equation → Type 0
  Good = IsGood parts final

  kept_backed : (keep : Bool) (side : Side) (goal : Equation) →
      IsBacked parts final (from_side side goal) →
      All (IsBacked parts final) (kept_if keep side goal)
  kept_backed true side goal backed =
      All-cons (IsBacked parts final) (from_side side goal) [] backed
      (All-nil (IsBacked parts final))
  kept_backed false side goal backed = All-nil (IsBacked parts final)

  -- where what is made is good, so is the goal, and what is kept is backed
  made_good : (hypotheses : List Rule) (goal : Equation) (new : List Equation) (kept : List Rule) →
      Makes parts hypotheses goal new kept → IsFitting parts goal → IsGoalInside parts goal →
      All (SidesFit parts) hypotheses → ((h : Rule) → Contains hypotheses h → Contains final h) → All Good new → Good goal ×
      All (IsBacked parts final) kept
  made_good hypotheses goal new kept (making.Simplified side rule redex among is shape follows) fits inside
      rules wider all = (
        laws.simplify_good parts final setting side goal rule redex fits among is shape follows
            (All-head Good _ [] all),
        All-nil (IsBacked parts final),
      )
  made_good hypotheses goal new kept (making.Used side h ws n part among stands shape follows) fits inside
      rules wider all = (
        laws.hyp_good parts final setting side goal h ws n part fits (wider h among)
            (All-contains (SidesFit parts) hypotheses h rules among).0 stands shape follows
            (All-head Good _ [] all),
        All-nil (IsBacked parts final),
      )
  made_good hypotheses goal new kept (making.Expanded side keep redex is) fits inside rules wider all =
      let each = All-formed_back Good (expanded_by goal side redex)
      (rules_of_shape (shape_of redex) parts.rules) all in (
        laws.expand_good parts final setting side goal redex fits inside is each,
        kept_backed keep side goal (laws.expand_backed parts final setting side goal redex fits inside is
            each),
      )
  made_good hypotheses goal new kept (making.Contradictory none) fits inside rules wider all =
      (laws.absurd_good parts final setting goal none, All-nil (IsBacked parts final))
  made_good hypotheses goal new kept (making.Equal shape follows) fits inside rules wider all =
      (laws.equal_good parts final setting goal fits shape follows, All-nil (IsBacked parts final))
  made_good hypotheses goal new kept (making.Apart shape) fits inside rules wider all = (
    laws.apart_good parts final setting goal fits shape
        (All-map_back Good (differing goal) (term_differences goal.left goal.right).form all),
    All-nil (IsBacked parts final),
  )
  made_good hypotheses goal new kept (making.Generalised next ws next_fits left right follows
      shown) fits inside
      rules wider all = (
        laws.generalise_good parts final setting goal next ws fits next_fits left right follows
            (All-head Good _ [] all),
        All-nil (IsBacked parts final),
      )
  made_good hypotheses goal new kept (making.Postulated next next_fits shown) fits inside rules wider all =
      (All-head Good goal [] (All-tail Good next (goal ∷ []) all), All-nil (IsBacked parts final))
  made_good hypotheses goal new kept (making.SplitBy row) fits inside rules wider all =
      let one = with_rows goal (row ∷ []) in
      let other = with_rows goal (negation row ∷ []) in (
        laws.split_good parts final setting goal row (All-head Good one (other ∷ []) all)
            (All-head Good other [] (All-tail Good one (other ∷ []) all)),
        All-nil (IsBacked parts final),
      )
  made_good hypotheses goal new kept (making.Decomposed f g ps qs s t left right same follows) fits inside
      rules wider all = (
        laws.decompose_good parts final setting goal f ps qs s t fits left
            (right ∙ ap (λ h. Frame h qs t) (sym same)) follows (All-head Good _ [] all),
        All-nil (IsBacked parts final),
      )
  made_good hypotheses goal new kept (making.WithResults m n s t at_s at_t shape follows) fits inside rules
      wider all = (
        laws.results_good parts final setting goal m n s t fits inside at_s at_t shape follows
            (All-map_back Good (with_result goal m n) (results_of parts.fails (equation_bound goal))
            all),
        All-nil (IsBacked parts final),
      )

  -- what is known of a state, going back from the end
  pub record Known (state : State) : Type 0 where
    pub goals : All Good state.goals
    pub hypotheses : (h : Rule) → Contains final h → Contains state.hypotheses h ⊎
        IsBacked parts final h
    pub among : (h : Rule) → Contains state.hypotheses h → Contains final h

  known_before : (state next : State) → Made parts state next →
      FittingState parts setting.made state → All (IsGoalInside parts) state.goals → Known next →
      Known state
  known_before state next made fits inside later =
      let goals = subst (All (IsFitting parts)) made.was fits.goals in
      let insides = subst (All (IsGoalInside parts)) made.was inside in
      let wider : (h : Rule) → Contains state.hypotheses h → Contains final h =
      λ h there. later.among h (subst (λ hs. Contains hs h) (sym made.hypotheses)
      (Contains-append_left state.hypotheses made.kept h there)) in
      let good = All-parts Good made.new made.rest (subst (All Good) made.goals later.goals) in
      let here = made_good state.hypotheses made.goal made.new made.kept made.makes
      (All-head (IsFitting parts) made.goal made.rest goals)
      (All-head (IsGoalInside parts) made.goal made.rest insides) fits.hypotheses wider good.0 in
      record {
        goals = subst (All Good) (sym made.was) (All-cons Good made.goal made.rest here.0 good.1);
        hypotheses = λ h there. elim (later.hypotheses h there) [
          | inl at_next ↦ elim (Contains-append_cases state.hypotheses made.kept h
              (subst (λ hs. Contains hs h) made.hypotheses at_next)) [
                | inl old ↦ inl old
                | inr is_kept ↦ inr (All-contains (IsBacked parts final) made.kept h here.1 is_kept)
              ]
          | inr backed ↦ inr backed
        ];
        among = wider;
      }

  module _ (keeps : ClosedUnder (IsInside parts) (Instance parts.rules)) where
    abbrev InsideHere : State → Type 0
    InsideHere state = InsideState parts setting.made setting.domains keeps state

    pub known : (state : State) → Run parts (finished final) state →
        FittingState parts setting.made state → InsideHere state → Known state
    known state runs.NoStep fits inside =
        record {
          goals = All-nil Good;
          hypotheses = λ h there. inl there;
          among = λ h there. there;
        }
    known _ (runs.OneMore state next s applies run) fits inside =
        let made = applied_makes parts state next s applies in
        known_before state next made fits inside.goals (known next run
        (next_fits parts setting.made state next made fits)
        (next_inside parts setting.made setting.domains keeps state next made fits inside))

-- ---- runs keep fitting

-- the goals that a run leaves fit
pub goals_left_fit : (parts : RuleParts) (goal : Equation) (end : State) → IsWellMade parts →
    IsFitting parts goal → Run parts end (start goal) → All (IsFitting parts) end.goals
goals_left_fit parts goal end well fits run =
    (run_fits parts well end (start goal) run (start_fits parts well goal fits)).goals

-- and so do the hypotheses that it keeps
pub kept_hypotheses_fit : (parts : RuleParts) (goal : Equation) (end : State) → IsWellMade parts →
    IsFitting parts goal → Run parts end (start goal) → All (SidesFit parts) end.hypotheses
kept_hypotheses_fit parts goal end well fits run =
    (run_fits parts well end (start goal) run (start_fits parts well goal fits)).hypotheses

-- ---- runs stay inside

module _ (parts : RuleParts) (goal : Equation) (end : State) (well : IsWellMade parts)
    (good : are_domains parts.symbols parts.domains ≡ true)
    (keeps : ClosedUnder (IsInside parts) (Instance parts.rules)) (fits : IsFitting parts goal)
    (inside : IsGoalInside parts goal) (run : Run parts end (start goal)) where
  end_inside : InsideState parts well good keeps end
  end_inside =
      run_inside parts well good keeps end (start goal) run (start_fits parts well goal fits)
      (start_inside parts well good keeps goal inside)

  -- the goals that a run leaves are inside
  pub goals_left_inside : All (IsGoalInside parts) end.goals
  goals_left_inside = end_inside.goals

  -- and so are both sides of the hypotheses that it keeps
  pub hypotheses_kept_inside : All (AreSidesInside parts) end.hypotheses
  hypotheses_kept_inside = end_inside.hypotheses

-- ---- results are reached

-- each term inside that is no result has a step
inside_moves : (parts : RuleParts) → IsWellMade parts →
    are_domains parts.symbols parts.domains ≡ true → IsCoveredOver (root_domains parts) parts →
    Reducible (IsInside parts) (Instance parts.rules)
inside_moves parts made good covered =
    covered_moves parts (root_domains parts) covered made (IsInside parts)
    (λ s inside. inside.0) (redexes_inside parts good) (inside_inner parts)

-- where the set is covered inside its domains and keeps them, and its steps make a weight smaller,
-- each term inside reaches a result
pub inside_ends : (parts : RuleParts) (weight : Ground → Weight) → IsWellMade parts →
    are_domains parts.symbols parts.domains ≡ true → IsCoveredOver (root_domains parts) parts →
    ClosedUnder (IsInside parts) (Instance parts.rules) →
    Lowers weight (IsInside parts) (Instance parts.rules)
    → (s : Ground) → IsInside parts s → EndsInside (IsInside parts) (Instance parts.rules) s
inside_ends parts weight made good covered keeps lowers =
    ends_inside weight (IsInside parts) (Instance parts.rules) lowers keeps
    (inside_moves parts made good covered)

-- ---- what certificates show

-- the goal is inside
kept_goal : (parts : RuleParts) → are_domains parts.symbols parts.domains ≡ true →
    (goal : Equation) → IsFitting parts goal → IsKept parts goal → IsGoalInside parts goal
kept_goal parts good goal fits (runs.NoDomains none) a holds = (
  (
    ground_fits parts a goal.left fits.left,
    meets_none parts none (ground_at a goal.left),
  ),
  (
    ground_fits parts a goal.right fits.right,
    meets_none parts none (ground_at a goal.right),
  ),
)
kept_goal parts good goal fits (runs.Shown lists kept) a holds =
    goal_inside parts good goal lists kept fits.left fits.right a holds

-- and the rules keep the domains
kept_rules : (parts : RuleParts) → are_domains parts.symbols parts.domains ≡ true →
    (goal : Equation) → IsWellMade parts → IsKept parts goal →
    ClosedUnder (IsInside parts) (Instance parts.rules)
kept_rules parts good goal made (runs.NoDomains none) s t inside step =
    (steps_fit parts made s t inside.0 step, meets_none parts none t)
kept_rules parts good goal made (runs.Shown lists kept) s t inside step =
    steps_stay_inside parts good goal lists kept made s t inside step

-- so it is where trees, certificates and a rank table show it
pub shown_ends : (parts : RuleParts) (goal : Equation) (trees : List (List CoverTree))
    (table : RankTable) (certs : List PairCert) → IsWellMade parts →
    are_domains parts.symbols parts.domains ≡ true → IsKept parts goal →
    covering parts trees ≡ Covers → bad_rank parts table ≡ None →
    descends_in parts parts.rules table certs ≡ Descends
    → (s : Ground) → IsInside parts s → EndsInside (IsInside parts) (Instance parts.rules) s
shown_ends parts goal trees table certs made good kept covers lawful descends =
    let whole = subst (λ rules. descends_in parts rules table certs ≡ Descends)
    (sym (append-nil parts.rules)) descends in
    let both = inside_descend parts [] table certs made good (All-nil HasRoot)
    (All-nil (SidesFit parts)) lawful
    whole in
    inside_ends parts (weight_of (rank_of table)) made good (covers_all parts trees covers)
    (kept_rules parts good goal made kept)
    (λ s t in_s step. both s t in_s (Step-by_rule (Instance parts.rules) (Instance []) step))

-- ---- accepted runs

-- by the rules alone each term inside reaches a result
abbrev setting_of : (parts : RuleParts) (goal : Equation) (hypotheses : List Rule)
    (weight : Ground → Weight) → Accepted parts goal hypotheses weight → Setting parts
setting_of parts goal hypotheses weight proof = record {
  made = proof.made;
  domains = proof.domains;
  covered = proof.covered;
  ends = inside_ends parts weight proof.made proof.domains proof.covered proof.keeps
      (λ s t in_s step. proof.lowers s t in_s
      (Step-by_rule (Instance parts.rules) (Instance hypotheses) step));
}

module _ (parts : RuleParts) (goal : Equation) (hypotheses : List Rule) (weight : Ground → Weight)
    (proof : Accepted parts goal hypotheses weight) where
  abbrev setting : Setting parts
  setting = setting_of parts goal hypotheses weight proof

  first_fits : FittingState parts proof.made (start goal)
  first_fits = start_fits parts proof.made goal proof.fits

  first_inside : InsideState parts proof.made proof.domains proof.keeps (start goal)
  first_inside = start_inside parts proof.made proof.domains proof.keeps goal proof.inside

  at_start : Known parts hypotheses setting (start goal)
  at_start =
      known parts hypotheses setting proof.keeps (start goal) proof.run first_fits first_inside

  -- the goal's sides join
  pub start_joins : IsGood parts hypotheses goal
  start_joins = All-head (IsGood parts hypotheses) goal [] at_start.goals

  -- and so do those of the goals on the way of a run that keeps the same hypotheses
  pub made_join : (state : State) → Run parts state (start goal) →
      Run parts (finished hypotheses) state → All (IsGood parts hypotheses) state.goals
  made_join state before after =
      let fits = run_fits parts proof.made state (start goal) before first_fits in
      let inside = run_inside parts proof.made proof.domains proof.keeps state (start goal) before
      first_fits first_inside in
      (known parts hypotheses setting proof.keeps state after fits inside).goals

  -- and each hypothesis is backed
  pub backed : (h : Rule) → Contains hypotheses h → IsBacked parts hypotheses h
  backed h among =
      elim (at_start.hypotheses h among) [
        | inl none ↦ absurd (let e = none.1 in omega (arith, e))
        | inr yes_ ↦ yes_
      ]

  here : IsReplaceableHere (IsInside parts) (Instance parts.rules) (Instance hypotheses)
  here s t in_s one =
      let (first, step, joined) = backed one.rule one.among one.at one.holds in (
        first,
        subst (λ g. Step (Instance parts.rules) g first) (sym one.left) step,
        subst (Joinable (Both parts hypotheses) first) (sym one.right) joined,
      )

  replaceable : IsReplaceable (IsInside parts) (Instance parts.rules) (Instance hypotheses)
  replaceable =
      replaceable_under_frames (IsInside parts) (Instance parts.rules) (Instance hypotheses)
      (inside_inner parts) here

  -- the hypotheses that are kept lead to terms inside
  kept_inside : All (AreSidesInside parts) hypotheses
  kept_inside =
      (run_inside parts proof.made proof.domains proof.keeps (finished hypotheses) (start goal)
      proof.run first_fits first_inside).hypotheses

  either_inside : (s t : Ground) → IsInside parts s → Both parts hypotheses s t → IsInside parts t
  either_inside s t in_s (inl one) = proof.keeps s t in_s (Here one)
  either_inside s t in_s (inr one) =
      subst (IsInside parts) (sym one.right)
      (All-contains (AreSidesInside parts) hypotheses one.rule kept_inside one.among one.at
      one.holds).1

  stays : ClosedUnder (IsInside parts) (Both parts hypotheses)
  stays =
      stays_under_frames (IsInside parts) (Both parts hypotheses) (inside_inner parts)
      (inside_exchange parts) either_inside

  -- both sides reach results inside, which are convertible by the rules alone
  pub end_alike : (a : ℕ → ℤ) → AllHold a goal.rows →
      HaveConvertibleNormalForms (IsInside parts) (Instance parts.rules) (ground_at a goal.left)
      (ground_at a goal.right)
  end_alike a holds =
      joined_end_alike weight (IsInside parts) (Instance parts.rules) (Instance hypotheses)
      proof.lowers stays replaceable
      (inside_moves parts proof.made proof.domains proof.covered)
      (ground_at a goal.left) (ground_at a goal.right)
      (proof.inside a holds).0 (proof.inside a holds).1 (start_joins a holds)

-- what is checked is accepted
pub proof_accepted : (parts : RuleParts) (goal : Equation) (hypotheses : List Rule)
    (table : RankTable) → IsProof parts goal hypotheses table →
    Accepted parts goal hypotheses (weight_of (rank_of table))
proof_accepted parts goal hypotheses table proof = record {
  made = proof.made;
  domains = proof.domains;
  covered = covers_all parts proof.trees proof.covers;
  fits = proof.fits;
  inside = kept_goal parts proof.domains goal proof.fits proof.kept;
  keeps = kept_rules parts proof.domains goal proof.made proof.kept;
  run = proof.run;
  lowers =
      inside_descend parts hypotheses table proof.certs proof.made proof.domains
      (run_rooted parts (finished hypotheses) (start goal) proof.run (All-nil HasRoot))
      (kept_hypotheses_fit parts goal (finished hypotheses) proof.made proof.fits proof.run)
      proof.lawful proof.descends;
}

-- a result that is inside fits
abbrev fitting_end : (parts : RuleParts) (s : Ground) →
    EndsInside (IsInside parts) (Instance parts.rules) s →
    EndsInside (Fitting parts) (Instance parts.rules) s
fitting_end parts s ends = record {
  end = ends.end;
  reached = ends.reached;
  is_result = ends.is_result;
  is_inside = ends.is_inside.0;
}

pub proof_ends_alike : (parts : RuleParts) (goal : Equation) (hypotheses : List Rule)
    (table : RankTable) → IsProof parts goal hypotheses table
    → (a : ℕ → ℤ) → AllHold a goal.rows → HaveConvertibleNormalForms (Fitting parts)
    (Instance parts.rules)
    (ground_at a goal.left) (ground_at a goal.right)
proof_ends_alike parts goal hypotheses table proof a holds =
    let ends = end_alike parts goal hypotheses (weight_of (rank_of table))
    (proof_accepted parts goal hypotheses table proof) a holds in
    record {
      left = fitting_end parts (ground_at a goal.left) ends.left;
      right = fitting_end parts (ground_at a goal.right) ends.right;
      convertible = ends.convertible;
    }
