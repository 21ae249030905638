-- No move of settling adds a hypothesis.
use Rattle.std.proofs.Common.{◌≡◌, ◌∙◌, ap, subst, sym, refl, ℕ, zero, suc, ◌+◌, ◌-◌, ◌&&◌, Bool, true, false, Option, Some, None, Ok, Err, List, [], ◌∷◌, ◌++◌}
use Rattle.std.specs.Prelude.{◌==◌, if◌then◌else◌, map, nat_lt, slice_get}
use Rattle.std.specs.List.{range_with_len}
use Rattle.std.proofs.lemmas.List.{append-nil}
use Rattle.rx_plain.specs.Formed.{Formed}
use Rattle.rx_poly.specs.declared.body.Body.{Body}
use Rattle.rx_cert.specs.Findings.{Said, Yes, No, Beyond}
use Rattle.rx_solve.specs.Attempts.{Tried, first_applying, made_or, where_shown}
use Rattle.rx_term.specs.Bounds.{equation_bound}
use Rattle.rx_term.specs.Meaning.{redex_of}
use Rattle.rx_term.specs.Stacks.{suffix_at, depth_of}
use Rattle.rx_term.specs.declared.rule.Equation.{Equation}
use Rattle.rx_term.specs.declared.rule.Rule.{Rule}
use Rattle.rx_term.specs.declared.rule_set.RuleParts.{RuleParts}
use Rattle.rx_term.specs.declared.term.Sym.{Sym}
use Rattle.rx_inference.specs.Forming.{Forming, found_or, limited, provided, ◌>>=◌}
use Rattle.rx_inference.specs.Judging.{first_rows}
use Rattle.rx_inference.specs.Kinds.{formed}
use Rattle.rx_inference.specs.Pieces.{is_substitution, side_of}
use Rattle.rx_inference.specs.States.{State, taken}
use Rattle.rx_inference.specs.declared.form_end.FormEnd.{FormEnd}
use Rattle.rx_inference.specs.declared.form_end.FormEnd.TheVariants as form_end
use Rattle.rx_inference.specs.declared.formed_step.FormedStep.{FormedStep}
use Rattle.rx_inference.specs.declared.step.Side.{Side}
use Rattle.rx_inference.specs.declared.step.Side.TheVariants.{Left, Right}
use Rattle.rx_lemma.specs.Naming.{naming_of}
use Rattle.rx_lemma.specs.Lemmas.{Generalisation}
use Rattle.rx_moves.specs.Moves.{Absurd, Equal, Expand, Generalise, Hyp, Move, Results, Simplify, step_of}
use Rattle.rx_lemma.specs.Lemmas.{variables_end}
use Rattle.rx_settle.specs.AtFirst.{at_first, using_all}
use Rattle.rx_settle.specs.Settling.{by_results, named, resulting, resulting_at, settling, settling_first, settling_move}
use Rattle.rx_settle.specs.Uses.{use_by, using_at, using_each}
use Rattle.rx_settle.specs.declared.uses.Matching.{Matching}
use Rattle.rx_settle.specs.declared.uses.Matching.TheVariants.{PartAlone}
use Rattle.rx_moves.specs.Unfolding.{by_rules, is_at_loop_point, is_tried, leaving_at, redex_symbol, simplifying, unfolding_at}
use Rattle.rx_moves.specs.Suffixes.{common_suffix}
use Rattle.rx_moves.specs.Trying.{Next, asked_shown, attempt, next_if_formed, then_by}
use Rattle.rx_moves.specs.declared.finding.Common.{Common}

-- ---- steps that keep nothing

abbrev KeepsNothing : Forming FormedStep → Type 0
KeepsNothing x = (f : FormedStep) → x ≡ Ok f → f.kept ≡ []

refused : (e : FormEnd) → KeepsNothing (Err e)
refused e f h = cc

found : (f : FormedStep) → f.kept ≡ [] → KeepsNothing (Ok f)
found f nothing g h = let is : f ≡ g = cc in subst (λ (x : FormedStep). x.kept ≡ []) is nothing

after : {A : Type 0} (x : Forming A) (next : A → Forming FormedStep) →
    ((y : A) → KeepsNothing (next y)) → KeepsNothing (x >>= next)
after (Ok y) next later = later y
after (Err e) next later = refused e

tested : (b : Bool) (x : Forming FormedStep) → KeepsNothing x → KeepsNothing (provided b x)
tested true x here = here
tested false x here = refused form_end.WrongShape

within : (made : Formed FormedStep) → made.form.kept ≡ [] → KeepsNothing (limited made)
within made nothing = by made.within
  where
    by : (b : Bool) → KeepsNothing (if b then Ok made.form else Err form_end.Large)
    by true = found made.form nothing
    by false = refused form_end.Large

module _ (parts : RuleParts) (hypotheses : List Rule) where
  simplify_keeps : (goal : Option Equation) (side : Side) (number : ℕ) →
      KeepsNothing (formed parts goal hypotheses (step_of (Simplify side number)))
  simplify_keeps None side number = refused form_end.NoGoal
  simplify_keeps (Some goal) side number =
      after (found_or form_end.WrongShape (redex_of (side_of side goal))) _ (λ redex.
      after (found_or form_end.NoSuchRule (slice_get parts.rules number)) _
      (λ rule. tested _ _ (within _ refl)))

  hyp_keeps : (goal : Option Equation) (side : Side) (place number : ℕ) (ws : List (ℕ × Body)) →
      KeepsNothing (formed parts goal hypotheses (step_of (Hyp side place number ws)))
  hyp_keeps None side place number ws = refused form_end.NoGoal
  hyp_keeps (Some goal) side place number ws =
      after (found_or form_end.WrongShape (suffix_at place (side_of side goal))) _ (λ part.
      after (provided (is_substitution ws) (found_or form_end.NoSuchRule
      (slice_get hypotheses number))) _ (λ hypothesis. tested _ _ (within _ refl)))

  expand_keeps : (goal : Option Equation) (side : Side) →
      KeepsNothing (formed parts goal hypotheses (step_of (Expand side false)))
  expand_keeps None side = refused form_end.NoGoal
  expand_keeps (Some goal) side =
      after (found_or form_end.WrongShape (redex_of (side_of side goal))) _ (λ redex. within _ refl)

  absurd_keeps : (goal : Option Equation) → KeepsNothing
      (formed parts goal hypotheses (step_of Absurd))
  absurd_keeps None = refused form_end.NoGoal
  absurd_keeps (Some goal) = found _ refl

  equal_keeps : (goal : Option Equation) → KeepsNothing
      (formed parts goal hypotheses (step_of Equal))
  equal_keeps None = refused form_end.NoGoal
  equal_keeps (Some goal) = tested _ _ (within _ refl)

  generalise_keeps : (goal : Option Equation) (new : Equation) (ws : List (ℕ × Body)) →
      KeepsNothing (formed parts goal hypotheses (step_of (Generalise new ws)))
  generalise_keeps None new ws = refused form_end.NoGoal
  generalise_keeps (Some goal) new ws = tested _ _ (within _ refl)

  results_keep : (goal : Option Equation) (left right : ℕ) →
      KeepsNothing (formed parts goal hypotheses (step_of (Results left right)))
  results_keep None left right = refused form_end.NoGoal
  results_keep (Some goal) left right =
      after (found_or form_end.WrongShape (suffix_at left goal.left)) _ (λ one.
      after (found_or form_end.WrongShape (suffix_at right goal.right)) _
      (λ other. tested _ _ (within _ refl)))

-- ---- moves that keep the hypotheses

module _ (state : State) where
  abbrev Keeps : Tried Next → Type 0
  Keeps t = (next : Next) → t.made ≡ Some next → next.state.hypotheses ≡ state.hypotheses

  -- nothing is made
  none_keeps : (noted : Bool) → Keeps (record { made = None; noted = noted })
  none_keeps noted next h = cc

  either_keeps : (b : Bool) (t u : Tried Next) → Keeps t → Keeps u → Keeps (if b then t else u)
  either_keeps true t u one other = one
  either_keeps false t u one other = other

  first_keeps : (t : Tried Next) (later : Tried Next) → Keeps t → Keeps later →
      Keeps (made_or t.made t.noted later)
  first_keeps t later one other = by t.made one
    where
      by : (m : Option Next) → Keeps (record { made = m; noted = t.noted }) →
          Keeps (made_or m t.noted later)
      by None here = other
      by (Some x) here = here

  both_keep : (t u : Tried Next) → Keeps t → Keeps u → Keeps (first_applying (t ∷ u ∷ []))
  both_keep t u one other = first_keeps t _ one (first_keeps u _ other (none_keeps false))

  formed_keeps : (move : Move) (x : Forming FormedStep) → KeepsNothing x →
      Keeps (next_if_formed state move x)
  formed_keeps move (Ok f) nothing =
      by (asked_shown (first_rows state.goals) (first_rows f.goals) f.asked)
    where
      by : (said : Said) → Keeps (where_shown said (record { move = move; state = taken state f }))
      by Yes next h =
          let made : record { move = move; state = taken state f } ≡ next = cc in
          sym (ap (λ (n : Next). n.state.hypotheses) made) ∙
          ap (λ ks. state.hypotheses ++ ks) (nothing f refl) ∙ append-nil state.hypotheses
      by No next h = cc
      by Beyond next h = cc
  formed_keeps move (Err form_end.Large) nothing = none_keeps true
  formed_keeps move (Err form_end.NoGoal) nothing = none_keeps false
  formed_keeps move (Err form_end.WrongShape) nothing = none_keeps false
  formed_keeps move (Err form_end.NoSuchRule) nothing = none_keeps false
  formed_keeps move (Err form_end.NoMemory) nothing = none_keeps false

  module _ (parts : RuleParts) where
    attempt_keeps : (move : Move) → KeepsNothing
        (formed parts (slice_get state.goals 0) state.hypotheses (step_of move)) →
        Keeps (attempt parts state move)
    unfolding attempt
    attempt_keeps move nothing = formed_keeps move _ nothing

    -- ---- rules

    rules_keep : (side : Side) (from : Option Sym) (n : ℕ) (rules : List Rule) →
        Keeps (first_applying (by_rules parts state side from n rules))
    rules_keep side from n [] = none_keeps false
    rules_keep side from n (rule ∷ rules) =
        by (is_tried parts from rule) (rules_keep side from (n + 1) rules)
      where
        by : (b : Bool) → Keeps (first_applying (by_rules parts state side from (n + 1) rules))
            → Keeps (first_applying (if b then attempt parts state (Simplify side n) ∷
            by_rules parts state side from (n + 1) rules else
            by_rules parts state side from (n + 1) rules))
        by true others =
            first_keeps (attempt parts state (Simplify side n))
            (first_applying (by_rules parts state side from (n + 1) rules))
            (attempt_keeps (Simplify side n) (simplify_keeps parts state.hypotheses
            (slice_get state.goals 0) side n)) others
        by false others = others

    unfolding_keeps : (side : Side) (redex : Option Sym) →
        Keeps (unfolding_at parts state side redex)
    unfolding_keeps side redex =
        either_keeps (is_at_loop_point parts redex) _ _ (none_keeps false)
        (both_keep (simplifying parts state side None) (attempt parts state (Expand side false))
        (rules_keep side None 0 parts.rules)
        (attempt_keeps (Expand side false) (expand_keeps parts state.hypotheses
        (slice_get state.goals 0) side)))

    leaving_keeps : (side : Side) (redex : Option Sym) → Keeps (leaving_at parts state side redex)
    leaving_keeps side redex =
        either_keeps (is_at_loop_point parts redex) _ _ (rules_keep side redex 0 parts.rules)
        (none_keeps false)

    module _ (goal : Equation) where
      -- ---- naming

      named_keeps : Keeps (named parts state goal)
      named_keeps = by (naming_of parts goal).made
        where
          by : (o : Option Generalisation) → Keeps
              (then_by o (naming_of parts goal).noted
              (λ (lemma : Generalisation). attempt parts state (Generalise lemma.goal lemma.subst)))
          by None = none_keeps (naming_of parts goal).noted
          by (Some lemma) =
              attempt_keeps (Generalise lemma.goal lemma.subst)
              (generalise_keeps parts state.hypotheses (slice_get state.goals 0) lemma.goal
              lemma.subst)

      -- ---- hypotheses

      module _ (how : Matching) where
        place_keeps : (number : ℕ) (hypothesis : Rule) (side : Side) (place : ℕ) →
            Keeps (using_at parts state how goal number hypothesis side place)
        place_keeps number hypothesis side place =
            by (use_by how parts goal hypothesis side place).made
          where
            by : (o : Option (List (ℕ × Body))) →
                Keeps (then_by o (use_by how parts goal hypothesis side place).noted
                (λ subst. attempt parts state (Hyp side place number subst)))
            by None = none_keeps (use_by how parts goal hypothesis side place).noted
            by (Some ws) =
                attempt_keeps (Hyp side place number ws)
                (hyp_keeps parts state.hypotheses (slice_get state.goals 0) side place number ws)

        places_keep : (number : ℕ) (hypothesis : Rule) (side : Side) (n from : ℕ) →
            Keeps (first_applying (map (using_at parts state how goal number hypothesis side)
            (range_with_len from n)))
        places_keep number hypothesis side zero from = none_keeps false
        places_keep number hypothesis side (suc n) from =
            first_keeps _ _ (place_keeps number hypothesis side from)
            (places_keep number hypothesis side n (from + 1))

        uses_keep : (n : ℕ) (hypotheses : List Rule) →
            Keeps (first_applying (using_each parts state how goal n hypotheses))
        uses_keep n [] = none_keeps false
        uses_keep n (hypothesis ∷ hypotheses) =
            first_keeps _ _ (places_keep n hypothesis Left (1 + depth_of goal.left) 0)
            (first_keeps _ _ (places_keep n hypothesis Right (1 + depth_of goal.right) 0)
            (uses_keep (n + 1) hypotheses))

      -- ---- results

      results_at_keep : (left right : ℕ) → Keeps (resulting_at parts state left right)
      results_at_keep left right =
          either_keeps (left == 0 && right == 0) _ _ (none_keeps false)
          (attempt_keeps (Results left right)
          (results_keep parts state.hypotheses (slice_get state.goals 0) left right))

      resulting_keeps : (suffix : Common) → Keeps (resulting parts state goal suffix)
      resulting_keeps suffix =
          either_keeps (suffix.parts == 0) _ _ (none_keeps false)
          (results_at_keep (1 + depth_of goal.left - suffix.parts)
          (1 + depth_of goal.right - suffix.parts))

      by_results_keeps : Keeps (by_results parts state goal)
      by_results_keeps =
          either_keeps (nat_lt (equation_bound goal) variables_end) _ _
          (resulting_keeps (common_suffix goal.rows goal.left goal.right)) (none_keeps false)

      -- ---- all items

      abbrev later_keep : List (Tried Next) → Type 0
      later_keep ts = Keeps (first_applying ts)

      item_keeps : (t : Tried Next) (ts : List (Tried Next)) → Keeps t → later_keep ts →
          later_keep (t ∷ ts)
      item_keeps t ts one others = first_keeps t (first_applying ts) one others

      deleting_keeps : Keeps (first_applying (attempt parts state Absurd ∷
          attempt parts state Equal ∷ []))
      deleting_keeps =
          both_keep (attempt parts state Absurd) (attempt parts state Equal)
          (attempt_keeps Absurd (absurd_keeps parts state.hypotheses (slice_get state.goals 0)))
          (attempt_keeps Equal (equal_keeps parts state.hypotheses (slice_get state.goals 0)))

      abbrev unfolds : Side → Tried Next
      unfolds side = unfolding_at parts state side (redex_symbol side goal)

      abbrev leaves : Side → Tried Next
      leaves side = leaving_at parts state side (redex_symbol side goal)

      abbrev uses : Tried Next
      uses = first_applying (using_each parts state PartAlone goal 0 state.hypotheses)

      from_naming : later_keep (named parts state goal ∷ uses ∷ by_results parts state goal ∷ [])
      from_naming =
          item_keeps (named parts state goal) (uses ∷ by_results parts state goal ∷ []) named_keeps
          (item_keeps uses (by_results parts state goal ∷ []) (uses_keep PartAlone 0 state.hypotheses)
          (item_keeps (by_results parts state goal) [] by_results_keeps (none_keeps false)))

      from_leaving : later_keep (first_applying (leaves Left ∷ leaves Right ∷ []) ∷
          named parts state goal ∷ uses ∷ by_results parts state goal ∷ [])
      from_leaving =
          item_keeps (first_applying (leaves Left ∷ leaves Right ∷ []))
          (named parts state goal ∷ uses ∷ by_results parts state goal ∷ [])
          (both_keep (leaves Left) (leaves Right) (leaving_keeps Left (redex_symbol Left goal))
          (leaving_keeps Right (redex_symbol Right goal)))
          from_naming

      from_unfolding : later_keep (first_applying (unfolds Left ∷ unfolds Right ∷ []) ∷
          first_applying (leaves Left ∷ leaves Right ∷ []) ∷ named parts state goal ∷ uses ∷
          by_results parts state goal ∷ [])
      from_unfolding =
          item_keeps (first_applying (unfolds Left ∷ unfolds Right ∷ []))
          (first_applying (leaves Left ∷ leaves Right ∷ []) ∷ named parts state goal ∷ uses ∷
          by_results parts state goal ∷ [])
          (both_keep (unfolds Left) (unfolds Right) (unfolding_keeps Left (redex_symbol Left goal))
          (unfolding_keeps Right (redex_symbol Right goal)))
          from_leaving

      settling_keeps : Keeps (first_applying (settling parts state goal))
      settling_keeps =
          item_keeps (first_applying (attempt parts state Absurd ∷ attempt parts state Equal ∷ []))
          (first_applying (unfolds Left ∷ unfolds Right ∷ []) ∷
          first_applying (leaves Left ∷ leaves Right ∷ []) ∷ named parts state goal ∷ uses ∷
          by_results parts state goal ∷ [])
          deleting_keeps from_unfolding

    goals_keep : (goals : List Equation) → Keeps (settling_first parts state goals)
    goals_keep [] = none_keeps false
    goals_keep (goal ∷ goals) = settling_keeps goal

    -- what settling makes has the same hypotheses
    pub move_keeps : (next : Next) → (settling_move parts state).made ≡ Some next →
        next.state.hypotheses ≡ state.hypotheses
    move_keeps = goals_keep state.goals

    -- and so has what uses of hypotheses make
    pub uses_at_first_keep : (how : Matching) (next : Next) →
        (at_first (using_all parts state how) state.goals).made ≡ Some next →
        next.state.hypotheses ≡ state.hypotheses
    uses_at_first_keep how = by state.goals
      where
        by : (goals : List Equation) → Keeps (at_first (using_all parts state how) goals)
        by [] = none_keeps false
        by (goal ∷ goals) = uses_keep goal how 0 state.hypotheses

    -- and so has what an expansion makes that doesn't keep the goal
    pub expansion_keeps : (side : Side) (next : Next) →
        (attempt parts state (Expand side false)).made ≡ Some next →
        next.state.hypotheses ≡ state.hypotheses
    expansion_keeps side =
        attempt_keeps (Expand side false) (expand_keeps parts state.hypotheses
        (slice_get state.goals 0) side)
