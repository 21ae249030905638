-- Rules tried in order: what is left of them decides, with what was noted so far.
use Rattle.std.proofs.Common.{◌≡◌, ◌∙◌, ap, subst, sym, refl, cond, ℕ, suc, ◌+◌, ◌<◌, Bool, true, false, ◌||◌, Option, Some, None, Ok, Err, List, [], ◌∷◌, length, drop, drop_of_length-le, ◌≤◌, add-one, get_or}
use Rattle.std.specs.Prelude.{is_some, slice_get}
use Rattle.std.proofs.lemmas.Option.{slice_get_read}
use Rattle.std.proofs.Math.Seq.{drop-cons}
use Rattle.rx_plain.proofs.Booleans.{or_false}
use Rattle.rx_solve.specs.Attempts.{Tried, fails, first_applying, made_or}
use Rattle.rx_term.specs.declared.rule.Equation.{Equation}
use Rattle.rx_term.specs.declared.rule.Rule.{Rule}
use Rattle.rx_term.specs.declared.rule_set.RuleParts.{RuleParts}
use Rattle.rx_term.specs.declared.term.Sym.{Sym}
use Rattle.rx_inference.specs.States.{State}
use Rattle.rx_inference.specs.declared.step.Side.{Side}
use Rattle.rx_moves.specs.Answers.{IsFound, IsFoundAt, IsUnready}
use Rattle.rx_moves.specs.Moves.{Simplify}
use Rattle.rx_moves.specs.Trying.{Next, attempt, noting}
use Rattle.rx_moves.specs.Unfolding.{by_rules, is_tried, simplifying}
use Rattle.rx_moves.specs.declared.found.Found.{Found}
use Rattle.rx_moves.proofs.FoundLaws.{first_found, found_of, later_is}
use Rattle.rx_moves.proofs.TriedLaws.{noting_again, nothing_noted, some_by}

-- the rule that is read from a list that is borrowed
pub read_rule : (parts : RuleParts) (list : List Rule) → list ≡ parts.rules → (n : ℕ) (rule : Rule) →
    n < length list → rule ≡ get_or list n rule → slice_get parts.rules n ≡ Some rule
read_rule parts list same n rule inside is =
    subst (λ rs. slice_get rs n ≡ Some rule) same
    (slice_get_read list (length list) n rule refl inside is)

module _ (parts : RuleParts) (state : State) (side : Side) (from : Option Sym) where
  -- what comes of the rules from a number on
  abbrev rest : ℕ → List Rule → Tried Next
  rest n rules = first_applying (by_rules parts state side from n rules)

  -- what was noted, and the rules from a number on, decide
  pub record Trying (noted : Bool) (n : ℕ) : Type 0 where
    pub decides : noting noted (rest n (drop n parts.rules)) ≡ simplifying parts state side from

  pub begin : Trying false 0
  begin = record { decides = nothing_noted (simplifying parts state side from) }

  module _ (n : ℕ) (rule : Rule) (rules : List Rule) where
    skipped : is_tried parts from rule ≡ false → rest n (rule ∷ rules) ≡ rest (n + 1) rules
    skipped e =
        ap (λ b. first_applying (cond b (attempt parts state (Simplify side n) ∷
        by_rules parts state side from (n + 1) rules)
        (by_rules parts state side from (n + 1) rules))) e

    tried : is_tried parts from rule ≡ true → rest n (rule ∷ rules) ≡
        made_or (attempt parts state (Simplify side n)).made
        (attempt parts state (Simplify side n)).noted (rest (n + 1) rules)
    tried e =
        ap (λ b. first_applying (cond b (attempt parts state (Simplify side n) ∷
        by_rules parts state side from (n + 1) rules)
        (by_rules parts state side from (n + 1) rules))) e

  module _ (noted : Bool) (n : ℕ) (rule : Rule) (inside : n < length parts.rules)
      (is : rule ≡ get_or parts.rules n rule) (so_far : Trying noted n) where
    here : drop n parts.rules ≡ rule ∷ drop (n + 1) parts.rules
    here =
        drop-cons parts.rules n rule inside ∙ ap (λ r. r ∷ drop (suc n) parts.rules) (sym is) ∙
        ap (λ k. rule ∷ drop k parts.rules) (sym (add-one n))

    from_here : noting noted (rest n (rule ∷ drop (n + 1) parts.rules)) ≡
        simplifying parts state side from
    from_here = ap (λ rs. noting noted (rest n rs)) (sym here) ∙ so_far.decides

    -- a rule isn't tried
    pub next_skipped : is_tried parts from rule ≡ false → Trying noted (n + 1)
    next_skipped e =
        record {
          decides = ap (noting noted) (sym (skipped n rule (drop (n + 1) parts.rules) e)) ∙
              from_here;
        }

    module _ (e : is_tried parts from rule ≡ true) (t u : Found)
        (is_found : IsFound parts state (attempt parts state (Simplify side n)) t)
        (more : u ≡ record { ready = t.ready; noted = noted || t.noted }) where
      abbrev later : Tried Next
      later = rest (n + 1) (drop (n + 1) parts.rules)

      -- it doesn't apply
      pub next_failed : (now : Bool) → IsUnready u (Ok now) → Trying now (n + 1)
      next_failed now unready =
          let none : t.ready ≡ None = sym (ap (λ (x : Found). x.ready) more) ∙
          ap (λ (x : Found). x.ready) unready in
          let so = later_is parts state (attempt parts state (Simplify side n)) t is_found later none
          in
          subst (λ (x : Found). Trying x.noted (n + 1)) (sym more ∙ unready) (record {
            decides = noting_again noted t.noted later ∙ ap (noting noted) (sym so) ∙
                ap (noting noted) (sym (tried n rule (drop (n + 1) parts.rules) e)) ∙ from_here;
          })

      -- it does
      pub this_applies : (same : Found) → IsUnready u (Err same) →
          IsFound parts state (simplifying parts state side from) same
      this_applies same ready =
          let is : same ≡ record { ready = t.ready; noted = noted || t.noted } = ready.0 ∙ more in
          let set : is_some t.ready ≡ true = sym (ap (λ (x : Found). is_some x.ready) is) ∙ ready.1
          in
          let some = some_by t.ready set in
          let first = found_of parts state _ _ t (sym (tried n rule (drop (n + 1) parts.rules) e))
          (first_found parts state (attempt parts state (Simplify side n)) t is_found later some.0
          some.1) in
          subst (λ (x : Found). IsFound parts state (simplifying parts state side from) x) (sym is)
          (found_of parts state (noting noted (rest n (rule ∷ drop (n + 1) parts.rules))) _
          (record { ready = t.ready; noted = noted || t.noted }) from_here
          (record { noted = ap (λ b. noted || b) first.noted; gives = first.gives }))

  -- no rule is left
  pub none_left : (noted : Bool) (n : ℕ) → drop n parts.rules ≡ [] → Trying noted n →
      IsFound parts state (simplifying parts state side from)
      (record { ready = None; noted = noted })
  none_left noted n none so_far =
      let whole : noting noted fails ≡ simplifying parts state side from =
      ap (λ rs. noting noted (rest n rs)) (sym none) ∙ so_far.decides in
      found_of parts state (noting noted fails) _ (record { ready = None; noted = noted }) whole
      (record { noted = sym (or_false noted); gives = refl })

-- ---- along a list that is borrowed

module _ (parts : RuleParts) (goal : Equation) (side : Side) (from : Option Sym) where
  -- at each state that begins with the goal
  abbrev pub TryingAt : Bool → ℕ → Type 0
  TryingAt noted n =
      (state : State) → Some goal ≡ slice_get state.goals 0 → Trying parts state side from noted n

  module _ (list : List Rule) (same_list : list ≡ parts.rules) (noted : Bool) (n : ℕ)
      (so_far : TryingAt noted n) where
    module _ (rule : Rule) (inside : n < length list) (is : rule ≡ get_or list n rule) where
      within : n < length parts.rules
      within = subst (λ rs. n < length rs) same_list inside

      there : rule ≡ get_or parts.rules n rule
      there = subst (λ rs. rule ≡ get_or rs n rule) same_list is

      pub skips : is_tried parts from rule ≡ false → TryingAt noted (n + 1)
      skips e =
          λ state first. next_skipped parts state side from noted n rule within there
          (so_far state first) e

      -- what is found of the rule, by its number
      pub numbered : (m : ℕ) (t : Found) → m ≡ n →
          ((ps : RuleParts) → slice_get ps.rules m ≡ Some rule →
          IsFoundAt ps goal (λ state. attempt ps state (Simplify side m)) t) →
          IsFoundAt parts goal (λ state. attempt parts state (Simplify side n)) t
      numbered m t same found =
          subst (λ k. IsFoundAt parts goal (λ state. attempt parts state (Simplify side k)) t) same
          (found parts (subst (λ k. slice_get parts.rules k ≡ Some rule) (sym same)
          (read_rule parts list same_list n rule inside is)))

      module _ (e : is_tried parts from rule ≡ true) (t u : Found)
          (is_found : IsFoundAt parts goal (λ state. attempt parts state (Simplify side n)) t)
          (more : u ≡ record { ready = t.ready; noted = noted || t.noted }) where
        pub goes_on : (now : Bool) → IsUnready u (Ok now) → TryingAt now (n + 1)
        goes_on now unready =
            λ state first. next_failed parts state side from noted n rule within there
            (so_far state first) e t u (is_found state first) more now unready

        pub ends : (same : Found) → IsUnready u (Err same) →
            IsFoundAt parts goal (λ state. simplifying parts state side from) same
        ends same ready =
            λ state first. this_applies parts state side from noted n rule within there
            (so_far state first) e t u (is_found state first) more same ready

    pub ended : length list ≤ n → IsFoundAt parts goal
        (λ state. simplifying parts state side from) (record { ready = None; noted = noted })
    ended over =
        let none : drop n parts.rules ≡ [] = subst (λ rs. drop n rs ≡ []) same_list
        (drop_of_length-le list over) in
        λ state first. none_left parts state side from noted n none (so_far state first)
