-- What is left of a term, of the rules or of the passes decides.
use Rattle.std.proofs.Common.{◌≡◌, ◌∙◌, ap, sym, refl, arith, ℕ, zero, suc, ◌+◌, ◌-◌, ◌<◌, ◌≤◌, Bool, true, false, if◌then◌else◌, List, ◌∷◌, ◌++◌, drop, get_or, length, map}
use Rattle.std.specs.List.{fold}
use Rattle.std.proofs.lemmas.List.{drop_more}
use Rattle.std.proofs.lemmas.List.Sums.{fold-append}
use Rattle.rx_poly.specs.declared.body.Body.{Body}
use Rattle.rx_row.specs.declared.row.Row.{Row}
use Rattle.rx_pairs.specs.Pairs.{part}
use Rattle.rx_term.specs.declared.rule.Equation.{Equation}
use Rattle.rx_term.specs.declared.rule.Rule.{Rule}
use Rattle.rx_term.specs.declared.rule_set.RuleParts.{RuleParts}
use Rattle.rx_term.specs.declared.term.Sym.{Sym}
use Rattle.rx_term.specs.declared.term.Term.{Term}
use Rattle.rx_term.specs.declared.term.Term.TheVariants.{Return, Fail, Call, Frame}
use Rattle.rx_find_domains.specs.Finding.{at_occurrence, at_part, leaves_all, pass, passes}
use Rattle.rx_find_domains.specs.Parts.{goal_asking, goal_given, occurrences_of, rule_asking}
use Rattle.rx_find_domains.specs.declared.given.Given.{Given}
use Rattle.rx_find_domains.proofs.ShownLaws.{occurrences-Call, occurrences-Fail, occurrences-Frame, occurrences-Return}

-- ---- a term

module _ (given : Given) (lists : List (List Row)) (here : Term) where
  abbrev pub visited : List (List Row)
  visited = fold (at_occurrence given) lists (occurrences_of here)

  pub at_return : (p : Body) → here ≡ Return p → visited ≡ lists
  at_return p is =
      ap (λ (t : Term). fold (at_occurrence given) lists (occurrences_of t)) is ∙
      ap (fold (at_occurrence given) lists) (occurrences-Return p)

  pub at_fail : (c : ℕ) → here ≡ Fail c → visited ≡ lists
  at_fail c is =
      ap (λ (t : Term). fold (at_occurrence given) lists (occurrences_of t)) is ∙
      ap (fold (at_occurrence given) lists) (occurrences-Fail c)

  pub at_call : (f : Sym) (ps : List Body) → here ≡ Call f ps →
      visited ≡ at_occurrence given lists (part f ps)
  at_call f ps is =
      ap (λ (t : Term). fold (at_occurrence given) lists (occurrences_of t)) is ∙
      ap (fold (at_occurrence given) lists) (occurrences-Call f ps)

  pub at_frame : (f : Sym) (ps : List Body) (t : Term) → here ≡ Frame f ps t →
      visited ≡ fold (at_occurrence given) (at_occurrence given lists (part f ps))
      (occurrences_of t)
  at_frame f ps t is =
      ap (λ (u : Term). fold (at_occurrence given) lists (occurrences_of u)) is ∙
      ap (fold (at_occurrence given) lists) (occurrences-Frame f ps t)

-- both sides of the goal
pub goal_visited : (goal : Equation) (given : Given) (lists middle : List (List Row)) →
    given ≡ goal_given goal →
    middle ≡ fold (at_occurrence given) lists (occurrences_of goal.left) →
    fold (at_occurrence given) middle (occurrences_of goal.right) ≡
    at_part lists (goal_asking goal)
goal_visited goal given lists middle is done =
    ap (λ (ls : List (List Row)). fold (at_occurrence given) ls (occurrences_of goal.right)) done ∙
    sym (fold-append (at_occurrence given) lists (occurrences_of goal.left)
    (occurrences_of goal.right)) ∙
    ap (λ (own : Given). fold (at_occurrence own) lists
    (occurrences_of goal.left ++ occurrences_of goal.right)) is

-- ---- the rules

pub rule_next : (lists next : List (List Row)) (rules : List Rule) (i : ℕ) (rule : Rule) →
    i < length rules → rule ≡ get_or rules i rule → next ≡ at_part lists (rule_asking rule) →
    fold at_part next (map rule_asking (drop (i + 1) rules)) ≡
    fold at_part lists (map rule_asking (drop i rules))
rule_next lists next rules i rule there is done =
    ap (λ (ls : List (List Row)). fold at_part ls (map rule_asking (drop (i + 1) rules))) done ∙
    sym (ap (λ (rs : List Rule). fold at_part lists (map rule_asking rs))
    (drop_more rules i rule there ∙ ap (λ (r : Rule). r ∷ drop (i + 1) rules) (sym is)))

-- ---- passes

module _ (parts : RuleParts) (goal : Equation) (lists : List (List Row)) where
  by_count : (n : ℕ) (b : Bool) → 0 < n → leaves_all parts goal lists ≡ b →
      passes n parts goal lists ≡
      (if b then pass parts goal lists else passes (n - 1) parts goal (pass parts goal lists))
  by_count zero b some is = absurd (omega (arith, some))
  by_count (suc n) b some is =
      let before : n ≡ suc n - 1 = omega arith in
      ap (λ (c : Bool). if c then pass parts goal lists else
      passes n parts goal (pass parts goal lists)) is ∙
      ap (λ (k : ℕ). if b then pass parts goal lists else
      passes k parts goal (pass parts goal lists)) before

  -- the last pass
  pub last_pass : (n : ℕ) → 0 < n → leaves_all parts goal lists ≡ true →
      passes n parts goal lists ≡ pass parts goal lists
  last_pass n some is = by_count n true some is

  -- another
  pub more_passes : (n : ℕ) → 0 < n → leaves_all parts goal lists ≡ false →
      passes n parts goal lists ≡ passes (n - 1) parts goal (pass parts goal lists)
  more_passes n some is = by_count n false some is

  -- none
  pub no_pass : (n : ℕ) → n ≤ 0 → passes n parts goal lists ≡ lists
  no_pass zero none = refl
  no_pass (suc n) none = absurd (omega (arith, none))
