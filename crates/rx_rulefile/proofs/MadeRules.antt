-- Where no rule is found that isn't well made, all are.
use Rattle.std.proofs.Common.{◌≡◌, refl, ℕ, ◌+◌, ◌≤◌, ltb, Bool, true, false, ◌&&◌, not, cond, if◌then◌else◌, Option, Some, None, List, [], ◌∷◌, length, arith}
use Rattle.std.proofs.lemmas.Bool.{and_from, and_parts}
use borrow.Author.Tests.{ltb-false}
use Rattle.std.specs.List.{list_all, position_or_len}
use Rattle.std.specs.Option.{option_or}
use Rattle.rx_term.proofs.MadeLaws.{well_made_by_test}
use Rattle.rx_term.specs.Fitting.{term_fits}
use Rattle.rx_term.specs.MadeTest.{is_made, is_well_made}
use Rattle.rx_term.specs.WellMade.{IsWellMade}
use Rattle.rx_term.specs.declared.rule.Equation.{Equation}
use Rattle.rx_term.specs.declared.rule.Rule.{Rule}
use Rattle.rx_term.specs.declared.rule_set.RuleParts.{RuleParts}
use Rattle.rx_rulefile.specs.RuleTexts.{first_unmade, unfitting_goal, unmade_rule}

both_none : {A : Type 0} (a b : Option A) → option_or a b ≡ None → (a ≡ None) × (b ≡ None)
both_none None b e = (refl, e)
both_none (Some x) b e = absurd (cc)

none_case : (b : Bool) (n : ℕ) → cond b (Some n) None ≡ None → b ≡ false
none_case true n e = absurd (cc)
none_case false n e = refl

fitting_case : (b : Bool) (n : ℕ) → (if b then None else Some n) ≡ None → b ≡ true
fitting_case true n e = refl
fitting_case false n e = absurd (cc)

module _ (parts : RuleParts) where
  abbrev unmade : Rule → Bool
  unmade rule = not (is_made parts rule)

  made_case : (b : Bool) (x : Rule) (xs : List Rule) (n : ℕ) → is_made parts x ≡ b →
      length (x ∷ xs) ≤ cond (not (not b)) (1 + n) 0 →
      (length xs ≤ n → list_all (is_made parts) xs ≡ true) →
      list_all (is_made parts) (x ∷ xs) ≡ true
  made_case true x xs n e h rest =
      and_from (is_made parts x) (list_all (is_made parts) xs) e (rest (omega arith))
  made_case false x xs n e h rest = absurd (omega arith)

  none_found : (xs : List Rule) → length xs ≤ position_or_len unmade xs →
      list_all (is_made parts) xs ≡ true
  none_found [] h = refl
  none_found (x ∷ xs) h =
      made_case (is_made parts x) x xs (position_or_len unmade xs) refl h (none_found xs)

  all_made : unmade_rule parts ≡ None → is_well_made parts ≡ true
  all_made e =
      none_found parts.rules (ltb-false _ _ (none_case
      (ltb (position_or_len unmade parts.rules) (length parts.rules))
      (position_or_len unmade parts.rules) e))

-- a rule set of which nothing is unmade is well made, and the equation fits
pub made : (parts : RuleParts) (goal : Equation) → first_unmade parts goal ≡ None →
    IsWellMade parts × ((term_fits parts goal.left ≡ true) × (term_fits parts goal.right ≡ true))
made parts goal e =
    let none = both_none (unmade_rule parts) (unfitting_goal parts goal) e in
    let fits = and_parts (term_fits parts goal.left) (term_fits parts goal.right)
    (fitting_case (term_fits parts goal.left && term_fits parts goal.right) (length parts.rules)
    none.1) in
    (well_made_by_test parts (all_made parts none.0), (fits.0, fits.1))
