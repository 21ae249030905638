-- Of well made rules none is the first that isn't; so a problem whose rules are well made, and whose
-- goal fits them, is posed by its text.
use Rattle.std.proofs.Common.{◌≡◌, refl, ℕ, ◌+◌, ◌≤◌, ltb, Bool, true, false, ◌&&◌, not, cond, if◌then◌else◌, Option, Some, None, List, [], ◌∷◌, length, arith}
use Rattle.std.proofs.lemmas.Bool.{and_from, and_parts, le-ltb}
use Rattle.std.specs.List.{list_all, position_or_len}
use Rattle.std.specs.Option.{option_or}
use Rattle.c_front.specs.declared.stages.Next.TheVariants.{Goes}
use Rattle.rx_proofs.specs.Goals.{IsFitting}
use Rattle.rx_rulefile.specs.RuleTexts.{IsRuleText, first_unmade, unfitting_goal, unmade_rule}
use Rattle.rx_term.proofs.MadeLaws.{test_of_well_made}
use Rattle.rx_term.specs.Fitting.{term_fits}
use Rattle.rx_term.specs.MadeTest.{is_made}
use Rattle.rx_term.specs.WellMade.{IsWellMade}
use Rattle.rx_term.specs.declared.rule.Equation.{Equation}
use Rattle.rx_term.specs.declared.rule.Rule.{Rule}
use Rattle.rx_term.specs.declared.rule_set.RuleParts.{RuleParts}
use Rattle.rx_cli.specs.declared.problems.Problem.{Problem}
use Rattle.rx_cli.specs.Problems.{posed}

neither : {A : Type 0} (a b : Option A) → a ≡ None → b ≡ None → option_or a b ≡ None
neither None b none too = too
neither (Some x) b none too = absurd (cc)

unless : (b : Bool) (n : ℕ) → b ≡ false → cond b (Some n) None ≡ None
unless true n e = absurd (cc)
unless false n e = refl

when : (b : Bool) (n : ℕ) → b ≡ true → (if b then None else Some n) ≡ None
when true n e = refl
when false n e = absurd (cc)

module _ (parts : RuleParts) where
  abbrev unmade : Rule → Bool
  unmade rule = not (is_made parts rule)

  later : (b : Bool) (x : Rule) (xs : List Rule) (n : ℕ) → b ≡ true → length xs ≤ n →
      length (x ∷ xs) ≤ cond (not (not b)) (1 + n) 0
  later true x xs n e h = omega arith
  later false x xs n e h = absurd (cc)

  none_before : (xs : List Rule) → list_all (is_made parts) xs ≡ true →
      length xs ≤ position_or_len unmade xs
  none_before [] e = omega arith
  none_before (x ∷ xs) e =
      let both = and_parts (is_made parts x) (list_all (is_made parts) xs) e in
      later (is_made parts x) x xs (position_or_len unmade xs) both.0 (none_before xs both.1)

  all_made : IsWellMade parts → unmade_rule parts ≡ None
  all_made well =
      unless (ltb (position_or_len unmade parts.rules) (length parts.rules))
      (position_or_len unmade parts.rules)
      (le-ltb (position_or_len unmade parts.rules) (length parts.rules)
      (none_before parts.rules (test_of_well_made parts well)))

  pub none_unmade : (goal : Equation) → IsWellMade parts → IsFitting parts goal →
      first_unmade parts goal ≡ None
  none_unmade goal well fits =
      neither (unmade_rule parts) (unfitting_goal parts goal) (all_made well)
      (when (term_fits parts goal.left && term_fits parts goal.right) (length parts.rules)
      (and_from (term_fits parts goal.left) (term_fits parts goal.right) fits.left fits.right))

-- so the text of such a problem poses it
pub text_poses : (problem : Problem) (text : List ℕ) → IsWellMade problem.rules →
    IsFitting problem.rules problem.goal → IsRuleText text problem.rules problem.goal →
    posed text (Goes problem)
text_poses problem text well fits is =
    (is, none_unmade problem.rules problem.goal well fits)
