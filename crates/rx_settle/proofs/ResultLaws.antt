-- Results at a common suffix.
use Rattle.std.proofs.Common.{◌≡◌, ◌≢◌, ◌∙◌, ap, subst, sym, refl, ℕ, ◌+◌, ◌-◌, ◌==◌, Bool, true, false, ◌||◌, Some, None}
use Rattle.std.specs.Prelude.{if◌then◌else◌, nat_lt, slice_get}
use Rattle.rx_solve.specs.Attempts.{Tried, fails}
use Rattle.rx_term.specs.Bounds.{equation_bound}
use Rattle.rx_term.specs.Stacks.{depth_of}
use Rattle.rx_term.specs.declared.rule.Equation.{Equation}
use Rattle.rx_term.specs.declared.rule_set.RuleParts.{RuleParts}
use Rattle.rx_inference.specs.States.{State}
use Rattle.rx_settle.specs.Answers.{IsTrial}
use Rattle.rx_settle.specs.AtFirst.{at_first}
use Rattle.rx_lemma.specs.Lemmas.{variables_end}
use Rattle.rx_settle.specs.Settling.{by_results, resulting, resulting_at}
use Rattle.rx_moves.specs.Suffixes.{common_suffix}
use Rattle.rx_moves.specs.Trying.{Next, noting}
use Rattle.rx_moves.specs.declared.finding.Common.{Common}
use Rattle.rx_moves.specs.declared.finding.Suffix.{Suffix}
use Rattle.rx_settle.specs.declared.trial.Trial.{Trial}
use Rattle.rx_settle.proofs.FirstLaws.{at_goal}
use Rattle.rx_settle.proofs.TrialLaws.{failed_trial, trial_of}

module _ (parts : RuleParts) (old : State) where
  -- what is tried at a suffix of so many parts
  abbrev tried_at : ℕ → ℕ → ℕ → Tried Next
  tried_at n left right = if n == 0 then fails else resulting_at parts old left right

  -- the places are looked at only where there is a part
  places_by : (none : Bool) (left right at on : ℕ) → (none ≡ false → left ≡ at)
      → (none ≡ false → right ≡ on)
      → (if none then fails else resulting_at parts old left right) ≡
      (if none then fails else resulting_at parts old at on)
  places_by true left right at on l r = refl
  places_by false left right at on l r = λ i. resulting_at parts old (l refl i) (r refl i)

  a_part : (n : ℕ) → (n == 0) ≡ false → n ≢ 0
  a_part n e = λ none. let same : (n == 0) ≡ true = ap (λ k. k == 0) none in cc

  at_places : (n left right at on : ℕ) → (n ≢ 0 → left ≡ at) → (n ≢ 0 → right ≡ on)
      → tried_at n left right ≡ tried_at n at on
  at_places n left right at on l r =
      places_by (n == 0) left right at on (λ e. l (a_part n e)) (λ e. r (a_part n e))

  -- no variable is left for what comes of it
  pub results_above : (goal : Equation) (t : Trial) → Some goal ≡ slice_get old.goals 0
      → nat_lt (equation_bound goal) variables_end ≡ false
      → t ≡ record { taken = None; noted = false }
      → IsTrial parts old old (at_first (by_results parts old) old.goals) t
  results_above goal t here above is =
      failed_trial parts old _ t (at_goal (by_results parts old) old.goals goal here
      ∙ ap (λ b. if b then
      resulting parts old goal (common_suffix goal.rows goal.left goal.right) else fails) above) is

  module _ (goal : Equation) (suffix : Suffix) (new : State) (t u : Trial)
      (above : nat_lt (equation_bound goal) variables_end ≡ true)
      (common : suffix.common ≡ common_suffix goal.rows goal.left goal.right)
      (left : suffix.common.parts ≢ 0
      → suffix.left ≡ 1 + depth_of goal.left - suffix.common.parts)
      (right : suffix.common.parts ≢ 0
      → suffix.right ≡ 1 + depth_of goal.right - suffix.common.parts)
      (trial : IsTrial parts old new
      (tried_at suffix.common.parts suffix.left suffix.right) t)
      (noted : u ≡ record { taken = t.taken; noted = suffix.common.noted || t.noted }) where
    resulting_is : noting suffix.common.noted
        (tried_at suffix.common.parts suffix.left suffix.right) ≡ by_results parts old goal
    resulting_is =
        ap (noting suffix.common.noted) (at_places suffix.common.parts suffix.left suffix.right
        (1 + depth_of goal.left - suffix.common.parts)
        (1 + depth_of goal.right - suffix.common.parts) left right)
        ∙ ap (λ (c : Common). resulting parts old goal c) common
        ∙ ap (λ b. if b then
        resulting parts old goal (common_suffix goal.rows goal.left goal.right) else fails)
        (sym above)

    pub results_tried : Some goal ≡ slice_get old.goals 0
        → IsTrial parts old new (at_first (by_results parts old) old.goals) u
    results_tried here =
        subst (λ (x : Trial). IsTrial parts old new (at_first (by_results parts old) old.goals) x)
        (sym noted)
        (trial_of parts old new _ _ (record {
          taken = t.taken;
          noted = suffix.common.noted || t.noted;
        })
        (resulting_is ∙ sym (at_goal (by_results parts old) old.goals goal here))
        (record { noted = ap (λ b. suffix.common.noted || b) trial.noted; taken = trial.taken }))
