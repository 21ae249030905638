-- The step to an equation of which a goal is an instance: where it applies, that equation alone is
-- what comes of the goal.
use Rattle.std.proofs.Common.{◌≡◌, Bool, true, false, ◌&&◌, if◌then◌else◌, Some, Ok, Err, List, refl, ℕ}
use Rattle.rx_plain.specs.Formed.{Formed}
use Rattle.rx_poly.specs.declared.body.Body.{Body}
use Rattle.rx_cert.specs.Findings.{Said, Yes, No, Beyond}
use Rattle.rx_solve.specs.Attempts.{Tried, applies, where_shown}
use Rattle.rx_term.specs.declared.rule.Equation.{Equation}
use Rattle.rx_term.specs.declared.rule_set.RuleParts.{RuleParts}
use Rattle.rx_inference.specs.Forming.{Forming, limited, provided}
use Rattle.rx_inference.specs.Making.{generalised_by}
use Rattle.rx_inference.specs.Pieces.{have_one_shape, is_equation, is_substitution}
use Rattle.rx_inference.specs.declared.form_end.FormEnd.TheVariants.{Large}
use Rattle.rx_inference.specs.declared.formed_step.FormedStep.{FormedStep}
use Rattle.rx_steps.specs.Alone.{alone}
use Rattle.rx_moves.specs.Moves.{Generalise, Move}
use Rattle.rx_moves.specs.Trying.{Next, asked_shown, attempt, next_if_formed}

module _ (parts : RuleParts) (goal new : Equation) (ws : List (ℕ × Body)) where
  abbrev move : Move
  move = Generalise new ws

  -- the move, and the new equation alone
  abbrev pub to_new : Next
  to_new = record { move = move; state = alone new }

  abbrev made : Formed FormedStep
  made = generalised_by parts goal new ws

  abbrev if_formed : Forming FormedStep → Tried Next
  if_formed = next_if_formed (alone goal) move

  by_said : (next : Next) (said : Said) → (where_shown said to_new).made ≡ Some next →
      where_shown said to_new ≡ applies to_new
  by_said next Yes e = refl
  by_said next No e = absurd cc
  by_said next Beyond e = absurd cc

  by_limits : (next : Next) (b : Bool) →
      (if_formed (if b then Ok made.form else Err Large)).made ≡ Some next →
      if_formed (if b then Ok made.form else Err Large) ≡ applies to_new
  by_limits next true e = by_said next (asked_shown goal.rows new.rows made.form.asked) e
  by_limits next false e = absurd cc

  by_test : (next : Next) (b : Bool) →
      (if_formed (provided b (limited made))).made ≡ Some next →
      if_formed (provided b (limited made)) ≡ applies to_new
  by_test next true e = by_limits next made.within e
  by_test next false e = absurd cc

  pub applies_to_new : (next : Next) → (attempt parts (alone goal) move).made ≡ Some next →
      attempt parts (alone goal) move ≡ applies to_new
  unfolding attempt
  applies_to_new next e =
      by_test next
      (is_equation parts new && (is_substitution ws &&
      (have_one_shape new.left goal.left && have_one_shape new.right goal.right))) e
