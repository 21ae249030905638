-- What is tried at a redex, by whether it is at a loop point.
use Rattle.std.proofs.Common.{◌≡◌, ◌∙◌, ap, sym, cond, Bool, true, false, Option, None, [], ◌∷◌}
use Rattle.std.specs.Prelude.{IfOk, Result, Ok, Err}
use Rattle.rx_solve.specs.Attempts.{fails, first_applying}
use Rattle.rx_term.specs.declared.rule.Equation.{Equation}
use Rattle.rx_term.specs.declared.rule_set.RuleParts.{RuleParts}
use Rattle.rx_term.specs.declared.term.Sym.{Sym}
use Rattle.rx_inference.specs.States.{State}
use Rattle.rx_inference.specs.declared.step.Side.{Side}
use Rattle.rx_moves.specs.Answers.{IsFound, IsFoundAt}
use Rattle.rx_moves.specs.Moves.{Expand}
use Rattle.rx_moves.specs.Trying.{attempt}
use Rattle.rx_moves.specs.Unfolding.{is_at_loop_point, leaving_at, leaving_side, redex_symbol, simplifying, unfolding_at, unfolding_side}
use Rattle.rx_moves.specs.declared.found.Found.{Found}
use Rattle.rx_moves.proofs.FoundLaws.{failed_found, found_of}

module _ (parts : RuleParts) (goal : Equation) (side : Side) (redex : Option Sym)
    (is_redex : redex ≡ redex_symbol side goal) where
  module _ (state : State) where
    unfolding_by : (b : Bool) → is_at_loop_point parts redex ≡ b →
        cond b fails (first_applying (simplifying parts state side None ∷
        attempt parts state (Expand side false) ∷ [])) ≡ unfolding_side parts state side goal
    unfolding_by b e =
        ap (λ x. cond x fails (first_applying (simplifying parts state side None ∷
        attempt parts state (Expand side false) ∷ []))) (sym e) ∙
        ap (unfolding_at parts state side) is_redex

    -- at a loop point nothing is unfolded
    pub unfolds_not : (f : Found) → is_at_loop_point parts redex ≡ true → f ≡
        record { ready = None; noted = false } →
        IsFound parts state (unfolding_side parts state side goal) f
    unfolds_not f e is =
        failed_found parts state (unfolding_side parts state side goal) f
        (sym (unfolding_by true e)) is

    -- elsewhere rules decide, and then the expansion
    pub unfolds : (f : Found) → is_at_loop_point parts redex ≡ false →
        IsFound parts state (first_applying
        (simplifying parts state side None ∷ attempt parts state (Expand side false) ∷ [])) f →
        IsFound parts state (unfolding_side parts state side goal) f
    unfolds f e is =
        found_of parts state _ (unfolding_side parts state side goal) f (unfolding_by false e) is

    leaving_by : (b : Bool) → is_at_loop_point parts redex ≡ b →
        cond b (simplifying parts state side redex) fails ≡ leaving_side parts state side goal
    leaving_by b e =
        ap (λ x. cond x (simplifying parts state side redex) fails) (sym e) ∙
        ap (leaving_at parts state side) is_redex

    -- elsewhere nothing is left
    pub leaves_not : (f : Found) → is_at_loop_point parts redex ≡ false → f ≡
        record { ready = None; noted = false } →
        IsFound parts state (leaving_side parts state side goal) f
    leaves_not f e is =
        failed_found parts state (leaving_side parts state side goal) f (sym (leaving_by false e))
        is

  -- at a loop point the rules decide that leave its component
  pub leaves_answer : {E : Type 0} (r : Result Found E) → is_at_loop_point parts redex ≡ true →
      IfOk r (IsFoundAt parts goal (λ state. simplifying parts state side redex)) →
      IfOk r (IsFoundAt parts goal (λ state. leaving_side parts state side goal))
  leaves_answer (Ok f) e is =
      λ state first. found_of parts state _ (leaving_side parts state side goal) f
      (leaving_by state true e) (is state first)
  leaves_answer (Err x) e is = tt
