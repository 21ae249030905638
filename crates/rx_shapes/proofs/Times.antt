-- Goals that are gathered, and turns, one after the other.
use Rattle.std.proofs.Common.{◌≡◌, ◌∙◌, ap, sym, ℕ, zero, suc, ◌-◌, ◌<◌, Bool, true, false, Option, Some, None, Result, Ok, Err, IfOk, List, arith}
use Rattle.std.specs.Prelude.{if◌then◌else◌}
use Rattle.rx_term.specs.declared.rule.Equation.{Equation}
use Rattle.rx_term.specs.declared.rule_set.RuleParts.{RuleParts}
use Rattle.rx_inference.specs.declared.step.Side.{Side}
use Rattle.rx_shapes.specs.Kept.{first_equation, gather, gather_times, turned, turns}
use Rattle.rx_shapes.specs.Options.{◌>>=◌}
use Rattle.rx_shapes.specs.declared.followed.Followed.{Followed}
use Rattle.rx_shapes.specs.declared.gathering.Gathering.{Gathering}
use Rattle.rx_shapes.specs.declared.offering.Turn.{Turn}

module _ (parts : RuleParts) (descend : List Side → Equation → Option (List Equation))
    (plan : List Side) (goal : Equation) where
  -- ---- what is gathered

  once : (n : ℕ) (so_far : Gathering) → 0 < n → gather_times parts descend plan goal n so_far ≡
      (gather parts descend plan goal so_far >>= gather_times parts descend plan goal (n - 1))
  unfolding gather_times
  once zero so_far h = absurd (omega (arith, h))
  once (suc n) so_far h =
      let less : suc n - 1 ≡ n = omega arith in
      λ i. gather parts descend plan goal so_far >>= gather_times parts descend plan goal (sym less i)

  -- one that doesn't apply decides
  pub none_gathered : (n : ℕ) (so_far : Gathering) (whole : Option Gathering) → 0 < n →
      gather_times parts descend plan goal n so_far ≡ whole →
      None ≡ gather parts descend plan goal so_far → None ≡ whole
  none_gathered n so_far whole h m e =
      ap (λ o. o >>= gather_times parts descend plan goal (n - 1)) e ∙ sym (once n so_far h) ∙ m

  -- one that does leaves it to the others
  pub some_gathered : (n : ℕ) (so_far next : Gathering) (whole : Option Gathering) → 0 < n →
      gather_times parts descend plan goal n so_far ≡ whole →
      Some next ≡ gather parts descend plan goal so_far →
      gather_times parts descend plan goal (n - 1) next ≡ whole
  some_gathered n so_far next whole h m e =
      ap (λ o. o >>= gather_times parts descend plan goal (n - 1)) e ∙ sym (once n so_far h) ∙ m

  -- none is left
  pub all_gathered : (n : ℕ) (so_far : Gathering) (whole : Option Gathering) → n ≡ 0 →
      gather_times parts descend plan goal n so_far ≡ whole → Some so_far ≡ whole
  unfolding gather_times
  all_gathered zero so_far whole h m = m
  all_gathered (suc n) so_far whole h m = absurd (omega (arith, h))

  -- ---- turns

  -- what follows a turn
  abbrev pub following_turn : ℕ → Turn → Option Equation
  following_turn n turn =
      if turn.grown then turns parts descend plan goal n turn.shapes else first_equation turn.shapes

  one_turn : (n : ℕ) (fs : List Followed) → 0 < n → turns parts descend plan goal n fs ≡
      (turned parts descend plan goal fs >>= following_turn (n - 1))
  unfolding turns
  one_turn zero fs h = absurd (omega (arith, h))
  one_turn (suc n) fs h =
      let less : suc n - 1 ≡ n = omega arith in
      λ i. turned parts descend plan goal fs >>= following_turn (sym less i)

  -- one that isn't made decides
  pub none_turned : (n : ℕ) (fs : List Followed) (whole : Option Equation) → 0 < n →
      turns parts descend plan goal n fs ≡ whole → None ≡ turned parts descend plan goal fs →
      None ≡ whole
  none_turned n fs whole h m e =
      ap (λ o. o >>= following_turn (n - 1)) e ∙ sym (one_turn n fs h) ∙ m

  after_turn : (n : ℕ) (fs : List Followed) (turn : Turn) (whole : Option Equation) → 0 < n →
      turns parts descend plan goal n fs ≡ whole → Some turn ≡ turned parts descend plan goal fs →
      following_turn (n - 1) turn ≡ whole
  after_turn n fs turn whole h m e =
      ap (λ o. o >>= following_turn (n - 1)) e ∙ sym (one_turn n fs h) ∙ m

  -- one in which a goal is added leaves it to the others
  pub grown_turned : (n : ℕ) (fs : List Followed) (turn : Turn) (whole : Option Equation) → 0 < n →
      turns parts descend plan goal n fs ≡ whole → Some turn ≡ turned parts descend plan goal fs →
      turn.grown ≡ true → turns parts descend plan goal (n - 1) turn.shapes ≡ whole
  grown_turned n fs turn whole h m e g =
      sym (ap (λ (b : Bool). if b then turns parts descend plan goal (n - 1) turn.shapes
      else first_equation turn.shapes) g) ∙ after_turn n fs turn whole h m e

  -- one in which none is added gives the equation
  steady_turned : (n : ℕ) (fs : List Followed) (turn : Turn) (whole : Option Equation) → 0 < n →
      turns parts descend plan goal n fs ≡ whole → Some turn ≡ turned parts descend plan goal fs →
      turn.grown ≡ false → first_equation turn.shapes ≡ whole
  steady_turned n fs turn whole h m e g =
      sym (ap (λ (b : Bool). if b then turns parts descend plan goal (n - 1) turn.shapes
      else first_equation turn.shapes) g) ∙ after_turn n fs turn whole h m e

  -- so does its answer
  pub steady_answer : {E : Type 0} (n : ℕ) (fs : List Followed) (turn : Turn)
      (whole : Option Equation) (r : Result (Option Equation) E) (gs : List Followed) → 0 < n →
      turns parts descend plan goal n fs ≡ whole → Some turn ≡ turned parts descend plan goal fs →
      turn.grown ≡ false → gs ≡ turn.shapes → IfOk r (λ o. o ≡ first_equation gs) →
      IfOk r (λ o. o ≡ whole)
  steady_answer n fs turn whole (Err e) gs h m made steady same is = tt
  steady_answer n fs turn whole (Ok o) gs h m made steady same is =
      is ∙ ap first_equation same ∙ steady_turned n fs turn whole h m made steady

  -- none is left
  pub none_left : (n : ℕ) (fs : List Followed) (whole : Option Equation) → n ≡ 0 →
      turns parts descend plan goal n fs ≡ whole → None ≡ whole
  unfolding turns
  none_left zero fs whole h m = m
  none_left (suc n) fs whole h m = absurd (omega (arith, h))
