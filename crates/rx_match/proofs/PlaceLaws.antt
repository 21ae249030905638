-- A hypothesis is used at one place of a side at most: the part there has as many frames as its
-- left side.
use Rattle.std.proofs.Common.{◌≡◌, ◌∙◌, ap, sym, refl, ℕ, ◌+◌, true, false, Option, Some, None}
use Rattle.std.specs.Option.{option_map_or}
use Rattle.rx_term.proofs.Equations.{induct, depth-Return, depth-Fail, depth-Call, depth-Frame, shape-Return, shape-Fail, shape-Call, shape-Frame}
use Rattle.rx_term.proofs.KeepingLaws.{depth_after}
use Rattle.rx_term.proofs.RuleLaws.{known_shape}
use Rattle.rx_term.specs.Shapes.{Shape, Return, Fail, Call, Frame, shape_of}
use Rattle.rx_term.specs.Stacks.{suffix_at, depth_of}
use Rattle.rx_term.specs.declared.rule.Equation.{Equation}
use Rattle.rx_term.specs.declared.rule.Rule.{Rule}
use Rattle.rx_term.specs.declared.term.Term.{Term}
use Rattle.rx_inference.specs.Pieces.{have_one_shape, side_of}
use Rattle.rx_inference.specs.declared.step.Side.{Side}
use Rattle.rx_match.specs.Matching.{is_place}

-- how many frames a shape has
abbrev frames : Shape → ℕ
frames Return = 0
frames (Fail c) = 0
frames (Call f) = 0
frames (Frame f s) = 1 + frames s

frames_of : (t : Term) → depth_of t ≡ frames (shape_of t)
frames_of = induct (λ t. depth_of t ≡ frames (shape_of t))
    (λ p. depth-Return p ∙ sym (ap frames (shape-Return p)))
    (λ c. depth-Fail c ∙ sym (ap frames (shape-Fail c)))
    (λ f ps. depth-Call f ps ∙ sym (ap frames (shape-Call f ps)))
    (λ f ps t inner. depth-Frame f ps t ∙ ap (λ n. 1 + n) inner ∙
    sym (ap frames (shape-Frame f ps t)))

-- terms of one shape have equally many
one_depth : (s t : Term) → have_one_shape s t ≡ true → depth_of s ≡ depth_of t
one_depth s t h =
    frames_of s ∙ ap frames (known_shape (shape_of s) (shape_of t) h) ∙ sym (frames_of t)

module _ (goal : Equation) (hypothesis : Rule) (side : Side) where
  by_part : (n : ℕ) (o : Option Term) → suffix_at n (side_of side goal) ≡ o
      → option_map_or (λ part. have_one_shape part hypothesis.left) o false ≡ true
      → depth_of (side_of side goal) ≡ n + depth_of hypothesis.left
  by_part n None e h = cc
  by_part n (Some part) e h =
      depth_after n (side_of side goal) part e ∙ ap (λ d. n + d) (one_depth part hypothesis.left h)

  -- n frames are over the part
  pub place_is : (n : ℕ) → is_place goal hypothesis side n ≡ true → depth_of (side_of side goal) ≡
      n + depth_of hypothesis.left
  place_is n h = by_part n (suffix_at n (side_of side goal)) refl h

  -- whether it is a place is whether the part there has the shape
  pub place_by : (n : ℕ) (part : Term) → suffix_at n (side_of side goal) ≡ Some part
      → is_place goal hypothesis side n ≡ have_one_shape part hypothesis.left
  place_by n part e =
      ap (λ (o : Option Term). option_map_or (λ u. have_one_shape u hypothesis.left) o false) e
