-- What is tried at the redex of a side: rules in order, and the expansion by all of them.
use Rattle.std.specs.Prelude.{ℕ, ◌+◌, Bool, true, false, not, if◌then◌else◌, Option, Some, None, List, [], ◌∷◌, option_and_then}
use Rattle.std.specs.Option.{option_map_or}
use Rattle.rx_solve.specs.Attempts.{Tried, fails, first_applying}
use Rattle.rx_term.specs.Meaning.{redex_of}
use Rattle.rx_term.specs.Stacks.{root_of}
use Rattle.rx_term.specs.declared.rule.Equation.{Equation}
use Rattle.rx_term.specs.declared.rule.Rule.{Rule}
use Rattle.rx_term.specs.declared.rule_set.RuleParts.{RuleParts}
use Rattle.rx_term.specs.declared.term.Sym.{Sym}
use Rattle.rx_pairs.specs.Loops.{in_one_component, is_loop_point}
use Rattle.rx_inference.specs.Pieces.{side_of}
use Rattle.rx_inference.specs.States.{State}
use Rattle.rx_inference.specs.declared.step.Side.{Side}
use Rattle.rx_inference.specs.declared.step.Side.TheVariants.{Left, Right}
use Rattle.rx_moves.specs.Moves.{Simplify, Expand}
use Rattle.rx_moves.specs.Trying.{Next, attempt}

-- ---- redexes

-- the symbol of the redex of a side, if that has one
abbrev pub redex_symbol : Side → Equation → Option Sym
redex_symbol side goal = option_and_then root_of (redex_of (side_of side goal))

-- it is a loop point's
abbrev pub is_at_loop_point : RuleParts → Option Sym → Bool
is_at_loop_point parts redex = option_map_or (λ (f : Sym). is_loop_point parts f.0) redex false

-- the right side of the rule doesn't begin in the component of the symbol; a result begins in none
abbrev pub leaves : RuleParts → Sym → Rule → Bool
leaves parts f rule =
    option_map_or (λ (g : Sym). not (in_one_component parts f.0 g.0)) (root_of rule.right) true

-- the rules that are tried: all, or those that leave the component of a symbol
abbrev pub is_tried : RuleParts → Option Sym → Rule → Bool
is_tried parts None rule = true
is_tried parts (Some f) rule = leaves parts f rule

-- ---- moves

module _ (parts : RuleParts) (state : State) where
  -- Simplify by each of the rules that are tried, the first having that number; a rule of another
  -- shape than the redex's doesn't apply
  abbrev pub by_rules : Side → Option Sym → ℕ → List Rule → List (Tried Next)
  by_rules side from n [] = []
  by_rules side from n (rule ∷ rules) =
      if is_tried parts from rule then attempt parts state (Simplify side n) ∷
      by_rules side from (n + 1) rules
      else by_rules side from (n + 1) rules

  abbrev pub simplifying : Side → Option Sym → Tried Next
  simplifying side from = first_applying (by_rules side from 0 parts.rules)

  -- at a redex that is at no loop point: Simplify by the rules in order, and then Expand without
  -- keeping
  abbrev pub unfolding_at : Side → Option Sym → Tried Next
  unfolding_at side redex =
      if is_at_loop_point parts redex then fails
      else first_applying (simplifying side None ∷ attempt parts state (Expand side false) ∷ [])

  -- at a loop point: Simplify by the rules in order that leave its component
  abbrev pub leaving_at : Side → Option Sym → Tried Next
  leaving_at side redex = if is_at_loop_point parts redex then simplifying side redex else fails

  -- ---- the sides

  -- a side, where its redex is at no loop point
  abbrev pub unfolding_side : Side → Equation → Tried Next
  unfolding_side side goal = unfolding_at side (redex_symbol side goal)

  -- both sides in turn
  abbrev pub unfolding_sides : Equation → Tried Next
  unfolding_sides goal = first_applying (unfolding_side Left goal ∷ unfolding_side Right goal ∷ [])

  -- a side, where its redex is at a loop point
  abbrev pub leaving_side : Side → Equation → Tried Next
  leaving_side side goal = leaving_at side (redex_symbol side goal)

  -- both sides in turn
  abbrev pub leaving_sides : Equation → Tried Next
  leaving_sides goal = first_applying (leaving_side Left goal ∷ leaving_side Right goal ∷ [])
