-- The points of a rule set at which unfolding may go on for ever, and what lies on a loop with
-- them.
use Rattle.std.specs.Prelude.{◌≡◌, ◌<◌, Bool, false, ◌&&◌, ℕ, List, length, slice_get, slice_index_or}
use Rattle.std.specs.Option.{option_map_or}
use Rattle.rx_term.specs.declared.rule_set.RuleParts.{RuleParts}
use Rattle.rx_graph.specs.Components.{AreComponents}
use Rattle.rx_graph.specs.Graph.{IsOver, below, reaches, together}
use Rattle.rx_pairs.specs.Graph.{edges_of, may_loop}
use Rattle.rx_pairs.specs.Listed.{pairs_by_all}
use Rattle.rx_pairs.specs.declared.loops.Loops.{Loops}

-- the edges of the pairs of a set's rules
abbrev pub rule_edges : RuleParts → List (ℕ × ℕ)
rule_edges parts = edges_of (pairs_by_all parts.rules)

-- the entry of a function or the head of a loop, no frame, that reaches itself
abbrev pub is_loop_point : RuleParts → ℕ → Bool
is_loop_point parts f =
    option_map_or may_loop (slice_get parts.symbols f) false &&
    reaches (rule_edges parts) (below (length parts.symbols)) f f

-- two symbols are one, or reach each other
abbrev pub in_one_component : RuleParts → ℕ → ℕ → Bool
in_one_component parts a b = together (rule_edges parts) (below (length parts.symbols)) a b

-- by symbol whether it is a loop point, and the least symbol of its component
pub record AreLoopsOf (parts : RuleParts) (loops : Loops) : Type 0 where
  pub over : IsOver (length parts.symbols) (rule_edges parts)
  pub points_count : length loops.points.items ≡ length parts.symbols
  pub points : (f : ℕ) → f < length parts.symbols → slice_index_or loops.points.items f false ≡
      is_loop_point parts f
  pub components_count : length loops.components.items ≡ length parts.symbols
  pub components : AreComponents (length parts.symbols) (rule_edges parts) loops.components.items
