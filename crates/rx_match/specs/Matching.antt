-- When a hypothesis is used at a part of a side of the goal. Its variables are set by the arguments
-- of the part, and then by its own equations; the step with them is formed, and all rows that it
-- asks are shown by the rows of the goal.
use Rattle.std.specs.Prelude.{ℕ, Bool, false, ◌&&◌, if◌then◌else◌, List, length}
use Rattle.std.specs.Option.{option_map_or}
use Rattle.rx_plain.specs.Formed.{Formed, ◌<$>◌}
use Rattle.rx_poly.specs.declared.body.Body.{Body}
use Rattle.rx_row.specs.declared.row.Row.{Row}
use Rattle.rx_cert.specs.Showing.{all_shown}
use Rattle.rx_term.specs.Stacks.{suffix_at}
use Rattle.rx_term.specs.declared.rule.Equation.{Equation}
use Rattle.rx_term.specs.declared.rule.Rule.{Rule}
use Rattle.rx_term.specs.declared.term.Term.{Term}
use Rattle.rx_solve.specs.Attempts.{Tried, beyond, fails, where_shown}
use Rattle.rx_solve.specs.Refuter.{refuted}
use Rattle.rx_inference.specs.Making.{hypothesis_with}
use Rattle.rx_inference.specs.Pieces.{have_one_shape, is_substitution, side_of}
use Rattle.rx_inference.specs.declared.pieces.RuleInstance.{RuleInstance}
use Rattle.rx_inference.specs.declared.step.Side.{Side}
use Rattle.rx_match.specs.Arguments.{set_by_arguments}
use Rattle.rx_match.specs.Equations.{pass_times}
use Rattle.rx_match.specs.Settings.{is_set}
use Rattle.rx_match.specs.Variables.{rule_passes}

-- ---- the match

-- as many passes as there are rows: each that sets a variable sets the last one of some row
abbrev pub matching : Rule → Term → Formed (List (ℕ × Body))
matching hypothesis part =
    pass_times (length hypothesis.rows) hypothesis.rows (set_by_arguments hypothesis.left part)

-- ---- the use

-- what is formed first keeps the limits, or else it doesn't apply, and that is noted
abbrev pub where_within : {A B : Type 0} → Formed A → (A → Tried B) → Tried B
where_within f next = if f.within then next f.form else beyond

-- all variables of the hypothesis are set, and the list is a substitution
abbrev pub is_matched : Rule → List (ℕ × Body) → Bool
is_matched hypothesis ws = rule_passes (is_set ws) hypothesis && is_substitution ws

-- the rows that the step asks: those of the equal polynomials, and the hypothesis's own
abbrev pub asked_rows : List (ℕ × Body) → Term → Rule → Formed (List Row)
asked_rows ws part hypothesis =
    (λ (i : RuleInstance). i.rows) <$> hypothesis_with ws part hypothesis

-- then these rows are shown
abbrev pub use_with : Equation → Rule → Term → List (ℕ × Body) → Tried (List (ℕ × Body))
use_with goal hypothesis part ws =
    if is_matched hypothesis ws
    then where_within (asked_rows ws part hypothesis)
    (λ rows. where_shown (all_shown refuted goal.rows rows) ws)
    else fails

-- with what is matched so, at a part of the shape of the hypothesis's left side
abbrev pub use_matched : Equation → Rule → Term → Formed (List (ℕ × Body)) →
    Tried (List (ℕ × Body))
use_matched goal hypothesis part settings =
    if have_one_shape part hypothesis.left
    then where_within settings (use_with goal hypothesis part)
    else fails

-- with what the part and the hypothesis's equations set
abbrev pub use_at : Equation → Rule → Term → Tried (List (ℕ × Body))
use_at goal hypothesis part = use_matched goal hypothesis part (matching hypothesis part)

-- at the part under n frames of a side, if there is one
abbrev pub use_of : Equation → Rule → Side → ℕ → Tried (List (ℕ × Body))
use_of goal hypothesis side place =
    option_map_or (use_at goal hypothesis) (suffix_at place (side_of side goal)) fails

-- ---- where

-- the part under n frames of the side has the shape of the hypothesis's left side
abbrev pub is_place : Equation → Rule → Side → ℕ → Bool
is_place goal hypothesis side place =
    option_map_or (λ part. have_one_shape part hypothesis.left)
    (suffix_at place (side_of side goal))
    false
