-- What is at the places of the call that a term ends in.
use Rattle.std.specs.Prelude.{ℕ, ◌==◌, ◌&&◌, if◌then◌else◌, Bool, false, Option, Some, None, option_and_then, slice_get, slice_set, ℤ}
use Rattle.std.specs.Option.{option_map_or}
use Rattle.rx_poly.specs.Constants.{variable}
use Rattle.rx_term.specs.Stacks.{replace_redex}
use Rattle.rx_term.specs.declared.rule_set.RuleParts.{RuleParts}
use Rattle.rx_term.specs.declared.rule_set.SymInfo.{SymInfo}
use Rattle.rx_term.specs.declared.term.Term.{Term}
use Rattle.rx_term.specs.declared.term.Term.TheVariants as made
use Rattle.rx_pairs.specs.Loops.{is_loop_point}
use Rattle.rx_lemma.specs.Calls.{Applied, call_of, constant, lone_variable}

-- ---- places of a call

-- the number at the place of a call, if there is one
abbrev pub constant_in : ℕ → Option Applied → Option ℤ
constant_in place None = None
constant_in place (Some call) = option_and_then constant (slice_get call.arguments place)

-- the variable that is alone at the place of another call of the same symbol
abbrev pub variable_in : ℕ → Option Applied → Option Applied → Option ℕ
variable_in place None other = None
variable_in place (Some call) None = None
variable_in place (Some call) (Some other) =
    if other.symbol.0 == call.symbol.0 then option_and_then lone_variable
    (slice_get other.arguments place) else None

-- the term with the variable at the place of that call, which is its own
abbrev pub with_variable_in : ℕ → ℕ → Option Applied → Term → Term
with_variable_in place v None t = t
with_variable_in place v (Some call) t =
    replace_redex t (made.Call call.symbol (slice_set call.arguments place (variable v)))

-- ---- of terms

unfoldable pub constant_at : ℕ → Term → Option ℤ
constant_at place t = constant_in place (call_of t)

unfoldable pub variable_at : ℕ → Term → Term → Option ℕ
variable_at place t other = variable_in place (call_of t) (call_of other)

unfoldable pub with_variable : ℕ → ℕ → Term → Term
with_variable place v t = with_variable_in place v (call_of t) t

-- ---- heads of loops

-- the head of a loop that reaches itself
abbrev pub is_loop_head : RuleParts → ℕ → Bool
is_loop_head parts f =
    is_loop_point parts f && option_map_or (λ (info : SymInfo). info.head)
    (slice_get parts.symbols f) false
