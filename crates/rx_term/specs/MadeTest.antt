-- The test that a rule set is well made: the same as `WellMade`, as tests that compute.
use Rattle.std.specs.Prelude.{ℕ, ◌+◌, ◌^◌, nat_eq, nat_le, nat_lt, Bool, true, false, ◌&&◌, if◌then◌else◌, Option, Some, None, option_and_then, List, [], ◌∷◌, length, ℤ, pos}
use Rattle.std.specs.List.{list_all}
use Rattle.std.specs.Option.{option_map_or}
use Rattle.std.specs.Ordering.{int_eq}
use Rattle.rx_poly.specs.Normal.{is_empty}
use Rattle.rx_poly.specs.declared.body.Atom.{Atom, Atom-F, out-Atom}
use Rattle.rx_poly.specs.declared.body.Mono.{Mono, out-Mono}
use Rattle.rx_poly.specs.declared.body.Body.{Body, out-Body}
use Rattle.rx_term.specs.Fitting.{term_fits}
use Rattle.rx_row.specs.Variables.{rows_use_below}
use Rattle.rx_term.specs.Variables.{term_uses_below}
use Rattle.rx_term.specs.declared.rule.Rule.{Rule}
use Rattle.rx_term.specs.declared.rule_set.RuleParts.{RuleParts}
use Rattle.rx_term.specs.declared.term.Term.{Term, Term-F, out-Term}

-- the atom is the variable of that number
abbrev pub is_variable_atom : ℕ → Atom-F Atom Body Mono → Bool
is_variable_atom n (Atom-F.Var k) = nat_eq k n
is_variable_atom n (Atom-F.Div p q) = false
is_variable_atom n (Atom-F.Mod p q) = false

-- the product is that variable alone
abbrev pub is_variable_product : ℕ → List Atom → Bool
is_variable_product n [] = false
is_variable_product n (x ∷ xs) = is_empty xs && is_variable_atom n (out-Atom x)

-- the sum is that variable alone, once
abbrev pub is_variable_sum : ℕ → List (Mono × ℤ) → Bool
is_variable_sum n [] = false
is_variable_sum n (t ∷ ts) =
    is_empty ts && (int_eq t.1 (pos 1) && is_variable_product n (out-Mono t.0).atoms)

-- the polynomial is that variable
abbrev pub is_variable : ℕ → Body → Bool
is_variable n p = is_variable_sum n (out-Body p).terms

-- the polynomials are variables in order, from that number on
abbrev pub are_variables : ℕ → List Body → Bool
are_variables n [] = true
are_variables n (p ∷ ps) = is_variable n p && are_variables (n + 1) ps

-- how many variables these are, where they are the first in order and no more than there are
-- variables
abbrev pub variable_count : List Body → Option ℕ
variable_count ps =
    if are_variables 0 ps && nat_le (length ps) (2 ^ 31) then Some (length ps) else None

-- with what is under a frame of n variables
abbrev pub width_over : ℕ → Term-F Term → Option ℕ
width_over n (Term-F.Return p) = if nat_lt n (2 ^ 31) && is_variable n p then Some (n + 1) else None
width_over n (Term-F.Fail c) = Some n
width_over n (Term-F.Call f ps) = None
width_over n (Term-F.Frame f ps inner) = None

-- how many variables a left side has; None for what is no left side
abbrev pub left_width_level : Term-F Term → Option ℕ
left_width_level (Term-F.Return p) = None
left_width_level (Term-F.Fail c) = None
left_width_level (Term-F.Call f ps) = variable_count ps
left_width_level (Term-F.Frame f ps inner) =
    option_and_then (λ n. width_over n (out-Term inner)) (variable_count ps)

abbrev pub left_width : Term → Option ℕ
left_width t = left_width_level (out-Term t)

-- the sides fit, and the right side and the rows use only n variables
abbrev pub is_made_over : RuleParts → Rule → ℕ → Bool
is_made_over parts rule n =
    term_fits parts rule.left && (term_fits parts rule.right &&
    (term_uses_below n rule.right && rows_use_below n rule.rows))

abbrev pub is_made : RuleParts → Rule → Bool
is_made parts rule = option_map_or (λ n. is_made_over parts rule n) (left_width rule.left) false

abbrev pub is_well_made : RuleParts → Bool
is_well_made parts = list_all (is_made parts) parts.rules
