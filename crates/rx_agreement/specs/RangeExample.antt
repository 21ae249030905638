-- A function whose sum may be out of the range of 32-bit integers, and its code.
--
--   int next(int x) { return x + 1; }
use Rattle.std.specs.Prelude.{[], ◌∷◌, pos, negsuc}
use Rattle.rx_poly.specs.Constants.{number, variable}
use Rattle.rx_poly.specs.Limits.{body_sum, scaled_by, body_difference}
use Rattle.rx_poly.specs.declared.body.Body.{Body}
use Rattle.rx_row.specs.declared.row.Row.TheVariants.{Ge}
use Rattle.c_ast.specs.declared.integers.Integers.TheVariants.{Bits32}
use Rattle.c_ast.specs.declared.expr.BinOp.TheVariants.{Add}
use Rattle.c_ast.specs.declared.expr.Expr.TheVariants.{Lit, Var, Binary}
use Rattle.c_ast.specs.declared.program.Function.{Function}
use Rattle.c_ast.specs.declared.program.Resolved.{Resolved}
use Rattle.c_ast.specs.declared.stmt.Stmt.TheVariants as stmt
use Rattle.rx_code.specs.Rules.{parts_of}
use Rattle.rx_term.specs.declared.rule_set.RuleParts.{RuleParts}
use Rattle.rx_code.specs.Pieces.{a_point, point}
use Rattle.rx_code.specs.declared.action.Action.TheVariants.{Exclude, Return}
use Rattle.rx_code.specs.declared.code.Code.{Code}

abbrev pub next : Function
next = record {
  name = 1;
  params = 0 ∷ [];
  body = stmt.Return (Binary Add (Var 0) (Lit (pos 1))) ∷ [];
}

abbrev pub example : Resolved
example = record { functions = next ∷ [] }

-- x + 1
abbrev pub sum : Body
sum = body_sum (variable 0) (number (pos 1))

-- the sum is above all 32-bit integers; it is below all
abbrev pub too_great : Body
too_great = body_difference sum (number (pos 2147483648))

abbrev pub too_small : Body
too_small = body_difference (scaled_by (negsuc 0) sum) (number (pos 2147483649))

-- s0 and s1: entry and end; s2 and s3: the sum isn't above, and isn't below either
abbrev pub example_code : Code
example_code = record {
  opened = a_point 1 ∷ a_point 0 ∷ a_point 1 ∷ a_point 1 ∷ [];
  instructions = record { at = point 1 0; action = Return (number (pos 0)) }
      ∷ record { at = point 0 1; action = Exclude (Ge too_great) (point 2 1) }
      ∷ record { at = point 2 1; action = Exclude (Ge too_small) (point 3 1) }
      ∷ record { at = point 3 1; action = Return sum }
      ∷ [];
  heads = [];
  entries = (0, 0) ∷ [];
}

-- its rule set
abbrev pub example_parts : RuleParts
example_parts = parts_of Bits32 example_code
