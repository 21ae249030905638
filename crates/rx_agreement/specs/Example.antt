-- A program with a loop, a `break`, a call and a division that may fail, and its code.
--
--   int inverse(int n) { return 1 / n; }
--   int last(int n) { while (n) break; return inverse(n); }
use Rattle.std.specs.Prelude.{[], ◌∷◌, pos}
use Rattle.rx_poly.specs.Constants.{number, variable}
use Rattle.rx_row.specs.declared.row.Row.TheVariants.{Ne}
use Rattle.c_ast.specs.declared.integers.Integers.TheVariants.{Unbounded}
use Rattle.c_ast.specs.declared.expr.BinOp.TheVariants.{Div}
use Rattle.c_ast.specs.declared.expr.Expr.TheVariants.{Lit, Var, Binary, Apply}
use Rattle.c_ast.specs.declared.program.Function.{Function}
use Rattle.c_ast.specs.declared.program.Resolved.{Resolved}
use Rattle.c_ast.specs.declared.stmt.Stmt.TheVariants as stmt
use Rattle.rx_code.specs.Rules.{parts_of}
use Rattle.rx_term.specs.declared.rule_set.RuleParts.{RuleParts}
use Rattle.rx_code.specs.Pieces.{a_frame, a_point, point}
use Rattle.rx_code.specs.declared.action.Action.TheVariants.{Go, Test, Divide, Call, Resume, Return}
use Rattle.rx_code.specs.declared.action.Division.TheVariants.{Quotient}
use Rattle.rx_code.specs.declared.code.Code.{Code}

abbrev pub inverse : Function
inverse =
    record { name = 1; params = 0 ∷ []; body = stmt.Return (Binary Div (Lit (pos 1)) (Var 0)) ∷ [] }

abbrev pub last : Function
last =
    record {
      name = 2;
      params = 0 ∷ [];
      body = stmt.While (Var 0) (stmt.Break 0) ∷
          stmt.Return (Apply 0 (Var 0 ∷ [])) ∷ [];
    }

abbrev pub example : Resolved
example = record { functions = inverse ∷ last ∷ [] }

-- s0 to s2 of inverse: entry, end, after the division
-- s3 to s8 of last: entry and head of the loop, end, after the loop, its body, the frame of the
-- call, after the call
abbrev pub example_code : Code
example_code = record {
  opened =
      a_point 1 ∷ a_point 0 ∷ a_point 2 ∷ a_point 1 ∷ a_point 0 ∷ a_point 1 ∷ a_point 1 ∷
      a_frame 1 ∷ a_point 2 ∷ [];
  instructions = record { at = point 1 0; action = Return (number (pos 0)) }
      ∷ record {
        at = point 0 1;
        action = Divide Quotient (number (pos 1)) (variable 0) (point 2 2);
      }
      ∷ record { at = point 2 2; action = Return (variable 1) }
      ∷ record { at = point 4 0; action = Return (number (pos 0)) }
      ∷ record { at = point 3 1; action = Test (Ne (variable 0)) (point 6 1) (point 5 1) }
      ∷ record { at = point 6 1; action = Go (point 5 1) }
      ∷ record { at = point 5 1; action = Call 0 (variable 0 ∷ []) (point 7 1) }
      ∷ record { at = point 7 1; action = Resume (point 8 2) }
      ∷ record { at = point 8 2; action = Return (variable 1) }
      ∷ [];
  heads = 3 ∷ [];
  entries = (0, 0) ∷ (1, 3) ∷ [];
}

-- its rule set
abbrev pub example_parts : RuleParts
example_parts = parts_of Unbounded example_code
