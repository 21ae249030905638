-- The definitions, computed on small programs. The values come from an independent second program
-- that runs C by counted rounds.
use Rattle.std.proofs.Common.{◌≡◌, ℕ, pos, negsuc, None, Some, List, [], ◌∷◌}
use Rattle.c_ast.specs.declared.expr.BinOp.TheVariants as bin_op
use Rattle.c_ast.specs.declared.expr.Expr.TheVariants.{Lit, Var, Binary, Apply}
use Rattle.c_ast.specs.declared.stmt.Stmt.{Stmt}
use Rattle.c_ast.specs.declared.stmt.Stmt.TheVariants.{Declare, Assign, If, While, Return, Block}
use Rattle.c_ast.specs.declared.program.Function.{Function}
use Rattle.c_ast.specs.declared.program.Resolved.{Resolved}
use Rattle.c_meaning.specs.Runs.{Value, DivisionError, More, Over}
use Rattle.c_meaning.specs.Counted.{counted}
use Rattle.c_meaning.proofs.CountedEquations.{equations}

-- a function, by its name's token, its parameters and its body
abbrev function : ℕ → List ℕ → List Stmt → Function
function name params body = record { name = name; params = params; body = body }

-- int f(int n) { int s = 0; while (n > 0) { s = s + n; n = n - 1; } return s; }
-- int g(int n) { if (n <= 0) return 0; return n + g(n - 1); }
-- int h(int x) { return f(x) + g(x); }
-- int product(int x) { return 9223372036854775807 * 9223372036854775807 * x; }
-- int quotient(int x, int y) { return x / y; }
abbrev pub sums : Resolved
sums = record {
  functions =
      function 1 (0 ∷ []) (
      Declare 1 (Some (Lit (pos 0))) ∷
      While (Binary bin_op.Gt (Var 0) (Lit (pos 0))) (Block (
      Assign 1 (Binary bin_op.Add (Var 1) (Var 0)) ∷
      Assign 0 (Binary bin_op.Sub (Var 0) (Lit (pos 1))) ∷
      [])) ∷
      Return (Var 1) ∷
      []) ∷
      function 2 (0 ∷ []) (
      If (Binary bin_op.Le (Var 0) (Lit (pos 0))) (Return (Lit (pos 0))) None ∷
      Return (Binary bin_op.Add (Var 0) (Apply 1 (Binary bin_op.Sub (Var 0) (Lit (pos 1)) ∷ []))) ∷
      []) ∷
      function 3 (0 ∷ []) (
      Return (Binary bin_op.Add (Apply 0 (Var 0 ∷ [])) (Apply 1 (Var 0 ∷ []))) ∷
      []) ∷
      function 4 (0 ∷ []) (
      Return (Binary bin_op.Mul (Binary bin_op.Mul (Lit (pos 9223372036854775807))
      (Lit (pos 9223372036854775807))) (Var 0)) ∷
      []) ∷
      function 5 (0 ∷ 1 ∷ []) (
      Return (Binary bin_op.Div (Var 0) (Var 1)) ∷
      []) ∷
      [];
}

-- the call and three turns of a loop
loop-1 : counted sums 3 0 (pos 2 ∷ []) ≡ More
loop-1 = simp equations

loop-2 : counted sums 6 0 (pos 2 ∷ []) ≡ Value (pos 3) 2
loop-2 = simp equations

-- three calls
recursion-1 : counted sums 2 1 (pos 2 ∷ []) ≡ More
recursion-1 = simp equations

recursion-2 : counted sums 3 1 (pos 2 ∷ []) ≡ Value (pos 3) 0
recursion-2 = simp equations

-- both operands share the rounds
shared-1 : counted sums 7 2 (pos 2 ∷ []) ≡ More
shared-1 = simp equations

shared-2 : counted sums 10 2 (pos 2 ∷ []) ≡ Value (pos 6) 2
shared-2 = simp equations

-- numbers inside and outside of i128
over-1 : counted sums 2 3 (negsuc 1 ∷ []) ≡ Value (negsuc 170141183460469231694793815568465002497) 1
over-1 = simp equations

over-2 : counted sums 1 3 (pos 3 ∷ []) ≡ Over
over-2 = simp equations

division-1 : counted sums 1 4 (pos 1 ∷ pos 0 ∷ []) ≡ DivisionError
division-1 = simp equations

division-2 : counted sums 1 4 (negsuc 6 ∷ pos 2 ∷ []) ≡ Value (negsuc 2) 0
division-2 = simp equations
