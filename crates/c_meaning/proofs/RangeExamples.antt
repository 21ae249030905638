-- The definitions, run by the integers of 32 bits on programs of operators. An exact result from
-- -2147483648 to 2147483647 is the value, and any other is the range error. The values are those
-- that C's `int` of 32 bits has where it has one; where C leaves the result undefined there is an
-- error.
use Rattle.std.proofs.Common.{◌≡◌, ℤ, pos, negsuc, Some, None, [], ◌∷◌}
use Rattle.c_ast.specs.declared.expr.UnOp.TheVariants as Sign
use Rattle.c_ast.specs.declared.expr.BinOp.TheVariants as Op
use Rattle.c_ast.specs.declared.expr.Expr.{Expr}
use Rattle.c_ast.specs.declared.expr.Expr.TheVariants.{Lit, Var, Unary, Binary, Apply}
use Rattle.c_ast.specs.declared.integers.Integers.TheVariants.{Bits32}
use Rattle.c_ast.specs.declared.program.Resolved.{Resolved}
use Rattle.c_ast.specs.declared.stmt.Stmt.TheVariants.{Assign, Declare, If, Return, While}
use Rattle.c_meaning.specs.Outcomes.{Outcome, Value, Error, Division, Range}
use Rattle.c_meaning.specs.Programs.{call_outcome}
use Rattle.c_meaning.proofs.Equations.{equations}
use Rattle.c_meaning.proofs.ExpressionExamples.{function}

-- int f(int x) { return e; }
abbrev returning : Expr → Resolved
returning e = record { functions = function 1 (0 ∷ []) (Return e ∷ []) ∷ [] }

-- the outcome of its call, by the integers of 32 bits
abbrev outcome : Expr → ℤ → Outcome ℤ
outcome e x = call_outcome Bits32 (returning e) 1 0 (x ∷ [])

-- x + 1
sum-1 : outcome (Binary Op.Add (Var 0) (Lit (pos 1))) (pos 2147483646) ≡ Value (pos 2147483647)
sum-1 = simp equations

sum-2 : outcome (Binary Op.Add (Var 0) (Lit (pos 1))) (pos 2147483647) ≡ Error Range
sum-2 = simp equations

-- x - 1
difference-1 : outcome (Binary Op.Sub (Var 0) (Lit (pos 1))) (negsuc 2147483646)
    ≡ Value (negsuc 2147483647)
difference-1 = simp equations

difference-2 : outcome (Binary Op.Sub (Var 0) (Lit (pos 1))) (negsuc 2147483647) ≡ Error Range
difference-2 = simp equations

-- x * 65536
product-1 : outcome (Binary Op.Mul (Var 0) (Lit (pos 65536))) (negsuc 32767)
    ≡ Value (negsuc 2147483647)
product-1 = simp equations

product-2 : outcome (Binary Op.Mul (Var 0) (Lit (pos 65536))) (pos 32768) ≡ Error Range
product-2 = simp equations

-- -x: the least integer has no negative; +x is x there
negative-1 : outcome (Unary Sign.Minus (Var 0)) (pos 2147483647) ≡ Value (negsuc 2147483646)
negative-1 = simp equations

negative-2 : outcome (Unary Sign.Minus (Var 0)) (negsuc 2147483647) ≡ Error Range
negative-2 = simp equations

plus-1 : outcome (Unary Sign.Plus (Var 0)) (negsuc 2147483647) ≡ Value (negsuc 2147483647)
plus-1 = simp equations

-- - -x: the inner one is out of range
negative-3 : outcome (Unary Sign.Minus (Unary Sign.Minus (Var 0))) (negsuc 2147483647) ≡ Error Range
negative-3 = simp equations

-- x / -1: out of range at the least integer alone; and x % -1, which never is
quotient-1 : outcome (Binary Op.Div (Var 0) (Unary Sign.Minus (Lit (pos 1)))) (negsuc 2147483647)
    ≡ Error Range
quotient-1 = simp equations

quotient-2 : outcome (Binary Op.Div (Var 0) (Unary Sign.Minus (Lit (pos 1)))) (negsuc 2147483646)
    ≡ Value (pos 2147483647)
quotient-2 = simp equations

quotient-3 : outcome (Binary Op.Div (Var 0) (Lit (pos 0))) (negsuc 2147483647) ≡ Error Division
quotient-3 = simp equations

remainder-1 : outcome (Binary Op.Rem (Var 0) (Unary Sign.Minus (Lit (pos 1)))) (negsuc 2147483647)
    ≡ Value (pos 0)
remainder-1 = simp equations

remainder-2 : outcome (Binary Op.Rem (Var 0) (Lit (pos 0))) (negsuc 2147483647) ≡ Error Division
remainder-2 = simp equations

-- comparisons have no range of their own
less-1 : outcome (Binary Op.Lt (Var 0) (Lit (pos 0))) (negsuc 2147483647) ≡ Value (pos 1)
less-1 = simp equations

-- (1 / 0) + (x + 1) and (x + 1) + (1 / 0): the first error from the left
order-1 : outcome (Binary Op.Add (Binary Op.Div (Lit (pos 1)) (Lit (pos 0)))
    (Binary Op.Add (Var 0) (Lit (pos 1)))) (pos 2147483647) ≡ Error Division
order-1 = simp equations

order-2 : outcome (Binary Op.Add (Binary Op.Add (Var 0) (Lit (pos 1)))
    (Binary Op.Div (Lit (pos 1)) (Lit (pos 0)))) (pos 2147483647) ≡ Error Range
order-2 = simp equations

-- 0 * (x + 1): what isn't used counts
unused-1 : outcome (Binary Op.Mul (Lit (pos 0)) (Binary Op.Add (Var 0) (Lit (pos 1))))
    (pos 2147483647) ≡ Error Range
unused-1 = simp equations

-- x < 0 && x + 1: what isn't evaluated doesn't
skipped-1 : outcome (Binary Op.AndAlso (Binary Op.Lt (Var 0) (Lit (pos 0)))
    (Binary Op.Add (Var 0) (Lit (pos 1)))) (pos 2147483647) ≡ Value (pos 0)
skipped-1 = simp equations

-- x >= 0 && x + 1, and x < 0 || x + 1: what is evaluated does
evaluated-1 : outcome (Binary Op.AndAlso (Binary Op.Ge (Var 0) (Lit (pos 0)))
    (Binary Op.Add (Var 0) (Lit (pos 1)))) (pos 2147483647) ≡ Error Range
evaluated-1 = simp equations

evaluated-2 : outcome (Binary Op.OrElse (Binary Op.Lt (Var 0) (Lit (pos 0)))
    (Binary Op.Add (Var 0) (Lit (pos 1)))) (pos 2147483647) ≡ Error Range
evaluated-2 = simp equations

-- x and 1099511627776: variables and literals have no range
variable-1 : outcome (Var 0) (pos 1099511627776) ≡ Value (pos 1099511627776)
variable-1 = simp equations

literal-1 : outcome (Lit (pos 1099511627776)) (pos 0) ≡ Value (pos 1099511627776)
literal-1 = simp equations

-- int f(int x) { if (x + 1) return 0; return 1; }
-- int g(int x) { while (x + 1 > 0) x = x + 1; return x; }
-- int h(int x) { return f(x + 1); }
abbrev tested : Resolved
tested = record {
  functions =
      function 1 (0 ∷ []) (
      If (Binary Op.Add (Var 0) (Lit (pos 1))) (Return (Lit (pos 0))) None ∷
      Return (Lit (pos 1)) ∷ []) ∷
      function 2 (0 ∷ []) (
      While (Binary Op.Gt (Binary Op.Add (Var 0) (Lit (pos 1))) (Lit (pos 0)))
      (Assign 0 (Binary Op.Add (Var 0) (Lit (pos 1)))) ∷
      Return (Var 0) ∷ []) ∷
      function 3 (0 ∷ []) (
      Return (Apply 0 (Binary Op.Add (Var 0) (Lit (pos 1)) ∷ [])) ∷ []) ∷ [];
}

tested-1 : call_outcome Bits32 tested 1 0 (pos 2147483647 ∷ []) ≡ Error Range
tested-1 = simp equations

tested-2 : call_outcome Bits32 tested 3 1 (pos 2147483646 ∷ []) ≡ Error Range
tested-2 = simp equations

-- an argument's error comes before the call
tested-3 : call_outcome Bits32 tested 1 2 (pos 2147483647 ∷ []) ≡ Error Range
tested-3 = simp equations

-- int f(int x) { int y = x + 1; return x; }
-- int g(int x) { return f(x) - 1; }
abbrev unread : Resolved
unread = record {
  functions =
      function 1 (0 ∷ []) (
      Declare 1 (Some (Binary Op.Add (Var 0) (Lit (pos 1)))) ∷ Return (Var 0) ∷ []) ∷
      function 2 (0 ∷ []) (Return (Binary Op.Sub (Apply 0 (Var 0 ∷ [])) (Lit (pos 1))) ∷ []) ∷ [];
}

unread-1 : call_outcome Bits32 unread 2 1 (pos 2147483647 ∷ []) ≡ Error Range
unread-1 = simp equations

unread-2 : call_outcome Bits32 unread 2 1 (pos 2147483646 ∷ []) ≡ Value (pos 2147483645)
unread-2 = simp equations
