-- The definitions, run by the mathematical integers on programs of loops and other statements. The
-- values come from an independent second program that runs C by rounds. For most calls there is the
-- least number of rounds with which they have an outcome, and with one round less that more are
-- needed: the test that ends a loop takes a round.
use Rattle.std.proofs.Common.{◌≡◌, ℕ, ℤ, zero, suc, pos, Some, None, List, [], ◌∷◌, refl, sym, ◌∙◌}
use Rattle.c_ast.specs.declared.expr.BinOp.TheVariants as Op
use Rattle.c_ast.specs.declared.expr.Expr.TheVariants.{Lit, Var, Binary, Choose, Apply}
use Rattle.c_ast.specs.declared.stmt.Stmt.{Stmt}
use Rattle.c_ast.specs.declared.stmt.Stmt.TheVariants.{Empty, Declare, Assign, If, While, DoWhile, For, Break, Continue, Return, Block}
use Rattle.c_ast.specs.declared.integers.Integers.TheVariants.{Unbounded}
use Rattle.c_ast.specs.declared.program.Function.{Function}
use Rattle.c_ast.specs.declared.program.Resolved.{Resolved}
use Rattle.c_meaning.specs.Outcomes.{Outcome, Value, Error, Division, More, State, Next}
use Rattle.c_meaning.specs.Programs as programs
use Rattle.c_meaning.specs.Programs.{rounds, stmt_outcome, Returns}
use Rattle.c_meaning.proofs.Equations.{equations, stmt-While}

-- the outcome of a call with a number of rounds, by the mathematical integers
abbrev call_outcome : Resolved → ℕ → ℕ → List ℤ → Outcome ℤ
call_outcome = programs.call_outcome Unbounded

-- a function, by its name's token, its parameters and its body
abbrev function : ℕ → List ℕ → List Stmt → Function
function name params body = record { name = name; params = params; body = body }

-- int f(int n) { int i; i = 0; while (i * i < n) i++; return i; }
abbrev root : Resolved
root = record {
  functions =
      function 1 (0 ∷ []) (
      (Declare 1 None) ∷
      (Assign 1 (Lit (pos 0))) ∷
      (While (Binary Op.Lt (Binary Op.Mul (Var 1) (Var 1)) (Var 0))
      (Assign 1 (Binary Op.Add (Var 1) (Lit (pos 1))))) ∷
      (Return (Var 1)) ∷
      []) ∷
      [];
}

root-1 : call_outcome root 4 0 (pos 5 ∷ []) ≡ More
root-1 = simp equations

root-2 : call_outcome root 5 0 (pos 5 ∷ []) ≡ Value (pos 3)
root-2 = simp equations

root-3 : call_outcome root 1 0 (pos 0 ∷ []) ≡ More
root-3 = simp equations

root-4 : call_outcome root 2 0 (pos 0 ∷ []) ≡ Value (pos 0)
root-4 = simp equations

-- int f(int n) { int p = 1; while (n > 0) { p = p * 1000000007; n--; } return p; }
abbrev power : Resolved
power = record {
  functions =
      function 1 (0 ∷ []) (
      (Declare 1 (Some (Lit (pos 1)))) ∷
      (While (Binary Op.Gt (Var 0) (Lit (pos 0)))
      (Block
      ((Assign 1 (Binary Op.Mul (Var 1) (Lit (pos 1000000007)))) ∷
      (Assign 0 (Binary Op.Sub (Var 0) (Lit (pos 1)))) ∷ []))) ∷
      (Return (Var 1)) ∷
      []) ∷
      [];
}

power-1 : call_outcome power 6 0 (pos 5 ∷ []) ≡ More
power-1 = simp equations

power-2 : call_outcome power 7 0 (pos 5 ∷ []) ≡
    Value (pos 1000000035000000490000003430000012005000016807)
power-2 = simp equations

-- int f(int n) { int i = 0; do { i = i + 2; if (i == 4) continue; n = n - 1; } while (n > 0);
-- return i; }
abbrev repeated : Resolved
repeated = record {
  functions =
      function 1 (0 ∷ []) (
      (Declare 1 (Some (Lit (pos 0)))) ∷
      (DoWhile
      (Block
      ((Assign 1 (Binary Op.Add (Var 1) (Lit (pos 2)))) ∷
      (If (Binary Op.Eq (Var 1) (Lit (pos 4))) (Continue 26) None) ∷
      (Assign 0 (Binary Op.Sub (Var 0) (Lit (pos 1)))) ∷ [])) (Binary Op.Gt (Var 0) (Lit (pos 0))))
      ∷
      (Return (Var 1)) ∷
      []) ∷
      [];
}

repeated-1 : call_outcome repeated 1 0 (pos 0 ∷ []) ≡ More
repeated-1 = simp equations

repeated-2 : call_outcome repeated 2 0 (pos 0 ∷ []) ≡ Value (pos 2)
repeated-2 = simp equations

repeated-3 : call_outcome repeated 3 0 (pos 2 ∷ []) ≡ More
repeated-3 = simp equations

repeated-4 : call_outcome repeated 4 0 (pos 2 ∷ []) ≡ Value (pos 6)
repeated-4 = simp equations

-- int f(int n) { int i = 0; for (;;) { if (i >= n) break; i = i + 1; } return i; }
abbrev endless : Resolved
endless = record {
  functions =
      function 1 (0 ∷ []) (
      (Declare 1 (Some (Lit (pos 0)))) ∷
      (For [] None None
      (Block
      ((If (Binary Op.Ge (Var 1) (Var 0)) (Break 24) None) ∷
      (Assign 1 (Binary Op.Add (Var 1) (Lit (pos 1)))) ∷ []))) ∷
      (Return (Var 1)) ∷
      []) ∷
      [];
}

endless-1 : call_outcome endless 1 0 (pos 0 ∷ []) ≡ More
endless-1 = simp equations

endless-2 : call_outcome endless 2 0 (pos 0 ∷ []) ≡ Value (pos 0)
endless-2 = simp equations

endless-3 : call_outcome endless 3 0 (pos 2 ∷ []) ≡ More
endless-3 = simp equations

endless-4 : call_outcome endless 4 0 (pos 2 ∷ []) ≡ Value (pos 2)
endless-4 = simp equations

-- int f(int n) { int s = 0; for (int i = 0; i < n; i++) { if (i % 2 == 0) continue; s = s + i; }
-- return s; }
abbrev odd_sum : Resolved
odd_sum = record {
  functions =
      function 1 (0 ∷ []) (
      (Declare 1 (Some (Lit (pos 0)))) ∷
      (For ((Declare 2 (Some (Lit (pos 0)))) ∷ []) (Some (Binary Op.Lt (Var 2) (Var 0)))
      (Some (Assign 2 (Binary Op.Add (Var 2) (Lit (pos 1)))))
      (Block
      ((If (Binary Op.Eq (Binary Op.Rem (Var 2) (Lit (pos 2))) (Lit (pos 0))) (Continue 35) None) ∷
      (Assign 1 (Binary Op.Add (Var 1) (Var 2))) ∷ []))) ∷
      (Return (Var 1)) ∷
      []) ∷
      [];
}

odd_sum-1 : call_outcome odd_sum 5 0 (pos 4 ∷ []) ≡ More
odd_sum-1 = simp equations

odd_sum-2 : call_outcome odd_sum 6 0 (pos 4 ∷ []) ≡ Value (pos 4)
odd_sum-2 = simp equations

-- int f(int n) { int s = 0; for (int i = 0; i < n; i++) { int j = 0; while (1) { if (j == i) break;
-- j++; s++; } } return s; }
abbrev nested : Resolved
nested = record {
  functions =
      function 1 (0 ∷ []) (
      (Declare 1 (Some (Lit (pos 0)))) ∷
      (For ((Declare 2 (Some (Lit (pos 0)))) ∷ []) (Some (Binary Op.Lt (Var 2) (Var 0)))
      (Some (Assign 2 (Binary Op.Add (Var 2) (Lit (pos 1)))))
      (Block
      ((Declare 3 (Some (Lit (pos 0)))) ∷
      (While (Lit (pos 1))
      (Block
      ((If (Binary Op.Eq (Var 3) (Var 2)) (Break 43) None) ∷
      (Assign 3 (Binary Op.Add (Var 3) (Lit (pos 1)))) ∷
      (Assign 1 (Binary Op.Add (Var 1) (Lit (pos 1))))
      ∷ []))) ∷ []))) ∷
      (Return (Var 1)) ∷
      []) ∷
      [];
}

nested-1 : call_outcome nested 4 0 (pos 2 ∷ []) ≡ More
nested-1 = simp equations

nested-2 : call_outcome nested 5 0 (pos 2 ∷ []) ≡ Value (pos 1)
nested-2 = simp equations

-- int f(int n) { while (1) { if (n % 3 == 0) return n; n = n + 1; } }
abbrev returning : Resolved
returning = record {
  functions =
      function 1 (0 ∷ []) (
      (While (Lit (pos 1))
      (Block
      ((If (Binary Op.Eq (Binary Op.Rem (Var 0) (Lit (pos 3))) (Lit (pos 0))) (Return (Var 0)) None)
      ∷
      (Assign 0 (Binary Op.Add (Var 0) (Lit (pos 1)))) ∷ []))) ∷
      []) ∷
      [];
}

returning-1 : call_outcome returning 3 0 (pos 4 ∷ []) ≡ More
returning-1 = simp equations

returning-2 : call_outcome returning 4 0 (pos 4 ∷ []) ≡ Value (pos 6)
returning-2 = simp equations

-- int f(int n) { int i = 0; while (below(i, n)) i++; return i; } int below(int a, int b) { return a
-- < b; }
abbrev called_test : Resolved
called_test = record {
  functions =
      function 1 (0 ∷ []) (
      (Declare 1 (Some (Lit (pos 0)))) ∷
      (While (Apply 1 ((Var 1) ∷ (Var 0) ∷ [])) (Assign 1 (Binary Op.Add (Var 1) (Lit (pos 1))))) ∷
      (Return (Var 1)) ∷
      []) ∷
      function 29 (0 ∷ 1 ∷ []) (
      (Return (Binary Op.Lt (Var 0) (Var 1))) ∷
      []) ∷
      [];
}

called_test-1 : call_outcome called_test 4 0 (pos 2 ∷ []) ≡ More
called_test-1 = simp equations

called_test-2 : call_outcome called_test 5 0 (pos 2 ∷ []) ≡ Value (pos 2)
called_test-2 = simp equations

-- int f(int x) { int y = x; { int x = 2; { int z = x + y; y = z; } y = y * x; } return 10 * x + y;
-- }
abbrev hidden : Resolved
hidden = record {
  functions =
      function 1 (0 ∷ []) (
      (Declare 1 (Some (Var 0))) ∷
      (Block
      ((Declare 2 (Some (Lit (pos 2)))) ∷
      (Block ((Declare 3 (Some (Binary Op.Add (Var 2) (Var 1)))) ∷ (Assign 1 (Var 3)) ∷ [])) ∷
      (Assign 1 (Binary Op.Mul (Var 1) (Var 2))) ∷ [])) ∷
      (Return (Binary Op.Add (Binary Op.Mul (Lit (pos 10)) (Var 0)) (Var 1))) ∷
      []) ∷
      [];
}

hidden-1 : call_outcome hidden 1 0 (pos 3 ∷ []) ≡ Value (pos 40)
hidden-1 = simp equations

-- int f(int i) { int s = 0; for (int i = 0; i < 2; i++) { int i = 5; s = s + i; } return s + i; }
abbrev hidden_counter : Resolved
hidden_counter = record {
  functions =
      function 1 (0 ∷ []) (
      (Declare 1 (Some (Lit (pos 0)))) ∷
      (For ((Declare 2 (Some (Lit (pos 0)))) ∷ []) (Some (Binary Op.Lt (Var 2) (Lit (pos 2))))
      (Some (Assign 2 (Binary Op.Add (Var 2) (Lit (pos 1)))))
      (Block ((Declare 3 (Some (Lit (pos 5)))) ∷ (Assign 1 (Binary Op.Add (Var 1) (Var 3))) ∷ [])))
      ∷
      (Return (Binary Op.Add (Var 1) (Var 0))) ∷
      []) ∷
      [];
}

hidden_counter-1 : call_outcome hidden_counter 3 0 (pos 100 ∷ []) ≡ More
hidden_counter-1 = simp equations

hidden_counter-2 : call_outcome hidden_counter 4 0 (pos 100 ∷ []) ≡ Value (pos 110)
hidden_counter-2 = simp equations

-- int f(int n) { int s = 0; while (1) { int a = 1; { int b = 2; n = a + b; if (s < 2) { s++;
-- continue; } break; } } int c = n; return 10 * c + s; }
abbrev left_by_break : Resolved
left_by_break = record {
  functions =
      function 1 (0 ∷ []) (
      (Declare 1 (Some (Lit (pos 0)))) ∷
      (While (Lit (pos 1))
      (Block
      ((Declare 2 (Some (Lit (pos 1)))) ∷
      (Block
      ((Declare 3 (Some (Lit (pos 2)))) ∷ (Assign 0 (Binary Op.Add (Var 2) (Var 3))) ∷
      (If (Binary Op.Lt (Var 1) (Lit (pos 2)))
      (Block ((Assign 1 (Binary Op.Add (Var 1) (Lit (pos 1)))) ∷ (Continue 44) ∷ [])) None) ∷
      (Break 47) ∷
      [])) ∷ []))) ∷
      (Declare 2 (Some (Var 0))) ∷
      (Return (Binary Op.Add (Binary Op.Mul (Lit (pos 10)) (Var 2)) (Var 1))) ∷
      []) ∷
      [];
}

left_by_break-1 : call_outcome left_by_break 3 0 (pos 0 ∷ []) ≡ More
left_by_break-1 = simp equations

left_by_break-2 : call_outcome left_by_break 4 0 (pos 0 ∷ []) ≡ Value (pos 32)
left_by_break-2 = simp equations

-- int f(int a) { int x = 3; if (a == 0) { x = g(a); x = 7; } else ; return x; } int g(int a) {
-- return 10 / a; }
abbrev error_in_callee : Resolved
error_in_callee = record {
  functions =
      function 1 (0 ∷ []) (
      (Declare 1 (Some (Lit (pos 3)))) ∷
      (If (Binary Op.Eq (Var 0) (Lit (pos 0)))
      (Block ((Assign 1 (Apply 1 ((Var 0) ∷ []))) ∷ (Assign 1 (Lit (pos 7))) ∷ [])) (Some Empty)) ∷
      (Return (Var 1)) ∷
      []) ∷
      function 38 (0 ∷ []) (
      (Return (Binary Op.Div (Lit (pos 10)) (Var 0))) ∷
      []) ∷
      [];
}

error_in_callee-1 : call_outcome error_in_callee 1 0 (pos 0 ∷ []) ≡ More
error_in_callee-1 = simp equations

error_in_callee-2 : call_outcome error_in_callee 2 0 (pos 0 ∷ []) ≡ Error Division
error_in_callee-2 = simp equations

error_in_callee-3 : call_outcome error_in_callee 0 0 (pos 1 ∷ []) ≡ More
error_in_callee-3 = refl

error_in_callee-4 : call_outcome error_in_callee 1 0 (pos 1 ∷ []) ≡ Value (pos 3)
error_in_callee-4 = simp equations

-- int f(int i) { for (i = 3; 1; i = 6 / i - 2) if (i == 7) break; return i; }
abbrev error_in_change : Resolved
error_in_change = record {
  functions =
      function 1 (0 ∷ []) (
      (For ((Assign 0 (Lit (pos 3))) ∷ []) (Some (Lit (pos 1)))
      (Some (Assign 0 (Binary Op.Sub (Binary Op.Div (Lit (pos 6)) (Var 0)) (Lit (pos 2)))))
      (If (Binary Op.Eq (Var 0) (Lit (pos 7))) (Break 29) None)) ∷
      (Return (Var 0)) ∷
      []) ∷
      [];
}

error_in_change-1 : call_outcome error_in_change 2 0 (pos 1 ∷ []) ≡ More
error_in_change-1 = simp equations

error_in_change-2 : call_outcome error_in_change 3 0 (pos 1 ∷ []) ≡ Error Division
error_in_change-2 = simp equations

-- int f(int i) { while (6 / i > 1) i = i - 2; return i; }
abbrev error_in_test : Resolved
error_in_test = record {
  functions =
      function 1 (0 ∷ []) (
      (While (Binary Op.Gt (Binary Op.Div (Lit (pos 6)) (Var 0)) (Lit (pos 1)))
      (Assign 0 (Binary Op.Sub (Var 0) (Lit (pos 2))))) ∷
      (Return (Var 0)) ∷
      []) ∷
      [];
}

error_in_test-1 : call_outcome error_in_test 2 0 (pos 2 ∷ []) ≡ More
error_in_test-1 = simp equations

error_in_test-2 : call_outcome error_in_test 3 0 (pos 2 ∷ []) ≡ Error Division
error_in_test-2 = simp equations

error_in_test-3 : call_outcome error_in_test 1 0 (pos 7 ∷ []) ≡ More
error_in_test-3 = simp equations

error_in_test-4 : call_outcome error_in_test 2 0 (pos 7 ∷ []) ≡ Value (pos 7)
error_in_test-4 = simp equations

-- int f(int a, int b) { if (a) if (b) return 1; else return 2; return 3; }
abbrev dangling_else : Resolved
dangling_else = record {
  functions =
      function 1 (0 ∷ 1 ∷ []) (
      (If (Var 0) (If (Var 1) (Return (Lit (pos 1))) (Some (Return (Lit (pos 2))))) None) ∷
      (Return (Lit (pos 3))) ∷
      []) ∷
      [];
}

dangling_else-1 : call_outcome dangling_else 1 0 (pos 1 ∷ pos 1 ∷ []) ≡ Value (pos 1)
dangling_else-1 = simp equations

dangling_else-2 : call_outcome dangling_else 1 0 (pos 1 ∷ pos 0 ∷ []) ≡ Value (pos 2)
dangling_else-2 = simp equations

dangling_else-3 : call_outcome dangling_else 1 0 (pos 0 ∷ pos 1 ∷ []) ≡ Value (pos 3)
dangling_else-3 = simp equations

-- int f(int a, int b) { return a == 0 ? b : f(a - 1, b + 1); }
abbrev tail : Resolved
tail = record {
  functions =
      function 1 (0 ∷ 1 ∷ []) (
      (Return
      (Choose (Binary Op.Eq (Var 0) (Lit (pos 0))) (Var 1)
      (Apply 0 ((Binary Op.Sub (Var 0) (Lit (pos 1))) ∷ (Binary Op.Add (Var 1) (Lit (pos 1))) ∷
      [])))) ∷
      []) ∷
      [];
}

tail-1 : call_outcome tail 3 0 (pos 3 ∷ pos 10 ∷ []) ≡ More
tail-1 = simp equations

tail-2 : call_outcome tail 4 0 (pos 3 ∷ pos 10 ∷ []) ≡ Value (pos 13)
tail-2 = simp equations

-- int f(int n) { int s = 0; do { if (n == 3) { n = 1; continue; } if (n == 2) break; s = s + n; n =
-- n - 1; } while (n); return 10 * s + n; }
abbrev both_jumps : Resolved
both_jumps = record {
  functions =
      function 1 (0 ∷ []) (
      (Declare 1 (Some (Lit (pos 0)))) ∷
      (DoWhile
      (Block
      ((If (Binary Op.Eq (Var 0) (Lit (pos 3)))
      (Block ((Assign 0 (Lit (pos 1))) ∷ (Continue 25) ∷ [])) None) ∷
      (If (Binary Op.Eq (Var 0) (Lit (pos 2))) (Break 34) None) ∷
      (Assign 1 (Binary Op.Add (Var 1) (Var 0))) ∷
      (Assign 0 (Binary Op.Sub (Var 0) (Lit (pos 1)))) ∷ [])) (Var 0)) ∷
      (Return (Binary Op.Add (Binary Op.Mul (Lit (pos 10)) (Var 1)) (Var 0))) ∷
      []) ∷
      [];
}

both_jumps-1 : call_outcome both_jumps 4 0 (pos 5 ∷ []) ≡ More
both_jumps-1 = simp equations

both_jumps-2 : call_outcome both_jumps 5 0 (pos 5 ∷ []) ≡ Value (pos 100)
both_jumps-2 = simp equations

both_jumps-3 : call_outcome both_jumps 1 0 (pos 2 ∷ []) ≡ More
both_jumps-3 = simp equations

both_jumps-4 : call_outcome both_jumps 2 0 (pos 2 ∷ []) ≡ Value (pos 2)
both_jumps-4 = simp equations

both_jumps-5 : call_outcome both_jumps 1 0 (pos 1 ∷ []) ≡ More
both_jumps-5 = simp equations

both_jumps-6 : call_outcome both_jumps 2 0 (pos 1 ∷ []) ≡ Value (pos 10)
both_jumps-6 = simp equations

-- int f(void) { int i = 4; for (; i > 1; ) i = i / 2; ; { } return i; }
abbrev empty_parts : Resolved
empty_parts = record {
  functions =
      function 1 [] (
      (Declare 0 (Some (Lit (pos 4)))) ∷
      (For [] (Some (Binary Op.Gt (Var 0) (Lit (pos 1)))) None
      (Assign 0 (Binary Op.Div (Var 0) (Lit (pos 2))))) ∷
      Empty ∷
      (Block []) ∷
      (Return (Var 0)) ∷
      []) ∷
      [];
}

empty_parts-1 : call_outcome empty_parts 3 0 [] ≡ More
empty_parts-1 = simp equations

empty_parts-2 : call_outcome empty_parts 4 0 [] ≡ Value (pos 1)
empty_parts-2 = simp equations

-- int f(int n) { int s = 0; for (int i = 0, j = n; i < j; i++) { j--; s = 10 * s + j - i; } return
-- s; }
abbrev two_counters : Resolved
two_counters = record {
  functions =
      function 1 (0 ∷ []) (
      (Declare 1 (Some (Lit (pos 0)))) ∷
      (For ((Declare 2 (Some (Lit (pos 0)))) ∷ (Declare 3 (Some (Var 0))) ∷ [])
      (Some (Binary Op.Lt (Var 2) (Var 3)))
      (Some (Assign 2 (Binary Op.Add (Var 2) (Lit (pos 1)))))
      (Block
      ((Assign 3 (Binary Op.Sub (Var 3) (Lit (pos 1)))) ∷
      (Assign 1 (Binary Op.Sub (Binary Op.Add (Binary Op.Mul (Lit (pos 10)) (Var 1)) (Var 3))
      (Var 2))) ∷ []))) ∷
      (Return (Var 1)) ∷
      []) ∷
      [];
}

two_counters-1 : call_outcome two_counters 4 0 (pos 5 ∷ []) ≡ More
two_counters-1 = simp equations

two_counters-2 : call_outcome two_counters 5 0 (pos 5 ∷ []) ≡ Value (pos 420)
two_counters-2 = simp equations

-- int f(int n) { if (n) return 7; }
abbrev end_reached : Resolved
end_reached = record {
  functions =
      function 1 (0 ∷ []) (
      (If (Var 0) (Return (Lit (pos 7))) None) ∷
      []) ∷
      [];
}

end_reached-1 : call_outcome end_reached 1 0 (pos 0 ∷ []) ≡ Value (pos 0)
end_reached-1 = simp equations

end_reached-2 : call_outcome end_reached 1 0 (pos 1 ∷ []) ≡ Value (pos 7)
end_reached-2 = simp equations

-- int f(int n) { do { if (n > 5) break; n = 2 * n; } while (1); return n; }
abbrev do_break : Resolved
do_break = record {
  functions =
      function 1 (0 ∷ []) (
      (DoWhile
      (Block
      ((If (Binary Op.Gt (Var 0) (Lit (pos 5))) (Break 15) None) ∷
      (Assign 0 (Binary Op.Mul (Lit (pos 2)) (Var 0))) ∷ [])) (Lit (pos 1))) ∷
      (Return (Var 0)) ∷
      []) ∷
      [];
}

do_break-1 : call_outcome do_break 4 0 (pos 1 ∷ []) ≡ More
do_break-1 = simp equations

do_break-2 : call_outcome do_break 5 0 (pos 1 ∷ []) ≡ Value (pos 8)
do_break-2 = simp equations

-- int f(int n) { for (int i = 1 / n; i < 1; i++) n = 5; return n; }
abbrev error_in_first : Resolved
error_in_first = record {
  functions =
      function 1 (0 ∷ []) (
      (For ((Declare 1 (Some (Binary Op.Div (Lit (pos 1)) (Var 0)))) ∷ [])
      (Some (Binary Op.Lt (Var 1) (Lit (pos 1))))
      (Some (Assign 1 (Binary Op.Add (Var 1) (Lit (pos 1))))) (Assign 0 (Lit (pos 5)))) ∷
      (Return (Var 0)) ∷
      []) ∷
      [];
}

error_in_first-1 : call_outcome error_in_first 0 0 (pos 0 ∷ []) ≡ More
error_in_first-1 = refl

error_in_first-2 : call_outcome error_in_first 1 0 (pos 0 ∷ []) ≡ Error Division
error_in_first-2 = simp equations

error_in_first-3 : call_outcome error_in_first 2 0 (pos 2 ∷ []) ≡ More
error_in_first-3 = simp equations

error_in_first-4 : call_outcome error_in_first 3 0 (pos 2 ∷ []) ≡ Value (pos 5)
error_in_first-4 = simp equations

-- int f(int n) { return n; }
abbrev same : Resolved
same = record { functions = function 1 (0 ∷ []) (Return (Var 0) ∷ []) ∷ [] }

-- `int x;` gives 0, after the slots in scope
unset : stmt_outcome Unbounded same 0 (Declare 1 None) (pos 5 ∷ []) ≡
    Value (Next (pos 5 ∷ pos 0 ∷ []))
unset = simp equations

-- a loop that never ends needs more rounds, however many there are
never_ends : (n : ℕ) (s : State) → stmt_outcome Unbounded same n (While (Lit (pos 1)) Empty) s ≡
    More
never_ends zero s = simp equations
never_ends (suc n) s =
    simp equations (sym (stmt-While Unbounded (Lit (pos 1)) Empty (rounds Unbounded same n) s) ∙
    never_ends n s)

-- what a function returns
power_returns : Returns Unbounded power 0 (pos 2 ∷ []) (Value (pos 1000000014000000049))
power_returns = record { enough = 9; outcome = simp equations; is_answer = tt }
