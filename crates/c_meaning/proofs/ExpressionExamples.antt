-- The definitions, run by the mathematical integers on programs of expressions and calls. The
-- values come from an independent second program that runs C by rounds. For most calls there is the
-- least number of rounds with which they have an outcome, and with one round less that more are
-- needed: the test that ends a loop takes a round.
use Rattle.std.proofs.Common.{◌≡◌, ℕ, ℤ, zero, suc, pos, negsuc, None, List, [], ◌∷◌, refl}
use Rattle.c_ast.specs.declared.expr.UnOp.TheVariants as Sign
use Rattle.c_ast.specs.declared.expr.BinOp.TheVariants as Op
use Rattle.c_ast.specs.declared.expr.Expr.TheVariants.{Lit, Var, Unary, Binary, Choose, Apply}
use Rattle.c_ast.specs.declared.stmt.Stmt.{Stmt}
use Rattle.c_ast.specs.declared.stmt.Stmt.TheVariants.{If, While, Return, Block}
use Rattle.c_ast.specs.declared.integers.Integers.TheVariants.{Unbounded}
use Rattle.c_ast.specs.declared.program.Function.{Function}
use Rattle.c_ast.specs.declared.program.Resolved.{Resolved}
use Rattle.c_meaning.specs.Outcomes.{Outcome, Value, Error, Division, More}
use Rattle.c_meaning.specs.Programs as programs
use Rattle.c_meaning.proofs.Equations.{equations}

-- the outcome of a call with a number of rounds, by the mathematical integers
abbrev call_outcome : Resolved → ℕ → ℕ → List ℤ → Outcome ℤ
call_outcome = programs.call_outcome Unbounded

-- a function, by its name's token, its parameters and its body
abbrev pub function : ℕ → List ℕ → List Stmt → Function
function name params body = record { name = name; params = params; body = body }

-- int f(int a, int b) { return a * b - (a + b) + -a - +b; }
abbrev arithmetic : Resolved
arithmetic = record {
  functions =
      function 1 (0 ∷ 1 ∷ []) (
      (Return
      (Binary Op.Sub
      (Binary Op.Add (Binary Op.Sub (Binary Op.Mul (Var 0) (Var 1)) (Binary Op.Add (Var 0) (Var 1)))
      (Unary Sign.Minus (Var 0))) (Unary Sign.Plus (Var 1)))) ∷
      []) ∷
      [];
}

arithmetic-1 : call_outcome arithmetic 0 0 (pos 7 ∷ negsuc 2 ∷ []) ≡ More
arithmetic-1 = refl

arithmetic-2 : call_outcome arithmetic 1 0 (pos 7 ∷ negsuc 2 ∷ []) ≡ Value (negsuc 28)
arithmetic-2 = simp equations

-- int f(int a, int b) { return a / b; }
abbrev divided : Resolved
divided = record {
  functions =
      function 1 (0 ∷ 1 ∷ []) (
      (Return (Binary Op.Div (Var 0) (Var 1))) ∷
      []) ∷
      [];
}

divided-1 : call_outcome divided 1 0 (pos 7 ∷ pos 2 ∷ []) ≡ Value (pos 3)
divided-1 = simp equations

divided-2 : call_outcome divided 1 0 (negsuc 6 ∷ pos 2 ∷ []) ≡ Value (negsuc 2)
divided-2 = simp equations

divided-3 : call_outcome divided 1 0 (pos 7 ∷ negsuc 1 ∷ []) ≡ Value (negsuc 2)
divided-3 = simp equations

divided-4 : call_outcome divided 1 0 (negsuc 6 ∷ negsuc 1 ∷ []) ≡ Value (pos 3)
divided-4 = simp equations

divided-5 : call_outcome divided 0 0 (pos 7 ∷ pos 0 ∷ []) ≡ More
divided-5 = refl

divided-6 : call_outcome divided 1 0 (pos 7 ∷ pos 0 ∷ []) ≡ Error Division
divided-6 = simp equations

divided-7 : call_outcome divided 1 0 (pos 0 ∷ pos 0 ∷ []) ≡ Error Division
divided-7 = simp equations

-- int f(int a, int b) { return a % b; }
abbrev left_over : Resolved
left_over = record {
  functions =
      function 1 (0 ∷ 1 ∷ []) (
      (Return (Binary Op.Rem (Var 0) (Var 1))) ∷
      []) ∷
      [];
}

left_over-1 : call_outcome left_over 1 0 (pos 7 ∷ pos 2 ∷ []) ≡ Value (pos 1)
left_over-1 = simp equations

left_over-2 : call_outcome left_over 1 0 (negsuc 6 ∷ pos 2 ∷ []) ≡ Value (negsuc 0)
left_over-2 = simp equations

left_over-3 : call_outcome left_over 1 0 (pos 7 ∷ negsuc 1 ∷ []) ≡ Value (pos 1)
left_over-3 = simp equations

left_over-4 : call_outcome left_over 1 0 (negsuc 6 ∷ negsuc 1 ∷ []) ≡ Value (negsuc 0)
left_over-4 = simp equations

left_over-5 : call_outcome left_over 1 0 (pos 5 ∷ pos 0 ∷ []) ≡ Error Division
left_over-5 = simp equations

-- int f(int a, int b) { return (a < b) + 2 * (a <= b) + 4 * (a > b) + 8 * (a >= b) + 16 * (a == b)
-- + 32 * (a != b) + 64 * !a; }
abbrev compared : Resolved
compared = record {
  functions =
      function 1 (0 ∷ 1 ∷ []) (
      (Return
      (Binary Op.Add
      (Binary Op.Add
      (Binary Op.Add
      (Binary Op.Add
      (Binary Op.Add
      (Binary Op.Add (Binary Op.Lt (Var 0) (Var 1))
      (Binary Op.Mul (Lit (pos 2)) (Binary Op.Le (Var 0) (Var 1))))
      (Binary Op.Mul (Lit (pos 4)) (Binary Op.Gt (Var 0) (Var 1))))
      (Binary Op.Mul (Lit (pos 8)) (Binary Op.Ge (Var 0) (Var 1))))
      (Binary Op.Mul (Lit (pos 16)) (Binary Op.Eq (Var 0) (Var 1))))
      (Binary Op.Mul (Lit (pos 32)) (Binary Op.Ne (Var 0) (Var 1))))
      (Binary Op.Mul (Lit (pos 64)) (Unary Sign.Not (Var 0))))) ∷
      []) ∷
      [];
}

compared-1 : call_outcome compared 1 0 (pos 1 ∷ pos 2 ∷ []) ≡ Value (pos 35)
compared-1 = simp equations

compared-2 : call_outcome compared 1 0 (pos 2 ∷ pos 2 ∷ []) ≡ Value (pos 26)
compared-2 = simp equations

compared-3 : call_outcome compared 1 0 (pos 3 ∷ negsuc 1 ∷ []) ≡ Value (pos 44)
compared-3 = simp equations

compared-4 : call_outcome compared 1 0 (pos 0 ∷ negsuc 0 ∷ []) ≡ Value (pos 108)
compared-4 = simp equations

-- int f(int a, int b) { return 10 * (a != 0 && b / a > 1) + (a == 0 || b % a == 0); }
abbrev guarded : Resolved
guarded = record {
  functions =
      function 1 (0 ∷ 1 ∷ []) (
      (Return
      (Binary Op.Add
      (Binary Op.Mul (Lit (pos 10))
      (Binary Op.AndAlso (Binary Op.Ne (Var 0) (Lit (pos 0)))
      (Binary Op.Gt (Binary Op.Div (Var 1) (Var 0)) (Lit (pos 1)))))
      (Binary Op.OrElse (Binary Op.Eq (Var 0) (Lit (pos 0)))
      (Binary Op.Eq (Binary Op.Rem (Var 1) (Var 0)) (Lit (pos 0)))))) ∷
      []) ∷
      [];
}

guarded-1 : call_outcome guarded 1 0 (pos 0 ∷ pos 5 ∷ []) ≡ Value (pos 1)
guarded-1 = simp equations

guarded-2 : call_outcome guarded 1 0 (pos 2 ∷ pos 5 ∷ []) ≡ Value (pos 10)
guarded-2 = simp equations

guarded-3 : call_outcome guarded 1 0 (pos 2 ∷ pos 6 ∷ []) ≡ Value (pos 11)
guarded-3 = simp equations

-- int f(int a, int b) { return 10 * (a && b) + (a || b); }
abbrev logical : Resolved
logical = record {
  functions =
      function 1 (0 ∷ 1 ∷ []) (
      (Return
      (Binary Op.Add (Binary Op.Mul (Lit (pos 10)) (Binary Op.AndAlso (Var 0) (Var 1)))
      (Binary Op.OrElse (Var 0) (Var 1)))) ∷
      []) ∷
      [];
}

logical-1 : call_outcome logical 1 0 (pos 3 ∷ pos 5 ∷ []) ≡ Value (pos 11)
logical-1 = simp equations

logical-2 : call_outcome logical 1 0 (pos 0 ∷ pos 5 ∷ []) ≡ Value (pos 1)
logical-2 = simp equations

logical-3 : call_outcome logical 1 0 (negsuc 0 ∷ pos 0 ∷ []) ≡ Value (pos 1)
logical-3 = simp equations

logical-4 : call_outcome logical 1 0 (pos 0 ∷ pos 0 ∷ []) ≡ Value (pos 0)
logical-4 = simp equations

-- int f(int a, int b) { return a > b ? a - b : b / a; }
abbrev chosen : Resolved
chosen = record {
  functions =
      function 1 (0 ∷ 1 ∷ []) (
      (Return (Choose (Binary Op.Gt (Var 0) (Var 1)) (Binary Op.Sub (Var 0) (Var 1))
      (Binary Op.Div (Var 1) (Var 0)))) ∷
      []) ∷
      [];
}

chosen-1 : call_outcome chosen 1 0 (pos 5 ∷ pos 2 ∷ []) ≡ Value (pos 3)
chosen-1 = simp equations

chosen-2 : call_outcome chosen 1 0 (pos 2 ∷ pos 5 ∷ []) ≡ Value (pos 2)
chosen-2 = simp equations

chosen-3 : call_outcome chosen 1 0 (pos 0 ∷ pos 5 ∷ []) ≡ Error Division
chosen-3 = simp equations

-- int f(int a) { return 1 / a + never(); } int never(void) { while (1) { } }
abbrev error_first : Resolved
error_first = record {
  functions =
      function 1 (0 ∷ []) (
      (Return (Binary Op.Add (Binary Op.Div (Lit (pos 1)) (Var 0)) (Apply 1 []))) ∷
      []) ∷
      function 18 [] (
      (While (Lit (pos 1)) (Block [])) ∷
      []) ∷
      [];
}

error_first-1 : call_outcome error_first 1 0 (pos 0 ∷ []) ≡ Error Division
error_first-1 = simp equations

error_first-2 : call_outcome error_first 6 0 (pos 1 ∷ []) ≡ More
error_first-2 = simp equations

-- int f(int a) { return never() + 1 / a; } int never(void) { while (1) { } }
abbrev never_first : Resolved
never_first = record {
  functions =
      function 1 (0 ∷ []) (
      (Return (Binary Op.Add (Apply 1 []) (Binary Op.Div (Lit (pos 1)) (Var 0)))) ∷
      []) ∷
      function 18 [] (
      (While (Lit (pos 1)) (Block [])) ∷
      []) ∷
      [];
}

never_first-1 : call_outcome never_first 6 0 (pos 0 ∷ []) ≡ More
never_first-1 = simp equations

-- int f(int a) { return pair(1 / a, never()); } int pair(int x, int y) { return x; } int
-- never(void) { while (1) { } }
abbrev arguments : Resolved
arguments = record {
  functions =
      function 1 (0 ∷ []) (
      (Return (Apply 1 ((Binary Op.Div (Lit (pos 1)) (Var 0)) ∷ (Apply 2 []) ∷ []))) ∷
      []) ∷
      function 21 (0 ∷ 1 ∷ []) (
      (Return (Var 0)) ∷
      []) ∷
      function 35 [] (
      (While (Lit (pos 1)) (Block [])) ∷
      []) ∷
      [];
}

arguments-1 : call_outcome arguments 1 0 (pos 0 ∷ []) ≡ Error Division
arguments-1 = simp equations

arguments-2 : call_outcome arguments 6 0 (pos 1 ∷ []) ≡ More
arguments-2 = simp equations

-- int f(int a) { return (a || never()) + (!a && never()); } int never(void) { while (1) { } }
abbrev circuits : Resolved
circuits = record {
  functions =
      function 1 (0 ∷ []) (
      (Return
      (Binary Op.Add (Binary Op.OrElse (Var 0) (Apply 1 []))
      (Binary Op.AndAlso (Unary Sign.Not (Var 0)) (Apply 1 [])))) ∷
      []) ∷
      function 27 [] (
      (While (Lit (pos 1)) (Block [])) ∷
      []) ∷
      [];
}

circuits-1 : call_outcome circuits 1 0 (pos 2 ∷ []) ≡ Value (pos 1)
circuits-1 = simp equations

circuits-2 : call_outcome circuits 6 0 (pos 0 ∷ []) ≡ More
circuits-2 = simp equations

-- int f(int n) { if (n <= 0) return 1; return n * f(n - 1); }
abbrev factorial : Resolved
factorial = record {
  functions =
      function 1 (0 ∷ []) (
      (If (Binary Op.Le (Var 0) (Lit (pos 0))) (Return (Lit (pos 1))) None) ∷
      (Return (Binary Op.Mul (Var 0) (Apply 0 ((Binary Op.Sub (Var 0) (Lit (pos 1))) ∷ [])))) ∷
      []) ∷
      [];
}

factorial-1 : call_outcome factorial 3 0 (pos 3 ∷ []) ≡ More
factorial-1 = simp equations

factorial-2 : call_outcome factorial 4 0 (pos 3 ∷ []) ≡ Value (pos 6)
factorial-2 = simp equations

-- int f(int n) { return n < 2 ? n : f(n - 1) + f(n - 2); }
abbrev fibonacci : Resolved
fibonacci = record {
  functions =
      function 1 (0 ∷ []) (
      (Return
      (Choose (Binary Op.Lt (Var 0) (Lit (pos 2))) (Var 0)
      (Binary Op.Add (Apply 0 ((Binary Op.Sub (Var 0) (Lit (pos 1))) ∷ []))
      (Apply 0 ((Binary Op.Sub (Var 0) (Lit (pos 2))) ∷ []))))) ∷
      []) ∷
      [];
}

fibonacci-1 : call_outcome fibonacci 3 0 (pos 4 ∷ []) ≡ More
fibonacci-1 = simp equations

fibonacci-2 : call_outcome fibonacci 4 0 (pos 4 ∷ []) ≡ Value (pos 3)
fibonacci-2 = simp equations

-- int f(int n) { return n == 0 ? 1 : odd(n - 1); } int odd(int n) { return n == 0 ? 0 : f(n - 1); }
abbrev even : Resolved
even = record {
  functions =
      function 1 (0 ∷ []) (
      (Return
      (Choose (Binary Op.Eq (Var 0) (Lit (pos 0))) (Lit (pos 1))
      (Apply 1 ((Binary Op.Sub (Var 0) (Lit (pos 1))) ∷ [])))) ∷
      []) ∷
      function 23 (0 ∷ []) (
      (Return
      (Choose (Binary Op.Eq (Var 0) (Lit (pos 0))) (Lit (pos 0))
      (Apply 0 ((Binary Op.Sub (Var 0) (Lit (pos 1))) ∷ [])))) ∷
      []) ∷
      [];
}

even-1 : call_outcome even 3 0 (pos 3 ∷ []) ≡ More
even-1 = simp equations

even-2 : call_outcome even 4 0 (pos 3 ∷ []) ≡ Value (pos 0)
even-2 = simp equations

even-3 : call_outcome even 2 0 (pos 2 ∷ []) ≡ More
even-3 = simp equations

even-4 : call_outcome even 3 0 (pos 2 ∷ []) ≡ Value (pos 1)
even-4 = simp equations

-- a function that isn't there has no outcome
gone : (n : ℕ) → call_outcome arithmetic n 3 [] ≡ More
gone zero = refl
gone (suc n) = refl
