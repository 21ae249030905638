-- The counted evaluation of an expression in a state, where what calls lead to is handed in. The
-- cases and their order are those of the meaning; the rounds are handed through, and what is left
-- after a part goes on to the next. Numbers as 6.5.5 are sections of ISO/IEC 9899:1999.
use Rattle.std.specs.Prelude.{ℕ, not, if◌then◌else◌, Option, None, Some, List, [], ◌∷◌}
use Rattle.std.specs.Prelude.{ℤ, pos, ◌+ℤ◌, ◌-ℤ◌, ◌*ℤ◌, neg_ℤ, int_lt, int_le, int_div, int_rem}
use Rattle.std.specs.Ordering.{int_eq}
use Rattle.c_ast.specs.declared.expr.UnOp.{UnOp}
use Rattle.c_ast.specs.declared.expr.UnOp.TheVariants.{Plus, Minus, Not}
use Rattle.c_ast.specs.declared.expr.BinOp.{BinOp}
use Rattle.c_ast.specs.declared.expr.BinOp.TheVariants.{Add, Sub, Mul, Div, Rem, Lt, Le, Gt, Ge, Eq, Ne, AndAlso, OrElse}
use Rattle.c_ast.specs.declared.expr.Expr.{Expr}
use Rattle.c_ast.specs.declared.expr.Expr.TheOpen.{Expr-F}
use Rattle.c_ast.specs.declared.expr.Expr.TheFolds.{fold-Expr}
use Rattle.c_meaning.specs.Outcomes.{State}
use Rattle.c_meaning.specs.Expressions.{slot, is_zero, truth}
use Rattle.c_meaning.specs.Runs.{Run, Value, DivisionError, on_value, exact}

-- what a call leads to, for the rounds that are left before it, the called function's place in the
-- list and the arguments
abbrev pub Calls : Type 0
Calls = ℕ → ℕ → List ℤ → Run ℤ

-- what an expression leads to, from the rounds that are left before it, in a state
abbrev pub Evaluation : Type 0
Evaluation = ℕ → State → Run ℤ

-- an operator before its operand (6.5.3.3), from the operand's value
abbrev pub unary : UnOp → ℤ → ℕ → Run ℤ
unary Plus x left = Value x left
unary Minus x left = exact (neg_ℤ x) left
unary Not x left = Value (truth (is_zero x)) left

-- `&&` and `||`: the value where the left operand alone gives it (6.5.13p4, 6.5.14p4)
abbrev pub short_circuit : BinOp → ℤ → Option ℤ
short_circuit AndAlso x = if is_zero x then Some (pos 0) else None
short_circuit OrElse x = if is_zero x then None else Some (pos 1)
short_circuit _ x = None

-- an operator between two operands, from both values; at `&&` and `||` the left one doesn't give
-- the value alone
abbrev pub apply : BinOp → ℤ → ℤ → ℕ → Run ℤ
-- `*` (6.5.5p4), `/` and `%` (6.5.5p5, p6), by 0 the division error
apply Mul x y left = exact (x *ℤ y) left
apply Div x y left = if is_zero y then DivisionError else exact (int_div x y) left
apply Rem x y left = if is_zero y then DivisionError else exact (int_rem x y) left
-- `+` (6.5.6p5) and `-` (6.5.6p6)
apply Add x y left = exact (x +ℤ y) left
apply Sub x y left = exact (x -ℤ y) left
-- `<`, `<=`, `>` and `>=` (6.5.8p6)
apply Lt x y left = Value (truth (int_lt x y)) left
apply Le x y left = Value (truth (int_le x y)) left
apply Gt x y left = Value (truth (int_lt y x)) left
apply Ge x y left = Value (truth (int_le y x)) left
-- `==` and `!=` (6.5.9p3)
apply Eq x y left = Value (truth (int_eq x y)) left
apply Ne x y left = Value (truth (not (int_eq x y))) left
-- `&&` (6.5.13p3) and `||` (6.5.14p3)
apply AndAlso x y left = Value (truth (not (is_zero y))) left
apply OrElse x y left = Value (truth (not (is_zero y))) left

-- the value that is known already, or what else it goes on with
abbrev pub unless_known : Option ℤ → (ℕ → Run ℤ) → ℕ → Run ℤ
unless_known (Some x) go_on left = Value x left
unless_known None go_on left = go_on left

-- after the left operand of an operator, whose value is `x`: the right operand, unless the left one
-- gives the value alone
abbrev pub with_left : BinOp → ℤ → (ℕ → Run ℤ) → ℕ → Run ℤ
with_left op x right =
    unless_known (short_circuit op x) (λ left. on_value (right left) (apply op x))

-- the values of arguments, the first before the second and so on
abbrev pub values : List Evaluation → ℕ → State → Run (List ℤ)
values [] left s = Value [] left
values (e ∷ es) left s =
    on_value (e left s) (λ x m. on_value (values es m s) (λ xs n. Value (x ∷ xs) n))

-- an expression, from what its parts lead to
abbrev pub expr_level : Calls → Expr-F Evaluation → Evaluation
-- a literal (6.4.4.1, 6.5.1p3)
expr_level calls (Expr-F.Lit k) left s = Value k left
-- a variable (6.5.1p2, 6.3.2.1p2)
expr_level calls (Expr-F.Var v) left s = Value (slot s v) left
-- an operator before its operand (6.5.3.3)
expr_level calls (Expr-F.Unary op a) left s = on_value (a left s) (unary op)
-- an operator between its operands (6.5.5, 6.5.6, 6.5.8, 6.5.9, 6.5.13, 6.5.14)
expr_level calls (Expr-F.Binary op a b) left s =
    on_value (a left s) (λ x. with_left op x (λ m. b m s))
-- `c ? a : b` (6.5.15p4)
expr_level calls (Expr-F.Choose c a b) left s =
    on_value (c left s) (λ x m. if is_zero x then b m s else a m s)
-- a call (6.5.2.2p4): the arguments, and then the call
expr_level calls (Expr-F.Apply f arguments) left s =
    on_value (values arguments left s) (λ xs m. calls m f xs)

-- what an expression leads to, where `calls` says what calls lead to
abbrev pub expr : Calls → Expr → Evaluation
expr calls = fold-Expr Evaluation (expr_level calls)
