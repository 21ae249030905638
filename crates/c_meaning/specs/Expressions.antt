-- The outcome of an expression in a state, where what calls give is handed in. Numbers as 6.5.5 are
-- sections of ISO/IEC 9899:1999. Results of arithmetic operators are the mathematical integers, so
-- that nothing overflows, or the integers of 32 bits, where what overflows (6.5p5) is the range
-- error; literals and the integers of slots are what they are. Operands and arguments are evaluated
-- from left to right, an order that C leaves open (6.5p3, 6.5.2.2p10).
use Rattle.std.specs.Prelude.{ℕ, ◌^◌, Bool, not, nat_lt, if◌then◌else◌, unwrap_or, List, [], ◌∷◌, slice_get, ℤ, pos, negsuc, ◌+ℤ◌, ◌-ℤ◌, ◌*ℤ◌, neg_ℤ, int_lt, int_le, int_div, int_rem}
use Rattle.std.specs.Ordering.{int_eq}
use Rattle.c_ast.specs.declared.expr.UnOp.{UnOp}
use Rattle.c_ast.specs.declared.expr.UnOp.TheVariants.{Plus, Minus, Not}
use Rattle.c_ast.specs.declared.expr.BinOp.{BinOp}
use Rattle.c_ast.specs.declared.expr.BinOp.TheVariants.{Add, Sub, Mul, Div, Rem, Lt, Le, Gt, Ge, Eq, Ne, AndAlso, OrElse}
use Rattle.c_ast.specs.declared.expr.Expr.{Expr}
use Rattle.c_ast.specs.declared.expr.Expr.TheOpen.{Expr-F}
use Rattle.c_ast.specs.declared.expr.Expr.TheFolds.{fold-Expr}
use Rattle.c_ast.specs.declared.integers.Integers.{Integers}
use Rattle.c_ast.specs.declared.integers.Integers.TheVariants.{Unbounded, Bits32}
use Rattle.c_meaning.specs.Outcomes.{Outcome, Value, Error, Division, Range, on_value, State}

-- what a call gives, for the called function's place in the list and the arguments
abbrev pub Calls : Type 0
Calls = ℕ → List ℤ → Outcome ℤ

-- the integer of a slot; of one out of scope, which a well-formed program never reads, it is 0
abbrev pub slot : State → ℕ → ℤ
slot s v = unwrap_or (slice_get s v) (pos 0)

-- whether the value is 0; any other value counts as true (6.5.3.3p5, 6.5.13p3, 6.5.14p3, 6.5.15p4,
-- 6.8.4.1p2, 6.8.5p4)
abbrev pub is_zero : ℤ → Bool
is_zero x = int_eq x (pos 0)

-- 1 for true and 0 for false, as comparisons and logical operators give them (6.5.3.3p5, 6.5.8p6,
-- 6.5.9p3, 6.5.13p3, 6.5.14p3)
abbrev pub truth : Bool → ℤ
truth b = if b then pos 1 else pos 0

-- the integer is one of 32 bits: -2147483648 to 2147483647 (5.2.4.2.1, 6.2.6.2p2)
abbrev pub is_int : ℤ → Bool
is_int (pos n) = nat_lt n (2 ^ 31)
is_int (negsuc n) = nat_lt n (2 ^ 31)

-- what an arithmetic operator gives, from its exact result. Of 32-bit integers a result that is
-- none is an exceptional condition, which C leaves undefined (6.5p5); it is the range error
abbrev pub exact : Integers → ℤ → Outcome ℤ
exact Unbounded x = Value x
exact Bits32 x = if is_int x then Value x else Error Range

-- `%` (6.5.5p5, p6): the remainder, so that (x/y)*y + x%y is x; by 0, which is undefined in C, the
-- division error. It has no range error: the least integer of 32 bits `% -1`, which C leaves open
-- since the quotient is out of range (6.5.5p6), is 0
abbrev pub remainder : ℤ → ℤ → Outcome ℤ
remainder x y = if is_zero y then Error Division else Value (int_rem x y)

-- an operator that takes both operands, left before right: the first outcome that is no integer is
-- the outcome
abbrev pub of_both : (ℤ → ℤ → Outcome ℤ) → Outcome ℤ → Outcome ℤ → Outcome ℤ
of_both operation left right = on_value left (λ x. on_value right (λ y. operation x y))

-- the values of arguments, the first before the second and so on; the first outcome that is no
-- integer is the outcome
abbrev pub values : List (State → Outcome ℤ) → State → Outcome (List ℤ)
values [] s = Value []
values (e ∷ es) s = on_value (e s) (λ x. on_value (values es s) (λ xs. Value (x ∷ xs)))

module _ (integers : Integers) where
  -- `/` (6.5.5p5, p6): the quotient with the fraction dropped, that is toward zero; by 0, which is
  -- undefined in C, the division error
  abbrev pub quotient : ℤ → ℤ → Outcome ℤ
  quotient x y = if is_zero y then Error Division else exact integers (int_div x y)

  -- an operator before its operand, from the operand's value
  abbrev pub unary : UnOp → ℤ → Outcome ℤ
  -- `+x` (6.5.3.3p2), `-x` (p3) and `!x`, which is 1 at 0 and else 0 (p5)
  unary Plus x = Value x
  unary Minus x = exact integers (neg_ℤ x)
  unary Not x = Value (truth (is_zero x))

  -- the outcome of an operator between two operands, from their outcomes
  abbrev pub binary : BinOp → Outcome ℤ → Outcome ℤ → Outcome ℤ
  -- `*` (6.5.5p4), `/` and `%`
  binary Mul left right = of_both (λ x y. exact integers (x *ℤ y)) left right
  binary Div left right = of_both quotient left right
  binary Rem left right = of_both remainder left right
  -- `+` (6.5.6p5) and `-` (6.5.6p6)
  binary Add left right = of_both (λ x y. exact integers (x +ℤ y)) left right
  binary Sub left right = of_both (λ x y. exact integers (x -ℤ y)) left right
  -- `<`, `<=`, `>` and `>=` (6.5.8p6)
  binary Lt left right = of_both (λ x y. Value (truth (int_lt x y))) left right
  binary Le left right = of_both (λ x y. Value (truth (int_le x y))) left right
  binary Gt left right = of_both (λ x y. Value (truth (int_lt y x))) left right
  binary Ge left right = of_both (λ x y. Value (truth (int_le y x))) left right
  -- `==` and `!=` (6.5.9p3)
  binary Eq left right = of_both (λ x y. Value (truth (int_eq x y))) left right
  binary Ne left right = of_both (λ x y. Value (truth (not (int_eq x y)))) left right
  -- `&&` (6.5.13p3, p4): 0 where the left operand is 0, whatever the right one is; else 1 or 0 as
  -- the right one is true or not
  binary AndAlso left right =
      on_value left (λ x. if is_zero x then Value (pos 0) else
      on_value right (λ y. Value (truth (not (is_zero y)))))
  -- `||` (6.5.14p3, p4): 1 where the left operand isn't 0, whatever the right one is; else 1 or 0
  -- as the right one is true or not
  binary OrElse left right =
      on_value left (λ x. if is_zero x then on_value right (λ y. Value (truth (not (is_zero y))))
      else Value (pos 1))

  -- the outcome of an expression in a state, from what its parts do
  abbrev pub expr_level : Calls → Expr-F (State → Outcome ℤ) → State → Outcome ℤ
  -- a literal (6.4.4.1, 6.5.1p3)
  expr_level calls (Expr-F.Lit k) s = Value k
  -- a variable (6.5.1p2, 6.3.2.1p2)
  expr_level calls (Expr-F.Var v) s = Value (slot s v)
  -- an operator before its operand (6.5.3.3)
  expr_level calls (Expr-F.Unary op a) s = on_value (a s) (unary op)
  -- an operator between its operands (6.5.5, 6.5.6, 6.5.8, 6.5.9, 6.5.13, 6.5.14)
  expr_level calls (Expr-F.Binary op a b) s = binary op (a s) (b s)
  -- `c ? a : b` (6.5.15p4): c, and then a where it isn't 0, b where it is
  expr_level calls (Expr-F.Choose c a b) s = on_value (c s) (λ x. if is_zero x then b s else a s)
  -- a call (6.5.2.2p4): the arguments, and then what calls give
  expr_level calls (Expr-F.Apply f arguments) s = on_value (values arguments s) (calls f)

  -- the outcome of an expression in a state, where `calls` says what calls give
  abbrev pub expr : Calls → Expr → State → Outcome ℤ
  expr calls = fold-Expr (State → Outcome ℤ) (expr_level calls)
