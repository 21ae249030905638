-- The value of a straight expression, of literals, variables, signs, `+`, `-` and `*`, over the
-- integers, which never overflow.
use Rattle.std.specs.Prelude.{ℕ, ℤ, ◌+ℤ◌, ◌-ℤ◌, ◌*ℤ◌, neg_ℤ, Option, Some, None, option_map}
use Rattle.c_ast.specs.declared.expr.UnOp.{UnOp}
use Rattle.c_ast.specs.declared.expr.UnOp.TheVariants.{Plus, Minus, Not}
use Rattle.c_ast.specs.declared.expr.BinOp.{BinOp}
use Rattle.c_ast.specs.declared.expr.BinOp.TheVariants.{Add, Sub, Mul}
use Rattle.c_ast.specs.declared.expr.Expr.{Expr}
use Rattle.c_ast.specs.declared.expr.Expr.TheOpen.{Expr-F}
use Rattle.c_ast.specs.declared.expr.Expr.TheFolds.{fold-Expr}

-- the operation on the values of both operands, where both have one
abbrev pub of_both : (ℤ → ℤ → ℤ) → Option ℤ → Option ℤ → Option ℤ
of_both operation (Some x) (Some y) = Some (operation x y)
of_both operation (Some x) None = None
of_both operation None y = None

-- the value of an operator's result, from the values of its operands
abbrev pub binary_value : BinOp → Option ℤ → Option ℤ → Option ℤ
binary_value Add x y = of_both ◌+ℤ◌ x y
binary_value Sub x y = of_both ◌-ℤ◌ x y
binary_value Mul x y = of_both ◌*ℤ◌ x y
binary_value _ x y = None

-- the value of an operator's result, from the value of its one operand
abbrev pub unary_value : UnOp → Option ℤ → Option ℤ
unary_value Plus x = x
unary_value Minus x = option_map neg_ℤ x
unary_value Not x = None

-- the value of an expression, from the values of its parts
abbrev pub straight_level : (ℕ → Option ℤ) → Expr-F (Option ℤ) → Option ℤ
straight_level variable (Expr-F.Lit n) = Some n
straight_level variable (Expr-F.Var v) = variable v
straight_level variable (Expr-F.Binary op x y) = binary_value op x y
straight_level variable (Expr-F.Unary op x) = unary_value op x
straight_level variable (Expr-F.Choose c x y) = None
straight_level variable (Expr-F.Apply name arguments) = None

-- the value of an expression where `variable` says which variables have one
abbrev pub straight_value : (ℕ → Option ℤ) → Expr → Option ℤ
straight_value variable = fold-Expr (Option ℤ) (straight_level variable)
