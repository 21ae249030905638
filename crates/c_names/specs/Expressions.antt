-- Expressions with their names resolved: a variable becomes its slot, and a called function its
-- place in the list.
use Rattle.std.specs.Prelude.{◌≡◌, ℕ, nat_eq, List, length, Option, Some, None, Ok, Err, slice_get, if◌then◌else◌}
use Rattle.std.specs.List.{position_from}
use Rattle.std.specs.Map.{lookup}
use Rattle.c_ast.specs.declared.expr.Expr.{Expr}
use Rattle.c_ast.specs.declared.expr.Expr.TheVariants.{Lit, Var, Unary, Binary, Choose, Apply}
use Rattle.c_ast.specs.declared.expr.Expr.TheOpen.{Expr-F}
use Rattle.c_ast.specs.declared.expr.Expr.TheFolds.{fold-Expr}
use Rattle.c_ast.specs.declared.program.Function.{Function}
use Rattle.c_names.specs.Names.{name_at}
use Rattle.c_names.specs.Slots.{slot_of}
use Rattle.c_names.specs.Steps.{Checked, and_then, sequence}
use Rattle.c_names.specs.declared.error.ScopeEnd.TheVariants.{UnknownName, WrongCount}

-- the slot, or that the name isn't known
abbrev pub ok_or_unknown : ℕ → Option ℕ → Checked ℕ
ok_or_unknown token None = Err (UnknownName token)
ok_or_unknown token (Some place) = Ok place

-- how many parameters the function at a place has
abbrev pub count_at : Option Function → ℕ
count_at None = 0
count_at (Some f) = length f.params

module _ (names : List ℕ) (functions : List Function) where
  -- the place of the first definition of a name
  abbrev pub definition_of : ℕ → Option ℕ
  definition_of name =
      position_from (λ (f : Function). nat_eq (name_at names f.name) name) 0 functions

  -- a table has the place of the first definition of each name, and no other name
  abbrev pub IsIndexOf : List (ℕ × ℕ) → Type 0
  IsIndexOf entries = (name : ℕ) → lookup (nat_eq name) entries ≡ definition_of name

  -- a function that is called with n arguments, at its place
  abbrev pub with_count : ℕ → ℕ → ℕ → Checked ℕ
  with_count token count place =
      if nat_eq count (count_at (slice_get functions place)) then Ok place else
      Err (WrongCount token)

  -- what a call's name denotes: it is looked up among the variables first, and a variable can't be
  -- called
  abbrev pub callee_of : ℕ → ℕ → Option ℕ → Checked ℕ
  callee_of token count None =
      and_then (ok_or_unknown token (definition_of (name_at names token))) (with_count token count)
  callee_of token count (Some slot) = Err (UnknownName token)

  module _ (scope : List ℕ) where
    -- the slot of a variable
    abbrev pub slot_at : ℕ → Checked ℕ
    slot_at token = ok_or_unknown token (slot_of scope (name_at names token))

    -- an expression, from its resolved parts, from left to right; a call's name is in front of its
    -- arguments
    abbrev pub expr_level : Expr-F (Checked Expr) → Checked Expr
    expr_level (Expr-F.Lit n) = Ok (Lit n)
    expr_level (Expr-F.Var token) = and_then (slot_at token) (λ slot. Ok (Var slot))
    expr_level (Expr-F.Unary op a) = and_then a (λ x. Ok (Unary op x))
    expr_level (Expr-F.Binary op a b) = and_then a (λ x. and_then b (λ y. Ok (Binary op x y)))
    expr_level (Expr-F.Choose c a b) =
        and_then c (λ w. and_then a (λ x. and_then b (λ y. Ok (Choose w x y))))
    expr_level (Expr-F.Apply token arguments) =
        and_then (callee_of token (length arguments) (slot_of scope (name_at names token)))
        (λ place. and_then (sequence arguments) (λ xs. Ok (Apply place xs)))

    -- an expression with its names resolved, or its first fault
    abbrev pub resolved_expr : Expr → Checked Expr
    resolved_expr = fold-Expr (Checked Expr) expr_level
