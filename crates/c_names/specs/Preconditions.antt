-- A precondition with its names resolved: they are those of the first function's parameters.
use Rattle.std.specs.Prelude.{ℕ, List, Option, Ok, Err}
use Rattle.c_lex.specs.declared.token.Token.{Token}
use Rattle.c_ast.specs.declared.expr.Expr.{Expr}
use Rattle.c_ast.specs.declared.expr.Expr.TheVariants.{Lit, Var, Unary, Binary, Choose}
use Rattle.c_ast.specs.declared.expr.Expr.TheOpen.{Expr-F}
use Rattle.c_ast.specs.declared.expr.Expr.TheFolds.{fold-Expr}
use Rattle.c_names.specs.Spellings.{spelling_at, spellings, place_of}
use Rattle.c_names.specs.Expressions.{ok_or_unknown}
use Rattle.c_names.specs.Steps.{Checked, and_then}
use Rattle.c_names.specs.declared.error.ScopeEnd.{ScopeEnd}
use Rattle.c_names.specs.declared.error.ScopeEnd.TheVariants.{UnknownName, NoMemory}

-- an expression over the names of parameters, where `slot` says which slot a token's name has; a
-- precondition calls no function
abbrev pub pre_level : (ℕ → Option ℕ) → Expr-F (Checked Expr) → Checked Expr
pre_level slot (Expr-F.Lit n) = Ok (Lit n)
pre_level slot (Expr-F.Var token) = and_then (ok_or_unknown token (slot token)) (λ s. Ok (Var s))
pre_level slot (Expr-F.Unary op a) = and_then a (λ x. Ok (Unary op x))
pre_level slot (Expr-F.Binary op a b) = and_then a (λ x. and_then b (λ y. Ok (Binary op x y)))
pre_level slot (Expr-F.Choose c a b) =
    and_then c (λ w. and_then a (λ x. and_then b (λ y. Ok (Choose w x y))))
pre_level slot (Expr-F.Apply token arguments) = Err (UnknownName token)

-- the slot of a name of the precondition: the place of the parameter that is spelled alike
abbrev pub param_of : List ℕ → List Token → List ℕ → List ℕ → List Token → ℕ → Option ℕ
param_of source tokens params pre_source pre_tokens token =
    place_of (spellings source tokens params) (spelling_at pre_source pre_tokens token)

-- a precondition with its names resolved, or its first unknown name
abbrev pub resolved_pre : List ℕ → List Token → List ℕ → List ℕ → List Token → Expr → Checked Expr
resolved_pre source tokens params pre_source pre_tokens =
    fold-Expr (Checked Expr) (pre_level (param_of source tokens params pre_source pre_tokens))

-- an unknown name, or out of memory
abbrev pub IsUnknownOrMemory : ScopeEnd → Type 0
IsUnknownOrMemory (UnknownName token) = Unit {0}
IsUnknownOrMemory NoMemory = Unit {0}
IsUnknownOrMemory _ = ⊥
