-- Statements with their names resolved, in the order of the text: the first fault is the answer.
use Rattle.std.specs.Prelude.{◌≡◌, ◌≢◌, ℕ, Bool, true, false, List, [], ◌∷◌, length, Option, option_map, Result, Ok, Err, if◌then◌else◌}
use Rattle.c_ast.specs.declared.expr.Expr.{Expr}
use Rattle.c_ast.specs.declared.stmt.Stmt.{Stmt}
use Rattle.c_ast.specs.declared.stmt.Stmt.TheVariants.{Empty, Declare, Assign, If, While, DoWhile, For, Break, Continue, Return, Block}
use Rattle.c_ast.specs.declared.stmt.Stmt.TheOpen.{Stmt-F}
use Rattle.c_ast.specs.declared.stmt.Stmt.TheFolds.{fold-Stmt}
use Rattle.c_ast.specs.declared.program.Function.{Function}
use Rattle.c_names.specs.Names.{name_at}
use Rattle.c_names.specs.Steps.{Checked, and_then, optional}
use Rattle.c_names.specs.LookupSlots.{Scope, inner_scope, declare}
use Rattle.c_names.specs.Expressions.{slot_at, resolved_expr}
use Rattle.c_names.specs.declared.error.ScopeEnd.{ScopeEnd}
use Rattle.c_names.specs.declared.error.ScopeEnd.TheVariants.{StrayBreak, NoMemory}

-- what was resolved, and the scope after it
pub record Scoped (A : Type 0) : Type 0 where
  pub tree : A
  pub scope : Scope

-- a statement that waits for the scope in front of it and for whether it is in a loop
abbrev pub Resolver : Type 0
Resolver = Scope → Bool → Checked (Scoped Stmt)

-- what was resolved leaves the scope as it was
abbrev pub pure : {A : Type 0} → Scope → A → Checked (Scoped A)
pure s x = Ok (record { tree = x; scope = s })

-- statements in their order, each in the scope after the one before
abbrev pub in_order : List Resolver → Scope → Bool → Checked (Scoped (List Stmt))
in_order [] s in_loop = pure s []
in_order (t ∷ ts) s in_loop =
    and_then (t s in_loop) (λ first. and_then (in_order ts first.scope in_loop) (λ rest.
    Ok (record { tree = first.tree ∷ rest.tree; scope = rest.scope })))

-- a part of a statement: what it declares is gone after it
abbrev pub nested : Resolver → Scope → Bool → Checked Stmt
nested t s in_loop = and_then (t s in_loop) (λ part. Ok part.tree)

-- such a part that may be left out
abbrev pub nested_optional : Option Resolver → Scope → Bool → Checked (Option Stmt)
nested_optional part s in_loop = optional (option_map (λ t. nested t s in_loop) part)

-- a statement that only occurs in loops
abbrev pub only_in_loops : Stmt → ℕ → Bool → Checked Stmt
only_in_loops t token in_loop = if in_loop then Ok t else Err (StrayBreak token)

module _ (names : List ℕ) (functions : List Function) where
  -- an expression that may be left out
  abbrev pub resolved_optional : Scope → Option Expr → Checked (Option Expr)
  resolved_optional s e = optional (option_map (resolved_expr names functions s.names) e)

  -- the name is in scope from the end of its declarator on, before its initial value (6.2.1p7)
  abbrev pub declaration_of : ℕ → Option Expr → Scope → Checked (Scoped Stmt)
  declaration_of token value s =
      and_then (declare token (name_at names token) s)
      (λ behind. and_then (resolved_optional behind value)
      (λ v. pure behind (Declare (length s.names) v)))

  -- the variable is looked at in front of its new value
  abbrev pub assignment_of : ℕ → Expr → Scope → Checked (Scoped Stmt)
  assignment_of token e s =
      and_then (slot_at names functions s.names token)
      (λ slot. and_then (resolved_expr names functions s.names e) (λ v. pure s (Assign slot v)))

  -- a statement, from those in it
  abbrev pub stmt_level : Stmt-F Resolver → Resolver
  stmt_level Stmt-F.Empty s in_loop = pure s Empty
  stmt_level (Stmt-F.Declare token value) s in_loop = declaration_of token value s
  stmt_level (Stmt-F.Assign token e) s in_loop = assignment_of token e s
  stmt_level (Stmt-F.If e inner other) s in_loop =
      and_then (resolved_expr names functions s.names e)
      (λ test. and_then (nested inner s in_loop)
      (λ holds. and_then (nested_optional other s in_loop)
      (λ fails. pure s (If test holds fails))))
  stmt_level (Stmt-F.While e inner) s in_loop =
      and_then (resolved_expr names functions s.names e)
      (λ test. and_then (nested inner s true) (λ body. pure s (While test body)))
  stmt_level (Stmt-F.DoWhile inner e) s in_loop =
      and_then (nested inner s true) (λ body.
      and_then (resolved_expr names functions s.names e)
      (λ test. pure s (DoWhile body test)))
  -- a scope that holds the declarations of a `for`, and its body in a scope inside it (6.8.5p5);
  -- only the body is in the loop
  stmt_level (Stmt-F.For first test change inner) s in_loop =
      and_then (in_order first (inner_scope s) false) (λ begun.
      and_then (resolved_optional begun.scope test) (λ e.
      and_then (nested_optional change begun.scope false) (λ step.
      and_then (nested inner (inner_scope begun.scope) true)
      (λ body. pure s (For begun.tree e step body)))))
  stmt_level (Stmt-F.Break token) s in_loop =
      and_then (only_in_loops (Break token) token in_loop) (pure s)
  stmt_level (Stmt-F.Continue token) s in_loop =
      and_then (only_in_loops (Continue token) token in_loop) (pure s)
  stmt_level (Stmt-F.Return e) s in_loop =
      and_then (resolved_expr names functions s.names e) (λ v. pure s (Return v))
  -- a block is a scope (6.8.2, 6.2.1p4)
  stmt_level (Stmt-F.Block inner) s in_loop =
      and_then (in_order inner (inner_scope s) in_loop) (λ block. pure s (Block block.tree))

  -- a statement with its names resolved, and the scope after it, or its first fault
  abbrev pub resolved_stmt : Stmt → Resolver
  resolved_stmt = fold-Stmt Resolver stmt_level

-- the answer is this, and the scope after it is this one, except when out of memory
abbrev pub GivesScoped : {A : Type 0} → Result A ScopeEnd → Scope → Checked (Scoped A) → Type 0
GivesScoped (Ok x) behind answer = answer ≡ Ok (record { tree = x; scope = behind })
GivesScoped (Err fault) behind answer = fault ≢ NoMemory → answer ≡ Err fault
