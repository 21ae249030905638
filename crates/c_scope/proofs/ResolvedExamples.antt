-- The law on a program that is resolved; and one that the walk over names alone would let through,
-- though its initial value reads its own variable.
use Rattle.std.proofs.Common.{◌≡◌, ◌∙◌, ap, refl, ℕ, true, false, Some, None, List, [], ◌∷◌, ◌++◌, Bool, Ok, Err}
use Rattle.c_lex.specs.declared.token.Token.{Token}
use Rattle.c_lex.specs.declared.token.TokenKind.TheVariants.{Name}
use Rattle.c_ast.specs.Scoped.{is_scoped}
use Rattle.c_ast.proofs.Equations.{variables-Var}
use Rattle.c_ast.proofs.ScopedEquations.{scoped_equations}
use Rattle.c_ast.specs.declared.expr.Expr.{Expr}
use Rattle.c_ast.specs.declared.expr.Expr.TheVariants.{Var, outs-Var}
use Rattle.c_ast.specs.declared.expr.Expr.TheFolds.{fold_out-Expr}
use Rattle.c_ast.specs.declared.stmt.Stmt.TheVariants.{Declare, Return, outs-Declare, outs-Return}
use Rattle.c_ast.specs.declared.stmt.Stmt.TheFolds.{fold_out-Stmt}
use Rattle.c_ast.specs.declared.program.Function.{Function}
use Rattle.c_ast.specs.declared.program.Program.{Program}
use Rattle.c_ast.specs.declared.program.Resolved.{Resolved}
use Rattle.c_assigned.specs.Flows as Assigning
use Rattle.c_assigned.specs.Flows.{After, Transfer, fall_through, stmt_flow, unset_in}
use Rattle.c_assigned.specs.Sets.{Assigned}
use Rattle.c_names.specs.Names.{name_at, names_of}
use Rattle.c_names.specs.Expressions.{slot_at, expr_level, resolved_expr}
use Rattle.c_scope.specs.Functions.{resolved_functions}
use Rattle.c_scope.specs.Programs.{scope_of}
use Rattle.c_names.specs.LookupSlots.{Scope}
use Rattle.c_scope.specs.Statements as Scoping
use Rattle.c_scope.specs.Statements.{Scoped, Resolver, pure, resolved_stmt}
use Rattle.c_names.specs.Steps.{Checked, and_then}
use Rattle.c_names.specs.declared.error.ScopeEnd.TheVariants.{MayBeUnset}
use Rattle.c_scope.proofs.Programs.{resolved_is_scoped}

module _ (names : List ℕ) (functions : List Function) where
  expr-Var : (scope : List ℕ) (token : ℕ) → resolved_expr names functions scope (Var token) ≡
      and_then (slot_at names functions scope token) (λ slot. Ok (Var slot))
  expr-Var scope token =
      fold_out-Expr (Checked Expr) (expr_level names functions scope) (Var token) ∙
      rw (outs-Var token) refl

  stmt-Declare : (token : ℕ) (e : Expr) (s : Scope) (in_loop : Bool) →
      resolved_stmt names functions (Declare token (Some e)) s in_loop ≡
      Scoping.declaration_of names functions token (Some e) s
  stmt-Declare token e s in_loop =
      ap (λ (w : Resolver). w s in_loop) (fold_out-Stmt Resolver
      (Scoping.stmt_level names functions)
      (Declare token (Some e))) ∙ rw (outs-Declare token (Some e)) refl

  stmt-Return : (e : Expr) (s : Scope) (in_loop : Bool) →
      resolved_stmt names functions (Return e) s in_loop ≡
      and_then (resolved_expr names functions s.names e) (λ v. pure s (Return v))
  stmt-Return e s in_loop =
      ap (λ (w : Resolver). w s in_loop) (fold_out-Stmt Resolver
      (Scoping.stmt_level names functions)
      (Return e)) ∙ rw (outs-Return e) refl

module _ (names : List ℕ) where
  flow-Declare : (token : ℕ) (e : Expr) (scope : List ℕ) (set : Assigned) →
      stmt_flow names (Declare token (Some e)) scope set ≡
      Assigning.declaration_flow names (scope ++ name_at names token ∷ []) set (Some e)
  flow-Declare token e scope set =
      ap (λ (w : Transfer). w scope set) (fold_out-Stmt Transfer (Assigning.stmt_level names)
      (Declare token (Some e))) ∙ rw (outs-Declare token (Some e)) refl

  flow-Return : (e : Expr) (scope : List ℕ) (set : Assigned) →
      stmt_flow names (Return e) scope set ≡ fall_through scope None (unset_in names scope set e)
  flow-Return e scope set =
      ap (λ (w : Transfer). w scope set) (fold_out-Stmt Transfer (Assigning.stmt_level names)
      (Return e)) ∙
      rw (outs-Return e) refl

ruleset equations = (expr-Var, stmt-Declare, stmt-Return, flow-Declare, flow-Return, variables-Var)

-- f, n and s are the tokens 0, 1 and 2
abbrev source : List ℕ
source = 102 ∷ 110 ∷ 115 ∷ []

abbrev letter : ℕ → Token
letter at = record { kind = Name; at = at; len = 1 }

abbrev tokens : List Token
tokens = letter 0 ∷ letter 1 ∷ letter 2 ∷ []

-- int f(int n) { int s = ..; return s; }
abbrev with_value : List ℕ → Expr → List Function
with_value params value =
    record { name = 0; params = params; body = Declare 2 (Some value) ∷ Return (Var 2) ∷ [] } ∷ []

-- with n as its value
abbrev copies : Program
copies = record { functions = with_value (1 ∷ []) (Var 1); prototypes = [] }

abbrev copies_resolved : Resolved
copies_resolved =
    record {
      functions = record {
        name = 0;
        params = 0 ∷ [];
        body = Declare 1 (Some (Var 0)) ∷
            Return (Var 1) ∷ [];
      } ∷ [];
    }

resolves : scope_of source tokens copies ≡ Ok copies_resolved
resolves = simp equations

in_order : is_scoped copies_resolved ≡ true
in_order = resolved_is_scoped source tokens copies copies_resolved resolves

-- with s itself as its value
abbrev reads_itself : Program
reads_itself = record { functions = with_value (1 ∷ []) (Var 2); prototypes = [] }

abbrev names_alone : Resolved
names_alone =
    record {
      functions = record {
        name = 0;
        params = 0 ∷ [];
        body = Declare 1 (Some (Var 1)) ∷
            Return (Var 1) ∷ [];
      } ∷ [];
    }

-- it is refused
refused : scope_of source tokens reads_itself ≡ Err (MayBeUnset 2)
refused = simp equations

-- though all names are known, and what they would come to isn't in order
known_names : resolved_functions (names_of source tokens) reads_itself.functions ≡
    Ok names_alone.functions
known_names = simp equations

out_of_order : is_scoped names_alone ≡ false
out_of_order = simp scoped_equations
