-- Small programs to try the test of slots and calls on, each of one function with one parameter,
-- which is slot 0. The texts name what the trees say; some of them are no programs of C.
use Rattle.std.specs.Prelude.{pos, Some, None, List, [], ◌∷◌}
use Rattle.c_ast.specs.declared.expr.BinOp.TheVariants.{Add, Lt}
use Rattle.c_ast.specs.declared.expr.Expr.TheVariants.{Lit, Var, Binary, Apply}
use Rattle.c_ast.specs.declared.stmt.Stmt.{Stmt}
use Rattle.c_ast.specs.declared.stmt.Stmt.TheVariants.{Declare, Assign, If, For, Break, Return, Block}
use Rattle.c_ast.specs.declared.program.Resolved.{Resolved}

-- int f(int n) { .. }
abbrev pub with_body : List Stmt → Resolved
with_body body = record { functions = record { name = 1; params = 0 ∷ []; body = body } ∷ [] }

-- { int s = 0; for (int i = 0; i < n; i = i + 1) { int t = i; s = s + t; }
--   { int u; u = f(s); } return s; }
abbrev pub sums_up : Resolved
sums_up = with_body (
    Declare 1 (Some (Lit (pos 0))) ∷
    For (Declare 2 (Some (Lit (pos 0))) ∷ [])
    (Some (Binary Lt (Var 2) (Var 0)))
    (Some (Assign 2 (Binary Add (Var 2) (Lit (pos 1)))))
    (Block (Declare 3 (Some (Var 2)) ∷ Assign 1 (Binary Add (Var 1) (Var 3)) ∷ [])) ∷
    Block (Declare 2 None ∷ Assign 2 (Apply 0 (Var 1 ∷ [])) ∷ []) ∷
    Return (Var 1) ∷
    [])

-- { return s; int s; }
abbrev pub reads_before_declared : Resolved
reads_before_declared = with_body (Return (Var 1) ∷ Declare 1 None ∷ [])

-- { { int s; } return s; }
abbrev pub reads_after_block : Resolved
reads_after_block = with_body (Block (Declare 1 None ∷ []) ∷ Return (Var 1) ∷ [])

-- { for (int i = n;;) break; i = n; return n; }
abbrev pub assigns_after_for : Resolved
assigns_after_for = with_body (
    For (Declare 1 (Some (Var 0)) ∷ []) None None (Break 9) ∷
    Assign 1 (Var 0) ∷
    Return (Var 0) ∷
    [])

-- { return n; if (n) s = n; }
abbrev pub assigns_where_nothing_leads : Resolved
assigns_where_nothing_leads =
    with_body (Return (Var 0) ∷ If (Var 0) (Assign 1 (Var 0)) None ∷ [])

-- { int s = s; return s; }
abbrev pub reads_itself : Resolved
reads_itself = with_body (Declare 1 (Some (Var 1)) ∷ Return (Var 1) ∷ [])

-- { return f(n, n); }
abbrev pub calls_with_two : Resolved
calls_with_two = with_body (Return (Apply 0 (Var 0 ∷ Var 0 ∷ [])) ∷ [])

-- { return g(); }, where there is no g
abbrev pub calls_another : Resolved
calls_another = with_body (Return (Apply 1 []) ∷ [])

-- a declaration that passes over a slot
abbrev pub leaves_a_slot_out : Resolved
leaves_a_slot_out = with_body (Declare 2 None ∷ Return (Var 0) ∷ [])

-- a declaration of the parameter's slot
abbrev pub takes_a_slot_again : Resolved
takes_a_slot_again = with_body (Declare 0 None ∷ Return (Var 0) ∷ [])
