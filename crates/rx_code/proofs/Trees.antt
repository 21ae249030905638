-- Trees by their forms, so that a law of all trees is a recursion on them.
use Rattle.std.proofs.Common.{sym, subst, ℕ, Option, Some, None, List, [], ◌∷◌, map, ℤ}
use Rattle.c_ast.specs.declared.expr.UnOp.{UnOp}
use Rattle.c_ast.specs.declared.expr.BinOp.{BinOp}
use Rattle.c_ast.specs.declared.expr.Expr.{Expr}
use Rattle.c_ast.specs.declared.expr.Expr.TheOpen.{Expr-F}
use Rattle.c_ast.specs.declared.expr.Expr.TheVariants as expr
use Rattle.c_ast.specs.declared.expr.Expr.TheFolds.{map-Expr, ind-Expr}
use Rattle.c_ast.specs.declared.expr.Expr.TheViews.{roll-Expr}
use Rattle.c_ast.specs.declared.stmt.Stmt.{Stmt}
use Rattle.c_ast.specs.declared.stmt.Stmt.TheOpen.{Stmt-F}
use Rattle.c_ast.specs.declared.stmt.Stmt.TheVariants as stmt
use Rattle.c_ast.specs.declared.stmt.Stmt.TheFolds.{map-Stmt, ind-Stmt}
use Rattle.c_ast.specs.declared.stmt.Stmt.TheViews.{roll-Stmt}

mutual
  -- an expression of each form, with its parts
  pub data ExprTree : Expr → Type 0 where
    Literal : (k : ℤ) → ExprTree (expr.Lit k)
    Variable : (v : ℕ) → ExprTree (expr.Var v)
    OneOperand : (op : UnOp) (e : Expr) → ExprTree e → ExprTree (expr.Unary op e)
    TwoOperands : (op : BinOp) (e f : Expr) → ExprTree e → ExprTree f →
        ExprTree (expr.Binary op e f)
    Chosen : (c e f : Expr) → ExprTree c → ExprTree e → ExprTree f → ExprTree (expr.Choose c e f)
    Applied : (f : ℕ) (es : List Expr) → ExprTrees es → ExprTree (expr.Apply f es)

  pub data ExprTrees : List Expr → Type 0 where
    NoTree : ExprTrees []
    OneMore : (e : Expr) (es : List Expr) → ExprTree e → ExprTrees es → ExprTrees (e ∷ es)

abbrev ExprPart : Type 0
ExprPart = (e : Expr) × ExprTree e

part_trees : (ps : List ExprPart) → ExprTrees (map (λ (p : ExprPart). p.0) ps)
part_trees [] = NoTree
part_trees (p ∷ ps) = OneMore p.0 (map (λ (q : ExprPart). q.0) ps) p.1 (part_trees ps)

expr_level : (y : Expr-F ExprPart) → ExprTree (roll-Expr (map-Expr ExprPart Expr (λ p. p.0) y))
expr_level (Expr-F.Lit k) = subst ExprTree (sym (expr.rolls-Lit k)) (Literal k)
expr_level (Expr-F.Var v) = subst ExprTree (sym (expr.rolls-Var v)) (Variable v)
expr_level (Expr-F.Unary op p) =
    subst ExprTree (sym (expr.rolls-Unary op p.0)) (OneOperand op p.0 p.1)
expr_level (Expr-F.Binary op p q) =
    subst ExprTree (sym (expr.rolls-Binary op p.0 q.0)) (TwoOperands op p.0 q.0 p.1 q.1)
expr_level (Expr-F.Choose c p q) =
    subst ExprTree (sym (expr.rolls-Choose c.0 p.0 q.0)) (Chosen c.0 p.0 q.0 c.1 p.1 q.1)
expr_level (Expr-F.Apply f ps) =
    subst ExprTree (sym (expr.rolls-Apply f (map (λ (p : ExprPart). p.0) ps)))
    (Applied f (map (λ (p : ExprPart). p.0) ps) (part_trees ps))

-- each expression is one
pub expr_tree : (e : Expr) → ExprTree e
expr_tree = ind-Expr ExprTree (λ x y is. subst (λ z. ExprTree (roll-Expr z)) is (expr_level y))

mutual
  -- a statement of each form, with the statements in it
  pub data StmtTree : Stmt → Type 0 where
    IsEmpty : StmtTree stmt.Empty
    Declared : (slot : ℕ) (value : Option Expr) → StmtTree (stmt.Declare slot value)
    Assigned : (slot : ℕ) (value : Expr) → StmtTree (stmt.Assign slot value)
    IfAlone : (e : Expr) (t : Stmt) → StmtTree t → StmtTree (stmt.If e t None)
    IfElse : (e : Expr) (t u : Stmt) → StmtTree t → StmtTree u → StmtTree (stmt.If e t (Some u))
    WhileLoop : (e : Expr) (t : Stmt) → StmtTree t → StmtTree (stmt.While e t)
    DoLoop : (t : Stmt) (e : Expr) → StmtTree t → StmtTree (stmt.DoWhile t e)
    ForLoop : (first : List Stmt) (test : Option Expr) (t : Stmt) → StmtTrees first → StmtTree t →
        StmtTree (stmt.For first test None t)
    ForChange : (first : List Stmt) (test : Option Expr) (u t : Stmt) → StmtTrees first →
        StmtTree u → StmtTree t → StmtTree (stmt.For first test (Some u) t)
    Broken : (token : ℕ) → StmtTree (stmt.Break token)
    Continued : (token : ℕ) → StmtTree (stmt.Continue token)
    Returned : (value : Expr) → StmtTree (stmt.Return value)
    InBlock : (ts : List Stmt) → StmtTrees ts → StmtTree (stmt.Block ts)

  pub data StmtTrees : List Stmt → Type 0 where
    NoStmt : StmtTrees []
    MoreStmts : (t : Stmt) (ts : List Stmt) → StmtTree t → StmtTrees ts → StmtTrees (t ∷ ts)

abbrev StmtPart : Type 0
StmtPart = (t : Stmt) × StmtTree t

abbrev bare : List StmtPart → List Stmt
bare ps = map (λ (p : StmtPart). p.0) ps

stmt_trees_of : (ps : List StmtPart) → StmtTrees (bare ps)
stmt_trees_of [] = NoStmt
stmt_trees_of (p ∷ ps) = MoreStmts p.0 (bare ps) p.1 (stmt_trees_of ps)

stmt_level : (y : Stmt-F StmtPart) → StmtTree (roll-Stmt (map-Stmt StmtPart Stmt (λ p. p.0) y))
stmt_level Stmt-F.Empty = subst StmtTree (sym stmt.rolls-Empty) IsEmpty
stmt_level (Stmt-F.Declare slot value) =
    subst StmtTree (sym (stmt.rolls-Declare slot value)) (Declared slot value)
stmt_level (Stmt-F.Assign slot value) =
    subst StmtTree (sym (stmt.rolls-Assign slot value)) (Assigned slot value)
stmt_level (Stmt-F.If e p None) =
    subst StmtTree (sym (stmt.rolls-If e p.0 None)) (IfAlone e p.0 p.1)
stmt_level (Stmt-F.If e p (Some q)) =
    subst StmtTree (sym (stmt.rolls-If e p.0 (Some q.0))) (IfElse e p.0 q.0 p.1 q.1)
stmt_level (Stmt-F.While e p) = subst StmtTree (sym (stmt.rolls-While e p.0)) (WhileLoop e p.0 p.1)
stmt_level (Stmt-F.DoWhile p e) = subst StmtTree (sym (stmt.rolls-DoWhile p.0 e)) (DoLoop p.0 e p.1)
stmt_level (Stmt-F.For ps e None p) =
    subst StmtTree (sym (stmt.rolls-For (bare ps) e None p.0))
    (ForLoop (bare ps) e p.0 (stmt_trees_of ps) p.1)
stmt_level (Stmt-F.For ps e (Some q) p) =
    subst StmtTree (sym (stmt.rolls-For (bare ps) e (Some q.0) p.0))
    (ForChange (bare ps) e q.0 p.0 (stmt_trees_of ps) q.1 p.1)
stmt_level (Stmt-F.Break token) = subst StmtTree (sym (stmt.rolls-Break token)) (Broken token)
stmt_level (Stmt-F.Continue token) =
    subst StmtTree (sym (stmt.rolls-Continue token)) (Continued token)
stmt_level (Stmt-F.Return value) = subst StmtTree (sym (stmt.rolls-Return value)) (Returned value)
stmt_level (Stmt-F.Block ps) =
    subst StmtTree (sym (stmt.rolls-Block (bare ps))) (InBlock (bare ps) (stmt_trees_of ps))

-- each statement is one
pub stmt_tree : (t : Stmt) → StmtTree t
stmt_tree = ind-Stmt StmtTree (λ x y is. subst (λ z. StmtTree (roll-Stmt z)) is (stmt_level y))

pub stmt_trees : (ts : List Stmt) → StmtTrees ts
stmt_trees [] = NoStmt
stmt_trees (t ∷ ts) = MoreStmts t ts (stmt_tree t) (stmt_trees ts)
