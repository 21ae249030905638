-- Trees whose slots and calls are in order, by their forms.
use Rattle.std.proofs.Common.{◌≡◌, ◌∙◌, refl, ap, sym, subst, true, ◌&&◌, ℕ, suc, ◌+◌, ◌<◌, ◌≤◌, Option, Some, None, List, [], ◌∷◌, ◌++◌, length, map, ℤ, pos, arith}
use Rattle.std.specs.Prelude.{All, nat_eq, nat_lt, slice_get}
use Rattle.std.specs.List.{concat, list_all}
use Rattle.std.proofs.lemmas.Bool.{and_parts, eqb-true, ltb-true}
use Rattle.std.proofs.lemmas.List.Elements.{All-head}
use Rattle.std.proofs.lemmas.Option.{same_Some}
use Rattle.c_ast.specs.Calls.{calls, calls_in}
use Rattle.c_ast.specs.Scoped.{is_fine, is_fine_turn, is_scoped_expr, only_if, passes_if_there, slots_after, slots_in_order, takes}
use Rattle.c_ast.specs.Variables.{list_of_option}
use Rattle.c_ast.specs.declared.expr.UnOp.{UnOp}
use Rattle.c_ast.specs.declared.expr.BinOp.{BinOp}
use Rattle.c_ast.specs.declared.expr.Expr.{Expr}
use Rattle.c_ast.specs.declared.expr.Expr.TheVariants as expr
use Rattle.c_ast.specs.declared.stmt.Stmt.{Stmt}
use Rattle.c_ast.specs.declared.stmt.Stmt.TheVariants as stmt
use Rattle.c_ast.proofs.CallEquations as called
use Rattle.c_ast.proofs.ScopedEquations as scoped
use Rattle.c_ast.proofs.ScopedLaws.{fine_is, only_if_is, then_is}
use Rattle.rx_code.specs.Codes.{test_or_one}
use Rattle.rx_code.proofs.Elements.{all_left, all_right}
use Rattle.rx_code.proofs.Trees as tree
use Rattle.rx_code.proofs.Trees.{ExprTree, ExprTrees, StmtTree, StmtTrees, expr_tree, stmt_tree, stmt_trees}

-- `callable` says of a function, by its place, whether it takes n arguments
module _ (callable : ℕ → ℕ → Type 0) where
  mutual
    -- an expression where n slots are in scope
    pub data IsExpr (n : ℕ) : Expr → Type 0 where
      literal : (k : ℤ) → IsExpr n (expr.Lit k)
      variable_of : (v : ℕ) → v < n → IsExpr n (expr.Var v)
      one_operand : (op : UnOp) (e : Expr) → IsExpr n e → IsExpr n (expr.Unary op e)
      two_operands : (op : BinOp) (e f : Expr) → IsExpr n e → IsExpr n f →
          IsExpr n (expr.Binary op e f)
      chosen : (c e f : Expr) → IsExpr n c → IsExpr n e → IsExpr n f → IsExpr n (expr.Choose c e f)
      applied : (f : ℕ) (es : List Expr) → callable f (length es) → AreExprs n es →
          IsExpr n (expr.Apply f es)

    pub data AreExprs (n : ℕ) : List Expr → Type 0 where
      no_expr : AreExprs n []
      one_more : (e : Expr) (es : List Expr) → IsExpr n e → AreExprs n es → AreExprs n (e ∷ es)

  mutual
    -- a statement with n slots in scope before it and k after it
    pub data IsStmt : ℕ → Stmt → ℕ → Type 0 where
      empty : (n : ℕ) → IsStmt n stmt.Empty n
      unset : (n : ℕ) → IsStmt n (stmt.Declare n None) (suc n)
      declared : (n : ℕ) (e : Expr) → IsExpr n e → IsStmt n (stmt.Declare n (Some e)) (suc n)
      assigned_to : (n v : ℕ) (e : Expr) → v < n → IsExpr n e → IsStmt n (stmt.Assign v e) n
      if_alone : (n k : ℕ) (e : Expr) (t : Stmt) → IsExpr n e → IsStmt n t k →
          IsStmt n (stmt.If e t None) n
      if_else : (n k l : ℕ) (e : Expr) (t u : Stmt) → IsExpr n e → IsStmt n t k → IsStmt n u l →
          IsStmt n (stmt.If e t (Some u)) n
      while_loop : (n k : ℕ) (e : Expr) (t : Stmt) → IsExpr n e → IsStmt n t k →
          IsStmt n (stmt.While e t) n
      do_loop : (n k : ℕ) (e : Expr) (t : Stmt) → IsExpr n e → IsStmt n t k →
          IsStmt n (stmt.DoWhile t e) n
      for_loop : (n i k : ℕ) (first : List Stmt) (test : Option Expr) (t : Stmt) →
          AreStmts n first i → IsExpr i (test_or_one test) → IsStmt i t k
          → IsStmt n (stmt.For first test None t) n
      for_change : (n i k l : ℕ) (first : List Stmt) (test : Option Expr) (u t : Stmt) →
          AreStmts n first i → IsExpr i (test_or_one test) → IsStmt i u l → IsStmt i t k
          → IsStmt n (stmt.For first test (Some u) t) n
      break_out : (n token : ℕ) → IsStmt n (stmt.Break token) n
      go_on : (n token : ℕ) → IsStmt n (stmt.Continue token) n
      returned : (n : ℕ) (e : Expr) → IsExpr n e → IsStmt n (stmt.Return e) n
      block : (n i : ℕ) (ts : List Stmt) → AreStmts n ts i → IsStmt n (stmt.Block ts) n

    -- statements in their order
    pub data AreStmts : ℕ → List Stmt → ℕ → Type 0 where
      no_stmt : (n : ℕ) → AreStmts n [] n
      more_stmts : (n k l : ℕ) (t : Stmt) (ts : List Stmt) → IsStmt n t k → AreStmts k ts l →
          AreStmts n (t ∷ ts) l

  mutual
    -- a statement leaves no fewer slots
    pub slots_stay : (n k : ℕ) (t : Stmt) → IsStmt n t k → n ≤ k
    slots_stay n k t (empty _) = omega arith
    slots_stay n k t (unset _) = omega arith
    slots_stay n k t (declared _ e is) = omega arith
    slots_stay n k t (assigned_to _ v e below is) = omega arith
    slots_stay n k t (if_alone _ l e u is inner) = omega arith
    slots_stay n k t (if_else _ l l' e u v is inner other) = omega arith
    slots_stay n k t (while_loop _ l e u is inner) = omega arith
    slots_stay n k t (do_loop _ l e u is inner) = omega arith
    slots_stay n k t (for_loop _ i l first test u begun is inner) = omega arith
    slots_stay n k t (for_change _ i l l' first test v u begun is changed inner) = omega arith
    slots_stay n k t (break_out _ token) = omega arith
    slots_stay n k t (go_on _ token) = omega arith
    slots_stay n k t (returned _ e is) = omega arith
    slots_stay n k t (block _ i ts inner) = omega arith

    pub all_slots_stay : (n k : ℕ) (ts : List Stmt) → AreStmts n ts k → n ≤ k
    all_slots_stay n k ts (no_stmt _) = omega arith
    all_slots_stay n k ts (more_stmts _ l _ t us first rest) =
        let h = slots_stay n l t first in let g = all_slots_stay l k us rest in omega (arith, h, g)

  -- after no statement there are as many slots as before
  pub no_more : (n k : ℕ) → AreStmts n [] k → n ≡ k
  no_more n k (no_stmt _) = refl

  -- `counts` are the numbers of parameters of the functions
  module _ (counts : List ℕ) where
    -- the function may be called with as many arguments as it has parameters
    abbrev pub MayCall : ℕ → Type 0
    MayCall f = (k : ℕ) → slice_get counts f ≡ Some k → callable f k

    taken : (o : Option ℕ) (k : ℕ) → takes o k ≡ true → o ≡ Some k
    taken None k is = absurd cc
    taken (Some j) k is = ap Some (eqb-true j k is)

    module _ (n : ℕ) where
      mutual
        pub scoped_tree : (e : Expr) → ExprTree e → is_scoped_expr counts n e ≡ true →
            All MayCall (calls e) → IsExpr n e
        scoped_tree e (tree.Literal k) fine may = literal k
        scoped_tree e (tree.Variable v) fine may =
            variable_of v (ltb-true v n (sym (scoped.scoped-Var counts n v) ∙ fine))
        scoped_tree e (tree.OneOperand op f inner) fine may =
            one_operand op f (scoped_tree f inner (sym (scoped.scoped-Unary counts n op f) ∙ fine)
            (subst (All MayCall) (called.calls-Unary op f) may))
        scoped_tree e (tree.TwoOperands op f g left right) fine may =
            let both = and_parts (is_scoped_expr counts n f) (is_scoped_expr counts n g)
            (sym (scoped.scoped-Binary counts n op f g) ∙ fine) in
            let all = subst (All MayCall) (called.calls-Binary op f g) may in
            two_operands op f g (scoped_tree f left both.0
            (all_left MayCall (calls f) (calls g) all))
            (scoped_tree g right both.1 (all_right MayCall (calls f) (calls g) all))
        scoped_tree e (tree.Chosen c f g test left right) fine may =
            let all_fine = and_parts (is_scoped_expr counts n c)
            (is_scoped_expr counts n f && is_scoped_expr counts n g)
            (sym (scoped.scoped-Choose counts n c f g) ∙ fine) in
            let both = and_parts (is_scoped_expr counts n f) (is_scoped_expr counts n g) all_fine.1
            in
            let all = subst (All MayCall) (called.calls-Choose c f g) may in
            let begun = all_left MayCall (calls c ++ calls f) (calls g) all in
            chosen c f g (scoped_tree c test all_fine.0
            (all_left MayCall (calls c) (calls f) begun))
            (scoped_tree f left both.0 (all_right MayCall (calls c) (calls f) begun))
            (scoped_tree g right both.1 (all_right MayCall (calls c ++ calls f) (calls g) all))
        scoped_tree e (tree.Applied f es inner) fine may =
            let both = and_parts (takes (slice_get counts f) (length es))
            (list_all (is_scoped_expr counts n) es)
            (sym (scoped.scoped-Apply counts n f es) ∙ fine) in
            let all = subst (All MayCall) (called.calls-Apply f es) may in
            applied f es (All-head MayCall f (concat (map calls es)) all (length es)
            (taken (slice_get counts f) (length es) both.0))
            (scoped_trees es inner both.1 (all_right MayCall (f ∷ []) (concat (map calls es)) all))

        scoped_trees : (es : List Expr) → ExprTrees es → list_all (is_scoped_expr counts n) es ≡
            true → All MayCall (concat (map calls es)) → AreExprs n es
        scoped_trees es tree.NoTree fine may = no_expr
        scoped_trees es (tree.OneMore e fs inner rest) fine may =
            let both = and_parts (is_scoped_expr counts n e) (list_all (is_scoped_expr counts n) fs)
            fine in
            one_more e fs (scoped_tree e inner both.0
            (all_left MayCall (calls e) (concat (map calls fs)) may))
            (scoped_trees fs rest both.1 (all_right MayCall (calls e) (concat (map calls fs)) may))

      pub scoped_expr : (e : Expr) → is_scoped_expr counts n e ≡ true → All MayCall (calls e) →
          IsExpr n e
      scoped_expr e = scoped_tree e (expr_tree e)

      scoped_test : (test : Option Expr) → passes_if_there (is_scoped_expr counts n) test ≡ true →
          All MayCall (list_of_option calls test) → IsExpr n (test_or_one test)
      scoped_test None fine may = literal (pos 1)
      scoped_test (Some e) fine may = scoped_expr e fine may

    same : (n m : ℕ) (t : Stmt) → Some n ≡ Some m → IsStmt n t n → IsStmt n t m
    same n m t is = subst (IsStmt n t) (same_Some n m is)

    declaration : (n : ℕ) (value : Option Expr) → passes_if_there (is_scoped_expr counts n) value ≡
        true → All MayCall (list_of_option calls value) → IsStmt n (stmt.Declare n value) (suc n)
    declaration n None fine may = unset n
    declaration n (Some e) fine may = declared n e (scoped_expr n e fine may)

    mutual
      pub scoped_stmt_tree : (n m : ℕ) (t : Stmt) → StmtTree t → slots_after counts t n ≡ Some m →
          All MayCall (calls_in t) → IsStmt n t m
      scoped_stmt_tree n m t tree.IsEmpty is may =
          same n m stmt.Empty (sym (scoped.slots-Empty counts n) ∙ is) (empty n)
      scoped_stmt_tree n m t (tree.Declared slot value) is may =
          let h = only_if_is (nat_eq slot n && passes_if_there (is_scoped_expr counts n) value)
          (n + 1) m (sym (scoped.slots-Declare counts slot value n) ∙ is) in
          let both = and_parts (nat_eq slot n) (passes_if_there (is_scoped_expr counts n) value) h.0
          in
          let here : slot ≡ n = eqb-true slot n both.0 in
          let next : suc n ≡ m = let e = h.1 in omega (arith, e) in
          let all = subst (All MayCall) (called.calls_in-Declare slot value) may in
          subst (λ k. IsStmt n (stmt.Declare k value) m) (sym here)
          (subst (IsStmt n (stmt.Declare n value)) next (declaration n value both.1 all))
      scoped_stmt_tree n m t (tree.Assigned slot value) is may =
          let h = only_if_is (nat_lt slot n && is_scoped_expr counts n value) n m
          (sym (scoped.slots-Assign counts slot value n) ∙ is) in
          let both = and_parts (nat_lt slot n) (is_scoped_expr counts n value) h.0 in
          subst (IsStmt n (stmt.Assign slot value)) h.1
          (assigned_to n slot value (ltb-true slot n both.0)
          (scoped_expr n value both.1 (subst (All MayCall) (called.calls_in-Assign slot value)
          may)))
      scoped_stmt_tree n m t (tree.IfAlone e u inner) is may =
          let h = only_if_is (is_scoped_expr counts n e &&
          (is_fine (slots_after counts u) n && true)) n m
          (sym (scoped.slots-If counts e u None n) ∙ is) in
          let both = and_parts (is_scoped_expr counts n e)
          (is_fine (slots_after counts u) n && true) h.0 in
          let k = fine_is (slots_after counts u n)
          (and_parts (is_fine (slots_after counts u) n) true both.1).0 in
          let all = subst (All MayCall) (called.calls_in-If e u None) may in
          let begun = all_left MayCall (calls e ++ calls_in u) [] all in
          subst (IsStmt n (stmt.If e u None)) h.1
          (if_alone n k.0 e u (scoped_expr n e both.0
          (all_left MayCall (calls e) (calls_in u) begun))
          (scoped_stmt_tree n k.0 u inner k.1 (all_right MayCall (calls e) (calls_in u) begun)))
      scoped_stmt_tree n m t (tree.IfElse e u v inner other) is may =
          let h = only_if_is (is_scoped_expr counts n e &&
          (is_fine (slots_after counts u) n && is_fine (slots_after counts v) n)) n m
          (sym (scoped.slots-If counts e u (Some v) n) ∙ is) in
          let both = and_parts (is_scoped_expr counts n e)
          (is_fine (slots_after counts u) n && is_fine (slots_after counts v) n) h.0 in
          let two = and_parts (is_fine (slots_after counts u) n) (is_fine (slots_after counts v) n)
          both.1 in
          let k = fine_is (slots_after counts u n) two.0 in
          let l = fine_is (slots_after counts v n) two.1 in
          let all = subst (All MayCall) (called.calls_in-If e u (Some v)) may in
          let begun = all_left MayCall (calls e ++ calls_in u) (calls_in v) all in
          subst (IsStmt n (stmt.If e u (Some v))) h.1
          (if_else n k.0 l.0 e u v (scoped_expr n e both.0
          (all_left MayCall (calls e) (calls_in u) begun))
          (scoped_stmt_tree n k.0 u inner k.1 (all_right MayCall (calls e) (calls_in u) begun))
          (scoped_stmt_tree n l.0 v other l.1
          (all_right MayCall (calls e ++ calls_in u) (calls_in v) all)))
      scoped_stmt_tree n m t (tree.WhileLoop e u inner) is may =
          let h = only_if_is (is_scoped_expr counts n e && is_fine (slots_after counts u) n) n m
          (sym (scoped.slots-While counts e u n) ∙ is) in
          let both = and_parts (is_scoped_expr counts n e) (is_fine (slots_after counts u) n) h.0 in
          let k = fine_is (slots_after counts u n) both.1 in
          let all = subst (All MayCall) (called.calls_in-While e u) may in
          subst (IsStmt n (stmt.While e u)) h.1
          (while_loop n k.0 e u (scoped_expr n e both.0
          (all_left MayCall (calls e) (calls_in u) all))
          (scoped_stmt_tree n k.0 u inner k.1 (all_right MayCall (calls e) (calls_in u) all)))
      scoped_stmt_tree n m t (tree.DoLoop u e inner) is may =
          let h = only_if_is (is_fine (slots_after counts u) n && is_scoped_expr counts n e) n m
          (sym (scoped.slots-DoWhile counts u e n) ∙ is) in
          let both = and_parts (is_fine (slots_after counts u) n) (is_scoped_expr counts n e) h.0 in
          let k = fine_is (slots_after counts u n) both.0 in
          let all = subst (All MayCall) (called.calls_in-DoWhile u e) may in
          subst (IsStmt n (stmt.DoWhile u e)) h.1
          (do_loop n k.0 e u (scoped_expr n e both.1
          (all_right MayCall (calls_in u) (calls e) all))
          (scoped_stmt_tree n k.0 u inner k.1 (all_left MayCall (calls_in u) (calls e) all)))
      scoped_stmt_tree n m t (tree.ForLoop first test u begun inner) is may =
          let i = then_is (λ i. only_if (is_fine_turn counts test None (slots_after counts u) i) n)
          (slots_in_order (map (slots_after counts) first) n) m
          (sym (scoped.slots-For counts first test None u n) ∙ is) in
          let h = only_if_is (is_fine_turn counts test None (slots_after counts u) i.0) n m i.2 in
          let both = and_parts (passes_if_there (is_scoped_expr counts i.0) test)
          (true && is_fine (slots_after counts u) i.0) h.0 in
          let k = fine_is (slots_after counts u i.0) both.1 in
          let all = subst (All MayCall) (called.calls_in-For first test None u) may in
          let before = concat (map calls_in first) in
          let tested = list_of_option calls test in
          let begun_calls = all_left MayCall (before ++ tested) []
          (all_left MayCall (before ++ tested ++ []) (calls_in u) all) in
          subst (IsStmt n (stmt.For first test None u)) h.1 (for_loop n i.0 k.0 first test u
          (scoped_stmt_trees n i.0 first begun i.1 (all_left MayCall before tested begun_calls))
          (scoped_test i.0 test both.0 (all_right MayCall before tested begun_calls))
          (scoped_stmt_tree i.0 k.0 u inner k.1
          (all_right MayCall (before ++ tested ++ []) (calls_in u) all)))
      scoped_stmt_tree n m t (tree.ForChange first test v u begun changed inner) is may =
          let i = then_is (λ i. only_if (is_fine_turn counts test (Some (slots_after counts v))
          (slots_after counts u) i) n) (slots_in_order (map (slots_after counts) first) n) m
          (sym (scoped.slots-For counts first test (Some v) u n) ∙ is) in
          let h = only_if_is (is_fine_turn counts test (Some (slots_after counts v))
          (slots_after counts u) i.0) n m i.2 in
          let both = and_parts (passes_if_there (is_scoped_expr counts i.0) test)
          (is_fine (slots_after counts v) i.0 && is_fine (slots_after counts u) i.0) h.0 in
          let two = and_parts (is_fine (slots_after counts v) i.0)
          (is_fine (slots_after counts u) i.0) both.1 in
          let l = fine_is (slots_after counts v i.0) two.0 in
          let k = fine_is (slots_after counts u i.0) two.1 in
          let all = subst (All MayCall) (called.calls_in-For first test (Some v) u) may in
          let before = concat (map calls_in first) in
          let tested = list_of_option calls test in
          let first_three = all_left MayCall (before ++ tested ++ calls_in v) (calls_in u) all in
          let begun_calls = all_left MayCall (before ++ tested) (calls_in v) first_three in
          subst (IsStmt n (stmt.For first test (Some v) u)) h.1
          (for_change n i.0 k.0 l.0 first test v u
          (scoped_stmt_trees n i.0 first begun i.1 (all_left MayCall before tested begun_calls))
          (scoped_test i.0 test both.0 (all_right MayCall before tested begun_calls))
          (scoped_stmt_tree i.0 l.0 v changed l.1
          (all_right MayCall (before ++ tested) (calls_in v) first_three))
          (scoped_stmt_tree i.0 k.0 u inner k.1
          (all_right MayCall (before ++ tested ++ calls_in v) (calls_in u) all)))
      scoped_stmt_tree n m t (tree.Broken token) is may =
          same n m (stmt.Break token) (sym (scoped.slots-Break counts token n) ∙ is)
          (break_out n token)
      scoped_stmt_tree n m t (tree.Continued token) is may =
          same n m (stmt.Continue token) (sym (scoped.slots-Continue counts token n) ∙ is)
          (go_on n token)
      scoped_stmt_tree n m t (tree.Returned value) is may =
          let h = only_if_is (is_scoped_expr counts n value) n m
          (sym (scoped.slots-Return counts value n) ∙ is) in
          subst (IsStmt n (stmt.Return value)) h.1
          (returned n value (scoped_expr n value h.0
          (subst (All MayCall) (called.calls_in-Return value) may)))
      scoped_stmt_tree n m t (tree.InBlock ts inner) is may =
          let h = only_if_is (is_fine (slots_in_order (map (slots_after counts) ts)) n) n m
          (sym (scoped.slots-Block counts ts n) ∙ is) in
          let i = fine_is (slots_in_order (map (slots_after counts) ts) n) h.0 in
          subst (IsStmt n (stmt.Block ts)) h.1
          (block n i.0 ts (scoped_stmt_trees n i.0 ts inner i.1
          (subst (All MayCall) (called.calls_in-Block ts) may)))

      scoped_stmt_trees : (n m : ℕ) (ts : List Stmt) → StmtTrees ts →
          slots_in_order (map (slots_after counts) ts) n ≡ Some m →
          All MayCall (concat (map calls_in ts)) → AreStmts n ts m
      scoped_stmt_trees n m ts tree.NoStmt is may =
          subst (AreStmts n []) (same_Some n m is) (no_stmt n)
      scoped_stmt_trees n m ts (tree.MoreStmts t us first rest) is may =
          let k = then_is (slots_in_order (map (slots_after counts) us)) (slots_after counts t n) m
          is in
          more_stmts n k.0 m t us (scoped_stmt_tree n k.0 t first k.1
          (all_left MayCall (calls_in t) (concat (map calls_in us)) may))
          (scoped_stmt_trees k.0 m us rest k.2
          (all_right MayCall (calls_in t) (concat (map calls_in us)) may))

    -- a body in order is so by its forms
    pub scoped_list : (n m : ℕ) (ts : List Stmt) → slots_in_order (map (slots_after counts) ts) n ≡
        Some m → All MayCall (concat (map calls_in ts)) → AreStmts n ts m
    scoped_list n m ts = scoped_stmt_trees n m ts (stmt_trees ts)
