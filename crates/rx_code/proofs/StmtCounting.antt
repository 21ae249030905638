-- Each symbol that is opened for statements has one instruction.
use Rattle.std.proofs.Common.{◌≡◌, ap, sym, subst, refl, true, ℕ, ◌+◌, Option, Some, None, List, [], ◌∷◌, map, pos, arith}
use Rattle.rx_poly.specs.declared.body.Body.{Body}
use Rattle.c_ast.specs.declared.integers.Integers.{Integers}
use Rattle.c_ast.specs.declared.expr.Expr.{Expr}
use Rattle.c_ast.specs.declared.expr.Expr.TheVariants.{Lit}
use Rattle.c_ast.specs.declared.stmt.Stmt.{Stmt}
use Rattle.rx_code.specs.Codes.{test_or_one}
use Rattle.rx_code.specs.Expressions.{Asked, expr_code}
use Rattle.rx_code.specs.Pieces.{a_point, append_code, after, does, opens, point}
use Rattle.rx_code.specs.Statements.{Compiled, Places, branches_code, do_code, for_code, in_scope, list_code, loop_code, slots_after_all, stmt_code, value_or_zero, while_code, with_value}
use Rattle.rx_code.specs.declared.action.Action.{Action}
use Rattle.rx_code.specs.declared.action.Action.TheVariants.{Go, Set, Return}
use Rattle.rx_code.specs.declared.code.Code.{Code}
use Rattle.rx_code.specs.declared.point.Point.{Point}
use Rattle.rx_code.proofs.StmtEquations.{code-Empty, code-Declare, code-Assign, code-If, code-While, code-DoWhile, code-For, code-Break, code-Continue, code-Return, code-Block}
use Rattle.rx_code.proofs.Counting.{Closed, CountsExpr, does_closed, expr_counted, joined, no_entries, one_opened, open_closed, two_from}
use Rattle.rx_code.proofs.Trees as tree
use Rattle.rx_code.proofs.Trees.{StmtTree, StmtTrees}

module _ (x : ℕ) where
  pub record CountsStmt (y : Compiled) : Type 0 where
    pub code : (at : Places) (next : ℕ) → Closed x next at.at (y.code at next).form

  abbrev pub CountsList : List Compiled → Type 0
  CountsList ys = (at : Places) (next : ℕ) → Closed x next at.at (list_code ys at next).form

  value_counted : (y : Asked) (action : Body → Action) (a : Point) (next : ℕ) → CountsExpr x y →
      Closed x next a (with_value y action a next).form
  value_counted y action a next is =
      let v = y.value a next in open_closed x next a v.at v.code (does v.at (action v.value))
      (is.value a next) (does_closed x (after next v.code) v.at (action v.value))

  -- two opened points, and three pieces
  two_opened : (next : ℕ) (a : Point) (width : ℕ) (c d f : Code) → Closed x (next + 2) a c →
      Closed x (after (next + 2) c) (point next width) d
      → Closed x (after (after (next + 2) c) d) (point (next + 1) width) f
      → Closed x next a (append_code (opens (a_point width ∷ a_point width ∷ []))
      (append_code c (append_code d f)))
  two_opened next a width c d f first second third =
      let os = a_point width ∷ a_point width ∷ [] in
      let one = joined x next (opens os) (append_code c (append_code d f)) in
      let two = joined x (next + 2) c (append_code d f) in
      let three = joined x (after (next + 2) c) d f in
      let s = two_from next x in
      record {
        counts =
            let c0 = first.counts in let c1 = second.counts in let c2 = third.counts in let d1 =
            one.instructions in let s1 = one.symbols in let d2 = two.instructions in let s2 =
            two.symbols in
            let d3 = three.instructions in let s3 = three.symbols in
            omega (arith, c0, c1, c2, d1, s1, d2, s2, d3, s3, s);
        entries =
            no_entries c (append_code d f) first.entries
            (no_entries d f second.entries third.entries);
      }

  -- a head that is marked
  marked : (next : ℕ) (a : Point) (heads : List ℕ) (c : Code) → Closed x next a c →
      Closed x next a (append_code (record {
        opened = [];
        instructions = [];
        heads = heads;
        entries
            = [];
      })
      c)
  marked next a heads c is = record { counts = is.counts; entries = is.entries }

  list_step : (y : Compiled) (ys : List Compiled) → CountsStmt y → CountsList ys →
      CountsList (y ∷ ys)
  list_step y [] is rest at next = is.code at next
  list_step y (z ∷ zs) is rest at next =
      let n = y.slots_after at.at.width in
      let c = (y.code (record at { to = point next n }) (next + 1)).form in
      let d = (list_code (z ∷ zs) (record at { at = point next n }) (after (next + 1) c)).form in
      one_opened x next at.at n c d (is.code (record at { to = point next n }) (next + 1))
      (rest (record at { at = point next n }) (after (next + 1) c))

  branches_counted : (e : Asked) (y : Compiled) (z : Option Compiled) → CountsExpr x e →
      CountsStmt y → (pick : (w : Compiled) → z ≡ Some w → CountsStmt w) → (at : Places) (next : ℕ)
      → Closed x next at.at (branches_code e y z at next).form
  branches_counted e y None test inner pick at next =
      let p = point next at.at.width in
      let c = (e.condition at.at p at.to (next + 1)).form in
      let d = (y.code (record at { at = p }) (after (next + 1) c)).form in
      one_opened x next at.at at.at.width c d (test.condition at.at p at.to (next + 1))
      (inner.code (record at { at = p }) (after (next + 1) c))
  branches_counted e y (Some z) test inner pick at next =
      let p = point next at.at.width in
      let q = point (next + 1) at.at.width in
      let c = (e.condition at.at p q (next + 2)).form in
      let d = (y.code (record at { at = p }) (after (next + 2) c)).form in
      let f = (z.code (record at { at = q }) (after (after (next + 2) c) d)).form in
      two_opened next at.at at.at.width c d f (test.condition at.at p q (next + 2))
      (inner.code (record at { at = p }) (after (next + 2) c))
      ((pick z refl).code (record at { at = q }) (after (after (next + 2) c) d))

  while_counted : (e : Asked) (y : Compiled) → CountsExpr x e → CountsStmt y →
      (at : Places) (next : ℕ) → Closed x next at.at (while_code e y at next).form
  while_counted e y test inner at next =
      let p = point next at.at.width in
      let c = (e.condition at.at p at.to (next + 1)).form in
      let places : Places = record { at = p; to = at.at; break_to = at.to; continue_to = at.at } in
      let d = (y.code places (after (next + 1) c)).form in
      marked next at.at (at.at.symbol ∷ []) _
      (one_opened x next at.at at.at.width c d (test.condition at.at p at.to (next + 1))
      (inner.code places (after (next + 1) c)))

  do_counted : (y : Compiled) (e : Asked) → CountsStmt y → CountsExpr x e →
      (at : Places) (next : ℕ) → Closed x next at.at (do_code y e at next).form
  do_counted y e inner test at next =
      let z = point next at.at.width in
      let places : Places = record { at = at.at; to = z; break_to = at.to; continue_to = z } in
      let c = (y.code places (next + 1)).form in
      let d = (e.condition z at.at at.to (after (next + 1) c)).form in
      marked next at.at (at.at.symbol ∷ []) _
      (one_opened x next at.at at.at.width c d (inner.code places (next + 1))
      (test.condition z at.at at.to (after (next + 1) c)))

  loop_counted : (e : Asked) (w : Option Compiled) (y : Compiled) → CountsExpr x e → CountsStmt y →
      (pick : (u : Compiled) → w ≡ Some u → CountsStmt u) → (h : Point) (at : Places) (next : ℕ)
      → Closed x next h (loop_code e w y h at next).form
  loop_counted e None y test inner pick h at next =
      let p = point next h.width in
      let c = (e.condition h p at.to (next + 1)).form in
      let places : Places = record { at = p; to = h; break_to = at.to; continue_to = h } in
      let d = (y.code places (after (next + 1) c)).form in
      marked next h (h.symbol ∷ []) _ (one_opened x next h h.width c d
      (test.condition h p at.to (next + 1)) (inner.code places (after (next + 1) c)))
  loop_counted e (Some u) y test inner pick h at next =
      let p = point next h.width in
      let k = point (next + 1) h.width in
      let c = (e.condition h p at.to (next + 2)).form in
      let places : Places = record { at = p; to = k; break_to = at.to; continue_to = k } in
      let d = (y.code places (after (next + 2) c)).form in
      let f = (u.code (record at { at = k; to = h }) (after (after (next + 2) c) d)).form in
      marked next h (h.symbol ∷ []) _ (two_opened next h h.width c d f
      (test.condition h p at.to (next + 2)) (inner.code places (after (next + 2) c))
      ((pick u refl).code (record at { at = k; to = h }) (after (after (next + 2) c) d)))

  for_counted : (ys : List Compiled) (e : Asked) (w : Option Compiled) (y : Compiled) →
      CountsList ys
      → ((h : Point) (at : Places) (next : ℕ) → Closed x next h (loop_code e w y h at next).form) →
      (at : Places) (next : ℕ) → Closed x next at.at (for_code ys e w y at next).form
  for_counted [] e w y list turn at next = turn at.at at next
  for_counted (s ∷ ss) e w y list turn at next =
      let n = slots_after_all (s ∷ ss) at.at.width in
      let h = point next n in
      let c = (list_code (s ∷ ss) (record at { to = h }) (next + 1)).form in
      let d = (loop_code e w y h at (after (next + 1) c)).form in
      one_opened x next at.at n c d (list (record at { to = h }) (next + 1))
      (turn h at (after (next + 1) c))

  none_picked : (w : Compiled) → None ≡ Some w → CountsStmt w
  none_picked w is = absurd cc

  this_picked : (u : Compiled) → CountsStmt u → (w : Compiled) → Some u ≡ Some w → CountsStmt w
  this_picked u counted w is = subst CountsStmt (ap (element u) is) counted
    where
      element : Compiled → Option Compiled → Compiled
      element z None = z
      element z (Some v) = v

  go_counted : (z : Places → Point) → CountsStmt
      (in_scope (λ at next. record { form = does at.at (Go (z at)); within = true }))
  go_counted z = record { code = λ at next. does_closed x next at.at (Go (z at)) }

  module _ (integers : Integers) where
    zero_counted : (value : Option Expr) → CountsExpr x (value_or_zero integers value)
    zero_counted None = expr_counted x integers (Lit (pos 0))
    zero_counted (Some e) = expr_counted x integers e

    mutual
      stmt_tree_counted : (t : Stmt) → StmtTree t → CountsStmt (stmt_code integers t)
      stmt_tree_counted t tree.IsEmpty =
          subst CountsStmt (sym (code-Empty integers)) (go_counted (λ at. at.to))
      stmt_tree_counted t (tree.Declared slot value) =
          subst CountsStmt (sym (code-Declare integers slot value))
          (record {
            code = λ at next. value_counted (value_or_zero integers value) (λ p. Set slot p at.to)
                at.at next (zero_counted value);
          })
      stmt_tree_counted t (tree.Assigned slot e) =
          subst CountsStmt (sym (code-Assign integers slot e))
          (record {
            code = λ at next. value_counted (expr_code integers e)
                (λ p. Set slot p at.to) at.at next
                (expr_counted x integers e);
          })
      stmt_tree_counted t (tree.IfAlone e u inner) =
          subst CountsStmt (sym (code-If integers e u None))
          (record {
            code = branches_counted (expr_code integers e) (stmt_code integers u) None
                (expr_counted x integers e)
                (stmt_tree_counted u inner) none_picked;
          })
      stmt_tree_counted t (tree.IfElse e u v inner other) =
          subst CountsStmt (sym (code-If integers e u (Some v)))
          (record {
            code = branches_counted (expr_code integers e) (stmt_code integers u)
                (Some (stmt_code integers v))
                (expr_counted x integers e) (stmt_tree_counted u inner)
                (this_picked (stmt_code integers v) (stmt_tree_counted v other));
          })
      stmt_tree_counted t (tree.WhileLoop e u inner) =
          subst CountsStmt (sym (code-While integers e u))
          (record {
            code = while_counted (expr_code integers e) (stmt_code integers u)
                (expr_counted x integers e)
                (stmt_tree_counted u inner);
          })
      stmt_tree_counted t (tree.DoLoop u e inner) =
          subst CountsStmt (sym (code-DoWhile integers u e))
          (record {
            code = do_counted (stmt_code integers u) (expr_code integers e)
                (stmt_tree_counted u inner)
                (expr_counted x integers e);
          })
      stmt_tree_counted t (tree.ForLoop first test u begun inner) =
          let e = test_or_one test in
          subst CountsStmt (sym (code-For integers first test None u)) (record {
            code =
                for_counted (map (stmt_code integers) first) (expr_code integers e) None
                (stmt_code integers u)
                (stmt_trees_counted first begun)
                (loop_counted (expr_code integers e) None (stmt_code integers u)
                (expr_counted x integers e)
                (stmt_tree_counted u inner) none_picked);
          })
      stmt_tree_counted t (tree.ForChange first test v u begun changed inner) =
          let e = test_or_one test in
          subst CountsStmt (sym (code-For integers first test (Some v) u)) (record {
            code =
                for_counted (map (stmt_code integers) first) (expr_code integers e)
                (Some (stmt_code integers v)) (stmt_code integers u)
                (stmt_trees_counted first begun)
                (loop_counted (expr_code integers e) (Some (stmt_code integers v))
                (stmt_code integers u) (expr_counted x integers e)
                (stmt_tree_counted u inner)
                (this_picked (stmt_code integers v) (stmt_tree_counted v changed)));
          })
      stmt_tree_counted t (tree.Broken token) =
          subst CountsStmt (sym (code-Break integers token)) (go_counted (λ at. at.break_to))
      stmt_tree_counted t (tree.Continued token) =
          subst CountsStmt (sym (code-Continue integers token)) (go_counted (λ at. at.continue_to))
      stmt_tree_counted t (tree.Returned e) =
          subst CountsStmt (sym (code-Return integers e))
          (record {
            code = λ at next. value_counted (expr_code integers e) Return at.at next
                (expr_counted x integers e);
          })
      stmt_tree_counted t (tree.InBlock ts inner) =
          subst CountsStmt (sym (code-Block integers ts))
          (record { code = stmt_trees_counted ts inner })

      stmt_trees_counted : (ts : List Stmt) → StmtTrees ts →
          CountsList (map (stmt_code integers) ts)
      stmt_trees_counted ts tree.NoStmt = λ at next. does_closed x next at.at (Go at.to)
      stmt_trees_counted ts (tree.MoreStmts t us first rest) =
          list_step (stmt_code integers t) (map (stmt_code integers) us) (stmt_tree_counted t first)
          (stmt_trees_counted us rest)

    -- the code of each list of statements is so
    pub list_is_counted : (ts : List Stmt) → CountsList (map (stmt_code integers) ts)
    list_is_counted ts = stmt_trees_counted ts (tree.stmt_trees ts)
