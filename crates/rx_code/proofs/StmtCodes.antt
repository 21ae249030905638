-- What the table writes down for a statement is its code.
use Rattle.std.proofs.Common.{◌≡◌, ◌∙◌, ap, sym, subst, refl, ℕ, suc, ◌+◌, ◌≤◌, ◌<◌, Option, Some, None, List, [], ◌∷◌, map, pos, arith}
use Rattle.rx_poly.specs.Constants.{number}
use Rattle.rx_poly.specs.declared.body.Body.{Body}
use Rattle.c_ast.specs.declared.integers.Integers.{Integers}
use Rattle.c_ast.specs.declared.expr.Expr.{Expr}
use Rattle.c_ast.specs.declared.stmt.Stmt.{Stmt}
use Rattle.c_ast.specs.declared.stmt.Stmt.TheVariants as stmt
use Rattle.rx_code.specs.Codes as code
use Rattle.rx_code.specs.Codes.{IsBegun, IsChange, IsCondition, IsList, IsStatement, IsValue, test_or_one}
use Rattle.rx_code.specs.Expressions.{Asked, expr_code}
use Rattle.rx_code.specs.Pieces.{append_code, after, does, point}
use Rattle.rx_code.specs.Points.{Actions}
use Rattle.rx_code.specs.Statements.{Compiled, Places, change_turn_code, do_code, for_code, if_code, if_else_code, list_code, loop_code, slots_after_all, stmt_code, turn_code, value_or_zero, while_code, with_value}
use Rattle.rx_code.specs.declared.action.Action.{Action}
use Rattle.rx_code.specs.declared.action.Action.TheVariants.{Go, Set, Return}
use Rattle.rx_code.specs.declared.point.Point.{Point}
use Rattle.rx_code.proofs.ExprEquations.{code-Lit}
use Rattle.rx_code.proofs.StmtEquations.{code-Empty, code-Declare, code-Assign, code-If, code-While, code-DoWhile, code-For, code-Break, code-Continue, code-Return, code-Block}
use Rattle.rx_code.proofs.ExprCodes.{CodesExpr, Written, expr_coded, written_instruction, written_left, written_right}
use Rattle.rx_code.proofs.Scoped as scope
use Rattle.rx_code.proofs.Scoped.{AreStmts, IsExpr, IsStmt, all_slots_stay, no_more, slots_stay}

module _ (integers : Integers) (acts : Actions) (callable : ℕ → ℕ → Type 0) where
  -- the compiled statement leaves n slots, and is the statement's code at all places
  pub record CodesStmt (n : ℕ) (t : Stmt) (k : ℕ) (x : Compiled) : Type 0 where
    pub slots : x.slots_after n ≡ k
    pub code : (at : Places) (next : ℕ) → at.at.width ≡ n → at.to.width ≤ k →
        Written acts (x.code at next).form →
        IsStatement integers acts callable n t k at.at at.to at.break_to
        at.continue_to

  -- a value, and what is done with it
  value_coded : (n : ℕ) (e : Expr) (x : Asked) (action : Body → Action) (a : Point) (next : ℕ) →
      CodesExpr acts integers callable n e x → Written acts (with_value x action a next).form
      → IsValue integers acts callable n e a (x.value a next).at (x.value a next).value ×
      acts (x.value a next).at (action (x.value a next).value)
  value_coded n e x action a next is written =
      let v = x.value a next in (
        is.value a next (written_left acts v.code (does v.at (action v.value)) written),
        written_instruction acts v.at (action v.value)
            (written_right acts v.code (does v.at (action v.value)) written),
      )

  declared_coded : (n : ℕ) (e : Expr) → IsExpr callable n e → (at : Places) (next : ℕ) →
      at.to.width ≤ suc n → Written acts
      (with_value (expr_code integers e) (λ p. Set n p at.to) at.at
      next).form
      → IsStatement integers acts callable n (stmt.Declare n (Some e))
      (suc n) at.at at.to at.break_to
      at.continue_to
  declared_coded n e is at next fits written =
      let v = (expr_code integers e).value at.at next in
      let both = value_coded n e (expr_code integers e) (λ p. Set n p at.to) at.at next
      (expr_coded acts integers callable n e is) written in
      code.declared n e at.at v.at at.to at.break_to at.continue_to v.value both.0 both.1 fits

  unset_coded : (n : ℕ) (at : Places) (next : ℕ) → at.to.width ≤ suc n →
      Written acts (with_value (value_or_zero integers None) (λ p. Set n p at.to) at.at next).form
      → IsStatement integers acts callable n (stmt.Declare n None) (suc n) at.at at.to at.break_to
      at.continue_to
  unset_coded n at next fits written =
      let P : Asked → Type 0 = λ x. Written acts (with_value x (λ p. Set n p at.to) at.at next).form
      in
      code.unset n at.at at.to at.break_to at.continue_to
      (written_instruction acts at.at (Set n (number (pos 0)) at.to)
      (subst P (code-Lit integers (pos 0)) written)) fits

  assigned_coded : (n v : ℕ) (e : Expr) → v < n → IsExpr callable n e → (at : Places) (next : ℕ) →
      at.to.width ≤ n → Written acts (with_value (expr_code integers e)
      (λ p. Set v p at.to) at.at next).form
      → IsStatement integers acts callable n
      (stmt.Assign v e) n at.at at.to at.break_to at.continue_to
  assigned_coded n v e below is at next fits written =
      let x = (expr_code integers e).value at.at next in
      let both = value_coded n e (expr_code integers e) (λ p. Set v p at.to) at.at next
      (expr_coded acts integers callable n e is) written in
      code.assigned_to n v e at.at x.at at.to at.break_to at.continue_to x.value below both.0 both.1
      fits

  returned_coded : (n : ℕ) (e : Expr) → IsExpr callable n e → (at : Places) (next : ℕ) →
      Written acts (with_value (expr_code integers e) Return at.at next).form
      → IsStatement integers acts callable n
      (stmt.Return e) n at.at at.to at.break_to at.continue_to
  returned_coded n e is at next written =
      let x = (expr_code integers e).value at.at next in
      let both = value_coded n e (expr_code integers e) Return at.at next
      (expr_coded acts integers callable n e is)
      written in
      code.returned n e at.at x.at at.to at.break_to at.continue_to x.value both.0 both.1

  condition_coded : (n : ℕ) (e : Expr) → IsExpr callable n e → (a y w : Point) (next : ℕ) →
      y.width ≤ a.width → w.width ≤ a.width →
      Written acts ((expr_code integers e).condition a y w next).form
      → IsCondition integers acts callable n e a y w
  condition_coded n e is = (expr_coded acts integers callable n e is).condition

  if_coded : (n k : ℕ) (e : Expr) (t : Stmt) (x : Compiled) → IsExpr callable n e → n ≤ k →
      CodesStmt n t k x → (at : Places) (next : ℕ) → at.at.width ≡ n → at.to.width ≤ n
      → Written acts (if_code (expr_code integers e) x at next).form →
      IsStatement integers acts callable n
      (stmt.If e t None) n at.at at.to at.break_to at.continue_to
  if_coded n k e t x is stay inner at next same fits written =
      let y = point next at.at.width in
      let c = ((expr_code integers e).condition at.at y at.to (next + 1)).form in
      let d = (x.code (record at { at = y }) (after (next + 1) c)).form in
      code.if_alone n k e t at.at y at.to at.break_to at.continue_to same fits
      (condition_coded n e is at.at y at.to (next + 1) (omega arith) (omega (arith, same, fits))
      (written_left acts c d written))
      (inner.code (record at { at = y }) (after (next + 1) c) same (omega (arith, fits, stay))
      (written_right acts c d written))

  if_else_coded : (n k l : ℕ) (e : Expr) (t u : Stmt) (x z : Compiled) → IsExpr callable n e → n ≤
      k → n ≤ l → CodesStmt n t k x → CodesStmt n u l z → (at : Places) (next : ℕ) → at.at.width ≡
      n → at.to.width ≤ n
      → Written acts (if_else_code (expr_code integers e) x z at next).form →
      IsStatement integers acts callable n (stmt.If e t (Some u)) n at.at at.to at.break_to
      at.continue_to
  if_else_coded n k l e t u x z is stay also inner other at next same fits written =
      let y = point next at.at.width in
      let w = point (next + 1) at.at.width in
      let c = ((expr_code integers e).condition at.at y w (next + 2)).form in
      let d = (x.code (record at { at = y }) (after (next + 2) c)).form in
      let f = (z.code (record at { at = w }) (after (after (next + 2) c) d)).form in
      let branches = written_right acts c (append_code d f) written in
      code.if_else n k l e t u at.at y w at.to at.break_to at.continue_to same same fits
      (condition_coded n e is at.at y w (next + 2) (omega arith) (omega arith)
      (written_left acts c (append_code d f) written))
      (inner.code (record at { at = y }) (after (next + 2) c) same (omega (arith, fits, stay))
      (written_left acts d f branches))
      (other.code (record at { at = w }) (after (after (next + 2) c) d) same
      (omega (arith, fits, also)) (written_right acts d f branches))

  while_coded : (n k : ℕ) (e : Expr) (t : Stmt) (x : Compiled) → IsExpr callable n e → n ≤ k →
      CodesStmt n t k x → (at : Places) (next : ℕ) → at.at.width ≡ n → at.to.width ≤ n
      → Written acts (while_code (expr_code integers e) x at next).form →
      IsStatement integers acts callable n (stmt.While e t) n at.at at.to at.break_to at.continue_to
  while_coded n k e t x is stay inner at next same fits written =
      let y = point next at.at.width in
      let c = ((expr_code integers e).condition at.at y at.to (next + 1)).form in
      let places : Places = record { at = y; to = at.at; break_to = at.to; continue_to = at.at } in
      let d = (x.code places (after (next + 1) c)).form in
      code.while_loop n k e t at.at y at.to at.break_to at.continue_to same fits
      (condition_coded n e is at.at y at.to (next + 1) (omega arith) (omega (arith, same, fits))
      (written_left acts c d written))
      (inner.code places (after (next + 1) c) same (omega (arith, same, stay))
      (written_right acts c d written))

  do_coded : (n k : ℕ) (e : Expr) (t : Stmt) (x : Compiled) → IsExpr callable n e → n ≤ k →
      CodesStmt n t k x → (at : Places) (next : ℕ) → at.at.width ≡ n → at.to.width ≤ n
      → Written acts (do_code x (expr_code integers e) at next).form →
      IsStatement integers acts callable n
      (stmt.DoWhile t e) n at.at at.to at.break_to at.continue_to
  do_coded n k e t x is stay inner at next same fits written =
      let z = point next at.at.width in
      let places : Places = record { at = at.at; to = z; break_to = at.to; continue_to = z } in
      let c = (x.code places (next + 1)).form in
      let d = ((expr_code integers e).condition z at.at at.to (after (next + 1) c)).form in
      code.do_loop n k e t at.at z at.to at.break_to at.continue_to same fits
      (inner.code places (next + 1) same (omega (arith, same, stay))
      (written_left acts c d written))
      (condition_coded n e is z at.at at.to (after (next + 1) c) (omega arith)
      (omega (arith, same, fits)) (written_right acts c d written))

  -- a turn of a `for`: its condition, its body, and its change
  pub record CodesTurn (i : ℕ) (test : Option Expr) (change : Option Stmt) (t : Stmt)
      (h z B K : Point) : Type 0 where
    slots : ℕ
    body : Point
    changed : Point
    same : body.width ≡ i
    tests : IsCondition integers acts callable i (test_or_one test) h body z
    runs : IsStatement integers acts callable i t slots body changed z changed
    changes : IsChange integers acts callable i change changed h B K

  turn_coded : (i k : ℕ) (test : Option Expr) (t : Stmt) (x : Compiled) →
      IsExpr callable i (test_or_one test) → i ≤ k → CodesStmt i t k x →
      (h z B K : Point) (next : ℕ) → h.width ≡ i → z.width ≤ i
      → Written acts (turn_code (expr_code integers (test_or_one test)) x h z next).form →
      CodesTurn i test None t h z B K
  turn_coded i k test t x is stay inner h z B K next same fits written =
      let y = point next h.width in
      let c = ((expr_code integers (test_or_one test)).condition h y z (next + 1)).form in
      let places : Places = record { at = y; to = h; break_to = z; continue_to = h } in
      let d = (x.code places (after (next + 1) c)).form in
      record {
        slots = k;
        body = y;
        changed = h;
        same = same;
        tests =
            condition_coded i (test_or_one test) is h y z (next + 1) (omega arith)
            (omega (arith, same, fits)) (written_left acts c d written);
        runs =
            inner.code places (after (next + 1) c) same (omega (arith, same, stay))
            (written_right acts c d written);
        changes = code.no_change i h B K;
      }

  change_turn_coded : (i k l : ℕ) (test : Option Expr) (u t : Stmt) (w x : Compiled) →
      IsExpr callable i (test_or_one test) → i ≤ k → i ≤ l → CodesStmt i u l w → CodesStmt i t k x
      → (h : Point) (at : Places) (next : ℕ) → h.width ≡ i → at.to.width ≤ i
      → Written acts (change_turn_code (expr_code integers (test_or_one test)) w x h at next).form →
      CodesTurn i test (Some u) t h at.to at.break_to at.continue_to
  change_turn_coded i k l test u t w x is stay also change inner h at next same fits written =
      let y = point next h.width in
      let z = point (next + 1) h.width in
      let c = ((expr_code integers (test_or_one test)).condition h y at.to (next + 2)).form in
      let places : Places = record { at = y; to = z; break_to = at.to; continue_to = z } in
      let d = (x.code places (after (next + 2) c)).form in
      let f = (w.code (record at { at = z; to = h }) (after (after (next + 2) c) d)).form in
      let rest = written_right acts c (append_code d f) written in
      record {
        slots = k;
        body = y;
        changed = z;
        same = same;
        tests =
            condition_coded i (test_or_one test) is h y at.to (next + 2) (omega arith)
            (omega (arith, same, fits)) (written_left acts c (append_code d f) written);
        runs =
            inner.code places (after (next + 2) c) same (omega (arith, same, stay))
            (written_left acts d f rest);
        changes =
            code.some_change i l u z h at.break_to at.continue_to same
            (change.code (record at { at = z; to = h }) (after (after (next + 2) c) d) same
            (omega (arith, same, also)) (written_right acts d f rest));
      }

  for_is : (n i : ℕ) (first : List Stmt) (test : Option Expr) (change : Option Stmt) (t : Stmt)
      (a h z B K : Point) → n ≤ i → h.width ≡ i → z.width ≤ n
      → IsBegun integers acts callable n first i a h B K → CodesTurn i test change t h z B K →
      IsStatement integers acts callable n (stmt.For first test change t) n a z B K
  for_is n i first test change t a h z B K stay same fits begun turn =
      code.for_loop n i turn.slots first test change t a h turn.body turn.changed z B K stay same
      turn.same fits begun turn.tests turn.runs turn.changes

  -- a list of statements, compiled
  abbrev pub CodesList : ℕ → List Stmt → ℕ → Type 0
  CodesList n ts k =
      (at : Places) (next : ℕ) → at.at.width ≡ n → at.to.width ≤ k →
      Written acts (list_code (map (stmt_code integers) ts) at next).form →
      IsList integers acts callable n ts k at.at at.to at.break_to at.continue_to

  -- a `for`, by its first part and its turns
  for_coded : (n i : ℕ) (first : List Stmt) (test : Option Expr) (change : Option Stmt) (t : Stmt)
      (w : Option Compiled) (x : Compiled) → n ≤ i →
      slots_after_all (map (stmt_code integers) first) n ≡ i →
      CodesList n first i
      → ((h : Point) (at : Places) (next : ℕ) → h.width ≡ i → at.to.width ≤ i →
      Written acts (loop_code (expr_code integers (test_or_one test)) w x h at next).form →
      CodesTurn i test change t h at.to at.break_to at.continue_to)
      → (at : Places) (next : ℕ) → at.at.width ≡ n → at.to.width ≤ n →
      Written acts (for_code (map (stmt_code integers) first)
      (expr_code integers (test_or_one test)) w x at
      next).form
      → IsStatement integers acts callable n
      (stmt.For first test change t) n at.at at.to at.break_to
      at.continue_to
  for_coded n i [] test change t w x stay slots list turn at next same fits written =
      let begun = subst (λ j. IsBegun integers acts callable n [] j at.at at.at at.break_to
      at.continue_to)
      slots (code.no_first n at.at at.break_to at.continue_to) in
      for_is n i [] test change t at.at at.at at.to at.break_to at.continue_to stay (same ∙ slots)
      fits begun (turn at.at at next (same ∙ slots) (omega (arith, fits, stay)) written)
  for_coded n i (u ∷ us) test change t w x stay slots list turn at next same fits written =
      let m = slots_after_all (map (stmt_code integers) (u ∷ us)) at.at.width in
      let h = point next m in
      let wide : m ≡ i = ap (slots_after_all (map (stmt_code integers) (u ∷ us))) same ∙ slots in
      let c = (list_code (map (stmt_code integers) (u ∷ us)) (record at { to = h })
      (next + 1)).form in
      let d = (loop_code (expr_code integers (test_or_one test)) w x h at
      (after (next + 1) c)).form in
      let begun = code.some_first n i u us at.at h at.break_to at.continue_to
      (list (record at { to = h }) (next + 1) same (omega (arith, wide))
      (written_left acts c d written)) in
      for_is n i (u ∷ us) test change t at.at h at.to at.break_to at.continue_to stay wide fits
      begun
      (turn h at (after (next + 1) c) wide (omega (arith, fits, stay))
      (written_right acts c d written))

  mutual
    -- what the table says of a statement in order is its code
    pub stmt_coded : (n : ℕ) (t : Stmt) (k : ℕ) → IsStmt callable n t k →
        CodesStmt n t k (stmt_code integers t)
    stmt_coded n t k (scope.empty _) = subst (CodesStmt n t k) (sym (code-Empty integers)) (record {
      slots = refl;
      code =
          λ at next same fits written. code.empty n at.at at.to at.break_to at.continue_to
          (written_instruction acts at.at (Go at.to) written) fits;
    })
    stmt_coded n t k (scope.unset _) =
        subst (CodesStmt n t k) (sym (code-Declare integers n None)) (record {
          slots = omega arith;
          code = λ at next same fits written. unset_coded n at next fits written;
        })
    stmt_coded n t k (scope.declared _ e is) =
        subst (CodesStmt n t k) (sym (code-Declare integers n (Some e))) (record {
          slots = omega arith;
          code = λ at next same fits written. declared_coded n e is at next fits written;
        })
    stmt_coded n t k (scope.assigned_to _ v e below is) =
        subst (CodesStmt n t k) (sym (code-Assign integers v e)) (record {
          slots = refl;
          code = λ at next same fits written. assigned_coded n v e below is at next fits written;
        })
    stmt_coded n t k (scope.if_alone _ l e u is inner) =
        subst (CodesStmt n t k) (sym (code-If integers e u None)) (record {
          slots = refl;
          code =
              λ at next same fits written. if_coded n l e u (stmt_code integers u) is
              (slots_stay callable n l u inner) (stmt_coded n u l inner) at next same fits written;
        })
    stmt_coded n t k (scope.if_else _ l l' e u v is inner other) =
        subst (CodesStmt n t k) (sym (code-If integers e u (Some v))) (record {
          slots = refl;
          code =
              λ at next same fits written. if_else_coded n l l' e u v (stmt_code integers u)
              (stmt_code integers v) is
              (slots_stay callable n l u inner) (slots_stay callable n l' v other)
              (stmt_coded n u l inner) (stmt_coded n v l' other) at next same fits written;
        })
    stmt_coded n t k (scope.while_loop _ l e u is inner) =
        subst (CodesStmt n t k) (sym (code-While integers e u)) (record {
          slots = refl;
          code =
              λ at next same fits written. while_coded n l e u (stmt_code integers u) is
              (slots_stay callable n l u inner) (stmt_coded n u l inner) at next same fits written;
        })
    stmt_coded n t k (scope.do_loop _ l e u is inner) =
        subst (CodesStmt n t k) (sym (code-DoWhile integers u e)) (record {
          slots = refl;
          code =
              λ at next same fits written. do_coded n l e u (stmt_code integers u) is
              (slots_stay callable n l u inner) (stmt_coded n u l inner) at next same fits written;
        })
    stmt_coded n t k (scope.for_loop _ i l first test u begun is inner) =
        subst (CodesStmt n t k) (sym (code-For integers first test None u)) (record {
          slots = refl;
          code =
              for_coded n i first test None u None (stmt_code integers u)
              (all_slots_stay callable n i first begun) (list_slots n first i begun)
              (list_coded n first i begun)
              (λ h at next same fits written. turn_coded i l test u (stmt_code integers u) is
              (slots_stay callable i l u inner) (stmt_coded i u l inner) h at.to at.break_to
              at.continue_to next same fits written);
        })
    stmt_coded n t k (scope.for_change _ i l l' first test v u begun is changed inner) =
        subst (CodesStmt n t k) (sym (code-For integers first test (Some v) u)) (record {
          slots = refl;
          code =
              for_coded n i first test (Some v) u (Some (stmt_code integers v))
              (stmt_code integers u)
              (all_slots_stay callable n i first begun) (list_slots n first i begun)
              (list_coded n first i begun)
              (λ h at next same fits written. change_turn_coded i l l' test v u
              (stmt_code integers v)
              (stmt_code integers u) is (slots_stay callable i l u inner)
              (slots_stay callable i l' v changed)
              (stmt_coded i v l' changed) (stmt_coded i u l inner) h at next same fits written);
        })
    stmt_coded n t k (scope.break_out _ token) =
        subst (CodesStmt n t k) (sym (code-Break integers token)) (record {
          slots = refl;
          code =
              λ at next same fits written. code.break_out n token at.at at.to at.break_to
              at.continue_to
              (written_instruction acts at.at (Go at.break_to) written);
        })
    stmt_coded n t k (scope.go_on _ token) =
        subst (CodesStmt n t k) (sym (code-Continue integers token)) (record {
          slots = refl;
          code =
              λ at next same fits written. code.go_on n token at.at at.to at.break_to at.continue_to
              (written_instruction acts at.at (Go at.continue_to) written);
        })
    stmt_coded n t k (scope.returned _ e is) =
        subst (CodesStmt n t k) (sym (code-Return integers e)) (record {
          slots = refl;
          code = λ at next same fits written. returned_coded n e is at next written;
        })
    stmt_coded n t k (scope.block _ i ts inner) =
        subst (CodesStmt n t k) (sym (code-Block integers ts)) (record {
          slots = refl;
          code = λ at next same fits written.
              let stay = all_slots_stay callable n i ts inner in
              code.block n i ts at.at at.to at.break_to at.continue_to stay fits
              (list_coded n ts i inner at next same (omega (arith, fits, stay)) written);
        })

    pub list_coded : (n : ℕ) (ts : List Stmt) (k : ℕ) → AreStmts callable n ts k → CodesList n ts k
    list_coded n [] k (scope.no_stmt _) at next same fits written =
        code.nothing n at.at at.to at.break_to at.continue_to
        (written_instruction acts at.at (Go at.to) written) fits
    list_coded n (t ∷ []) k (scope.more_stmts _ l _ _ _ first rest) at next same fits written =
        let end = no_more callable l k rest in
        subst (λ j. IsList integers acts callable n
        (t ∷ []) j at.at at.to at.break_to at.continue_to) end
        (code.last n l t at.at at.to at.break_to at.continue_to
        ((stmt_coded n t l first).code at next same (omega (arith, end, fits)) written))
    list_coded n (t ∷ u ∷ us) k (scope.more_stmts _ l _ _ _ first rest) at next same fits written =
        let m = (stmt_code integers t).slots_after at.at.width in
        let z = point next m in
        let coded = stmt_coded n t l first in
        let wide : m ≡ l = ap (stmt_code integers t).slots_after same ∙ coded.slots in
        let c = ((stmt_code integers t).code (record at { to = z }) (next + 1)).form in
        let d = (list_code (map (stmt_code integers) (u ∷ us)) (record at { at = z })
        (after (next + 1) c)).form in
        code.more n l k t u us at.at z at.to at.break_to at.continue_to
        (slots_stay callable n l t first) wide
        (coded.code (record at { to = z }) (next + 1) same (omega (arith, wide))
        (written_left acts c d written))
        (list_coded l (u ∷ us) k rest (record at { at = z }) (after (next + 1) c) wide fits
        (written_right acts c d written))

    -- the slots after statements
    pub list_slots : (n : ℕ) (ts : List Stmt) (k : ℕ) → AreStmts callable n ts k →
        slots_after_all (map (stmt_code integers) ts) n ≡ k
    list_slots n ts k (scope.no_stmt _) = refl
    list_slots n ts k (scope.more_stmts _ l _ t us first rest) =
        ap (slots_after_all (map (stmt_code integers) us)) (stmt_coded n t l first).slots ∙
        list_slots l us k rest
