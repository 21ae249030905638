-- The code of a tree, computed from that of its parts, one step for each form of tree.
use Rattle.std.proofs.Common.{◌≡◌, ◌∙◌, refl, true, ℕ, ◌+◌, ℤ, Option, Some, None, List, [], ◌∷◌, map, option_map, pos}
use Rattle.rx_plain.specs.Formed.{pure}
use Rattle.rx_poly.specs.Constants.{number, variable}
use Rattle.c_ast.specs.declared.integers.Integers.{Integers}
use Rattle.c_ast.specs.declared.expr.UnOp.{UnOp}
use Rattle.c_ast.specs.declared.expr.BinOp.{BinOp}
use Rattle.c_ast.specs.declared.expr.Expr.{Expr}
use Rattle.c_ast.specs.declared.expr.Expr.TheVariants.{Lit, Var, Unary, Binary, Choose, Apply}
use Rattle.c_ast.specs.declared.stmt.Stmt.{Stmt}
use Rattle.c_ast.specs.declared.stmt.Stmt.TheVariants as stmt
use Rattle.rx_code.specs.Expressions.{Asked, of_value, unary_code, binary_code, kind_of, choice, call, expr_code}
use Rattle.rx_code.specs.Pieces.{no_code, does}
use Rattle.rx_code.specs.Statements.{Compiled, in_scope, with_value, branches_code, while_code, do_code, for_code, list_code, stmt_code}
use Rattle.rx_code.specs.declared.action.Action.TheVariants as act
use Rattle.rx_code.proofs.ExprEquations.{code-Lit, code-Var, code-Unary, code-Binary, code-Choose, code-Apply}
use Rattle.rx_code.proofs.StmtEquations.{code-Empty, code-Declare, code-Assign, code-If, code-While, code-DoWhile, code-For, code-Break, code-Continue, code-Return, code-Block}

-- what the code of an expression, of arguments, of a statement, of one that may be left out, and of
-- statements is
pub record ExprIs (integers : Integers) (e : Expr) (x : Asked) : Type 0 where
  pub is : expr_code integers e ≡ x

pub record ExprsAre (integers : Integers) (es : List Expr) (xs : List Asked) : Type 0 where
  pub are : map (expr_code integers) es ≡ xs

pub record StmtIs (integers : Integers) (t : Stmt) (x : Compiled) : Type 0 where
  pub is : stmt_code integers t ≡ x

pub record PartIs (integers : Integers) (t : Option Stmt) (x : Option Compiled) : Type 0 where
  pub is : option_map (stmt_code integers) t ≡ x

pub record StmtsAre (integers : Integers) (ts : List Stmt) (xs : List Compiled) : Type 0 where
  pub are : map (stmt_code integers) ts ≡ xs

module _ {integers : Integers} where
  -- ---- expressions

  pub lit : (k : ℤ) → ExprIs integers (Lit k) (of_value (λ a next.
      record { code = no_code; at = a; value = number k; within = true }))
  lit k = record { is = code-Lit integers k }

  pub var : (v : ℕ) → ExprIs integers (Var v) (of_value (λ a next.
      record { code = no_code; at = a; value = variable v; within = true }))
  var v = record { is = code-Var integers v }

  pub unary : (op : UnOp) {e : Expr} {x : Asked} → ExprIs integers e x →
      ExprIs integers (Unary op e) (unary_code integers op x)
  unary op {e} {x} p = record {
    is = code-Unary integers op e ∙
        (λ i. unary_code integers op (p.is i));
  }

  pub binary : (op : BinOp) {l r : Expr} {x y : Asked} → ExprIs integers l x → ExprIs integers r y →
      ExprIs integers (Binary op l r) (binary_code integers (kind_of op) op x y)
  binary op {l} {r} {x} {y} p q =
      record {
        is = code-Binary integers op l r ∙
            (λ i. binary_code integers (kind_of op) op (p.is i) (q.is i));
      }

  pub choose : {c e f : Expr} {x y z : Asked} → ExprIs integers c x → ExprIs integers e y →
      ExprIs integers f z →
      ExprIs integers (Choose c e f) (choice x y z)
  choose {c} {e} {f} {x} {y} {z} p q r =
      record { is = code-Choose integers c e f ∙ (λ i. choice (p.is i) (q.is i) (r.is i)) }

  pub apply : (f : ℕ) {es : List Expr} {xs : List Asked} → ExprsAre integers es xs →
      ExprIs integers (Apply f es) (call f xs)
  apply f {es} {xs} p = record { is = code-Apply integers f es ∙ (λ i. call f (p.are i)) }

  pub no_argument : ExprsAre integers [] []
  no_argument = record { are = refl }

  pub argument : {e : Expr} {es : List Expr} {x : Asked} {xs : List Asked} → ExprIs integers e x →
      ExprsAre integers es xs → ExprsAre integers (e ∷ es) (x ∷ xs)
  argument p q = record { are = λ i. p.is i ∷ q.are i }

  -- ---- statements

  pub declare : (slot : ℕ) {e : Expr} {x : Asked} → ExprIs integers e x
      → StmtIs integers (stmt.Declare slot (Some e)) (record {
        slots_after = λ n. n + 1;
        code = λ at next.
            with_value x (λ p. act.Set slot p at.to) at.at next;
      })
  declare slot {e} {x} p =
      record {
        is = code-Declare integers slot (Some e) ∙
            (λ i. record {
              slots_after = λ n. n + 1;
              code = λ at next.
                  with_value (p.is i) (λ q. act.Set slot q at.to) at.at next;
            });
      }

  -- a missing initial value is 0
  pub declare_zero : (slot : ℕ) → StmtIs integers (stmt.Declare slot None) (record {
    slots_after = λ n. n + 1;
    code =
        λ at next. with_value (of_value (λ a k.
        record { code = no_code; at = a; value = number (pos 0); within = true }))
        (λ p. act.Set slot p at.to) at.at next;
  })
  declare_zero slot =
      record {
        is = code-Declare integers slot None ∙ (λ i.
            record {
              slots_after = λ n. n + 1;
              code = λ at next.
                  with_value (code-Lit integers (pos 0) i) (λ q. act.Set slot q at.to) at.at next;
            });
      }

  pub empty : StmtIs integers stmt.Empty (in_scope (λ at next. pure (does at.at (act.Go at.to))))
  empty = record { is = code-Empty integers }

  pub assign : (slot : ℕ) {e : Expr} {x : Asked} → ExprIs integers e x →
      StmtIs integers (stmt.Assign slot e) (in_scope (λ at next.
      with_value x (λ p. act.Set slot p at.to) at.at next))
  assign slot {e} {x} p =
      record {
        is = code-Assign integers slot e ∙ (λ i. in_scope
            (λ at next. with_value (p.is i) (λ q. act.Set slot q at.to) at.at next));
      }

  pub returns : {e : Expr} {x : Asked} → ExprIs integers e x →
      StmtIs integers (stmt.Return e) (in_scope (λ at next. with_value x act.Return at.at next))
  returns {e} {x} p =
      record {
        is = code-Return integers e ∙ (λ i. in_scope
            (λ at next. with_value (p.is i) act.Return at.at next));
      }

  pub breaks : (token : ℕ) → StmtIs integers (stmt.Break token)
      (in_scope (λ at next. pure (does at.at (act.Go at.break_to))))
  breaks token = record { is = code-Break integers token }

  pub continues : (token : ℕ) → StmtIs integers (stmt.Continue token)
      (in_scope (λ at next. pure (does at.at (act.Go at.continue_to))))
  continues token = record { is = code-Continue integers token }

  pub no_part : PartIs integers None None
  no_part = record { is = refl }

  pub part : {t : Stmt} {x : Compiled} → StmtIs integers t x → PartIs integers (Some t) (Some x)
  part p = record { is = λ i. Some (p.is i) }

  pub if_else : {e : Expr} {t : Stmt} {o : Option Stmt} {x : Asked} {y : Compiled}
      {z : Option Compiled} → ExprIs integers e x → StmtIs integers t y → PartIs integers o z
      → StmtIs integers (stmt.If e t o) (in_scope (branches_code x y z))
  if_else {e} {t} {o} {x} {y} {z} p q r =
      record {
        is = code-If integers e t o ∙
            (λ i. in_scope (branches_code (p.is i) (q.is i) (r.is i)));
      }

  pub while_loop : {e : Expr} {t : Stmt} {x : Asked} {y : Compiled} → ExprIs integers e x →
      StmtIs integers t y →
      StmtIs integers (stmt.While e t) (in_scope (while_code x y))
  while_loop {e} {t} {x} {y} p q =
      record { is = code-While integers e t ∙ (λ i. in_scope (while_code (p.is i) (q.is i))) }

  pub do_loop : {t : Stmt} {e : Expr} {x : Compiled} {y : Asked} → StmtIs integers t x →
      ExprIs integers e y →
      StmtIs integers (stmt.DoWhile t e) (in_scope (do_code x y))
  do_loop {t} {e} {x} {y} p q =
      record { is = code-DoWhile integers t e ∙ (λ i. in_scope (do_code (p.is i) (q.is i))) }

  pub for_loop : {first : List Stmt} {e : Expr} {change : Option Stmt} {t : Stmt}
      {xs : List Compiled}
      {y : Asked} {z : Option Compiled} {w : Compiled}
      → StmtsAre integers first xs → ExprIs integers e y → PartIs integers change z →
      StmtIs integers t w
      → StmtIs integers (stmt.For first (Some e) change t) (in_scope (for_code xs y z w))
  for_loop {first} {e} {change} {t} p q r o =
      record {
        is = code-For integers first (Some e) change t ∙
            (λ i. in_scope (for_code (p.are i) (q.is i) (r.is i) (o.is i)));
      }

  -- a missing test is 1
  pub for_ever : {first : List Stmt} {change : Option Stmt} {t : Stmt} {xs : List Compiled}
      {z : Option Compiled} {w : Compiled}
      → StmtsAre integers first xs → PartIs integers change z → StmtIs integers t w
      → StmtIs integers (stmt.For first None change t) (in_scope
      (for_code xs (of_value (λ a next. record
      { code = no_code; at = a; value = number (pos 1); within = true })) z w))
  for_ever {first} {change} {t} p q r =
      record {
        is = code-For integers first None change t ∙
            (λ i. in_scope (for_code (p.are i) (code-Lit integers (pos 1) i) (q.is i) (r.is i)));
      }

  pub block : {ts : List Stmt} {xs : List Compiled} → StmtsAre integers ts xs →
      StmtIs integers (stmt.Block ts) (in_scope (list_code xs))
  block {ts} {xs} p = record { is = code-Block integers ts ∙ (λ i. in_scope (list_code (p.are i))) }

  pub no_statement : StmtsAre integers [] []
  no_statement = record { are = refl }

  pub statement : {t : Stmt} {ts : List Stmt} {x : Compiled} {xs : List Compiled} →
      StmtIs integers t x →
      StmtsAre integers ts xs → StmtsAre integers (t ∷ ts) (x ∷ xs)
  statement p q = record { are = λ i. p.is i ∷ q.are i }
