-- The variables of a statement that tokens spell are names.
use Rattle.std.proofs.Common.{ℕ, ◌+◌, List, [], ◌∷◌, ◌++◌, map, pos, Option, Some, None}
use Rattle.std.specs.List.{All, concat}
use Rattle.std.proofs.lemmas.List.Elements.{All-append, All-head, All-tail}
use Rattle.c_lex.specs.declared.token.Token.{Token}
use Rattle.c_lex.specs.declared.token.Mark.{Mark as TheMark}
use Rattle.c_lex.specs.declared.token.Mark.TheVariants.{RightParen, Semicolon}
use Rattle.c_ast.specs.declared.expr.BinOp.{BinOp}
use Rattle.c_ast.specs.declared.expr.Expr.{Expr}
use Rattle.c_ast.specs.declared.expr.Expr.TheVariants.{Var, Binary}
use Rattle.c_ast.specs.declared.stmt.Stmt.{Stmt}
use Rattle.c_ast.specs.Variables.{variables, list_of_option, stmt_variables}
use Rattle.c_ast.proofs.Equations.{variables-Lit, variables-Var, variables-Binary, variables-Return}
use Rattle.c_syntax.specs.Statements.{unit, updated, Change, by_value, by_update, by_step_after, by_step_before, InitDeclarator, bare, valued, InitDeclarators, last_name, next_name, ForInit, no_start, start_change, start_names, ForTest, no_test, a_test, ForStep, no_change, a_change, Statement, nothing, block, changes, if_alone, if_else, while_loop, do_loop, for_loop, breaks, continues, returns, BlockItem, statement, declaration, BlockItems, closed, item}
use Rattle.c_syntax.specs.Grammar.{UpTo, ended}
use Rattle.c_syntax.specs.Names.{IsName}
use Rattle.c_ast.proofs.StmtEquations.{variables-Empty, variables-Declare, variables-Assign, variables-alone, variables-else, variables-While, variables-DoWhile, variables-For, variables-Break, variables-Continue, variables-Block}
use Rattle.c_syntax.proofs.NamedVariables.{all_cons, all_none, whole_named}

-- what holds of the variables of each statement holds of all
concat_named : (ts : List Token) (ss : List Stmt) →
    All (λ s. All (IsName ts) (stmt_variables s)) ss →
    All (IsName ts) (concat (map stmt_variables ss))
concat_named ts [] h = all_none (IsName ts)
concat_named ts (s ∷ ss) h =
    All-append (IsName ts) (stmt_variables s) (concat (map stmt_variables ss))
    (All-head (λ (t : Stmt). All (IsName ts) (stmt_variables t)) s ss h)
    (concat_named ts ss (All-tail (λ (t : Stmt). All (IsName ts) (stmt_variables t)) s ss h))

-- the variables of an expression up to a mark are names
up_to_named : (m : TheMark) (ts : List Token) (i j : ℕ) (e : Expr) → UpTo m ts i j e →
    All (IsName ts) (variables e)
up_to_named m ts i j e (ended _ _ _ k _ w h) = whole_named ts i k e w

-- so are those of a change
updated_named : (ts : List Token) (i : ℕ) (op : BinOp) (e : Expr) → IsName ts i →
    All (IsName ts) (variables e) → All (IsName ts) (stmt_variables (updated i op e))
updated_named ts i op e h w =
    let one : All (IsName ts) (variables (Var i)) =
    rw (variables-Var i) (all_cons (IsName ts) i [] h (all_none (IsName ts))) in
    let both : All (IsName ts) (variables (Binary op (Var i) e)) =
    rw (variables-Binary op (Var i) e) (All-append (IsName ts) (variables (Var i)) (variables e)
    one w) in
    rw (variables-Assign i (Binary op (Var i) e))
    (all_cons (IsName ts) i (variables (Binary op (Var i) e)) h both)

-- the literal 1 has no variables
unit_named : (ts : List Token) → All (IsName ts) (variables unit)
unit_named ts = rw (variables-Lit (pos 1)) (all_none (IsName ts))

change_named : (m : TheMark) (ts : List Token) (i j : ℕ) (s : Stmt) → Change m ts i j s →
    All (IsName ts) (stmt_variables s)
change_named m ts i j s (by_value _ _ _ k e h a u) =
    rw (variables-Assign i e) (all_cons (IsName ts) i (variables e) h
    (up_to_named m ts (i + 2) k e u))
change_named m ts i j s (by_update _ _ _ k op e h a u) =
    updated_named ts i op e h (up_to_named m ts (i + 2) k e u)
change_named m ts i j s (by_step_after _ _ _ op h a c) =
    updated_named ts i op unit h (unit_named ts)
change_named m ts i j s (by_step_before _ _ _ op a h c) =
    updated_named ts (i + 1) op unit h (unit_named ts)

-- so are those of declarations
declarator_named : (ts : List Token) (i j : ℕ) (s : Stmt) → InitDeclarator ts i j s →
    All (IsName ts) (stmt_variables s)
declarator_named ts i j s (bare _ _ h p) =
    rw (variables-Declare i None) (all_cons (IsName ts) i [] h (all_none (IsName ts)))
declarator_named ts i j s (valued _ _ k e h a w p) =
    rw (variables-Declare i (Some e)) (all_cons (IsName ts) i (variables e) h
    (whole_named ts (i + 2) k e w))

-- what each statement of a list names are names
abbrev AllNamed : List Token → List Stmt → Type 0
AllNamed ts ss = All (λ s. All (IsName ts) (stmt_variables s)) ss

one_named : (ts : List Token) (s : Stmt) → All (IsName ts) (stmt_variables s) → AllNamed ts (s ∷ [])
one_named ts s h =
    all_cons (λ (t : Stmt). All (IsName ts) (stmt_variables t)) s [] h
    (all_none (λ (t : Stmt). All (IsName ts) (stmt_variables t)))

names_named : (ts : List Token) (i j : ℕ) (ss : List Stmt) → InitDeclarators ts i j ss →
    AllNamed ts ss
names_named ts i j ss (last_name _ _ k s d h) = one_named ts s (declarator_named ts i k s d)
names_named ts i j ss (next_name _ _ k l s rest d h r) =
    all_cons (λ (t : Stmt). All (IsName ts) (stmt_variables t)) s rest (declarator_named ts i k s d)
    (names_named ts (k + 1) l rest r)

-- and those of the head of a `for`
starts_named : (ts : List Token) (i j : ℕ) (ss : List Stmt) → ForInit ts i j ss → AllNamed ts ss
starts_named ts i j ss (no_start _ _ h) =
    all_none (λ (t : Stmt). All (IsName ts) (stmt_variables t))
starts_named ts i j ss (start_change _ _ k s c) = one_named ts s (change_named Semicolon ts i k s c)
starts_named ts i j ss (start_names _ _ k xs d) = names_named ts (i + 1) k xs d.1

continues_named : (ts : List Token) (i j : ℕ) (o : Option Expr) → ForTest ts i j o →
    All (IsName ts) (list_of_option variables o)
continues_named ts i j o (no_test _ _ h) = all_none (IsName ts)
continues_named ts i j o (a_test _ _ k e u) = up_to_named Semicolon ts i k e u

advances_named : (ts : List Token) (i j : ℕ) (o : Option Stmt) → ForStep ts i j o →
    All (IsName ts) (list_of_option stmt_variables o)
advances_named ts i j o (no_change _ _ h) = all_none (IsName ts)
advances_named ts i j o (a_change _ _ k s c) = change_named RightParen ts i k s c

mutual
  -- the variables of a statement are names
  pub statement_named : (ts : List Token) (i j : ℕ) (s : Stmt) → Statement ts i j s →
      All (IsName ts) (stmt_variables s)
  statement_named ts i j s (nothing _ _ h) = rw variables-Empty (all_none (IsName ts))
  statement_named ts i j s (block _ _ l ss h r) =
      rw (variables-Block ss) (concat_named ts ss (inner_named ts (i + 1) l ss r))
  statement_named ts i j s (changes _ _ l t c) = change_named Semicolon ts i l t c
  statement_named ts i j s (if_alone _ _ m l e t h c r o) =
      rw (variables-alone e t) (All-append (IsName ts) (variables e ++ stmt_variables t) []
      (All-append (IsName ts) (variables e) (stmt_variables t)
      (up_to_named RightParen ts (i + 1 + 1) m e c.1) (statement_named ts m l t r))
      (all_none (IsName ts)))
  statement_named ts i j s (if_else _ _ m n l e t u h c r o w) =
      rw (variables-else e t u) (All-append (IsName ts) (variables e ++ stmt_variables t)
      (stmt_variables u)
      (All-append (IsName ts) (variables e) (stmt_variables t)
      (up_to_named RightParen ts (i + 1 + 1) m e c.1) (statement_named ts m n t r))
      (statement_named ts (n + 1) l u w))
  statement_named ts i j s (while_loop _ _ m l e t h c r) =
      rw (variables-While e t) (All-append (IsName ts) (variables e) (stmt_variables t)
      (up_to_named RightParen ts (i + 1 + 1) m e c.1) (statement_named ts m l t r))
  statement_named ts i j s (do_loop _ _ m l t e h r w c o) =
      rw (variables-DoWhile t e) (All-append (IsName ts) (stmt_variables t) (variables e)
      (statement_named ts (i + 1) m t r) (up_to_named RightParen ts (m + 1 + 1) l e c.1))
  statement_named ts i j s (for_loop _ _ m l a t h c r) =
      let first = concat (map stmt_variables a.first) in
      let test = list_of_option variables a.test in
      let change = list_of_option stmt_variables a.change in
      rw (variables-For a.first a.test a.change t)
      (All-append (IsName ts) (first ++ test ++ change) (stmt_variables t)
      (All-append (IsName ts) (first ++ test) change
      (All-append (IsName ts) first test (concat_named ts a.first
      (starts_named ts (i + 1 + 1) c.middle a.first c.starts))
      (continues_named ts c.middle c.last a.test c.continues))
      (advances_named ts c.last m a.change c.advances)) (statement_named ts m l t r))
  statement_named ts i j s (breaks _ _ h c) = rw (variables-Break i) (all_none (IsName ts))
  statement_named ts i j s (continues _ _ h c) = rw (variables-Continue i) (all_none (IsName ts))
  statement_named ts i j s (returns _ _ k e h u) =
      rw (variables-Return e) (up_to_named Semicolon ts (i + 1) k e u)

  item_named : (ts : List Token) (i j : ℕ) (ss : List Stmt) → BlockItem ts i j ss → AllNamed ts ss
  item_named ts i j ss (statement _ _ k s w) = one_named ts s (statement_named ts i k s w)
  item_named ts i j ss (declaration _ _ k xs d) = names_named ts (i + 1) k xs d.1

  pub inner_named : (ts : List Token) (i j : ℕ) (ss : List Stmt) → BlockItems ts i j ss →
      AllNamed ts ss
  inner_named ts i j ss (closed _ _ h) = all_none (λ (t : Stmt). All (IsName ts) (stmt_variables t))
  inner_named ts i j ss (item _ _ k l xs rest w r) =
      All-append (λ (t : Stmt). All (IsName ts) (stmt_variables t)) xs rest (item_named ts i k xs w)
      (inner_named ts k l rest r)
