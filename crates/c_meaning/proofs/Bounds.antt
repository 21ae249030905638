-- A part of a run leaves no more rounds than there were before it, and the bounds on the depth of
-- calls and on the turns of a loop don't matter where they are at least the rounds that are left.
use Rattle.std.proofs.Common.{◌≡◌, ℕ, zero, suc, ◌≤◌, ◌+◌, ℤ, Bool, true, false, if◌then◌else◌, Option, Some, None, List, [], ◌∷◌, map, length, refl, sym, subst, arith}
use Rattle.std.specs.Prelude.{slice_get, ◌+ℤ◌, ◌-ℤ◌, ◌*ℤ◌, neg_ℤ, int_div, int_rem}
use Rattle.c_ast.specs.declared.expr.UnOp.{UnOp}
use Rattle.c_ast.specs.declared.expr.UnOp.TheVariants.{Plus, Minus, Not}
use Rattle.c_ast.specs.declared.expr.BinOp.{BinOp}
use Rattle.c_ast.specs.declared.expr.BinOp.TheVariants as bin_op
use Rattle.c_ast.specs.declared.expr.Expr.{Expr}
use Rattle.c_ast.specs.declared.expr.Expr.TheOpen.{Expr-F}
use Rattle.c_ast.specs.declared.expr.Expr.TheFolds.{map-Expr, fold-roll-Expr, ind-Expr}
use Rattle.c_ast.specs.declared.expr.Expr.TheViews.{roll-Expr}
use Rattle.c_ast.specs.declared.stmt.Stmt.{Stmt}
use Rattle.c_ast.specs.declared.stmt.Stmt.TheOpen.{Stmt-F}
use Rattle.c_ast.specs.declared.stmt.Stmt.TheFolds.{map-Stmt, fold-roll-Stmt, ind-Stmt}
use Rattle.c_ast.specs.declared.stmt.Stmt.TheViews.{roll-Stmt}
use Rattle.c_ast.specs.declared.program.Function.{Function}
use Rattle.c_ast.specs.declared.program.Resolved.{Resolved}
use Rattle.c_meaning.specs.Outcomes.{State, Flow, Next, Break, Continue, Return}
use Rattle.c_meaning.specs.Expressions.{is_zero}
use Rattle.c_meaning.specs.Statements.{Turn, Again, Ends}
use Rattle.c_meaning.specs.Runs.{Run, Value, DivisionError, More, Over, on_value, fits_i128, exact}
use Rattle.c_meaning.specs.CountedExpressions.{Calls, Evaluation, unary, short_circuit, apply, unless_known, values, expr_level, expr}
use Rattle.c_meaning.specs.CountedStatements.{Execution, optional, on_next, in_order, leave, on_again, turns, loop, after_body, after_change, condition, while_turn, do_turn, stmt_level, stmt}
use Rattle.c_meaning.specs.Counted.{returned, body_run, nested_calls, counted}

-- both runs lead to the same, and leave at most n rounds
pub data Agrees (A : Type 0) (n : ℕ) : Run A → Run A → Type 0 where
  Leaves : {x : A} {m : ℕ} → m ≤ n → Agrees A n (Value x m) (Value x m)
  Divides : Agrees A n DivisionError DivisionError
  Waits : Agrees A n More More
  Passes : Agrees A n Over Over

-- they are the same
pub agrees_same : {A : Type 0} {n : ℕ} {x y : Run A} → Agrees A n x y → x ≡ y
agrees_same (Leaves below) = refl
agrees_same Divides = refl
agrees_same Waits = refl
agrees_same Passes = refl

-- a run leaves at most n rounds
abbrev pub LeavesAtMost : {A : Type 0} → ℕ → Run A → Type 0
LeavesAtMost {A = A} n x = Agrees A n x x

-- what is left, where the run leads to a value, is at most n
abbrev HasLeft : {A : Type 0} → ℕ → Run A → Type 0
HasLeft n (Value x m) = m ≤ n
HasLeft n DivisionError = Unit {0}
HasLeft n More = Unit {0}
HasLeft n Over = Unit {0}

has_left : {A : Type 0} {n : ℕ} {x y : Run A} → Agrees A n x y → HasLeft n x
has_left (Leaves below) = below
has_left Divides = tt
has_left Waits = tt
has_left Passes = tt

-- what is left by a run that leads to a value
pub left_below : {A : Type 0} (n : ℕ) (run : Run A) (x : A) (m : ℕ) → LeavesAtMost n run → run ≡
    Value x m → m ≤ n
left_below {A = A} n run x m leaves is =
    let P : Run A → Type 0 = λ r. HasLeft n r in subst P is (has_left leaves)

widened : {A : Type 0} {m n : ℕ} {x y : Run A} → m ≤ n → Agrees A m x y → Agrees A n x y
widened more (Leaves below) = Leaves (omega arith)
widened more Divides = Divides
widened more Waits = Waits
widened more Passes = Passes

-- what goes on from a value agrees where it does for each value, with each number of rounds that
-- may be left
pub agrees_on_value : {A B : Type 0} {n : ℕ} {x y : Run A} {f g : A → ℕ → Run B} → Agrees A n x y
    → ((a : A) (m : ℕ) → m ≤ n → Agrees B m (f a m) (g a m)) →
    Agrees B n (on_value x f) (on_value y g)
agrees_on_value (Leaves {x = a} {m = m} below) each = widened below (each a m below)
agrees_on_value Divides each = Divides
agrees_on_value Waits each = Waits
agrees_on_value Passes each = Passes

agrees_if : {A : Type 0} {n : ℕ} (b : Bool) {x y u v : Run A} → Agrees A n x u → Agrees A n y v →
    Agrees A n (if b then x else y) (if b then u else v)
agrees_if true first second = first
agrees_if false first second = second

-- a value with all rounds left
all_left : {A : Type 0} {n : ℕ} {x : A} → Agrees A n (Value x n) (Value x n)
all_left = Leaves (omega arith)

exact_leaves : (x : ℤ) (n : ℕ) → LeavesAtMost n (exact x n)
exact_leaves x n = agrees_if (fits_i128 x) all_left Passes

unary_leaves : (op : UnOp) (x : ℤ) (n : ℕ) → LeavesAtMost n (unary op x n)
unary_leaves Plus x n = all_left
unary_leaves Minus x n = exact_leaves (neg_ℤ x) n
unary_leaves Not x n = all_left

apply_leaves : (op : BinOp) (x y : ℤ) (n : ℕ) → LeavesAtMost n (apply op x y n)
apply_leaves bin_op.Add x y n = exact_leaves (x +ℤ y) n
apply_leaves bin_op.Sub x y n = exact_leaves (x -ℤ y) n
apply_leaves bin_op.Mul x y n = exact_leaves (x *ℤ y) n
apply_leaves bin_op.Div x y n = agrees_if (is_zero y) Divides (exact_leaves (int_div x y) n)
apply_leaves bin_op.Rem x y n = agrees_if (is_zero y) Divides (exact_leaves (int_rem x y) n)
apply_leaves bin_op.Lt x y n = all_left
apply_leaves bin_op.Le x y n = all_left
apply_leaves bin_op.Gt x y n = all_left
apply_leaves bin_op.Ge x y n = all_left
apply_leaves bin_op.Eq x y n = all_left
apply_leaves bin_op.Ne x y n = all_left
apply_leaves bin_op.AndAlso x y n = all_left
apply_leaves bin_op.OrElse x y n = all_left

unless_agrees : (known : Option ℤ) (f g : ℕ → Run ℤ) (n : ℕ) → Agrees ℤ n (f n) (g n) →
    Agrees ℤ n (unless_known known f n) (unless_known known g n)
unless_agrees (Some x) f g n rest = all_left
unless_agrees None f g n rest = rest

-- calls that agree, from each number of rounds up to n
pub record CallsAgree (n : ℕ) (c d : Calls) : Type 0 where
  pub each : (m : ℕ) → m ≤ n → (f : ℕ) (arguments : List ℤ) →
      Agrees ℤ m (c m f arguments) (d m f arguments)

-- two of what runs from a state agree, from each number of rounds up to n
abbrev pub FromEach : {A : Type 0} → ℕ → (ℕ → State → Run A) → (ℕ → State → Run A) → Type 0
FromEach {A = A} n first second =
    (m : ℕ) → m ≤ n → (s : State) → Agrees A m (first m s) (second m s)

on_next_agrees : (n : ℕ) (p q : Execution) → FromEach n p q → (flow : Flow) (m : ℕ) → m ≤ n →
    Agrees Flow m (on_next p flow m) (on_next q flow m)
on_next_agrees n p q each (Next s) m below = each m below s
on_next_agrees n p q each (Break s) m below = all_left
on_next_agrees n p q each (Continue s) m below = all_left
on_next_agrees n p q each (Return k) m below = all_left

on_again_agrees : (n : ℕ) (p q : Execution) → FromEach n p q → (turn : Turn) (m : ℕ) → m ≤ n →
    Agrees Flow m (on_again p turn m) (on_again q turn m)
on_again_agrees n p q each (Again s) m below = each m below s
on_again_agrees n p q each (Ends flow) m below = all_left

after_body_agrees : (n : ℕ) (p q : ℕ → State → Run Turn) → FromEach n p q → (flow : Flow) (m : ℕ) →
    m ≤ n
    → Agrees Turn m (after_body p flow m) (after_body q flow m)
after_body_agrees n p q each (Next s) m below = each m below s
after_body_agrees n p q each (Continue s) m below = each m below s
after_body_agrees n p q each (Break s) m below = all_left
after_body_agrees n p q each (Return k) m below = all_left

after_change_leaves : (flow : Flow) (m : ℕ) → LeavesAtMost m (after_change flow m)
after_change_leaves (Next s) m = all_left
after_change_leaves (Break s) m = all_left
after_change_leaves (Continue s) m = all_left
after_change_leaves (Return k) m = all_left

leave_leaves : (count : ℕ) (flow : Flow) (m : ℕ) → LeavesAtMost m (leave count flow m)
leave_leaves count (Next s) m = all_left
leave_leaves count (Break s) m = all_left
leave_leaves count (Continue s) m = all_left
leave_leaves count (Return k) m = all_left

returned_leaves : (flow : Flow) (m : ℕ) → LeavesAtMost m (returned flow m)
returned_leaves (Next s) m = all_left
returned_leaves (Break s) m = all_left
returned_leaves (Continue s) m = all_left
returned_leaves (Return k) m = all_left

-- loops whose turns agree, with bounds on the turns that are at least the rounds
pub turns_agree : (p q : ℕ → State → Run Turn) (n : ℕ) → FromEach n p q → (most bound m : ℕ) → m ≤
    most → m ≤ bound → m ≤ n + 1 → (s : State)
    → Agrees Flow m (turns p most m s) (turns q bound m s)
turns_agree p q n each zero zero m low high below s = Waits
turns_agree p q n each zero (suc bound) zero low high below s = Waits
turns_agree p q n each zero (suc bound) (suc m) low high below s = absurd (omega arith)
turns_agree p q n each (suc most) zero zero low high below s = Waits
turns_agree p q n each (suc most) zero (suc m) low high below s = absurd (omega arith)
turns_agree p q n each (suc most) (suc bound) zero low high below s = Waits
turns_agree p q n each (suc most) (suc bound) (suc m) low high below s =
    let fewer : m ≤ suc m = omega arith in
    let here : m ≤ n = omega arith in
    widened fewer (agrees_on_value (each m here s) (on_again_agrees m (turns p most) (turns q bound)
    (λ k under t. turns_agree p q n each most bound k (omega arith) (omega arith) (omega arith) t)))

module _ (c d : Calls) (n : ℕ) (calls : CallsAgree n c d) where
  abbrev ExprAgrees : Expr → Type 0
  ExprAgrees e = FromEach n (expr c e) (expr d e)

  abbrev ExprPart : Type 0
  ExprPart = (e : Expr) × ExprAgrees e

  arguments_agree : (ps : List ExprPart) → FromEach n
      (values (map (expr c) (map (λ (p : ExprPart). p.0) ps)))
      (values (map (expr d) (map (λ (p : ExprPart). p.0) ps)))
  arguments_agree [] m below s = all_left
  arguments_agree (p ∷ ps) m below s =
      agrees_on_value (p.1 m below s) (λ x k under.
      agrees_on_value (arguments_agree ps k (omega arith) s) (λ xs l low. all_left))

  expr_level_agrees : (y : Expr-F ExprPart) → FromEach n
      (expr_level c (map-Expr Expr Evaluation (expr c) (map-Expr ExprPart Expr (λ p. p.0) y)))
      (expr_level d (map-Expr Expr Evaluation (expr d) (map-Expr ExprPart Expr (λ p. p.0) y)))
  expr_level_agrees (Expr-F.Lit k) m below s = all_left
  expr_level_agrees (Expr-F.Var v) m below s = all_left
  expr_level_agrees (Expr-F.Unary op p) m below s =
      agrees_on_value (p.1 m below s) (λ x k under. unary_leaves op x k)
  expr_level_agrees (Expr-F.Binary op p q) m below s =
      agrees_on_value (p.1 m below s) (λ x k under. unless_agrees (short_circuit op x) _ _ k
      (agrees_on_value (q.1 k (omega arith) s) (λ y l low. apply_leaves op x y l)))
  expr_level_agrees (Expr-F.Choose t p q) m below s =
      agrees_on_value (t.1 m below s) (λ x k under.
      agrees_if (is_zero x) (q.1 k (omega arith) s) (p.1 k (omega arith) s))
  expr_level_agrees (Expr-F.Apply f ps) m below s =
      agrees_on_value (arguments_agree ps m below s) (λ xs k under. calls.each k (omega arith) f xs)

  expr_step : (x : Expr-F Expr) (y : Expr-F ExprPart) → map-Expr ExprPart Expr (λ p. p.0) y ≡ x →
      ExprAgrees (roll-Expr x)
  expr_step x y is =
      let opened : FromEach n (expr_level c (map-Expr Expr Evaluation (expr c) x))
      (expr_level d (map-Expr Expr Evaluation (expr d) x)) =
      let P : Expr-F Expr → Type 0 =
      λ z. FromEach n (expr_level c (map-Expr Expr Evaluation (expr c) z))
      (expr_level d (map-Expr Expr Evaluation (expr d) z)) in
      subst P is (expr_level_agrees y) in
      let L : Evaluation → Type 0 = λ e. FromEach n e
      (expr_level d (map-Expr Expr Evaluation (expr d) x)) in
      let R : Evaluation → Type 0 = λ e. FromEach n (expr c (roll-Expr x)) e in
      subst R (sym (fold-roll-Expr Evaluation (expr_level d) x))
      (subst L (sym (fold-roll-Expr Evaluation (expr_level c) x)) opened)

  -- the evaluations of an expression agree where calls do
  pub expr_agrees : (e : Expr) → FromEach n (expr c e) (expr d e)
  expr_agrees = ind-Expr ExprAgrees expr_step

  condition_agrees : (test : Option Expr) → FromEach n (condition c test) (condition d test)
  condition_agrees None m below s = all_left
  condition_agrees (Some e) m below s = expr_agrees e m below s

  -- the turns of a `while` and of a `for`
  pub while_turn_agrees : (test : Option Expr) (change body first second : Execution) →
      FromEach n change first → FromEach n body second
      → FromEach n (while_turn c test change body) (while_turn d test first second)
  while_turn_agrees test change body first second changes bodies m below s =
      agrees_on_value (condition_agrees test m below s) (λ x k under. agrees_if (is_zero x) all_left
      (agrees_on_value (bodies k (omega arith) s) (after_body_agrees k _ _ (λ l low t.
      agrees_on_value (changes l (omega arith) t) (λ flow i lower. after_change_leaves flow i)))))

  -- and of a `do`
  pub do_turn_agrees : (e : Expr) (body second : Execution) → FromEach n body second →
      FromEach n (do_turn c e body) (do_turn d e second)
  do_turn_agrees e body second bodies m below s =
      agrees_on_value (bodies m below s) (after_body_agrees m _ _ (λ k under t.
      agrees_on_value (expr_agrees e k (omega arith) t)
      (λ x l low. agrees_if (is_zero x) all_left all_left)))

  loop_agrees : (p q : ℕ → State → Run Turn) → FromEach n p q → FromEach n (loop p) (loop q)
  loop_agrees p q each m below s =
      turns_agree p q n each m m m (omega arith) (omega arith) (omega arith) s

  abbrev StmtPart : Type 0
  StmtPart = (t : Stmt) × FromEach n (stmt c t) (stmt d t)

  in_order_parts : (ps : List StmtPart) → FromEach n
      (in_order (map (stmt c) (map (λ (p : StmtPart). p.0) ps)))
      (in_order (map (stmt d) (map (λ (p : StmtPart). p.0) ps)))
  in_order_parts [] m below s = all_left
  in_order_parts (p ∷ ps) m below s =
      agrees_on_value (p.1 m below s) (on_next_agrees m _ _
      (λ k under t. in_order_parts ps k (omega arith) t))

  nothing_agrees : FromEach n (optional None) (optional None)
  nothing_agrees m below s = all_left

  for_agrees : (ps : List StmtPart) (p q : ℕ → State → Run Turn) → FromEach n p q → (count m : ℕ) →
      m ≤ n → (s : State)
      → Agrees Flow m
      (on_value (on_value (in_order (map (stmt c) (map (λ (p : StmtPart). p.0) ps)) m s)
      (on_next (loop p))) (leave count))
      (on_value (on_value (in_order (map (stmt d) (map (λ (p : StmtPart). p.0) ps)) m s)
      (on_next (loop q))) (leave count))
  for_agrees ps p q each count m below s =
      agrees_on_value (agrees_on_value (in_order_parts ps m below s)
      (on_next_agrees m _ _ (λ k under t. loop_agrees p q each k (omega arith) t)))
      (λ flow k under. leave_leaves count flow k)

  stmt_level_agrees : (y : Stmt-F StmtPart) → FromEach n
      (stmt_level c (map-Stmt Stmt Execution (stmt c) (map-Stmt StmtPart Stmt (λ p. p.0) y)))
      (stmt_level d (map-Stmt Stmt Execution (stmt d) (map-Stmt StmtPart Stmt (λ p. p.0) y)))
  stmt_level_agrees Stmt-F.Empty m below s = all_left
  stmt_level_agrees (Stmt-F.Declare k None) m below s = all_left
  stmt_level_agrees (Stmt-F.Declare k (Some e)) m below s =
      agrees_on_value (expr_agrees e m below s) (λ x l low. all_left)
  stmt_level_agrees (Stmt-F.Assign k e) m below s =
      agrees_on_value (expr_agrees e m below s) (λ x l low. all_left)
  stmt_level_agrees (Stmt-F.If e p None) m below s =
      agrees_on_value (expr_agrees e m below s)
      (λ x k under. agrees_if (is_zero x) all_left (p.1 k (omega arith) s))
  stmt_level_agrees (Stmt-F.If e p (Some other)) m below s =
      agrees_on_value (expr_agrees e m below s)
      (λ x k under. agrees_if (is_zero x) (other.1 k (omega arith) s) (p.1 k (omega arith) s))
  stmt_level_agrees (Stmt-F.While e p) m below s =
      loop_agrees _ _ (while_turn_agrees (Some e) _ _ _ _ nothing_agrees p.1) m below s
  stmt_level_agrees (Stmt-F.DoWhile p e) m below s =
      loop_agrees _ _ (do_turn_agrees e _ _ p.1) m below s
  stmt_level_agrees (Stmt-F.For ps test None p) m below s =
      for_agrees ps _ _ (while_turn_agrees test _ _ _ _ nothing_agrees p.1) (length s) m below s
  stmt_level_agrees (Stmt-F.For ps test (Some change) p) m below s =
      for_agrees ps _ _ (while_turn_agrees test _ _ _ _ change.1 p.1) (length s) m below s
  stmt_level_agrees (Stmt-F.Break token) m below s = all_left
  stmt_level_agrees (Stmt-F.Continue token) m below s = all_left
  stmt_level_agrees (Stmt-F.Return e) m below s =
      agrees_on_value (expr_agrees e m below s) (λ x l low. all_left)
  stmt_level_agrees (Stmt-F.Block ps) m below s =
      agrees_on_value (in_order_parts ps m below s) (λ flow k under. leave_leaves (length s) flow k)

  stmt_step : (x : Stmt-F Stmt) (y : Stmt-F StmtPart) → map-Stmt StmtPart Stmt (λ p. p.0) y ≡ x →
      FromEach n (stmt c (roll-Stmt x)) (stmt d (roll-Stmt x))
  stmt_step x y is =
      let opened : FromEach n (stmt_level c (map-Stmt Stmt Execution (stmt c) x))
      (stmt_level d (map-Stmt Stmt Execution (stmt d) x)) =
      let P : Stmt-F Stmt → Type 0 =
      λ z. FromEach n (stmt_level c (map-Stmt Stmt Execution (stmt c) z))
      (stmt_level d (map-Stmt Stmt Execution (stmt d) z)) in
      subst P is (stmt_level_agrees y) in
      let L : Execution → Type 0 = λ e. FromEach n e
      (stmt_level d (map-Stmt Stmt Execution (stmt d) x)) in
      let R : Execution → Type 0 = λ e. FromEach n (stmt c (roll-Stmt x)) e in
      subst R (sym (fold-roll-Stmt Execution (stmt_level d) x))
      (subst L (sym (fold-roll-Stmt Execution (stmt_level c) x)) opened)

  -- the executions of a statement agree where calls do
  pub stmt_agrees : (t : Stmt) → FromEach n (stmt c t) (stmt d t)
  stmt_agrees = ind-Stmt (λ t. FromEach n (stmt c t) (stmt d t)) stmt_step

  -- and those of a list
  pub in_order_agrees : (ts : List Stmt) → FromEach n (in_order (map (stmt c) ts))
      (in_order (map (stmt d) ts))
  in_order_agrees [] m below s = all_left
  in_order_agrees (t ∷ ts) m below s =
      agrees_on_value (stmt_agrees t m below s)
      (on_next_agrees m _ _ (λ k under u. in_order_agrees ts k (omega arith) u))

  -- and those of a function's body
  pub body_agrees : (function : Option Function) (arguments : List ℤ) →
      Agrees ℤ n (body_run function c n arguments) (body_run function d n arguments)
  body_agrees None arguments = Waits
  body_agrees (Some function) arguments =
      agrees_on_value (in_order_agrees function.body n (omega arith) arguments)
      (λ flow k under. returned_leaves flow k)

-- the bound on the depth of calls doesn't matter where it is at least the rounds
pub nested_agree : (program : Resolved) (most bound n : ℕ) → n ≤ most → n ≤ bound →
    (f : ℕ) (arguments : List ℤ)
    → Agrees ℤ n (nested_calls program most n f arguments)
    (nested_calls program bound n f arguments)
nested_agree program zero zero n low high f arguments = Waits
nested_agree program zero (suc bound) zero low high f arguments = Waits
nested_agree program zero (suc bound) (suc n) low high f arguments = absurd (omega arith)
nested_agree program (suc most) zero zero low high f arguments = Waits
nested_agree program (suc most) zero (suc n) low high f arguments = absurd (omega arith)
nested_agree program (suc most) (suc bound) zero low high f arguments = Waits
nested_agree program (suc most) (suc bound) (suc n) low high f arguments =
    let fewer : n ≤ suc n = omega arith in
    widened fewer (body_agrees (nested_calls program most) (nested_calls program bound) n
    (record {
      each = λ m below g xs. nested_agree program most bound m (omega arith) (omega arith) g
          xs;
    })
    (slice_get program.functions f) arguments)

-- calls of a program leave no more rounds than there were
pub counted_agree : (program : Resolved) (n : ℕ) → CallsAgree n (counted program) (counted program)
counted_agree program n =
    record { each = λ m below f xs. nested_agree program m m m (omega arith) (omega arith) f xs }

-- a call takes a round, and runs the called function's body with what is left
pub counted_call : (program : Resolved) (n f : ℕ) (arguments : List ℤ)
    → counted program (suc n) f arguments ≡ body_run (slice_get program.functions f)
    (counted program) n arguments
counted_call program n f arguments =
    agrees_same (body_agrees (nested_calls program n) (counted program) n
    (record { each = λ m below g xs. nested_agree program n m m (omega arith) (omega arith) g xs })
    (slice_get program.functions f) arguments)

-- a turn of a loop takes a round, and the loop goes on with what is left
pub loop_turn : (turn : ℕ → State → Run Turn) (n : ℕ) → FromEach n turn turn → (s : State)
    → loop turn (suc n) s ≡ on_value (turn n s) (on_again (loop turn))
loop_turn turn n each s =
    agrees_same (agrees_on_value (each n (omega arith) s)
    (on_again_agrees n (turns turn n) (loop turn)
    (λ k under t. turns_agree turn turn n each n k k (omega arith) (omega arith) (omega arith) t)))
