-- Where the counted run leads to a value or to the division error, the meaning with at least as
-- many rounds has the same outcome.
use Rattle.std.proofs.Common.{◌≡◌, ℕ, zero, suc, ◌≤◌, ℤ, pos, Bool, true, false, if◌then◌else◌, Option, Some, None, List, [], ◌∷◌, map, length, refl, sym, subst, arith}
use Rattle.std.specs.Prelude.{slice_get, ◌+ℤ◌, ◌-ℤ◌, ◌*ℤ◌, neg_ℤ, int_div, int_rem}
use Rattle.c_ast.specs.declared.expr.UnOp.{UnOp}
use Rattle.c_ast.specs.declared.expr.UnOp.TheVariants.{Plus, Minus, Not}
use Rattle.c_ast.specs.declared.expr.BinOp.{BinOp}
use Rattle.c_ast.specs.declared.expr.BinOp.TheVariants as bin_op
use Rattle.c_ast.specs.declared.expr.Expr.{Expr}
use Rattle.c_ast.specs.declared.expr.Expr.TheOpen.{Expr-F}
use Rattle.c_ast.specs.declared.expr.Expr.TheFolds.{map-Expr, fold-roll-Expr, ind-Expr}
use Rattle.c_ast.specs.declared.expr.Expr.TheViews.{roll-Expr}
use Rattle.c_ast.specs.declared.integers.Integers.TheVariants.{Unbounded}
use Rattle.c_ast.specs.declared.stmt.Stmt.{Stmt}
use Rattle.c_ast.specs.declared.stmt.Stmt.TheOpen.{Stmt-F}
use Rattle.c_ast.specs.declared.stmt.Stmt.TheFolds.{map-Stmt, fold-roll-Stmt, ind-Stmt}
use Rattle.c_ast.specs.declared.stmt.Stmt.TheViews.{roll-Stmt}
use Rattle.c_ast.specs.declared.program.Function.{Function}
use Rattle.c_ast.specs.declared.program.Resolved.{Resolved}
use Rattle.c_meaning.specs.Outcomes.{Outcome, State, Flow, Next, Break, Continue, Return}
use Rattle.c_meaning.specs.Outcomes as outcomes
use Rattle.c_meaning.specs.Expressions.{is_zero}
use Rattle.c_meaning.specs.Expressions as expressions
use Rattle.c_meaning.specs.Statements.{Rounds, Turn, Again, Ends, calls_with}
use Rattle.c_meaning.specs.Statements as statements
use Rattle.c_meaning.specs.Programs.{rounds, call_outcome, body_outcome}
use Rattle.c_meaning.specs.Programs as programs
use Rattle.c_meaning.specs.Runs.{Run, Value, DivisionError, More, Over, on_value, fits_i128, exact}
use Rattle.c_meaning.specs.CountedExpressions.{Calls, Evaluation, unary, unless_known, with_left, values, expr_level, expr}
use Rattle.c_meaning.specs.CountedStatements.{Execution, optional, on_next, in_order, leave, on_again, turns, loop, after_body, after_change, condition, while_turn, do_turn, stmt_level, stmt}
use Rattle.c_meaning.specs.Counted.{returned, body_run, nested_calls, counted}

-- a run that leads to a value or to the division error has this outcome; it leaves at most n rounds
pub data Means (A : Type 0) (n : ℕ) : Run A → Outcome A → Type 0 where
  Leaves : {x : A} {m : ℕ} → m ≤ n → Means A n (Value x m) (outcomes.Value x)
  Divides : Means A n DivisionError (outcomes.Error outcomes.Division)
  Waits : {outcome : Outcome A} → Means A n More outcome
  Passes : {outcome : Outcome A} → Means A n Over outcome

widened : {A : Type 0} {m n : ℕ} {x : Run A} {o : Outcome A} → m ≤ n → Means A m x o → Means A n x o
widened more (Leaves below) = Leaves (omega arith)
widened more Divides = Divides
widened more Waits = Waits
widened more Passes = Passes

-- what goes on from a value means the same where it does for each value, with each number of rounds
-- that may be left
means_on_value : {A B : Type 0} {n : ℕ} {x : Run A} {o : Outcome A} {f : A → ℕ → Run B}
    {g : A → Outcome B} → Means A n x o
    → ((a : A) (m : ℕ) → m ≤ n → Means B m (f a m) (g a)) →
    Means B n (on_value x f) (outcomes.on_value o g)
means_on_value (Leaves {x = a} {m = m} below) each = widened below (each a m below)
means_on_value Divides each = Divides
means_on_value Waits each = Waits
means_on_value Passes each = Passes

means_if : {A : Type 0} {n : ℕ} (b : Bool) {x y : Run A} {o p : Outcome A} → Means A n x o →
    Means A n y p
    → Means A n (if b then x else y) (if b then o else p)
means_if true first second = first
means_if false first second = second

-- a value with all rounds left
all_left : {A : Type 0} {n : ℕ} {x : A} → Means A n (Value x n) (outcomes.Value x)
all_left = Leaves (omega arith)

-- an exact result, or 'over'
means_exact : (x : ℤ) (n : ℕ) → Means ℤ n (exact x n) (outcomes.Value x)
means_exact x n = fits (fits_i128 x)
  where
    fits : (b : Bool) → Means ℤ n (if b then Value x n else Over) (outcomes.Value x)
    fits true = all_left
    fits false = Passes

means_unary : (op : UnOp) (x : ℤ) (n : ℕ) → Means ℤ n (unary op x n)
    (expressions.unary Unbounded op x)
means_unary Plus x n = all_left
means_unary Minus x n = means_exact (neg_ℤ x) n
means_unary Not x n = all_left

-- the left operand of `&&` and of `||`
means_and : (b : Bool) (x : ℤ) (rest : ℕ → Run ℤ) (o : Outcome ℤ) (n : ℕ) → Means ℤ n (rest n) o
    → Means ℤ n (unless_known (if b then Some x else None) rest n)
    (if b then outcomes.Value x else o)
means_and true x rest o n means = all_left
means_and false x rest o n means = means

means_or : (b : Bool) (x : ℤ) (rest : ℕ → Run ℤ) (o : Outcome ℤ) (n : ℕ) → Means ℤ n (rest n) o
    → Means ℤ n (unless_known (if b then None else Some x) rest n)
    (if b then o else outcomes.Value x)
means_or true x rest o n means = means
means_or false x rest o n means = all_left

-- operators between operands
means_binary : (op : BinOp) {n : ℕ} {x : Run ℤ} {o p : Outcome ℤ} {right : ℕ → Run ℤ} →
    Means ℤ n x o
    → ((m : ℕ) → m ≤ n → Means ℤ m (right m) p) →
    Means ℤ n (on_value x (λ v. with_left op v right)) (expressions.binary Unbounded op o p)
means_binary bin_op.Add left right =
    means_on_value left (λ x m low. means_on_value (right m low)
    (λ y k under. means_exact (x +ℤ y) k))
means_binary bin_op.Sub left right =
    means_on_value left (λ x m low. means_on_value (right m low)
    (λ y k under. means_exact (x -ℤ y) k))
means_binary bin_op.Mul left right =
    means_on_value left (λ x m low. means_on_value (right m low)
    (λ y k under. means_exact (x *ℤ y) k))
means_binary bin_op.Div left right =
    means_on_value left (λ x m low. means_on_value (right m low)
    (λ y k under. means_if (is_zero y) Divides (means_exact (int_div x y) k)))
means_binary bin_op.Rem left right =
    means_on_value left (λ x m low. means_on_value (right m low)
    (λ y k under. means_if (is_zero y) Divides (means_exact (int_rem x y) k)))
means_binary bin_op.Lt left right =
    means_on_value left (λ x m low. means_on_value (right m low) (λ y k under. all_left))
means_binary bin_op.Le left right =
    means_on_value left (λ x m low. means_on_value (right m low) (λ y k under. all_left))
means_binary bin_op.Gt left right =
    means_on_value left (λ x m low. means_on_value (right m low) (λ y k under. all_left))
means_binary bin_op.Ge left right =
    means_on_value left (λ x m low. means_on_value (right m low) (λ y k under. all_left))
means_binary bin_op.Eq left right =
    means_on_value left (λ x m low. means_on_value (right m low) (λ y k under. all_left))
means_binary bin_op.Ne left right =
    means_on_value left (λ x m low. means_on_value (right m low) (λ y k under. all_left))
means_binary bin_op.AndAlso left right =
    means_on_value left (λ x m low. means_and (is_zero x) (pos 0) _ _ m
    (means_on_value (right m low) (λ y k under. all_left)))
means_binary bin_op.OrElse left right =
    means_on_value left (λ x m low. means_or (is_zero x) (pos 1) _ _ m
    (means_on_value (right m low) (λ y k under. all_left)))

-- what runs from a state means the same, with each number of rounds, as with at least as many
-- rounds in the meaning
abbrev pub FromEach : {A : Type 0} → (ℕ → State → Run A) → (ℕ → State → Outcome A) → Type 0
FromEach {A = A} run outcome = (m n : ℕ) → m ≤ n → (s : State) → Means A m (run m s) (outcome n s)

means_on_next : {n : ℕ} (run : Execution) (outcome : State → Outcome Flow) (flow : Flow)
    → ((s : State) → Means Flow n (run n s) (outcome s)) →
    Means Flow n (on_next run flow n) (statements.on_next outcome flow)
means_on_next run outcome (Next s) each = each s
means_on_next run outcome (Break s) each = all_left
means_on_next run outcome (Continue s) each = all_left
means_on_next run outcome (Return k) each = all_left

means_on_again : {n : ℕ} (run : Execution) (outcome : State → Outcome Flow) (turn : Turn)
    → ((s : State) → Means Flow n (run n s) (outcome s)) →
    Means Flow n (on_again run turn n) (statements.on_again outcome turn)
means_on_again run outcome (Again s) each = each s
means_on_again run outcome (Ends flow) each = all_left

means_after_body : {n : ℕ} (run : ℕ → State → Run Turn) (outcome : State → Outcome Turn)
    (flow : Flow)
    → ((s : State) → Means Turn n (run n s) (outcome s)) →
    Means Turn n (after_body run flow n) (statements.after_body outcome flow)
means_after_body run outcome (Next s) each = each s
means_after_body run outcome (Continue s) each = each s
means_after_body run outcome (Break s) each = all_left
means_after_body run outcome (Return k) each = all_left

means_after_change : (flow : Flow) (n : ℕ) → Means Turn n (after_change flow n)
    (statements.after_change flow)
means_after_change (Next s) n = all_left
means_after_change (Break s) n = all_left
means_after_change (Continue s) n = all_left
means_after_change (Return k) n = all_left

means_leave : (count : ℕ) (flow : Flow) (n : ℕ) →
    Means Flow n (leave count flow n) (statements.leave count flow)
means_leave count (Next s) n = all_left
means_leave count (Break s) n = all_left
means_leave count (Continue s) n = all_left
means_leave count (Return k) n = all_left

means_returned : (flow : Flow) (n : ℕ) → Means ℤ n (returned flow n) (programs.returned flow)
means_returned (Next s) n = all_left
means_returned (Break s) n = all_left
means_returned (Continue s) n = all_left
means_returned (Return k) n = all_left

module _ (program : Resolved) where
  -- what calls, expressions and statements have as their outcomes with some rounds
  abbrev evaluated : Expr → ℕ → State → Outcome ℤ
  evaluated e n s = expressions.expr Unbounded (calls_with (rounds Unbounded program n)) e s

  abbrev executed : Stmt → ℕ → State → Outcome Flow
  executed t n s = statements.stmt Unbounded t (rounds Unbounded program n) s

  -- a loop, however many turns it may take
  means_turns : (run : ℕ → State → Run Turn) (outcome : Rounds → State → Outcome Turn) →
      FromEach run (λ n. outcome (rounds Unbounded program n))
      → (most m n : ℕ) → m ≤ n → (s : State) →
      Means Flow m (turns run most m s) (statements.loop outcome (rounds Unbounded program n) s)
  means_turns run outcome each zero m n low s = Waits
  means_turns run outcome each (suc most) zero n low s = Waits
  means_turns run outcome each (suc most) (suc m) zero low s = absurd (omega arith)
  means_turns run outcome each (suc most) (suc m) (suc n) low s =
      let fewer : m ≤ suc m = omega arith in
      widened fewer (means_on_value (each m n (omega arith) s)
      (λ turn k under. means_on_again (turns run most)
      (statements.loop outcome (rounds Unbounded program n)) turn
      (λ t. means_turns run outcome each most k n (omega arith) t)))

  means_loop : (run : ℕ → State → Run Turn) (outcome : Rounds → State → Outcome Turn) →
      FromEach run (λ n. outcome (rounds Unbounded program n))
      → FromEach (loop run) (λ n. statements.loop outcome (rounds Unbounded program n))
  means_loop run outcome each m n low s = means_turns run outcome each m m n low s

  -- calls that mean what those of the program do
  pub record CallsMean (calls : Calls) : Type 0 where
    pub each : (m n : ℕ) → m ≤ n → (f : ℕ) (arguments : List ℤ) →
        Means ℤ m (calls m f arguments) (call_outcome Unbounded program n f arguments)

  module _ (calls : Calls) (means : CallsMean calls) where
    abbrev ExprMeans : Expr → Type 0
    ExprMeans e = FromEach (expr calls e) (evaluated e)

    abbrev ExprPart : Type 0
    ExprPart = (e : Expr) × ExprMeans e

    means_values : (ps : List ExprPart) → FromEach
        (values (map (expr calls) (map (λ (p : ExprPart). p.0) ps)))
        (λ n. expressions.values (map (expressions.expr Unbounded
        (calls_with (rounds Unbounded program n)))
        (map (λ (p : ExprPart). p.0) ps)))
    means_values [] m n low s = all_left
    means_values (p ∷ ps) m n low s =
        means_on_value (p.1 m n low s) (λ x k under.
        means_on_value (means_values ps k n (omega arith) s) (λ xs l lower. all_left))

    expr_level_means : (y : Expr-F ExprPart) (m n : ℕ) → m ≤ n → (s : State) → Means ℤ m
        (expr_level calls (map-Expr Expr Evaluation (expr calls)
        (map-Expr ExprPart Expr (λ p. p.0) y)) m s)
        (expressions.expr_level Unbounded (calls_with (rounds Unbounded program n))
        (map-Expr Expr (State → Outcome ℤ) (expressions.expr Unbounded
        (calls_with (rounds Unbounded program n)))
        (map-Expr ExprPart Expr (λ p. p.0) y)) s)
    expr_level_means (Expr-F.Lit k) m n low s = all_left
    expr_level_means (Expr-F.Var v) m n low s = all_left
    expr_level_means (Expr-F.Unary op p) m n low s =
        means_on_value (p.1 m n low s) (λ x k under. means_unary op x k)
    expr_level_means (Expr-F.Binary op p q) m n low s =
        means_binary op (p.1 m n low s) (λ k under. q.1 k n (omega arith) s)
    expr_level_means (Expr-F.Choose t p q) m n low s =
        means_on_value (t.1 m n low s) (λ x k under.
        means_if (is_zero x) (q.1 k n (omega arith) s) (p.1 k n (omega arith) s))
    expr_level_means (Expr-F.Apply f ps) m n low s =
        means_on_value (means_values ps m n low s) (λ xs k under. means.each k n (omega arith) f xs)

    expr_step : (x : Expr-F Expr) (y : Expr-F ExprPart) → map-Expr ExprPart Expr (λ p. p.0) y ≡ x →
        ExprMeans (roll-Expr x)
    expr_step x y is m n low s =
        let c : expressions.Calls = calls_with (rounds Unbounded program n) in
        let opened : Means ℤ m (expr_level calls (map-Expr Expr Evaluation (expr calls) x) m s)
        (expressions.expr_level Unbounded c (map-Expr Expr (State → Outcome ℤ)
        (expressions.expr Unbounded c) x) s) =
        let P : Expr-F Expr → Type 0 = λ z. Means ℤ m
        (expr_level calls (map-Expr Expr Evaluation (expr calls) z) m s)
        (expressions.expr_level Unbounded c (map-Expr Expr (State → Outcome ℤ)
        (expressions.expr Unbounded c) z) s) in
        subst P is (expr_level_means y m n low s) in
        let L : Evaluation → Type 0 = λ e. Means ℤ m (e m s)
        (expressions.expr_level Unbounded c (map-Expr Expr (State → Outcome ℤ)
        (expressions.expr Unbounded c) x) s)
        in
        let R : (State → Outcome ℤ) → Type 0 = λ e.
        Means ℤ m (expr calls (roll-Expr x) m s) (e s) in
        subst R (sym (fold-roll-Expr (State → Outcome ℤ) (expressions.expr_level Unbounded c) x))
        (subst L (sym (fold-roll-Expr Evaluation (expr_level calls) x)) opened)

    -- an expression
    pub expr_means : (e : Expr) → FromEach (expr calls e) (evaluated e)
    expr_means = ind-Expr ExprMeans expr_step

    condition_means : (test : Option Expr) → FromEach (condition calls test)
        (λ n. statements.condition Unbounded test (rounds Unbounded program n))
    condition_means None m n low s = all_left
    condition_means (Some e) m n low s = expr_means e m n low s

    -- a turn of a `while` and of a `for`
    while_turn_means : (test : Option Expr) (change body : Execution)
        (first second : statements.Execution)
        → FromEach change (λ n. first (rounds Unbounded program n)) →
        FromEach body (λ n. second (rounds Unbounded program n))
        → FromEach (while_turn calls test change body)
        (λ n. statements.while_turn Unbounded test first second (rounds Unbounded program n))
    while_turn_means test change body first second changes bodies m n low s =
        means_on_value (condition_means test m n low s) (λ x k under. means_if (is_zero x) all_left
        (means_on_value (bodies k n (omega arith) s)
        (λ flow l lower. means_after_body _ _ flow (λ t.
        means_on_value (changes l n (omega arith) t)
        (λ after i lowest. means_after_change after i)))))

    -- and of a `do`
    do_turn_means : (e : Expr) (body : Execution) (second : statements.Execution) →
        FromEach body (λ n. second (rounds Unbounded program n))
        → FromEach (do_turn calls e body) (λ n. statements.do_turn Unbounded e second
        (rounds Unbounded program n))
    do_turn_means e body second bodies m n low s =
        means_on_value (bodies m n low s) (λ flow k under. means_after_body _ _ flow (λ t.
        means_on_value (expr_means e k n (omega arith) t)
        (λ x l lower. means_if (is_zero x) all_left all_left)))

    abbrev StmtMeans : Stmt → Type 0
    StmtMeans t = FromEach (stmt calls t) (executed t)

    abbrev StmtPart : Type 0
    StmtPart = (t : Stmt) × StmtMeans t

    in_order_parts : (ps : List StmtPart) → FromEach
        (in_order (map (stmt calls) (map (λ (p : StmtPart). p.0) ps)))
        (λ n. statements.in_order (map (statements.stmt Unbounded) (map (λ (p : StmtPart). p.0) ps))
        (rounds Unbounded program n))
    in_order_parts [] m n low s = all_left
    in_order_parts (p ∷ ps) m n low s =
        means_on_value (p.1 m n low s) (λ flow k under.
        means_on_next _ _ flow (λ t. in_order_parts ps k n (omega arith) t))

    nothing_means : FromEach (optional None) (λ n. statements.optional None
        (rounds Unbounded program n))
    nothing_means m n low s = all_left

    for_means : (ps : List StmtPart) (run : ℕ → State → Run Turn)
        (outcome : Rounds → State → Outcome Turn) →
        FromEach run (λ n. outcome (rounds Unbounded program n))
        → (count m n : ℕ) → m ≤ n → (s : State) → Means Flow m
        (on_value (on_value (in_order (map (stmt calls) (map (λ (p : StmtPart). p.0) ps)) m s)
        (on_next (loop run))) (leave count))
        (outcomes.on_value (outcomes.on_value
        (statements.in_order (map (statements.stmt Unbounded) (map (λ (p : StmtPart). p.0) ps))
        (rounds Unbounded program n) s)
        (statements.on_next (statements.loop outcome (rounds Unbounded program n))))
        (statements.leave count))
    for_means ps run outcome each count m n low s =
        means_on_value (means_on_value (in_order_parts ps m n low s)
        (λ flow k under. means_on_next _ _ flow
        (λ t. means_loop run outcome each k n (omega arith) t)))
        (λ flow k under. means_leave count flow k)

    stmt_level_means : (y : Stmt-F StmtPart) → FromEach
        (stmt_level calls (map-Stmt Stmt Execution (stmt calls)
        (map-Stmt StmtPart Stmt (λ p. p.0) y)))
        (λ n. statements.stmt_level Unbounded (map-Stmt Stmt statements.Execution
        (statements.stmt Unbounded)
        (map-Stmt StmtPart Stmt (λ p. p.0) y)) (rounds Unbounded program n))
    stmt_level_means Stmt-F.Empty m n low s = all_left
    stmt_level_means (Stmt-F.Declare k None) m n low s = all_left
    stmt_level_means (Stmt-F.Declare k (Some e)) m n low s =
        means_on_value (expr_means e m n low s) (λ x l lower. all_left)
    stmt_level_means (Stmt-F.Assign k e) m n low s =
        means_on_value (expr_means e m n low s) (λ x l lower. all_left)
    stmt_level_means (Stmt-F.If e p None) m n low s =
        means_on_value (expr_means e m n low s)
        (λ x k under. means_if (is_zero x) all_left (p.1 k n (omega arith) s))
    stmt_level_means (Stmt-F.If e p (Some other)) m n low s =
        means_on_value (expr_means e m n low s)
        (λ x k under. means_if (is_zero x) (other.1 k n (omega arith) s)
        (p.1 k n (omega arith) s))
    stmt_level_means (Stmt-F.While e p) m n low s =
        means_loop _ _ (while_turn_means (Some e) (optional None) (stmt calls p.0)
        (statements.optional None) (statements.stmt Unbounded p.0) nothing_means p.1) m n low s
    stmt_level_means (Stmt-F.DoWhile p e) m n low s =
        means_loop _ _ (do_turn_means e (stmt calls p.0) (statements.stmt Unbounded p.0) p.1) m n
        low s
    stmt_level_means (Stmt-F.For ps test None p) m n low s = for_means ps _ _
        (while_turn_means test (optional None) (stmt calls p.0) (statements.optional None)
        (statements.stmt Unbounded p.0) nothing_means p.1) (length s) m n low s
    stmt_level_means (Stmt-F.For ps test (Some change) p) m n low s = for_means ps _ _
        (while_turn_means test (stmt calls change.0) (stmt calls p.0)
        (statements.stmt Unbounded change.0)
        (statements.stmt Unbounded p.0) change.1 p.1) (length s) m n low s
    stmt_level_means (Stmt-F.Break token) m n low s = all_left
    stmt_level_means (Stmt-F.Continue token) m n low s = all_left
    stmt_level_means (Stmt-F.Return e) m n low s =
        means_on_value (expr_means e m n low s) (λ x l lower. all_left)
    stmt_level_means (Stmt-F.Block ps) m n low s =
        means_on_value (in_order_parts ps m n low s) (λ flow k under. means_leave (length s) flow k)

    stmt_step : (x : Stmt-F Stmt) (y : Stmt-F StmtPart) → map-Stmt StmtPart Stmt (λ p. p.0) y ≡ x →
        StmtMeans (roll-Stmt x)
    stmt_step x y is m n low s =
        let opened : Means Flow m (stmt_level calls (map-Stmt Stmt Execution (stmt calls) x) m s)
        (statements.stmt_level Unbounded (map-Stmt Stmt statements.Execution
        (statements.stmt Unbounded) x)
        (rounds Unbounded program n) s) =
        let P : Stmt-F Stmt → Type 0 = λ z. Means Flow m
        (stmt_level calls (map-Stmt Stmt Execution (stmt calls) z) m s)
        (statements.stmt_level Unbounded (map-Stmt Stmt statements.Execution
        (statements.stmt Unbounded) z)
        (rounds Unbounded program n) s) in
        subst P is (stmt_level_means y m n low s) in
        let L : Execution → Type 0 = λ e. Means Flow m (e m s)
        (statements.stmt_level Unbounded (map-Stmt Stmt statements.Execution
        (statements.stmt Unbounded) x)
        (rounds Unbounded program n) s) in
        let R : statements.Execution → Type 0 = λ e.
        Means Flow m (stmt calls (roll-Stmt x) m s) (e (rounds Unbounded program n) s) in
        subst R (sym (fold-roll-Stmt statements.Execution (statements.stmt_level Unbounded) x))
        (subst L (sym (fold-roll-Stmt Execution (stmt_level calls) x)) opened)

    -- a statement
    pub stmt_means : (t : Stmt) → FromEach (stmt calls t) (executed t)
    stmt_means = ind-Stmt StmtMeans stmt_step

    -- statements in their order
    in_order_means : (ts : List Stmt) → FromEach (in_order (map (stmt calls) ts))
        (λ n. statements.in_order (map (statements.stmt Unbounded) ts) (rounds Unbounded program n))
    in_order_means [] m n low s = all_left
    in_order_means (t ∷ ts) m n low s =
        means_on_value (stmt_means t m n low s)
        (λ flow k under. means_on_next _ _ flow (λ u. in_order_means ts k n (omega arith) u))

    -- a function's body
    body_means : (function : Option Function) (m n : ℕ) → m ≤ n → (arguments : List ℤ)
        → Means ℤ m (body_run function calls m arguments)
        (body_outcome Unbounded function (rounds Unbounded program n) arguments)
    body_means None m n low arguments = Waits
    body_means (Some function) m n low arguments =
        means_on_value (in_order_means function.body m n low arguments)
        (λ flow k under. means_returned flow k)

  -- a call, however deep calls may be nested
  nested_means : (most m n : ℕ) → m ≤ n → (f : ℕ) (arguments : List ℤ)
      → Means ℤ m (nested_calls program most m f arguments)
      (call_outcome Unbounded program n f arguments)
  nested_means zero m n low f arguments = Waits
  nested_means (suc most) zero n low f arguments = Waits
  nested_means (suc most) (suc m) zero low f arguments = absurd (omega arith)
  nested_means (suc most) (suc m) (suc n) low f arguments =
      let fewer : m ≤ suc m = omega arith in
      widened fewer (body_means (nested_calls program most) (record { each = nested_means most })
      (slice_get program.functions f) m n (omega arith) arguments)

  -- a call of the counted run
  pub counted_means : CallsMean (counted program)
  counted_means = record { each = λ m n low f arguments. nested_means m m n low f arguments }

-- what the outcome is, where the run leads to a value or to the division error
abbrev Meant : {A : Type 0} → Run A → Outcome A → Type 0
Meant (Value x left) o = o ≡ outcomes.Value x
Meant DivisionError o = o ≡ outcomes.Error outcomes.Division
Meant More o = Unit {0}
Meant Over o = Unit {0}

meant_is : {A : Type 0} {n : ℕ} {x : Run A} {o : Outcome A} → Means A n x o → Meant x o
meant_is (Leaves below) = refl
meant_is Divides = refl
meant_is Waits = tt
meant_is Passes = tt

pub value_meant : {A : Type 0} (n : ℕ) (run : Run A) (o : Outcome A) (x : A) (left : ℕ) →
    Means A n run o → run ≡ Value x left → o ≡ outcomes.Value x
value_meant {A = A} n run o x left means is =
    let P : Run A → Type 0 = λ r. Meant r o in subst P is (meant_is means)

pub division_meant : {A : Type 0} (n : ℕ) (run : Run A) (o : Outcome A) → Means A n run o → run ≡
    DivisionError → o ≡ outcomes.Error outcomes.Division
division_meant {A = A} n run o means is =
    let P : Run A → Type 0 = λ r. Meant r o in subst P is (meant_is means)

-- a call of the counted run, by the meaning with as many rounds
pub call_means : (program : Resolved) (n f : ℕ) (arguments : List ℤ) →
    Means ℤ n (counted program n f arguments) (call_outcome Unbounded program n f arguments)
call_means program n f arguments = (counted_means program).each n n (omega arith) f arguments

-- an expression, by the meaning with as many rounds
pub expression_means : (program : Resolved) (e : Expr) (n : ℕ) (s : State)
    → Means ℤ n (expr (counted program) e n s)
    (expressions.expr Unbounded (calls_with (rounds Unbounded program n)) e s)
expression_means program e n s =
    expr_means program (counted program) (counted_means program) e n n (omega arith) s
