-- More rounds keep an outcome that isn't 'more'.
use Rattle.std.proofs.Common.{◌≡◌, ℕ, zero, suc, ◌≤◌, ℤ, Bool, true, false, if◌then◌else◌, Option, Some, None, List, [], ◌∷◌, map, length, refl, sym, subst, ◌⊎◌, inl, inr, ◌∙◌, arith}
use Rattle.std.specs.Prelude.{slice_get}
use Rattle.c_ast.specs.declared.expr.BinOp.{BinOp}
use Rattle.c_ast.specs.declared.expr.BinOp.TheVariants as Op
use Rattle.c_ast.specs.declared.expr.Expr.{Expr}
use Rattle.c_ast.specs.declared.expr.Expr.TheOpen.{Expr-F}
use Rattle.c_ast.specs.declared.expr.Expr.TheFolds.{map-Expr, fold-roll-Expr, ind-Expr}
use Rattle.c_ast.specs.declared.expr.Expr.TheViews.{roll-Expr}
use Rattle.c_ast.specs.declared.integers.Integers.{Integers}
use Rattle.c_ast.specs.declared.stmt.Stmt.{Stmt}
use Rattle.c_ast.specs.declared.stmt.Stmt.TheOpen.{Stmt-F}
use Rattle.c_ast.specs.declared.stmt.Stmt.TheFolds.{map-Stmt, fold-roll-Stmt, ind-Stmt}
use Rattle.c_ast.specs.declared.stmt.Stmt.TheViews.{roll-Stmt}
use Rattle.c_ast.specs.declared.program.Function.{Function}
use Rattle.c_ast.specs.declared.program.Resolved.{Resolved}
use Rattle.c_meaning.specs.Outcomes.{Outcome, Value, Error, More, on_value, IsAnswer, State, Flow, Next, Break, Continue, Return}
use Rattle.c_meaning.specs.Expressions.{Calls, is_zero, binary, values, expr_level, expr}
use Rattle.c_meaning.specs.Statements.{Rounds, calls_with, Execution, optional, on_next, in_order, leave, Turn, Again, Ends, on_again, loop, after_body, condition, while_turn, do_turn, stmt_level, stmt}
use Rattle.c_meaning.specs.Programs.{body_outcome, rounds, call_outcome, Returns}

-- the second outcome is the first, unless the first is 'more'
pub data Keeps (A : Type 0) : Outcome A → Outcome A → Type 0 where
  Same : {x : Outcome A} → Keeps A x x
  Waits : {y : Outcome A} → Keeps A More y

-- then an answer stays
pub kept_answer : {A : Type 0} {x y : Outcome A} → Keeps A x y → IsAnswer x → y ≡ x
kept_answer Same answer = refl
kept_answer Waits answer = absurd answer

same_on_value : {A B : Type 0} (x : Outcome A) (f g : A → Outcome B) →
    ((a : A) → Keeps B (f a) (g a)) → Keeps B (on_value x f) (on_value x g)
same_on_value (Value a) f g each = each a
same_on_value (Error e) f g each = Same
same_on_value More f g each = Same

-- what goes on from a value is kept where it is kept for each value
pub keeps_on_value : {A B : Type 0} {x y : Outcome A} {f g : A → Outcome B}
    → Keeps A x y → ((a : A) → Keeps B (f a) (g a)) → Keeps B (on_value x f) (on_value y g)
keeps_on_value {f = f} {g = g} (Same {x = x}) each = same_on_value x f g each
keeps_on_value Waits each = Waits

-- both branches of a test are kept
keeps_if : {A : Type 0} (b : Bool) {x y u v : Outcome A} → Keeps A x u → Keeps A y v →
    Keeps A (if b then x else y) (if b then u else v)
keeps_if true first second = first
keeps_if false first second = second

-- operators
keeps_binary : (integers : Integers) (op : BinOp) {x y u v : Outcome ℤ} → Keeps ℤ x u →
    Keeps ℤ y v →
    Keeps ℤ (binary integers op x y) (binary integers op u v)
keeps_binary integers Op.Add left right =
    keeps_on_value left (λ a. keeps_on_value right (λ b. Same))
keeps_binary integers Op.Sub left right =
    keeps_on_value left (λ a. keeps_on_value right (λ b. Same))
keeps_binary integers Op.Mul left right =
    keeps_on_value left (λ a. keeps_on_value right (λ b. Same))
keeps_binary integers Op.Div left right =
    keeps_on_value left (λ a. keeps_on_value right (λ b. Same))
keeps_binary integers Op.Rem left right =
    keeps_on_value left (λ a. keeps_on_value right (λ b. Same))
keeps_binary integers Op.Lt left right = keeps_on_value left (λ a. keeps_on_value right (λ b. Same))
keeps_binary integers Op.Le left right = keeps_on_value left (λ a. keeps_on_value right (λ b. Same))
keeps_binary integers Op.Gt left right = keeps_on_value left (λ a. keeps_on_value right (λ b. Same))
keeps_binary integers Op.Ge left right = keeps_on_value left (λ a. keeps_on_value right (λ b. Same))
keeps_binary integers Op.Eq left right = keeps_on_value left (λ a. keeps_on_value right (λ b. Same))
keeps_binary integers Op.Ne left right = keeps_on_value left (λ a. keeps_on_value right (λ b. Same))
keeps_binary integers Op.AndAlso left right =
    keeps_on_value left (λ a. keeps_if (is_zero a) Same (keeps_on_value right (λ b. Same)))
keeps_binary integers Op.OrElse left right =
    keeps_on_value left (λ a. keeps_if (is_zero a) (keeps_on_value right (λ b. Same)) Same)

-- calls that keep what other calls give
pub record CallsKeep (c d : Calls) : Type 0 where
  pub each : (f : ℕ) (arguments : List ℤ) → Keeps ℤ (c f arguments) (d f arguments)

abbrev Evaluation : Type 0
Evaluation = State → Outcome ℤ

module _ (integers : Integers) (c d : Calls) (calls : CallsKeep c d) where
  abbrev EvaluationsKeep : Evaluation → Evaluation → Type 0
  EvaluationsKeep m n = (s : State) → Keeps ℤ (m s) (n s)

  abbrev ExprKept : Expr → Type 0
  ExprKept e = EvaluationsKeep (expr integers c e) (expr integers d e)

  abbrev ExprPart : Type 0
  ExprPart = (e : Expr) × ExprKept e

  arguments_kept : (ps : List ExprPart) (s : State)
      → Keeps (List ℤ) (values (map (expr integers c) (map (λ (p : ExprPart). p.0) ps)) s)
      (values (map (expr integers d) (map (λ (p : ExprPart). p.0) ps)) s)
  arguments_kept [] s = Same
  arguments_kept (p ∷ ps) s =
      keeps_on_value (p.1 s) (λ x. keeps_on_value (arguments_kept ps s) (λ xs. Same))

  expr_level_kept : (y : Expr-F ExprPart) → EvaluationsKeep
      (expr_level integers c (map-Expr Expr Evaluation (expr integers c)
      (map-Expr ExprPart Expr (λ p. p.0) y)))
      (expr_level integers d (map-Expr Expr Evaluation (expr integers d)
      (map-Expr ExprPart Expr (λ p. p.0) y)))
  expr_level_kept (Expr-F.Lit k) s = Same
  expr_level_kept (Expr-F.Var v) s = Same
  expr_level_kept (Expr-F.Unary op p) s = keeps_on_value (p.1 s) (λ x. Same)
  expr_level_kept (Expr-F.Binary op p q) s = keeps_binary integers op (p.1 s) (q.1 s)
  expr_level_kept (Expr-F.Choose t p q) s =
      keeps_on_value (t.1 s) (λ x. keeps_if (is_zero x) (q.1 s) (p.1 s))
  expr_level_kept (Expr-F.Apply f ps) s =
      keeps_on_value (arguments_kept ps s) (λ xs. calls.each f xs)

  expr_step : (x : Expr-F Expr) (y : Expr-F ExprPart) → map-Expr ExprPart Expr (λ p. p.0) y ≡ x →
      ExprKept (roll-Expr x)
  expr_step x y is =
      let opened : EvaluationsKeep (expr_level integers c
      (map-Expr Expr Evaluation (expr integers c) x))
      (expr_level integers d (map-Expr Expr Evaluation (expr integers d) x)) =
      let P : Expr-F Expr → Type 0 =
      λ z. EvaluationsKeep (expr_level integers c (map-Expr Expr Evaluation (expr integers c) z))
      (expr_level integers d (map-Expr Expr Evaluation (expr integers d) z)) in
      subst P is (expr_level_kept y) in
      let L : Evaluation → Type 0 = λ m. EvaluationsKeep m
      (expr_level integers d (map-Expr Expr Evaluation (expr integers d) x)) in
      let R : Evaluation → Type 0 = λ n. EvaluationsKeep (expr integers c (roll-Expr x)) n in
      subst R (sym (fold-roll-Expr Evaluation (expr_level integers d) x))
      (subst L (sym (fold-roll-Expr Evaluation (expr_level integers c) x)) opened)

  -- an expression's outcome is kept where calls keep theirs
  pub expr_kept : (e : Expr) (s : State) → Keeps ℤ (expr integers c e s) (expr integers d e s)
  expr_kept = ind-Expr ExprKept expr_step

-- at least as many rounds, whose calls keep what those of the fewer rounds give
pub data Fewer : Rounds → Rounds → Type 0 where
  NoRound : {q : Rounds} → Fewer [] q
  OneRound : {c d : Calls} {r q : Rounds} → CallsKeep c d → Fewer r q → Fewer (c ∷ r) (d ∷ q)

pub calls_kept : {r q : Rounds} → Fewer r q → CallsKeep (calls_with r) (calls_with q)
calls_kept NoRound = record { each = λ f xs. Waits }
calls_kept (OneRound calls fewer) = record { each = λ f xs. calls.each f xs }

-- an execution whose outcome more rounds keep
abbrev pub IsSteady : Execution → Type 0
IsSteady m = (r q : Rounds) → Fewer r q → (s : State) → Keeps Flow (m r s) (m q s)

abbrev IsSteadyTurn : (Rounds → State → Outcome Turn) → Type 0
IsSteadyTurn turn = (r q : Rounds) → Fewer r q → (s : State) → Keeps Turn (turn r s) (turn q s)

on_next_kept : (m n : State → Outcome Flow) → ((s : State) → Keeps Flow (m s) (n s)) →
    (flow : Flow) → Keeps Flow (on_next m flow) (on_next n flow)
on_next_kept m n each (Next s) = each s
on_next_kept m n each (Break s) = Same
on_next_kept m n each (Continue s) = Same
on_next_kept m n each (Return k) = Same

on_again_kept : (m n : State → Outcome Flow) → ((s : State) → Keeps Flow (m s) (n s)) →
    (turn : Turn) → Keeps Flow (on_again m turn) (on_again n turn)
on_again_kept m n each (Again s) = each s
on_again_kept m n each (Ends flow) = Same

after_body_kept : (m n : State → Outcome Turn) → ((s : State) → Keeps Turn (m s) (n s)) →
    (flow : Flow) → Keeps Turn (after_body m flow) (after_body n flow)
after_body_kept m n each (Next s) = each s
after_body_kept m n each (Break s) = Same
after_body_kept m n each (Continue s) = each s
after_body_kept m n each (Return k) = Same

-- a loop is kept where its turns are
loop_kept : (turn : Rounds → State → Outcome Turn) → IsSteadyTurn turn → IsSteady (loop turn)
loop_kept turn steady r q NoRound s = Waits
loop_kept turn steady r q (OneRound {r = left} {q = more} calls fewer) s =
    keeps_on_value (steady left more fewer s)
    (on_again_kept (loop turn left) (loop turn more) (loop_kept turn steady left more fewer))

-- of two numbers one is at most the other
in_order_of_size : (m n : ℕ) → (m ≤ n) ⊎ (n ≤ m)
in_order_of_size zero n = inl (omega arith)
in_order_of_size (suc m) zero = inr (omega arith)
in_order_of_size (suc m) (suc n) =
    elim (in_order_of_size m n) [ inl below ↦ inl (omega arith) | inr below ↦ inr (omega arith) ]

module _ (integers : Integers) where
  condition_kept : (test : Option Expr) (r q : Rounds) → Fewer r q → (s : State) →
      Keeps ℤ (condition integers test r s) (condition integers test q s)
  condition_kept None r q fewer s = Same
  condition_kept (Some e) r q fewer s =
      expr_kept integers (calls_with r) (calls_with q) (calls_kept fewer) e s

  while_turn_kept : (test : Option Expr) (change body : Execution) → IsSteady change →
      IsSteady body →
      IsSteadyTurn (while_turn integers test change body)
  while_turn_kept test change body change_steady body_steady r q fewer s =
      keeps_on_value (condition_kept test r q fewer s) (λ x. keeps_if (is_zero x) Same
      (keeps_on_value (body_steady r q fewer s)
      (after_body_kept _ _ (λ t. keeps_on_value (change_steady r q fewer t) (λ flow. Same)))))

  do_turn_kept : (e : Expr) (body : Execution) → IsSteady body →
      IsSteadyTurn (do_turn integers e body)
  do_turn_kept e body steady r q fewer s =
      keeps_on_value (steady r q fewer s) (after_body_kept _ _ (λ t.
      keeps_on_value (expr_kept integers (calls_with r) (calls_with q) (calls_kept fewer) e t)
      (λ x. Same)))

  abbrev StmtPart : Type 0
  StmtPart = (t : Stmt) × IsSteady (stmt integers t)

  in_order_parts : (ps : List StmtPart) → IsSteady
      (in_order (map (stmt integers) (map (λ (p : StmtPart). p.0) ps)))
  in_order_parts [] r q fewer s = Same
  in_order_parts (p ∷ ps) r q fewer s =
      keeps_on_value (p.1 r q fewer s) (on_next_kept _ _ (in_order_parts ps r q fewer))

  nothing_kept : IsSteady (optional None)
  nothing_kept r q fewer s = Same

  for_kept : (ps : List StmtPart) (test : Option Expr) (change body : Execution) → IsSteady change →
      IsSteady body → (count : ℕ) (r q : Rounds) → Fewer r q → (s : State)
      → Keeps Flow
      (on_value (on_value (in_order (map (stmt integers) (map (λ (p : StmtPart). p.0) ps)) r s)
      (on_next (loop (while_turn integers test change body) r))) (leave count))
      (on_value (on_value (in_order (map (stmt integers) (map (λ (p : StmtPart). p.0) ps)) q s)
      (on_next (loop (while_turn integers test change body) q))) (leave count))
  for_kept ps test change body change_steady body_steady count r q fewer s =
      keeps_on_value
      (keeps_on_value (in_order_parts ps r q fewer s)
      (on_next_kept _ _ (loop_kept _ (while_turn_kept test change body change_steady body_steady) r
      q
      fewer)))
      (λ flow. Same)

  stmt_level_kept : (y : Stmt-F StmtPart) → IsSteady
      (stmt_level integers (map-Stmt Stmt Execution (stmt integers)
      (map-Stmt StmtPart Stmt (λ p. p.0) y)))
  stmt_level_kept Stmt-F.Empty r q fewer s = Same
  stmt_level_kept (Stmt-F.Declare k None) r q fewer s = Same
  stmt_level_kept (Stmt-F.Declare k (Some e)) r q fewer s =
      keeps_on_value (expr_kept integers (calls_with r) (calls_with q) (calls_kept fewer) e s)
      (λ x. Same)
  stmt_level_kept (Stmt-F.Assign k e) r q fewer s =
      keeps_on_value (expr_kept integers (calls_with r) (calls_with q) (calls_kept fewer) e s)
      (λ x. Same)
  stmt_level_kept (Stmt-F.If e p None) r q fewer s =
      keeps_on_value (expr_kept integers (calls_with r) (calls_with q) (calls_kept fewer) e s)
      (λ x. keeps_if (is_zero x) Same (p.1 r q fewer s))
  stmt_level_kept (Stmt-F.If e p (Some other)) r q fewer s =
      keeps_on_value (expr_kept integers (calls_with r) (calls_with q) (calls_kept fewer) e s)
      (λ x. keeps_if (is_zero x) (other.1 r q fewer s) (p.1 r q fewer s))
  stmt_level_kept (Stmt-F.While e p) r q fewer s =
      loop_kept _ (while_turn_kept (Some e) _ _ nothing_kept p.1) r q fewer s
  stmt_level_kept (Stmt-F.DoWhile p e) r q fewer s = loop_kept _ (do_turn_kept e _ p.1) r q fewer s
  stmt_level_kept (Stmt-F.For ps test None p) r q fewer s =
      for_kept ps test _ _ nothing_kept p.1 (length s) r q fewer s
  stmt_level_kept (Stmt-F.For ps test (Some change) p) r q fewer s =
      for_kept ps test _ _ change.1 p.1 (length s) r q fewer s
  stmt_level_kept (Stmt-F.Break token) r q fewer s = Same
  stmt_level_kept (Stmt-F.Continue token) r q fewer s = Same
  stmt_level_kept (Stmt-F.Return e) r q fewer s =
      keeps_on_value (expr_kept integers (calls_with r) (calls_with q) (calls_kept fewer) e s)
      (λ x. Same)
  stmt_level_kept (Stmt-F.Block ps) r q fewer s =
      keeps_on_value (in_order_parts ps r q fewer s) (λ flow. Same)

  stmt_step : (x : Stmt-F Stmt) (y : Stmt-F StmtPart) → map-Stmt StmtPart Stmt (λ p. p.0) y ≡ x →
      IsSteady (stmt integers (roll-Stmt x))
  stmt_step x y is =
      let P : Stmt-F Stmt → Type 0 = λ z. IsSteady
      (stmt_level integers (map-Stmt Stmt Execution (stmt integers) z)) in
      let Q : Execution → Type 0 = λ m. IsSteady m in
      subst Q (sym (fold-roll-Stmt Execution (stmt_level integers) x))
      (subst P is (stmt_level_kept y))

  -- more rounds keep a statement's outcome
  pub stmt_kept : (t : Stmt) → IsSteady (stmt integers t)
  stmt_kept = ind-Stmt (λ t. IsSteady (stmt integers t)) stmt_step

  -- and that of a list
  pub in_order_kept : (ts : List Stmt) → IsSteady (in_order (map (stmt integers) ts))
  in_order_kept [] r q fewer s = Same
  in_order_kept (t ∷ ts) r q fewer s =
      keeps_on_value (stmt_kept t r q fewer s) (on_next_kept _ _ (in_order_kept ts r q fewer))

  body_kept : (function : Option Function) (r q : Rounds) → Fewer r q → (arguments : List ℤ) →
      Keeps ℤ (body_outcome integers function r arguments)
      (body_outcome integers function q arguments)
  body_kept None r q fewer arguments = Same
  body_kept (Some function) r q fewer arguments =
      keeps_on_value (in_order_kept function.body r q fewer arguments) (λ flow. Same)

  -- m rounds of a program are fewer than n, where m ≤ n
  pub fewer_rounds : (program : Resolved) (m n : ℕ) → m ≤ n →
      Fewer (rounds integers program m) (rounds integers program n)
  fewer_rounds program zero n below = NoRound
  fewer_rounds program (suc m) zero below = absurd (omega arith)
  fewer_rounds program (suc m) (suc n) below =
      let left : m ≤ n = omega arith in
      let fewer = fewer_rounds program m n left in
      OneRound (record {
        each = λ f xs. body_kept (slice_get program.functions f) (rounds integers program m)
            (rounds integers program n) fewer xs;
      }) fewer

  -- the outcomes of a call stay with more rounds
  pub call_stays : (program : Resolved) (f : ℕ) (arguments : List ℤ) (m n : ℕ) → m ≤ n →
      IsAnswer (call_outcome integers program m f arguments)
      → call_outcome integers program n f arguments ≡ call_outcome integers program m f arguments
  call_stays program f arguments m n below answer =
      kept_answer ((calls_kept (fewer_rounds program m n below)).each f arguments) answer

  -- the outcomes of an expression do
  pub expr_stays : (program : Resolved) (e : Expr) (s : State) (m n : ℕ) → m ≤ n →
      IsAnswer (expr integers (calls_with (rounds integers program m)) e s)
      → expr integers (calls_with (rounds integers program n)) e s ≡
      expr integers (calls_with (rounds integers program m)) e s
  expr_stays program e s m n below answer =
      kept_answer (expr_kept integers (calls_with (rounds integers program m))
      (calls_with (rounds integers program n))
      (calls_kept (fewer_rounds program m n below)) e s) answer

  -- the outcomes of a statement do
  pub stmt_stays : (program : Resolved) (t : Stmt) (s : State) (m n : ℕ) → m ≤ n →
      IsAnswer (stmt integers t (rounds integers program m) s)
      → stmt integers t (rounds integers program n) s ≡
      stmt integers t (rounds integers program m) s
  stmt_stays program t s m n below answer =
      kept_answer (stmt_kept t (rounds integers program m) (rounds integers program n)
      (fewer_rounds program m n below)
      s) answer

  -- two answers of one call with some rounds are the same
  same_answer : (program : Resolved) (f : ℕ) (arguments : List ℤ) (m n : ℕ) (r q : Outcome ℤ) →
      m ≤ n
      → call_outcome integers program m f arguments ≡ r → IsAnswer r →
      call_outcome integers program n f arguments ≡ q →
      q ≡ r
  same_answer program f arguments m n r q below first answer second =
      let answered : IsAnswer (call_outcome integers program m f arguments) =
      subst (λ (o : Outcome ℤ). IsAnswer o) (sym first) answer in
      sym second ∙ (call_stays program f arguments m n below answered ∙ first)

  -- a function returns at most one outcome
  pub one_outcome : (program : Resolved) (f : ℕ) (arguments : List ℤ) (r q : Outcome ℤ) →
      Returns integers program f arguments r → Returns integers program f arguments q → r ≡ q
  one_outcome program f arguments r q first second =
      elim (in_order_of_size first.enough second.enough) [
        | inl below ↦ sym (same_answer program f arguments first.enough second.enough r q below
            first.outcome first.is_answer second.outcome)
        | inr below ↦ same_answer program f arguments second.enough first.enough q r below
            second.outcome second.is_answer first.outcome
      ]
