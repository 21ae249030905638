-- The outcome by the integers of 32 bits is that by the mathematical integers, or the range error;
-- and by the mathematical integers there is no range error.
use Rattle.std.proofs.Common.{◌≡◌, ℕ, zero, suc, ℤ, Bool, true, false, if◌then◌else◌, Option, Some, None, List, [], ◌∷◌, map, length, sym, subst}
use Rattle.std.specs.Prelude.{◌≢◌, slice_get, ◌+ℤ◌, ◌-ℤ◌, ◌*ℤ◌, neg_ℤ, int_div}
use Rattle.c_ast.specs.declared.expr.UnOp.{UnOp}
use Rattle.c_ast.specs.declared.expr.UnOp.TheVariants as Sign
use Rattle.c_ast.specs.declared.expr.BinOp.{BinOp}
use Rattle.c_ast.specs.declared.expr.BinOp.TheVariants as Op
use Rattle.c_ast.specs.declared.expr.Expr.{Expr}
use Rattle.c_ast.specs.declared.expr.Expr.TheOpen.{Expr-F}
use Rattle.c_ast.specs.declared.expr.Expr.TheFolds.{map-Expr, fold-roll-Expr, ind-Expr}
use Rattle.c_ast.specs.declared.expr.Expr.TheViews.{roll-Expr}
use Rattle.c_ast.specs.declared.integers.Integers.TheVariants.{Unbounded, Bits32}
use Rattle.c_ast.specs.declared.stmt.Stmt.{Stmt}
use Rattle.c_ast.specs.declared.stmt.Stmt.TheOpen.{Stmt-F}
use Rattle.c_ast.specs.declared.stmt.Stmt.TheFolds.{map-Stmt, fold-roll-Stmt, ind-Stmt}
use Rattle.c_ast.specs.declared.stmt.Stmt.TheViews.{roll-Stmt}
use Rattle.c_ast.specs.declared.program.Function.{Function}
use Rattle.c_ast.specs.declared.program.Resolved.{Resolved}
use Rattle.c_meaning.specs.Outcomes.{Division, Range, Outcome, Value, Error, More, on_value, State, Flow, Next, Break, Continue, Return}
use Rattle.c_meaning.specs.Expressions.{Calls, is_int, is_zero, exact, unary, binary, values, expr_level, expr}
use Rattle.c_meaning.specs.Statements.{Rounds, calls_with, Execution, optional, on_next, in_order, leave, Turn, Again, Ends, on_again, loop, after_body, after_change, condition, while_turn, do_turn, stmt_level, stmt}
use Rattle.c_meaning.specs.Programs.{returned, body_outcome, rounds, call_outcome, Returns}

-- the outcome is no range error
abbrev IsInRange : {A : Type 0} → Outcome A → Type 0
IsInRange (Value x) = Unit {0}
IsInRange (Error Division) = Unit {0}
IsInRange (Error Range) = ⊥
IsInRange More = Unit {0}

-- the second outcome is no range error, and the first is the same or the range error
data Narrows (A : Type 0) : Outcome A → Outcome A → Type 0 where
  Same : (x : Outcome A) → IsInRange x → Narrows A x x
  Leaves : (y : Outcome A) → IsInRange y → Narrows A (Error Range) y

second_in_range : {A : Type 0} (x y : Outcome A) → Narrows A x y → IsInRange y
second_in_range x y (Same _ here) = here
second_in_range x y (Leaves _ here) = here

-- a value
valued : {A : Type 0} {x : A} → Narrows A (Value x) (Value x)
valued {x = x} = Same (Value x) tt

on_same : {A B : Type 0} (x : Outcome A) (f g : A → Outcome B) → IsInRange x →
    ((a : A) → Narrows B (f a) (g a)) → Narrows B (on_value x f) (on_value x g)
on_same (Value a) f g here each = each a
on_same (Error Division) f g here each = Same (Error Division) tt
on_same (Error Range) f g here each = absurd here
on_same More f g here each = Same More tt

on_left : {A B : Type 0} (y : Outcome A) (f g : A → Outcome B) → IsInRange y →
    ((a : A) → Narrows B (f a) (g a)) → Narrows B (Error Range) (on_value y g)
on_left (Value a) f g here each = Leaves (g a) (second_in_range (f a) (g a) (each a))
on_left (Error Division) f g here each = Leaves (Error Division) tt
on_left (Error Range) f g here each = absurd here
on_left More f g here each = Leaves More tt

-- what goes on from a value
narrows_on : {A B : Type 0} {x y : Outcome A} {f g : A → Outcome B} → Narrows A x y →
    ((a : A) → Narrows B (f a) (g a)) → Narrows B (on_value x f) (on_value y g)
narrows_on {f = f} {g = g} (Same x here) each = on_same x f g here each
narrows_on {f = f} {g = g} (Leaves y here) each = on_left y f g here each

narrows_if : {A : Type 0} (b : Bool) {x y u v : Outcome A} → Narrows A x u → Narrows A y v →
    Narrows A (if b then x else y) (if b then u else v)
narrows_if true first second = first
narrows_if false first second = second

-- operators
exact_narrows : (x : ℤ) → Narrows ℤ (exact Bits32 x) (exact Unbounded x)
exact_narrows x = by (is_int x)
  where
    by : (b : Bool) → Narrows ℤ (if b then Value x else Error Range) (Value x)
    by true = valued
    by false = Leaves (Value x) tt

unary_narrows : (op : UnOp) (x : ℤ) → Narrows ℤ (unary Bits32 op x) (unary Unbounded op x)
unary_narrows Sign.Plus x = valued
unary_narrows Sign.Minus x = exact_narrows (neg_ℤ x)
unary_narrows Sign.Not x = valued

divided : Narrows ℤ (Error Division) (Error Division)
divided = Same (Error Division) tt

binary_narrows : (op : BinOp) {x y u v : Outcome ℤ} → Narrows ℤ x u → Narrows ℤ y v →
    Narrows ℤ (binary Bits32 op x y) (binary Unbounded op u v)
binary_narrows Op.Add left right =
    narrows_on left (λ a. narrows_on right (λ b. exact_narrows (a +ℤ b)))
binary_narrows Op.Sub left right =
    narrows_on left (λ a. narrows_on right (λ b. exact_narrows (a -ℤ b)))
binary_narrows Op.Mul left right =
    narrows_on left (λ a. narrows_on right (λ b. exact_narrows (a *ℤ b)))
binary_narrows Op.Div left right =
    narrows_on left (λ a. narrows_on right (λ b.
    narrows_if (is_zero b) divided (exact_narrows (int_div a b))))
binary_narrows Op.Rem left right =
    narrows_on left (λ a. narrows_on right (λ b. narrows_if (is_zero b) divided valued))
binary_narrows Op.Lt left right = narrows_on left (λ a. narrows_on right (λ b. valued))
binary_narrows Op.Le left right = narrows_on left (λ a. narrows_on right (λ b. valued))
binary_narrows Op.Gt left right = narrows_on left (λ a. narrows_on right (λ b. valued))
binary_narrows Op.Ge left right = narrows_on left (λ a. narrows_on right (λ b. valued))
binary_narrows Op.Eq left right = narrows_on left (λ a. narrows_on right (λ b. valued))
binary_narrows Op.Ne left right = narrows_on left (λ a. narrows_on right (λ b. valued))
binary_narrows Op.AndAlso left right =
    narrows_on left (λ a. narrows_if (is_zero a) valued (narrows_on right (λ b. valued)))
binary_narrows Op.OrElse left right =
    narrows_on left (λ a. narrows_if (is_zero a) (narrows_on right (λ b. valued)) valued)

-- calls that narrow what other calls give
record CallsNarrow (c d : Calls) : Type 0 where
  each : (f : ℕ) (arguments : List ℤ) → Narrows ℤ (c f arguments) (d f arguments)

abbrev Evaluation : Type 0
Evaluation = State → Outcome ℤ

module _ (c d : Calls) (calls : CallsNarrow c d) where
  abbrev EvaluationsNarrow : Evaluation → Evaluation → Type 0
  EvaluationsNarrow m n = (s : State) → Narrows ℤ (m s) (n s)

  abbrev ExprNarrows : Expr → Type 0
  ExprNarrows e = EvaluationsNarrow (expr Bits32 c e) (expr Unbounded d e)

  abbrev ExprPart : Type 0
  ExprPart = (e : Expr) × ExprNarrows e

  arguments_narrow : (ps : List ExprPart) (s : State) → Narrows (List ℤ)
      (values (map (expr Bits32 c) (map (λ (p : ExprPart). p.0) ps)) s)
      (values (map (expr Unbounded d) (map (λ (p : ExprPart). p.0) ps)) s)
  arguments_narrow [] s = valued
  arguments_narrow (p ∷ ps) s =
      narrows_on (p.1 s) (λ x. narrows_on (arguments_narrow ps s) (λ xs. valued))

  expr_level_narrows : (y : Expr-F ExprPart) → EvaluationsNarrow
      (expr_level Bits32 c (map-Expr Expr Evaluation (expr Bits32 c)
      (map-Expr ExprPart Expr (λ p. p.0) y)))
      (expr_level Unbounded d (map-Expr Expr Evaluation (expr Unbounded d)
      (map-Expr ExprPart Expr (λ p. p.0) y)))
  expr_level_narrows (Expr-F.Lit k) s = valued
  expr_level_narrows (Expr-F.Var v) s = valued
  expr_level_narrows (Expr-F.Unary op p) s = narrows_on (p.1 s) (λ x. unary_narrows op x)
  expr_level_narrows (Expr-F.Binary op p q) s = binary_narrows op (p.1 s) (q.1 s)
  expr_level_narrows (Expr-F.Choose t p q) s =
      narrows_on (t.1 s) (λ x. narrows_if (is_zero x) (q.1 s) (p.1 s))
  expr_level_narrows (Expr-F.Apply f ps) s =
      narrows_on (arguments_narrow ps s) (λ xs. calls.each f xs)

  expr_step : (x : Expr-F Expr) (y : Expr-F ExprPart) → map-Expr ExprPart Expr (λ p. p.0) y ≡ x →
      ExprNarrows (roll-Expr x)
  expr_step x y is =
      let opened : EvaluationsNarrow (expr_level Bits32 c (map-Expr Expr Evaluation (expr Bits32 c)
      x)) (expr_level Unbounded d (map-Expr Expr Evaluation (expr Unbounded d) x)) =
      let P : Expr-F Expr → Type 0 =
      λ z. EvaluationsNarrow (expr_level Bits32 c (map-Expr Expr Evaluation (expr Bits32 c) z))
      (expr_level Unbounded d (map-Expr Expr Evaluation (expr Unbounded d) z)) in
      subst P is (expr_level_narrows y) in
      let L : Evaluation → Type 0 = λ m. EvaluationsNarrow m
      (expr_level Unbounded d (map-Expr Expr Evaluation (expr Unbounded d) x)) in
      let R : Evaluation → Type 0 = λ n. EvaluationsNarrow (expr Bits32 c (roll-Expr x)) n in
      subst R (sym (fold-roll-Expr Evaluation (expr_level Unbounded d) x))
      (subst L (sym (fold-roll-Expr Evaluation (expr_level Bits32 c) x)) opened)

  -- an expression's outcome narrows where calls do
  expr_narrows : (e : Expr) (s : State) → Narrows ℤ (expr Bits32 c e s) (expr Unbounded d e s)
  expr_narrows = ind-Expr ExprNarrows expr_step

-- as many rounds, with each of which calls narrow
data Beside : Rounds → Rounds → Type 0 where
  NoRound : Beside [] []
  OneRound : {c d : Calls} {r q : Rounds} → CallsNarrow c d → Beside r q → Beside (c ∷ r) (d ∷ q)

calls_narrow : {r q : Rounds} → Beside r q → CallsNarrow (calls_with r) (calls_with q)
calls_narrow NoRound = record { each = λ f xs. Same More tt }
calls_narrow (OneRound calls rest) = record { each = λ f xs. calls.each f xs }

-- executions of which the first narrows the second
abbrev AreNarrow : Execution → Execution → Type 0
AreNarrow m n = (r q : Rounds) → Beside r q → (s : State) → Narrows Flow (m r s) (n q s)

abbrev Turning : Type 0
Turning = Rounds → State → Outcome Turn

abbrev AreNarrowTurns : Turning → Turning → Type 0
AreNarrowTurns m n = (r q : Rounds) → Beside r q → (s : State) → Narrows Turn (m r s) (n q s)

on_next_narrows : (m n : State → Outcome Flow) → ((s : State) → Narrows Flow (m s) (n s)) →
    (flow : Flow) → Narrows Flow (on_next m flow) (on_next n flow)
on_next_narrows m n each (Next s) = each s
on_next_narrows m n each (Break s) = valued
on_next_narrows m n each (Continue s) = valued
on_next_narrows m n each (Return k) = valued

on_again_narrows : (m n : State → Outcome Flow) → ((s : State) → Narrows Flow (m s) (n s)) →
    (turn : Turn) → Narrows Flow (on_again m turn) (on_again n turn)
on_again_narrows m n each (Again s) = each s
on_again_narrows m n each (Ends flow) = valued

after_body_narrows : (m n : State → Outcome Turn) → ((s : State) → Narrows Turn (m s) (n s)) →
    (flow : Flow) → Narrows Turn (after_body m flow) (after_body n flow)
after_body_narrows m n each (Next s) = each s
after_body_narrows m n each (Break s) = valued
after_body_narrows m n each (Continue s) = each s
after_body_narrows m n each (Return k) = valued

after_change_narrows : (flow : Flow) → Narrows Turn (after_change flow) (after_change flow)
after_change_narrows (Next s) = valued
after_change_narrows (Break s) = valued
after_change_narrows (Continue s) = valued
after_change_narrows (Return k) = valued

leave_narrows : (count : ℕ) (flow : Flow) → Narrows Flow (leave count flow) (leave count flow)
leave_narrows count (Next s) = valued
leave_narrows count (Break s) = valued
leave_narrows count (Continue s) = valued
leave_narrows count (Return k) = valued

returned_narrows : (flow : Flow) → Narrows ℤ (returned flow) (returned flow)
returned_narrows (Next s) = valued
returned_narrows (Break s) = valued
returned_narrows (Continue s) = valued
returned_narrows (Return k) = valued

loop_narrows : (m n : Turning) → AreNarrowTurns m n → AreNarrow (loop m) (loop n)
loop_narrows m n turns r q NoRound s = Same More tt
loop_narrows m n turns r q (OneRound {r = left} {q = more} calls rest) s =
    narrows_on (turns left more rest s)
    (on_again_narrows (loop m left) (loop n more) (loop_narrows m n turns left more rest))

expr_with : (e : Expr) (r q : Rounds) → Beside r q → (s : State) →
    Narrows ℤ (expr Bits32 (calls_with r) e s) (expr Unbounded (calls_with q) e s)
expr_with e r q beside s =
    expr_narrows (calls_with r) (calls_with q) (calls_narrow beside) e s

condition_narrows : (test : Option Expr) (r q : Rounds) → Beside r q → (s : State) →
    Narrows ℤ (condition Bits32 test r s) (condition Unbounded test q s)
condition_narrows None r q beside s = valued
condition_narrows (Some e) r q beside s = expr_with e r q beside s

while_turn_narrows : (test : Option Expr) (change body first second : Execution) →
    AreNarrow change first → AreNarrow body second → AreNarrowTurns
    (while_turn Bits32 test change body) (while_turn Unbounded test first second)
while_turn_narrows test change body first second changes bodies r q beside s =
    narrows_on (condition_narrows test r q beside s) (λ x. narrows_if (is_zero x) valued
    (narrows_on (bodies r q beside s) (after_body_narrows _ _ (λ t.
    narrows_on (changes r q beside t) after_change_narrows))))

do_turn_narrows : (e : Expr) (body second : Execution) → AreNarrow body second →
    AreNarrowTurns (do_turn Bits32 e body) (do_turn Unbounded e second)
do_turn_narrows e body second bodies r q beside s =
    narrows_on (bodies r q beside s) (after_body_narrows _ _ (λ t.
    narrows_on (expr_with e r q beside t) (λ x. narrows_if (is_zero x) valued valued)))

abbrev StmtNarrows : Stmt → Type 0
StmtNarrows t = AreNarrow (stmt Bits32 t) (stmt Unbounded t)

abbrev StmtPart : Type 0
StmtPart = (t : Stmt) × StmtNarrows t

in_order_parts : (ps : List StmtPart) → AreNarrow
    (in_order (map (stmt Bits32) (map (λ (p : StmtPart). p.0) ps)))
    (in_order (map (stmt Unbounded) (map (λ (p : StmtPart). p.0) ps)))
in_order_parts [] r q beside s = valued
in_order_parts (p ∷ ps) r q beside s =
    narrows_on (p.1 r q beside s) (on_next_narrows _ _ (in_order_parts ps r q beside))

nothing_narrows : AreNarrow (optional None) (optional None)
nothing_narrows r q beside s = valued

for_narrows : (ps : List StmtPart) (m n : Turning) → AreNarrowTurns m n → (count : ℕ)
    (r q : Rounds) → Beside r q → (s : State) → Narrows Flow
    (on_value (on_value (in_order (map (stmt Bits32) (map (λ (p : StmtPart). p.0) ps)) r s)
    (on_next (loop m r))) (leave count))
    (on_value (on_value (in_order (map (stmt Unbounded) (map (λ (p : StmtPart). p.0) ps)) q s)
    (on_next (loop n q))) (leave count))
for_narrows ps m n turns count r q beside s =
    narrows_on (narrows_on (in_order_parts ps r q beside s)
    (on_next_narrows _ _ (loop_narrows m n turns r q beside))) (leave_narrows count)

stmt_level_narrows : (y : Stmt-F StmtPart) → AreNarrow
    (stmt_level Bits32 (map-Stmt Stmt Execution (stmt Bits32)
    (map-Stmt StmtPart Stmt (λ p. p.0) y)))
    (stmt_level Unbounded (map-Stmt Stmt Execution (stmt Unbounded)
    (map-Stmt StmtPart Stmt (λ p. p.0) y)))
stmt_level_narrows Stmt-F.Empty r q beside s = valued
stmt_level_narrows (Stmt-F.Declare k None) r q beside s = valued
stmt_level_narrows (Stmt-F.Declare k (Some e)) r q beside s =
    narrows_on (expr_with e r q beside s) (λ x. valued)
stmt_level_narrows (Stmt-F.Assign k e) r q beside s =
    narrows_on (expr_with e r q beside s) (λ x. valued)
stmt_level_narrows (Stmt-F.If e p None) r q beside s =
    narrows_on (expr_with e r q beside s) (λ x. narrows_if (is_zero x) valued (p.1 r q beside s))
stmt_level_narrows (Stmt-F.If e p (Some other)) r q beside s =
    narrows_on (expr_with e r q beside s)
    (λ x. narrows_if (is_zero x) (other.1 r q beside s) (p.1 r q beside s))
stmt_level_narrows (Stmt-F.While e p) r q beside s =
    loop_narrows _ _ (while_turn_narrows (Some e) _ _ _ _ nothing_narrows p.1) r q beside s
stmt_level_narrows (Stmt-F.DoWhile p e) r q beside s =
    loop_narrows _ _ (do_turn_narrows e _ _ p.1) r q beside s
stmt_level_narrows (Stmt-F.For ps test None p) r q beside s =
    for_narrows ps _ _ (while_turn_narrows test _ _ _ _ nothing_narrows p.1) (length s) r q beside s
stmt_level_narrows (Stmt-F.For ps test (Some change) p) r q beside s =
    for_narrows ps _ _ (while_turn_narrows test _ _ _ _ change.1 p.1) (length s) r q beside s
stmt_level_narrows (Stmt-F.Break token) r q beside s = valued
stmt_level_narrows (Stmt-F.Continue token) r q beside s = valued
stmt_level_narrows (Stmt-F.Return e) r q beside s =
    narrows_on (expr_with e r q beside s) (λ x. valued)
stmt_level_narrows (Stmt-F.Block ps) r q beside s =
    narrows_on (in_order_parts ps r q beside s) (leave_narrows (length s))

stmt_step : (x : Stmt-F Stmt) (y : Stmt-F StmtPart) → map-Stmt StmtPart Stmt (λ p. p.0) y ≡ x →
    StmtNarrows (roll-Stmt x)
stmt_step x y is =
    let opened : AreNarrow (stmt_level Bits32 (map-Stmt Stmt Execution (stmt Bits32) x))
    (stmt_level Unbounded (map-Stmt Stmt Execution (stmt Unbounded) x)) =
    let P : Stmt-F Stmt → Type 0 =
    λ z. AreNarrow (stmt_level Bits32 (map-Stmt Stmt Execution (stmt Bits32) z))
    (stmt_level Unbounded (map-Stmt Stmt Execution (stmt Unbounded) z)) in
    subst P is (stmt_level_narrows y) in
    let L : Execution → Type 0 = λ m. AreNarrow m
    (stmt_level Unbounded (map-Stmt Stmt Execution (stmt Unbounded) x)) in
    let R : Execution → Type 0 = λ n. AreNarrow (stmt Bits32 (roll-Stmt x)) n in
    subst R (sym (fold-roll-Stmt Execution (stmt_level Unbounded) x))
    (subst L (sym (fold-roll-Stmt Execution (stmt_level Bits32) x)) opened)

stmt_narrows : (t : Stmt) → StmtNarrows t
stmt_narrows = ind-Stmt StmtNarrows stmt_step

in_order_narrows : (ts : List Stmt) → AreNarrow (in_order (map (stmt Bits32) ts))
    (in_order (map (stmt Unbounded) ts))
in_order_narrows [] r q beside s = valued
in_order_narrows (t ∷ ts) r q beside s =
    narrows_on (stmt_narrows t r q beside s) (on_next_narrows _ _ (in_order_narrows ts r q beside))

body_narrows : (function : Option Function) (r q : Rounds) → Beside r q → (arguments : List ℤ) →
    Narrows ℤ (body_outcome Bits32 function r arguments)
    (body_outcome Unbounded function q arguments)
body_narrows None r q beside arguments = Same More tt
body_narrows (Some function) r q beside arguments =
    narrows_on (in_order_narrows function.body r q beside arguments) returned_narrows

-- as many rounds of a program, by either kind of integers
rounds_beside : (program : Resolved) (n : ℕ) →
    Beside (rounds Bits32 program n) (rounds Unbounded program n)
rounds_beside program zero = NoRound
rounds_beside program (suc n) =
    let rest = rounds_beside program n in
    OneRound (record {
      each = λ f xs. body_narrows (slice_get program.functions f) (rounds Bits32 program n)
          (rounds Unbounded program n) rest xs;
    }) rest

call_narrows : (program : Resolved) (n f : ℕ) (arguments : List ℤ) → Narrows ℤ
    (call_outcome Bits32 program n f arguments) (call_outcome Unbounded program n f arguments)
call_narrows program n f arguments =
    (calls_narrow (rounds_beside program n)).each f arguments

-- an outcome of the first other than the range error is that of the second
kept : {A : Type 0} (x y : Outcome A) → Narrows A x y → (r : Outcome A) → x ≡ r → r ≢ Error Range →
    y ≡ r
kept x y (Same _ here) r is other = is
kept x y (Leaves _ here) r is other = absurd (other (sym is))

-- what a call returns by the integers of 32 bits, other than the range error, it returns by the
-- mathematical integers
pub returns_alike : (program : Resolved) (f : ℕ) (arguments : List ℤ) (r : Outcome ℤ) →
    Returns Bits32 program f arguments r → r ≢ Error Range → Returns Unbounded program f arguments r
returns_alike program f arguments r returns other = record {
  enough = returns.enough;
  outcome =
      kept (call_outcome Bits32 program returns.enough f arguments)
      (call_outcome Unbounded program returns.enough f arguments)
      (call_narrows program returns.enough f arguments) r returns.outcome other;
  is_answer = returns.is_answer;
}

-- and by these no call returns the range error
pub never_out_of_range : (program : Resolved) (f : ℕ) (arguments : List ℤ) →
    Returns Unbounded program f arguments (Error Range) → ⊥
never_out_of_range program f arguments returns =
    let here = second_in_range (call_outcome Bits32 program returns.enough f arguments)
    (call_outcome Unbounded program returns.enough f arguments)
    (call_narrows program returns.enough f arguments) in
    let P : Outcome ℤ → Type 0 = λ o. IsInRange o in
    subst P returns.outcome here
