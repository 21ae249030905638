-- The outcome of a statement from a state. Numbers as 6.8.4 are sections of ISO/IEC 9899:1999.
use Rattle.std.specs.Prelude.{ℕ, if◌then◌else◌, Option, None, Some, List, [], ◌∷◌, ◌++◌, length, take, slice_set, ℤ, pos}
use Rattle.c_ast.specs.declared.expr.Expr.{Expr}
use Rattle.c_ast.specs.declared.integers.Integers.{Integers}
use Rattle.c_ast.specs.declared.stmt.Stmt.{Stmt}
use Rattle.c_ast.specs.declared.stmt.Stmt.TheOpen.{Stmt-F}
use Rattle.c_ast.specs.declared.stmt.Stmt.TheFolds.{fold-Stmt}
use Rattle.c_meaning.specs.Outcomes.{Outcome, Value, More, on_value, State, Flow, Next, Break, Continue, Return}
use Rattle.c_meaning.specs.Expressions.{Calls, is_zero, expr}

-- the rounds that are left: one entry for each, the next one first, which says what a call gives
-- that uses this round up. Each call and each turn of a loop uses one
abbrev pub Rounds : Type 0
Rounds = List Calls

-- what calls give: without a round 'more'; otherwise the call uses one up
abbrev pub calls_with : Rounds → Calls
calls_with [] f arguments = More
calls_with (call ∷ left) f arguments = call f arguments

-- what a statement does, with some rounds, from a state
abbrev pub Execution : Type 0
Execution = Rounds → State → Outcome Flow

-- a part that is left out does nothing (6.8.4.1p2 of `else`, 6.8.5.3p2 of the last part of a `for`)
abbrev pub optional : Option Execution → Execution
optional None rounds s = Value (Next s)
optional (Some part) rounds s = part rounds s

-- goes on after a statement that led to next; a break, a continue and a return leave the rest out
-- (6.8.6p2)
abbrev pub on_next : (State → Outcome Flow) → Flow → Outcome Flow
on_next rest (Next s) = rest s
on_next rest (Break s) = Value (Break s)
on_next rest (Continue s) = Value (Continue s)
on_next rest (Return k) = Value (Return k)

-- a list of statements, in its order (6.8p2, p3)
abbrev pub in_order : List Execution → Execution
in_order [] rounds s = Value (Next s)
in_order (t ∷ ts) rounds s = on_value (t rounds s) (on_next (in_order ts rounds))

-- at the end of a scope (6.2.1p4, 6.2.4p5): of the slots the first `count` are left, which were in
-- scope before it
abbrev pub leave : ℕ → Flow → Outcome Flow
leave count (Next s) = Value (Next (take count s))
leave count (Break s) = Value (Break (take count s))
leave count (Continue s) = Value (Continue (take count s))
leave count (Return k) = Value (Return k)

-- where a turn of a loop leads: the loop goes on from a state, or it has ended
pub data Turn : Type 0 where
  Again : State → Turn
  Ends : Flow → Turn

-- a turn goes on to what follows, or the loop has ended
abbrev pub on_again : (State → Outcome Flow) → Turn → Outcome Flow
on_again rest (Again s) = rest s
on_again rest (Ends flow) = Value flow

-- a loop (6.8.5p4): with no round 'more'; otherwise a turn with one round less, and where that
-- doesn't end the loop, the same loop with one round less. So the test that ends a loop takes a
-- round too
abbrev pub loop : (Rounds → State → Outcome Turn) → Execution
loop turn [] s = More
loop turn (call ∷ left) s = on_value (turn left s) (on_again (loop turn left))

-- a loop's body in a turn: after it and at a continue (6.8.6.2p2) the turn goes on; a break
-- (6.8.6.3p2) leads to what follows the loop, and a return (6.8.6.4p2) ends it as it ends the
-- function
abbrev pub after_body : (State → Outcome Turn) → Flow → Outcome Turn
after_body rest (Next s) = rest s
after_body rest (Continue s) = rest s
after_body rest (Break s) = Value (Ends (Next s))
after_body rest (Return k) = Value (Ends (Return k))

-- the last part of a `for` (6.8.5.3p1): after it comes the next turn; it is an assignment, so it
-- leads nowhere else
abbrev pub after_change : Flow → Outcome Turn
after_change (Next s) = Value (Again s)
after_change (Break s) = Value (Ends (Break s))
after_change (Continue s) = Value (Ends (Continue s))
after_change (Return k) = Value (Ends (Return k))

module _ (integers : Integers) where
  -- a condition; a missing one is a constant other than 0 (6.8.5.3p2)
  abbrev pub condition : Option Expr → Rounds → State → Outcome ℤ
  condition None rounds s = Value (pos 1)
  condition (Some e) rounds s = expr integers (calls_with rounds) e s

  -- one turn of a `while` (6.8.5.1p1) and of a `for` (6.8.5.3p1): the condition, where it is 0 the
  -- end, and else the body and then the change
  abbrev pub while_turn : Option Expr → Execution → Execution → Rounds → State → Outcome Turn
  while_turn test change body rounds s =
      on_value (condition test rounds s) (λ x.
      if is_zero x then Value (Ends (Next s))
      else on_value (body rounds s) (after_body (λ t. on_value (change rounds t) after_change)))

  -- one turn of a `do` (6.8.5.2p1): the body and then the condition, where it is 0 the end
  abbrev pub do_turn : Expr → Execution → Rounds → State → Outcome Turn
  do_turn test body rounds s =
      on_value (body rounds s) (after_body (λ t.
      on_value (expr integers (calls_with rounds) test t)
      (λ x. if is_zero x then Value (Ends (Next t)) else Value (Again t))))

  -- the outcome of a statement with some rounds from a state, from what the statements in it do
  abbrev pub stmt_level : Stmt-F Execution → Execution
  -- `;` (6.8.3p3)
  stmt_level Stmt-F.Empty rounds s = Value (Next s)
  -- `int x;` each time it is reached (6.8p3, 6.2.4p5, 6.7.8p10): the new slot comes after those in
  -- scope, whose number `k` is in a well-formed program. C leaves its value open; it is 0, which a
  -- well-formed program never reads
  stmt_level (Stmt-F.Declare k None) rounds s = Value (Next (take k s ++ pos 0 ∷ []))
  -- `int x = e;` each time it is reached (6.8p3, 6.7.8p11)
  stmt_level (Stmt-F.Declare k (Some e)) rounds s =
      on_value (expr integers (calls_with rounds) e s) (λ x. Value (Next (take k s ++ x ∷ [])))
  -- `x = e;` (6.8.3p2, 6.5.16.1p2)
  stmt_level (Stmt-F.Assign k e) rounds s =
      on_value (expr integers (calls_with rounds) e s) (λ x. Value (Next (slice_set s k x)))
  -- `if` (6.8.4.1p2)
  stmt_level (Stmt-F.If e inner other) rounds s =
      on_value (expr integers (calls_with rounds) e s)
      (λ x. if is_zero x then optional other rounds s else inner rounds s)
  -- `while` (6.8.5.1)
  stmt_level (Stmt-F.While e body) rounds s =
      loop (while_turn (Some e) (optional None) body) rounds s
  -- `do` (6.8.5.2)
  stmt_level (Stmt-F.DoWhile body e) rounds s = loop (do_turn e body) rounds s
  -- `for` (6.8.5.3): the first part once, and then the loop; the scope of its declarations ends
  -- with it (6.8.5p5)
  stmt_level (Stmt-F.For first test change body) rounds s =
      on_value (on_value (in_order first rounds s)
      (on_next (loop (while_turn test (optional change) body) rounds))) (leave (length s))
  -- `break` (6.8.6.3), `continue` (6.8.6.2), `return` (6.8.6.4p3)
  stmt_level (Stmt-F.Break token) rounds s = Value (Break s)
  stmt_level (Stmt-F.Continue token) rounds s = Value (Continue s)
  stmt_level (Stmt-F.Return e) rounds s =
      on_value (expr integers (calls_with rounds) e s) (λ x. Value (Return x))
  -- a block (6.8.2p2)
  stmt_level (Stmt-F.Block inner) rounds s = on_value (in_order inner rounds s) (leave (length s))

  -- the outcome of a statement
  abbrev pub stmt : Stmt → Execution
  stmt = fold-Stmt Execution stmt_level
