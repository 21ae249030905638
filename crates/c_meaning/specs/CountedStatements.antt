-- The counted execution of a statement from a state. The cases and their order are those of the
-- meaning; the rounds are handed through. Numbers as 6.8.4 are sections of ISO/IEC 9899:1999.
use Rattle.std.specs.Prelude.{ℕ, zero, suc, if◌then◌else◌, Option, None, Some, List, [], ◌∷◌, ◌++◌, length, take, slice_set, ℤ, pos}
use Rattle.c_ast.specs.declared.expr.Expr.{Expr}
use Rattle.c_ast.specs.declared.stmt.Stmt.{Stmt}
use Rattle.c_ast.specs.declared.stmt.Stmt.TheOpen.{Stmt-F}
use Rattle.c_ast.specs.declared.stmt.Stmt.TheFolds.{fold-Stmt}
use Rattle.c_meaning.specs.Outcomes.{State, Flow, Next, Break, Continue, Return}
use Rattle.c_meaning.specs.Expressions.{is_zero}
use Rattle.c_meaning.specs.Statements.{Turn, Again, Ends}
use Rattle.c_meaning.specs.Runs.{Run, Value, More, on_value}
use Rattle.c_meaning.specs.CountedExpressions.{Calls, expr}

-- what a statement leads to, from the rounds that are left before it and a state
abbrev pub Execution : Type 0
Execution = ℕ → State → Run Flow

-- a part that is left out does nothing (6.8.4.1p2 of `else`, 6.8.5.3p2 of the last part of a `for`)
abbrev pub optional : Option Execution → Execution
optional None left s = Value (Next s) left
optional (Some part) left s = part left s

-- goes on after a statement that led to next; a break, a continue and a return leave the rest out
-- (6.8.6p2)
abbrev pub on_next : Execution → Flow → ℕ → Run Flow
on_next rest (Next s) left = rest left s
on_next rest (Break s) left = Value (Break s) left
on_next rest (Continue s) left = Value (Continue s) left
on_next rest (Return k) left = Value (Return k) left

-- a list of statements, in its order (6.8p2, p3)
abbrev pub in_order : List Execution → Execution
in_order [] left s = Value (Next s) left
in_order (t ∷ ts) left s = on_value (t left s) (on_next (in_order ts))

-- at the end of a scope (6.2.1p4, 6.2.4p5) the first `count` slots are left, which were in scope
-- before it
abbrev pub leave : ℕ → Flow → ℕ → Run Flow
leave count (Next s) left = Value (Next (take count s)) left
leave count (Break s) left = Value (Break (take count s)) left
leave count (Continue s) left = Value (Continue (take count s)) left
leave count (Return k) left = Value (Return k) left

-- a turn goes on to what follows, or the loop has ended
abbrev pub on_again : Execution → Turn → ℕ → Run Flow
on_again rest (Again s) left = rest left s
on_again rest (Ends flow) left = Value flow left

-- a loop (6.8.5p4) of at most `most` turns, of which each takes a round: with none left 'more';
-- otherwise a turn, and where that doesn't end the loop, the same loop with what is left
abbrev pub turns : (ℕ → State → Run Turn) → ℕ → Execution
turns turn zero left s = More
turns turn (suc most) zero s = More
turns turn (suc most) (suc left) s = on_value (turn left s) (on_again (turns turn most))

-- a loop: it has no more turns than rounds are left
abbrev pub loop : (ℕ → State → Run Turn) → Execution
loop turn left s = turns turn left left s

-- a loop's body in a turn: after it and at a continue (6.8.6.2p2) the turn goes on; a break
-- (6.8.6.3p2) leads to what follows the loop, and a return (6.8.6.4p2) ends it as it ends the
-- function
abbrev pub after_body : (ℕ → State → Run Turn) → Flow → ℕ → Run Turn
after_body rest (Next s) left = rest left s
after_body rest (Continue s) left = rest left s
after_body rest (Break s) left = Value (Ends (Next s)) left
after_body rest (Return k) left = Value (Ends (Return k)) left

-- the last part of a `for` (6.8.5.3p1): after it comes the next turn
abbrev pub after_change : Flow → ℕ → Run Turn
after_change (Next s) left = Value (Again s) left
after_change (Break s) left = Value (Ends (Break s)) left
after_change (Continue s) left = Value (Ends (Continue s)) left
after_change (Return k) left = Value (Ends (Return k)) left

-- a condition; a missing one is a constant other than 0 (6.8.5.3p2)
abbrev pub condition : Calls → Option Expr → ℕ → State → Run ℤ
condition calls None left s = Value (pos 1) left
condition calls (Some e) left s = expr calls e left s

-- one turn of a `while` (6.8.5.1p1) and of a `for` (6.8.5.3p1): the condition, where it is 0 the
-- end, and else the body and then the change
abbrev pub while_turn : Calls → Option Expr → Execution → Execution → ℕ → State → Run Turn
while_turn calls test change body left s =
    on_value (condition calls test left s) (λ x m.
    if is_zero x then Value (Ends (Next s)) m
    else on_value (body m s) (after_body (λ n t. on_value (change n t) after_change)))

-- one turn of a `do` (6.8.5.2p1): the body and then the condition, where it is 0 the end
abbrev pub do_turn : Calls → Expr → Execution → ℕ → State → Run Turn
do_turn calls test body left s =
    on_value (body left s) (after_body (λ m t.
    on_value (expr calls test m t) (λ x n. if is_zero x then Value (Ends (Next t)) n else
    Value (Again t) n)))

-- what a statement leads to, from what the statements in it lead to
abbrev pub stmt_level : Calls → Stmt-F Execution → Execution
-- `;` (6.8.3p3)
stmt_level calls Stmt-F.Empty left s = Value (Next s) left
-- `int x;` (6.8p3, 6.2.4p5, 6.7.8p10): the new slot is the one after the `k` in scope, and its value is 0
stmt_level calls (Stmt-F.Declare k None) left s = Value (Next (take k s ++ pos 0 ∷ [])) left
-- `int x = e;` (6.8p3, 6.7.8p11)
stmt_level calls (Stmt-F.Declare k (Some e)) left s =
    on_value (expr calls e left s) (λ x m. Value (Next (take k s ++ x ∷ [])) m)
-- `x = e;` (6.8.3p2, 6.5.16.1p2)
stmt_level calls (Stmt-F.Assign k e) left s =
    on_value (expr calls e left s) (λ x m. Value (Next (slice_set s k x)) m)
-- `if` (6.8.4.1p2)
stmt_level calls (Stmt-F.If e inner other) left s =
    on_value (expr calls e left s) (λ x m. if is_zero x then optional other m s else inner m s)
-- `while` (6.8.5.1)
stmt_level calls (Stmt-F.While e body) left s =
    loop (while_turn calls (Some e) (optional None) body) left s
-- `do` (6.8.5.2)
stmt_level calls (Stmt-F.DoWhile body e) left s = loop (do_turn calls e body) left s
-- `for` (6.8.5.3): the first part once, and then the loop; the scope of its declarations ends with it (6.8.5p5)
stmt_level calls (Stmt-F.For first test change body) left s =
    on_value (on_value (in_order first left s)
    (on_next (loop (while_turn calls test (optional change) body)))) (leave (length s))
-- `break` (6.8.6.3), `continue` (6.8.6.2), `return` (6.8.6.4p3)
stmt_level calls (Stmt-F.Break token) left s = Value (Break s) left
stmt_level calls (Stmt-F.Continue token) left s = Value (Continue s) left
stmt_level calls (Stmt-F.Return e) left s =
    on_value (expr calls e left s) (λ x m. Value (Return x) m)
-- a block (6.8.2p2)
stmt_level calls (Stmt-F.Block inner) left s = on_value (in_order inner left s) (leave (length s))

-- what a statement leads to, where `calls` says what calls lead to
abbrev pub stmt : Calls → Stmt → Execution
stmt calls = fold-Stmt Execution (stmt_level calls)
