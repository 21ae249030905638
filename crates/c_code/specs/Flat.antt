-- What flat code comes to. An op goes on at a lower position, whose meaning is there already; a
-- call and the turns of a loop are those of the counted run.
use Rattle.std.specs.Prelude.{◌≡◌, ℕ, ◌<◌, ◌≤◌, if◌then◌else◌, Option, None, Some, List, [], ◌∷◌, ◌++◌, ℤ}
use Rattle.std.specs.Prelude.{int_lt, length, fold, map, take, drop, reverse, slice_get, slice_set, slice_index_or}
use Rattle.std.specs.Option.{option_map, option_copied}
use Rattle.std.specs.Borrow.{Bor}
use Rattle.c_ast.specs.declared.expr.BinOp.{BinOp}
use Rattle.c_ast.specs.declared.expr.BinOp.TheVariants.{Add, Mul}
use Rattle.c_ast.specs.declared.expr.Expr.{Expr}
use Rattle.c_ast.specs.declared.expr.Expr.TheOpen.{Expr-F}
use Rattle.c_ast.specs.declared.expr.Expr.TheViews.{out-Expr}
use Rattle.c_ast.specs.declared.stmt.Stmt.{Stmt}
use Rattle.c_ast.specs.declared.stmt.Stmt.TheOpen.{Stmt-F}
use Rattle.c_ast.specs.declared.stmt.Stmt.TheViews.{out-Stmt}
use Rattle.c_ast.specs.declared.program.Function.{Function}
use Rattle.c_meaning.specs.Outcomes.{State, Flow, Next, Break, Continue, Return}
use Rattle.c_meaning.specs.Expressions.{is_zero, slot}
use Rattle.c_meaning.specs.Statements.{Turn, Again, Ends}
use Rattle.c_meaning.specs.Runs.{Run, Value, More, on_value}
use Rattle.c_meaning.specs.CountedExpressions.{Calls, unary, apply, with_left, values, expr}
use Rattle.c_meaning.specs.CountedStatements.{Execution, optional, on_next, in_order, leave, loop, condition, while_turn, do_turn, stmt}
use Rattle.c_code.specs.Stores.{Kept, with_state, with_values, top, below_top, with_scopes, pushed, entered, left_scope, ended}
use Rattle.c_code.specs.declared.code.Operand.{Operand}
use Rattle.c_code.specs.declared.code.Operand.TheVariants.{Constant, Slot, Popped}
use Rattle.c_code.specs.declared.code.Work.{Work}
use Rattle.c_code.specs.declared.code.Leaf.{Leaf}
use Rattle.c_code.specs.declared.code.Leaf.TheVariants as leaf
use Rattle.c_code.specs.declared.code.Inner.{Inner}
use Rattle.c_code.specs.declared.code.Work.TheVariants.{Read, Before, Between, Alone, Left, Right}
use Rattle.c_code.specs.declared.code.Destination.{Destination}
use Rattle.c_code.specs.declared.code.Destination.TheVariants as destination
use Rattle.c_code.specs.declared.code.Exits.{Exits}
use Rattle.c_code.specs.declared.code.Op.{Op}
use Rattle.c_code.specs.declared.code.Op.TheVariants as op
use Rattle.c_code.specs.declared.code.Code.{Code}
use Rattle.c_meaning.specs.Counted.{returned}

-- what a run comes to from what is kept and the rounds that are left
abbrev pub Rest : Type 0
Rest = Kept → ℕ → Run ℤ

-- what a function's integer comes to
abbrev pub Back : Type 0
Back = ℤ → Kept → ℕ → Run ℤ

-- where there is no op
abbrev pub lost : Rest
lost k left = More

-- what the op at a position comes to
abbrev pub at : List Rest → ℕ → Rest
at rests p = slice_index_or rests p lost

-- an operand's value
abbrev pub read : Operand → Kept → ℤ
read (Constant x) k = x
read (Slot v) k = slot k.state v
read Popped k = top k.values

-- the values after it is read
abbrev pub values_after : Operand → List ℤ → List ℤ
values_after Popped xs = below_top xs
values_after (Constant x) xs = xs
values_after (Slot v) xs = xs

-- what is kept after it is read
abbrev pub after : Operand → Kept → Kept
after a k = with_values k (values_after a k.values)

-- the values before it is read: what isn't read elsewhere is on top
abbrev pub values_before : Operand → List ℤ → ℤ → List ℤ
values_before Popped xs x = x ∷ xs
values_before (Constant c) xs x = xs
values_before (Slot v) xs x = xs

-- what is kept before it is read, with its value
abbrev pub before : Operand → Kept → ℤ → Kept
before a k x = with_values k (values_before a k.values x)

-- where the value of an expression is read
abbrev pub operand_level : Expr-F Expr → Operand
operand_level (Expr-F.Lit x) = Constant x
operand_level (Expr-F.Var v) = Slot v
operand_level _ = Popped

abbrev pub operand_of : Expr → Operand
operand_of e = operand_level (out-Expr e)

-- a leaf's value
abbrev pub leaf_value : Leaf → Kept → ℤ
leaf_value (leaf.Constant x) k = x
leaf_value (leaf.Slot v) k = slot k.state v

-- what an operator between two leaves gives
abbrev pub inner_run : Inner → Kept → ℕ → Run ℤ
inner_run inner k left = apply inner.op (leaf_value inner.left k) (leaf_value inner.right k) left

-- the value that is made
abbrev pub made : Work → Kept → ℕ → Run ℤ
made (Read a) k left = Value (read a k) left
made (Before f a) k left = unary f (read a k) left
made (Between f a b) k left = apply f (read a (after b k)) (read b k) left
made (Alone inner) k left = inner_run inner k left
made (Left f inner b) k left =
    on_value (inner_run inner k left) (λ x. apply f x (leaf_value b k))
made (Right f a inner) k left = on_value (inner_run inner k left) (apply f (read a k))

-- what is kept after it is made
abbrev pub kept_after : Work → Kept → Kept
kept_after (Read a) k = after a k
kept_after (Before f a) k = after a k
kept_after (Between f a b) k = after a (after b k)
kept_after (Alone inner) k = k
kept_after (Left f inner b) k = k
kept_after (Right f a inner) k = after a k

-- the expression is the leaf
abbrev pub IsLeaf : Expr → Leaf → Type 0
IsLeaf e leaf = (calls : Calls) (k : Kept) (left : ℕ) →
    expr calls e left k.state ≡ Value (leaf_value leaf k) left

-- the expression is the operator between two leaves
abbrev pub IsInner : Expr → Inner → Type 0
IsInner e inner = (calls : Calls) (k : Kept) (left : ℕ) →
    expr calls e left k.state ≡ inner_run inner k left

-- the expression's value is made at once, and nothing else that is kept changes
abbrev pub Makes : Expr → Work → Type 0
Makes e work = (calls : Calls) (k : Kept) (left : ℕ) →
    (expr calls e left k.state ≡ made work k left) × (kept_after work k ≡ k)

-- a turn of a loop; where there is no loop nothing is said
abbrev pub turn_level : Calls → Stmt-F Stmt → ℕ → State → Run Turn
turn_level calls (Stmt-F.While e body) = while_turn calls (Some e) (optional None) (stmt calls body)
turn_level calls (Stmt-F.DoWhile body e) = do_turn calls e (stmt calls body)
turn_level calls (Stmt-F.For first test change body) =
    while_turn calls test (optional (option_map (stmt calls) change)) (stmt calls body)
turn_level calls _ = λ left s. More

abbrev pub turn_of : Calls → Stmt → ℕ → State → Run Turn
turn_of calls t = turn_level calls (out-Stmt t)

-- the value of an expression goes to a destination
abbrev pub destination_to : List Rest → Back → Destination → Kept → ℤ → ℕ → Run ℤ
destination_to rests back (destination.Push p) k x left = at rests p (pushed k x) left
destination_to rests back (destination.Branch if_zero other) k x left =
    if is_zero x then at rests if_zero k left else at rests other k left
destination_to rests back (destination.Declare v p) k x left =
    at rests p (with_state k (take v k.state ++ x ∷ [])) left
destination_to rests back (destination.Assign v p) k x left =
    at rests p (with_state k (slice_set k.state v x)) left
destination_to rests back (destination.Return scopes) k x left = back x (ended k scopes) left

-- where a statement led goes to its exits
abbrev pub flow_to : List Rest → Back → Exits → Kept → Flow → ℕ → Run ℤ
flow_to rests back exits k (Next s) left = at rests exits.next (with_state k s) left
flow_to rests back exits k (Break s) left = at rests exits.broken (with_state k s) left
flow_to rests back exits k (Continue s) left = at rests exits.continued (with_state k s) left
flow_to rests back exits k (Return x) left = back x (ended k exits.scopes) left

-- where a turn led: the next turn is at `turn`
abbrev pub turn_to : List Rest → Back → ℕ → Exits → Kept → Turn → ℕ → Run ℤ
turn_to rests back turn exits k (Again s) left = at rests turn (with_state k s) left
turn_to rests back turn exits k (Ends flow) left = flow_to rests back exits k flow left

-- a work, whose value goes to a destination
abbrev pub do_to : List Rest → Back → Work → Destination → Rest
do_to rests back work destination k left =
    on_value (made work k left) (destination_to rests back destination (kept_after work k))

-- where it goes on after two leaves are compared
abbrev pub less_to : List Rest → Leaf → Leaf → ℕ → ℕ → Rest
less_to rests x y less other k left =
    at rests (if int_lt (leaf_value x k) (leaf_value y k) then less else other) k left

-- an operator between two leaves
abbrev pub between : BinOp → Leaf → Leaf → Work
between f x y = Alone (record { op = f; left = x; right = y })

-- the sum of the values of three slots
abbrev pub three : (a b c : ℕ) → Work
three a b c = Left Add (record { op = Add; left = leaf.Slot a; right = leaf.Slot b }) (leaf.Slot c)

-- the sum of a slot's value and an integer times another's
abbrev pub times : ℕ → ℤ → ℕ → Work
times a x b =
    Right Add (Slot a) (record { op = Mul; left = leaf.Constant x; right = leaf.Slot b })

-- an op, from what the lower positions come to
abbrev pub op_to : Calls → Back → List Rest → Op → Rest
op_to calls back rests (op.Do work destination) = do_to rests back work destination
op_to calls back rests (op.Test inner if_zero other) =
    do_to rests back (Alone inner) (destination.Branch if_zero other)
op_to calls back rests (op.Set inner v p) = do_to rests back (Alone inner) (destination.Assign v p)
op_to calls back rests (op.LessSlot v w less other) =
    less_to rests (leaf.Slot v) (leaf.Slot w) less other
op_to calls back rests (op.LessLiteral v x less other) =
    less_to rests (leaf.Slot v) (leaf.Constant x) less other
op_to calls back rests (op.LiteralLess x v less other) =
    less_to rests (leaf.Constant x) (leaf.Slot v) less other
op_to calls back rests (op.Raise v x p) =
    do_to rests back (between Add (leaf.Slot v) (leaf.Constant x)) (destination.Assign v p)
op_to calls back rests (op.Add v w u p) =
    do_to rests back (between Add (leaf.Slot v) (leaf.Slot w)) (destination.Assign u p)
op_to calls back rests (op.AddThree a b c v p) = do_to rests back (three a b c)
    (destination.Assign v p)
op_to calls back rests (op.AddTimes a x b v p) = do_to rests back (times a x b)
    (destination.Assign v p)
op_to calls back rests (op.SetLeft f inner b v p) =
    do_to rests back (Left f inner b) (destination.Assign v p)
op_to calls back rests (op.SetRight f v inner u p) =
    do_to rests back (Right f (Slot v) inner) (destination.Assign u p)
op_to calls back rests (op.PushInner inner p) = do_to rests back (Alone inner) (destination.Push p)
op_to calls back rests (op.Give f a b scopes) =
    do_to rests back (Between f a b) (destination.Return scopes)
op_to calls back rests (op.Call f count p) = λ k left.
    on_value (calls left f (reverse (take count k.values)))
    (λ x. at rests p (pushed (with_values k (drop count k.values)) x))
op_to calls back rests (op.Turn whole exits begin) = λ k left.
    on_value (loop (turn_of calls whole.now) left k.state) (flow_to rests back exits k)
op_to calls back rests (op.Enter p) = λ k left. at rests p (entered k) left
op_to calls back rests (op.Leave p) = λ k left. at rests p (left_scope k) left

-- an op that isn't the turns of a loop
abbrev pub IsPlain : Op → Type 0
IsPlain (op.Turn whole exits begin) = ⊥
IsPlain _ = Unit {0}

-- an op that isn't the turns of a loop, and what it comes to
pub record IsOp (o : Op) (run : Calls → Back → List Rest → Rest) : Type 0 where
  pub plain : IsPlain o
  pub comes : (calls : Calls) (back : Back) (rests : List Rest) (k : Kept) (left : ℕ) →
      op_to calls back rests o k left ≡ run calls back rests k left

-- one op more
abbrev pub with_op : Calls → Back → List Rest → Op → List Rest
with_op calls back rests op = rests ++ op_to calls back rests op ∷ []

-- what each position comes to
abbrev pub rests : Calls → Back → List Op → List Rest
rests calls back = fold (with_op calls back) []

-- a run of code, from a position
abbrev pub code_run : Calls → Back → List Op → ℕ → Rest
code_run calls back ops p = at (rests calls back ops) p

-- code that leads to an operand, and then goes on
abbrev pub operand_run : List Op → ℕ → Expr → Calls → Back → Rest
operand_run ops p e calls back k left =
    on_value (expr calls e left k.state) (λ x.
    code_run calls back ops p (before (operand_of e) k x))

-- an expression, whose value goes to a destination
abbrev pub expr_run : List Op → Destination → Expr → Calls → Back → Rest
expr_run ops destination e calls back k left =
    on_value (expr calls e left k.state) (destination_to (rests calls back ops) back destination k)

-- the right operand of an operator, whose value goes to a destination
abbrev pub right_run : List Op → Destination → BinOp → Operand → Expr → Calls → Back → Rest
right_run ops destination op a b calls back k left =
    on_value (expr calls b left k.state) (λ y n.
    on_value (apply op (read a k) y n) (destination_to (rests calls back ops) back destination
    (after a k)))

-- an operator between two operands, whose value goes to a destination
abbrev pub binary_run : List Op → Destination → BinOp → Expr → Expr → Calls → Back → Rest
binary_run ops destination op a b calls back k left =
    on_value (on_value (expr calls a left k.state)
    (λ x. with_left op x (λ m. expr calls b m k.state)))
    (destination_to (rests calls back ops) back destination k)

-- arguments, of which the last is on top
abbrev pub arguments_run : List Op → ℕ → List Expr → Calls → Back → Rest
arguments_run ops p es calls back k left =
    on_value (values (map (expr calls) es) left k.state)
    (λ xs. code_run calls back ops p (with_values k (reverse xs ++ k.values)))

-- what an execution leads to
abbrev pub flow_run : List Op → Exits → (Calls → Execution) → Calls → Back → Rest
flow_run ops exits execution calls back k left =
    on_value (execution calls left k.state) (flow_to (rests calls back ops) back exits k)

abbrev pub stmt_run : List Op → Exits → Stmt → Calls → Back → Rest
stmt_run ops exits t = flow_run ops exits (λ calls. stmt calls t)

-- statements in their order
abbrev pub sequence_run : List Op → Exits → List Stmt → Calls → Back → Rest
sequence_run ops exits ts = flow_run ops exits (λ calls. in_order (map (stmt calls) ts))

-- a condition, with where it goes on
abbrev pub condition_run : List Op → ℕ → ℕ → Option Expr → Calls → Back → Rest
condition_run ops ended holds test calls back k left =
    on_value (condition calls test left k.state)
    (destination_to (rests calls back ops) back (destination.Branch ended holds) k)

-- a `for`: its first part, and then its turns, in a scope
abbrev pub for_loop : Calls → List Stmt → (ℕ → State → Run Turn) → Execution
for_loop calls first turn left s =
    on_value (on_value (in_order (map (stmt calls) first) left s) (on_next (loop turn)))
    (leave (length s))

-- the positions at which a destination goes on are there
abbrev pub DestinationWithin : ℕ → Destination → Type 0
DestinationWithin n (destination.Push p) = p < n
DestinationWithin n (destination.Branch if_zero other) = (if_zero < n) × (other < n)
DestinationWithin n (destination.Declare v p) = p < n
DestinationWithin n (destination.Assign v p) = p < n
DestinationWithin n (destination.Return scopes) = Unit {0}

-- the positions of exits are there
pub record ExitsWithin (n : ℕ) (exits : Exits) : Type 0 where
  pub next : exits.next < n
  pub broken : exits.broken < n
  pub continued : exits.continued < n
  pub scopes : exits.scopes ≤ n

-- the op at `turn` is the turns of a loop, and where a turn begins, it comes to a turn
pub record TurnIsRight (ops : List Op) (turn : ℕ) (whole : Stmt) (exits : Exits) (begin : ℕ) : Type
    0 where
  pub begins : begin < length ops
  pub leads : ExitsWithin turn exits
  pub turns : (calls : Calls) (back : Back) (k : Kept) (left : ℕ) →
      code_run calls back ops begin k left
      ≡ on_value (turn_of calls whole left k.state)
      (turn_to (rests calls back ops) back turn exits k)

-- each loop from a position on is right
abbrev pub TurnsFrom : ℕ → List Op → Type 0
TurnsFrom first ops = (turn : ℕ) (whole : Bor Stmt) (exits : Exits) (begin : ℕ) → first ≤ turn
    → slice_get ops turn ≡ Some (op.Turn whole exits begin) →
    TurnIsRight ops turn whole.now exits begin

-- code was added, and a position comes to this run
pub record Leads (old new : List Op) (p : ℕ) (run : Calls → Back → Rest) : Type 0 where
  pub more : List Op
  pub longer : new ≡ old ++ more
  pub within : p < length new
  pub turns : TurnsFrom (length old) new
  pub comes : (calls : Calls) (back : Back) (k : Kept) (left : ℕ) →
      code_run calls back new p k left ≡ run calls back k left

-- code was added from which the value on top goes to a destination
pub record TopLeads (old new : List Op) (p : ℕ) (destination : Destination) : Type 0 where
  pub more : List Op
  pub longer : new ≡ old ++ more
  pub within : p < length new
  pub turns : TurnsFrom (length old) new
  pub comes : (calls : Calls) (back : Back) (k : Kept) (x : ℤ) (left : ℕ)
      → code_run calls back new p (pushed k x) left ≡
      destination_to (rests calls back old) back destination k x left

-- code was added that ends a scope at each exit
pub record ScopeLeads (old new : List Op) (exits inner : Exits) : Type 0 where
  pub more : List Op
  pub longer : new ≡ old ++ more
  pub within : ExitsWithin (length new) inner
  pub turns : TurnsFrom (length old) new
  pub comes : (calls : Calls) (back : Back) (k : Kept) (count : ℕ) (flow : Flow) (left : ℕ)
      → flow_to (rests calls back new) back inner (with_scopes k (count ∷ k.scopes)) flow left
      ≡ on_value (leave count flow left) (flow_to (rests calls back old) back exits k)

-- a function: its body, and then what its integer comes to
abbrev pub function_run : Function → Calls → Back → Rest
function_run function calls back k left =
    on_value (on_value (in_order (map (stmt calls) function.body) left k.state) returned)
    (λ x. back x (ended k 0))

-- a position comes to a function
pub record FunctionIsRight (ops : List Op) (p : ℕ) (function : Function) : Type 0 where
  pub within : p < length ops
  pub comes : (calls : Calls) (back : Back) (k : Kept) (left : ℕ) →
      code_run calls back ops p k left ≡ function_run function calls back k left

-- the positions come to the functions
pub record FunctionsAreRight (ops : List Op) (entries : List ℕ) (functions : List Function) : Type 0
  where
    pub count : length entries ≡ length functions
    pub each : (f entry : ℕ) (function : Function) → slice_get functions f ≡ Some function →
        slice_get entries f ≡ Some entry
        → FunctionIsRight ops entry function

-- the code of functions was added
pub record FunctionsLead (old new : List Op) (entries : List ℕ) (functions : List Function) : Type 0
  where
    pub more : List Op
    pub longer : new ≡ old ++ more
    pub turns : TurnsFrom (length old) new
    pub right : FunctionsAreRight new entries functions

-- an expression, whose value ends the run
abbrev pub whole_run : Expr → Calls → Back → Rest
whole_run e calls back k left = on_value (expr calls e left k.state) (λ x. back x (ended k 0))

-- a position comes to the expression, if there is one
abbrev pub WholeIsRight : List Op → Option Expr → Option ℕ → Type 0
WholeIsRight ops None None = Unit {0}
WholeIsRight ops (Some e) (Some p) =
    (calls : Calls) (back : Back) (k : Kept) (left : ℕ) → code_run calls back ops p k left ≡
    whole_run e calls back k left
WholeIsRight ops _ _ = ⊥

-- the code of an expression was added, if there is one
pub record WholeLeads (old new : List Op) (whole : Option Expr) (start : Option ℕ) : Type 0 where
  pub more : List Op
  pub longer : new ≡ old ++ more
  pub turns : TurnsFrom (length old) new
  pub right : WholeIsRight new whole start

-- the code is that of the program and of the expression
pub record IsCode (code : Code) : Type 0 where
  pub turns : TurnsFrom 0 code.ops.items
  pub functions : FunctionsAreRight code.ops.items code.entries.items code.program.now.functions
  pub whole : WholeIsRight code.ops.items (option_copied code.whole) code.start
