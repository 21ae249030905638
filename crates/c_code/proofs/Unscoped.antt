-- A statement that declares nothing of its own leaves no more slots than there were, so that a
-- block of such statements needs no scope.
use Rattle.std.proofs.Common.{◌≡◌, ℕ, zero, suc, ◌≤◌, ℤ, Bool, true, false, if◌then◌else◌, Option, Some, None, List, [], ◌∷◌, map, length, take, refl, ap, ◌∙◌, sym, subst, arith}
use Rattle.std.specs.Prelude.{slice_set}
use Rattle.std.specs.Bool.{OnTrue}
use Rattle.std.proofs.lemmas.List.{take_all}
use Rattle.c_ast.specs.declared.expr.Expr.{Expr}
use Rattle.c_ast.specs.declared.stmt.Stmt.{Stmt}
use Rattle.c_ast.specs.declared.stmt.Stmt.TheVariants as syntax
use Rattle.c_meaning.specs.Outcomes.{State, Flow, Next, Break, Continue, Return}
use Rattle.c_meaning.specs.Expressions.{is_zero}
use Rattle.c_meaning.specs.Statements.{Turn, Again, Ends}
use Rattle.c_meaning.specs.Runs.{Run, Value, DivisionError, More, Over, on_value}
use Rattle.c_meaning.specs.CountedExpressions.{Calls, expr}
use Rattle.c_meaning.specs.CountedStatements.{Execution, optional, on_next, in_order, leave, on_again, turns, loop, after_body, after_change, condition, while_turn, do_turn, stmt}
use Rattle.c_code.specs.Scopes.{FlowWithin, RunWithin, StaysWithin, AddsNoSlot, AddNoSlots}
use Rattle.c_code.specs.Flat.{Leads, flow_to, rests, sequence_run, stmt_run}
use Rattle.c_code.specs.declared.code.Exits.{Exits}
use Rattle.c_code.specs.declared.code.Op.{Op}
use Rattle.c_meaning.proofs.CountedEquations.{stmt-Empty, stmt-Assign, stmt-If-None, stmt-If-Some, stmt-While, stmt-DoWhile, stmt-For-None, stmt-For-Some, stmt-Break, stmt-Continue, stmt-Return, stmt-Block}
use Rattle.c_code.proofs.Leading.{leads-as}
use Rattle.c_code.proofs.Slots.{length-most}

-- a turn leaves no more than n slots
abbrev TurnWithin : ℕ → Turn → Type 0
TurnWithin count (Again s) = length s ≤ count
TurnWithin count (Ends flow) = FlowWithin count flow

abbrev TurnRunWithin : ℕ → Run Turn → Type 0
TurnRunWithin count (Value turn left) = TurnWithin count turn
TurnRunWithin count DivisionError = Unit {0}
TurnRunWithin count More = Unit {0}
TurnRunWithin count Over = Unit {0}

abbrev TurnStays : (ℕ → State → Run Turn) → Type 0
TurnStays turn = (count left : ℕ) (s : State) → length s ≤ count →
    TurnRunWithin count (turn left s)

module _ (count : ℕ) where
  -- what goes on from a number, from a flow, from a turn
  within-number : (r : Run ℤ) (f : ℤ → ℕ → Run Flow) → ((x : ℤ) (m : ℕ) → RunWithin count (f x m))
      → RunWithin count (on_value r f)
  within-number (Value x m) f each = each x m
  within-number DivisionError f each = tt
  within-number More f each = tt
  within-number Over f each = tt

  within-flow : (r : Run Flow) (f : Flow → ℕ → Run Flow) → RunWithin count r
      → ((flow : Flow) (m : ℕ) → FlowWithin count flow → RunWithin count (f flow m))
      → RunWithin count (on_value r f)
  within-flow (Value flow m) f here each = each flow m here
  within-flow DivisionError f here each = tt
  within-flow More f here each = tt
  within-flow Over f here each = tt

  turn-number : (r : Run ℤ) (f : ℤ → ℕ → Run Turn) → ((x : ℤ) (m : ℕ) →
      TurnRunWithin count (f x m))
      → TurnRunWithin count (on_value r f)
  turn-number (Value x m) f each = each x m
  turn-number DivisionError f each = tt
  turn-number More f each = tt
  turn-number Over f each = tt

  turn-flow : (r : Run Flow) (f : Flow → ℕ → Run Turn) → RunWithin count r
      → ((flow : Flow) (m : ℕ) → FlowWithin count flow → TurnRunWithin count (f flow m))
      → TurnRunWithin count (on_value r f)
  turn-flow (Value flow m) f here each = each flow m here
  turn-flow DivisionError f here each = tt
  turn-flow More f here each = tt
  turn-flow Over f here each = tt

  within-turn : (r : Run Turn) (f : Turn → ℕ → Run Flow) → TurnRunWithin count r
      → ((turn : Turn) (m : ℕ) → TurnWithin count turn → RunWithin count (f turn m))
      → RunWithin count (on_value r f)
  within-turn (Value turn m) f here each = each turn m here
  within-turn DivisionError f here each = tt
  within-turn More f here each = tt
  within-turn Over f here each = tt

  next-within : (part : Execution) → StaysWithin part → (flow : Flow) (m : ℕ) →
      FlowWithin count flow
      → RunWithin count (on_next part flow m)
  next-within part stays (Next s) m here = stays count m s here
  next-within part stays (Break s) m here = here
  next-within part stays (Continue s) m here = here
  next-within part stays (Return x) m here = tt

  again-within : (part : Execution) → ((m : ℕ) (s : State) → length s ≤ count →
      RunWithin count (part m s))
      → (t : Turn) (m : ℕ) → TurnWithin count t → RunWithin count (on_again part t m)
  again-within part stays (Again s) m here = stays m s here
  again-within part stays (Ends flow) m here = here

  turns-within : (turn : ℕ → State → Run Turn) → TurnStays turn → (most left : ℕ) (s : State) →
      length s ≤ count
      → RunWithin count (turns turn most left s)
  turns-within turn stays zero left s here = tt
  turns-within turn stays (suc most) zero s here = tt
  turns-within turn stays (suc most) (suc left) s here =
      within-turn (turn left s) (on_again (turns turn most)) (stays count left s here)
      (again-within (turns turn most) (λ m t few. turns-within turn stays most m t few))

  either-within : (b : Bool) (first second : Run Flow) → RunWithin count first →
      RunWithin count second
      → RunWithin count (if b then first else second)
  either-within true first second one two = one
  either-within false first second one two = two

  turn-either : (b : Bool) (first second : Run Turn) → TurnRunWithin count first →
      TurnRunWithin count second
      → TurnRunWithin count (if b then first else second)
  turn-either true first second one two = one
  turn-either false first second one two = two

  change-within : (flow : Flow) (m : ℕ) → FlowWithin count flow →
      TurnRunWithin count (after_change flow m)
  change-within (Next s) m here = here
  change-within (Break s) m here = here
  change-within (Continue s) m here = here
  change-within (Return x) m here = tt

  body-within : (rest : ℕ → State → Run Turn) → TurnStays rest → (flow : Flow) (m : ℕ) →
      FlowWithin count flow
      → TurnRunWithin count (after_body rest flow m)
  body-within rest stays (Next s) m here = stays count m s here
  body-within rest stays (Continue s) m here = stays count m s here
  body-within rest stays (Break s) m here = here
  body-within rest stays (Return x) m here = tt

  -- what a scope ends with
  leave-within : (most : ℕ) → most ≤ count → (flow : Flow) (m : ℕ) →
      RunWithin count (leave most flow m)
  leave-within most few (Next s) m = let le = length-most most s in omega arith
  leave-within most few (Break s) m = let le = length-most most s in omega arith
  leave-within most few (Continue s) m = let le = length-most most s in omega arith
  leave-within most few (Return x) m = tt

  scope-within : (most : ℕ) → most ≤ count → (r : Run Flow) →
      RunWithin count (on_value r (leave most))
  scope-within most few (Value flow m) = leave-within most few flow m
  scope-within most few DivisionError = tt
  scope-within most few More = tt
  scope-within most few Over = tt

loop-stays : (turn : ℕ → State → Run Turn) → TurnStays turn → StaysWithin (loop turn)
loop-stays turn stays count left s here = turns-within count turn stays left left s here

nothing-stays : StaysWithin (optional None)
nothing-stays count left s here = here

while-stays : (calls : Calls) (test : Option Expr) (change body : Execution) → StaysWithin change →
    StaysWithin body
    → TurnStays (while_turn calls test change body)
while-stays calls test change body changes bodies count left s here =
    turn-number count (condition calls test left s) _ (λ x m.
    turn-either count (is_zero x) (Value (Ends (Next s)) m) _ here
    (turn-flow count (body m s) _ (bodies count m s here)
    (body-within count _ (λ most n t few. turn-flow most (change n t) after_change
    (changes most n t few) (change-within most)))))

do-stays : (calls : Calls) (test : Expr) (body : Execution) → StaysWithin body →
    TurnStays (do_turn calls test body)
do-stays calls test body bodies count left s here =
    turn-flow count (body left s) _ (bodies count left s here)
    (body-within count _ (λ most m t few. turn-number most (expr calls test m t) _ (λ x n.
    turn-either most (is_zero x) (Value (Ends (Next t)) n) (Value (Again t) n) few few)))

-- both sides of an equation
module _ (t : Stmt) (run : Calls → Execution) (same : (calls : Calls) (left : ℕ) (s : State) →
    stmt calls t left s ≡ run calls left s) where
  adds-none : ((calls : Calls) → StaysWithin (run calls)) → AddsNoSlot t
  adds-none stays calls count left s here =
      subst (λ (r : Run Flow). RunWithin count r) (sym (same calls left s))
      (stays calls count left s here)

pub none-Empty : AddsNoSlot syntax.Empty
none-Empty = adds-none syntax.Empty _ stmt-Empty (λ calls count left s here. here)

pub none-Break : (token : ℕ) → AddsNoSlot (syntax.Break token)
none-Break token =
    adds-none (syntax.Break token) _ (λ calls. stmt-Break calls token)
    (λ calls count left s here. here)

pub none-Continue : (token : ℕ) → AddsNoSlot (syntax.Continue token)
none-Continue token =
    adds-none (syntax.Continue token) _ (λ calls. stmt-Continue calls token)
    (λ calls count left s here. here)

pub none-Return : (e : Expr) → AddsNoSlot (syntax.Return e)
none-Return e =
    adds-none (syntax.Return e) _ (λ calls. stmt-Return calls e)
    (λ calls count left s here. within-number count (expr calls e left s) _ (λ x m. tt))

length-set : (s : State) (k : ℕ) (x : ℤ) → length (slice_set s k x) ≡ length s
length-set [] zero x = refl
length-set [] (suc k) x = refl
length-set (y ∷ s) zero x = refl
length-set (y ∷ s) (suc k) x = ap suc (length-set s k x)

pub none-Assign : (k : ℕ) (e : Expr) → AddsNoSlot (syntax.Assign k e)
none-Assign k e =
    adds-none (syntax.Assign k e) _ (λ calls. stmt-Assign calls k e)
    (λ calls count left s here. within-number count (expr calls e left s) _
    (λ x m. let same = length-set s k x in omega arith))

pub none-If-None : (e : Expr) (a : Stmt) → AddsNoSlot a → AddsNoSlot (syntax.If e a None)
none-If-None e a one =
    adds-none (syntax.If e a None) _ (λ calls. stmt-If-None calls e a)
    (λ calls count left s here. within-number count (expr calls e left s) _
    (λ x m. either-within count (is_zero x) _ _ here (one calls count m s here)))

pub none-If-Some : (e : Expr) (a b : Stmt) → AddsNoSlot a → AddsNoSlot b →
    AddsNoSlot (syntax.If e a (Some b))
none-If-Some e a b one two =
    adds-none (syntax.If e a (Some b)) _ (λ calls. stmt-If-Some calls e a b)
    (λ calls count left s here. within-number count (expr calls e left s) _
    (λ x m. either-within count (is_zero x) _ _ (two calls count m s here)
    (one calls count m s here)))

pub none-While : (e : Expr) (body : Stmt) → AddsNoSlot body → AddsNoSlot (syntax.While e body)
none-While e body one =
    adds-none (syntax.While e body) _ (λ calls. stmt-While calls e body)
    (λ calls. loop-stays _
    (while-stays calls (Some e) (optional None) (stmt calls body) nothing-stays (one calls)))

pub none-DoWhile : (body : Stmt) (e : Expr) → AddsNoSlot body →
    AddsNoSlot (syntax.DoWhile body e)
none-DoWhile body e one =
    adds-none (syntax.DoWhile body e) _ (λ calls. stmt-DoWhile calls body e)
    (λ calls. loop-stays _ (do-stays calls e (stmt calls body) (one calls)))

pub none-For : (first : List Stmt) (test : Option Expr) (change : Option Stmt) (body : Stmt) →
    AddsNoSlot (syntax.For first test change body)
none-For first test None body =
    adds-none (syntax.For first test None body) _ (λ calls. stmt-For-None calls first test body)
    (λ calls count left s here. scope-within count (length s) here _)
none-For first test (Some change) body =
    adds-none (syntax.For first test (Some change) body) _
    (λ calls. stmt-For-Some calls first test change body)
    (λ calls count left s here. scope-within count (length s) here _)

pub none-Block : (inner : List Stmt) → AddsNoSlot (syntax.Block inner)
none-Block inner =
    adds-none (syntax.Block inner) _ (λ calls. stmt-Block calls inner)
    (λ calls count left s here. scope-within count (length s) here _)

-- what is said of a statement by its form
pub of-form : (b : Bool) (a t form : Stmt) → t ≡ form → (AddsNoSlot a → AddsNoSlot form) →
    OnTrue b (AddsNoSlot a) → OnTrue b (AddsNoSlot t)
of-form true a t form is all part = subst (λ (u : Stmt). AddsNoSlot u) (sym is) (all part)
of-form false a t form is all part = tt

-- statements in their order
pub none-nothing : AddNoSlots []
none-nothing calls count left s here = here

pub none-more : (t : Stmt) (ts : List Stmt) → AddsNoSlot t → AddNoSlots ts → AddNoSlots (t ∷ ts)
none-more t ts one rest calls count left s here =
    within-flow count (stmt calls t left s) _ (one calls count left s here)
    (next-within count _ (rest calls))

-- the end of a scope changes nothing where no slot was added
module _ (run : Flow → ℕ → Run ℤ) (count : ℕ)
    (same : (s : State) (m : ℕ) → length s ≤ count → (run (Next (take count s)) m ≡
    run (Next s) m) × ((run (Break (take count s)) m ≡ run (Break s) m) ×
    (run (Continue (take count s)) m ≡ run (Continue s) m))) where
  unscoped : (r : Run Flow) → RunWithin count r → on_value r run ≡
      on_value (on_value r (leave count)) run
  unscoped (Value (Next s) m) here = sym (same s m here).0
  unscoped (Value (Break s) m) here = sym (same s m here).1.0
  unscoped (Value (Continue s) m) here = sym (same s m here).1.1
  unscoped (Value (Return x) m) here = refl
  unscoped DivisionError here = refl
  unscoped More here = refl
  unscoped Over here = refl

-- a block of statements that add no slot
pub plain-block-leads : (old new : List Op) (exits : Exits) (p : ℕ) (inner : List Stmt) →
    AddNoSlots inner → Leads old new p (sequence_run old exits inner)
    → Leads old new p (stmt_run old exits (syntax.Block inner))
plain-block-leads old new exits p inner none leads =
    leads-as old new p (sequence_run old exits inner) (stmt_run old exits (syntax.Block inner))
    leads (λ calls back k left.
    unscoped (flow_to (rests calls back old) back exits k) (length k.state)
    (λ s m few. let all = take_all (length k.state) s few in (
      ap (λ (t : State). flow_to (rests calls back old) back exits k (Next t) m) all,
      (
        ap (λ (t : State). flow_to (rests calls back old) back exits k (Break t) m) all,
        ap (λ (t : State). flow_to (rests calls back old) back exits k (Continue t) m) all,
      ),
    ))
    (in_order (map (stmt calls) inner) left k.state)
    (none calls (length k.state) left k.state (omega arith))
    ∙ sym (ap (λ (r : Run Flow). on_value r (flow_to (rests calls back old) back exits k))
    (stmt-Block calls inner left k.state)))
