-- The code of a statement, from the code of its parts.
use Rattle.std.proofs.Common.{◌≡◌, ℕ, suc, ◌+◌, ◌<◌, ◌≤◌, true, false, if◌then◌else◌, Option, Some, None, List, [], ◌∷◌, ◌++◌, pos, map, length, refl, ap, ◌∙◌, sym, subst, arith, add-one, get_or, ◌-◌}
use Rattle.std.specs.Prelude.{take, drop, slice_set}
use Rattle.std.specs.Option.{option_map}
use Rattle.std.proofs.Math.Seq.{drop-cons}
use Rattle.std.proofs.Math.ListN.{length-append}
use Rattle.c_ast.specs.declared.expr.Expr.{Expr}
use Rattle.c_ast.specs.declared.stmt.Stmt.{Stmt}
use Rattle.c_ast.specs.declared.stmt.Stmt.TheVariants as syntax
use Rattle.c_meaning.specs.Outcomes.{State, Flow, Next, Break, Continue, Return}
use Rattle.c_meaning.specs.Expressions.{is_zero}
use Rattle.c_meaning.specs.Statements.{Turn}
use Rattle.c_meaning.specs.Runs.{Run, Value, on_value}
use Rattle.c_meaning.specs.CountedExpressions.{Calls, expr}
use Rattle.c_meaning.specs.CountedStatements.{Execution, optional, on_next, in_order, leave, loop, while_turn, do_turn, stmt}
use Rattle.c_code.specs.Stores.{Kept, with_state, entered}
use Rattle.c_code.specs.Flat.{Rest, Back, at, op_to, rests, code_run, flow_to, turn_of, for_loop}
use Rattle.c_code.specs.Flat.{ExitsWithin, Leads, ScopeLeads, expr_run, flow_run, stmt_run, sequence_run, condition_run}
use Rattle.c_code.specs.declared.code.Operand.TheVariants.{Constant}
use Rattle.c_code.specs.declared.code.Work.TheVariants.{Read}
use Rattle.c_code.specs.declared.code.Destination.TheVariants as destination
use Rattle.c_code.specs.declared.code.Exits.{Exits}
use Rattle.c_code.specs.declared.code.Op.{Op}
use Rattle.c_code.specs.declared.code.Op.TheVariants as op
use Rattle.c_meaning.proofs.CountedEquations.{stmt-Empty, stmt-Declare-None, stmt-Declare-Some, stmt-Assign, stmt-If-None, stmt-If-Some, stmt-While, stmt-DoWhile, stmt-For-None, stmt-For-Some, stmt-Break, stmt-Continue, stmt-Return, stmt-Block}
use Rattle.c_meaning.proofs.Runs.{on_value-on_value, on_value-same, on_value-then}
use Rattle.c_code.proofs.Leading.{stays, flow-stays, leads-on, leads-as, leads-here, leads-after, longer-length}

-- a turn of each kind of loop
pub turn-While : (calls : Calls) (e : Expr) (body : Stmt) → turn_of calls (syntax.While e body) ≡
    while_turn calls (Some e) (optional None) (stmt calls body)
turn-While calls e body = rw (syntax.outs-While e body) refl

pub turn-DoWhile : (calls : Calls) (body : Stmt) (e : Expr) →
    turn_of calls (syntax.DoWhile body e) ≡ do_turn calls e (stmt calls body)
turn-DoWhile calls body e = rw (syntax.outs-DoWhile body e) refl

pub turn-For : (calls : Calls) (first : List Stmt) (test : Option Expr) (change : Option Stmt)
    (body : Stmt)
    → turn_of calls (syntax.For first test change body) ≡
    while_turn calls test (optional (option_map (stmt calls) change)) (stmt calls body)
turn-For calls first test change body = rw (syntax.outs-For first test change body) refl

-- exits with another place for what is next
abbrev pub with_next : Exits → ℕ → Exits
with_next exits p =
    record { next = p; broken = exits.broken; continued = exits.continued; scopes = exits.scopes }

-- exits of the body of a loop
abbrev pub inside : Exits → ℕ → Exits
inside exits p = record { next = p; broken = exits.next; continued = p; scopes = exits.scopes }

-- where a statement leads doesn't depend on the slots before it
pub flow-state : (rs : List Rest) (back : Back) (exits : Exits) (k : Kept) (s : State) (flow : Flow)
    (m : ℕ)
    → flow_to rs back exits (with_state k s) flow m ≡ flow_to rs back exits k flow m
flow-state rs back exits k s (Next t) m = refl
flow-state rs back exits k s (Break t) m = refl
flow-state rs back exits k s (Continue t) m = refl
flow-state rs back exits k s (Return x) m = refl

-- what follows a statement that led to next
module _ (old more mid : List Op) (longer : mid ≡ old ++ more) (exits : Exits)
    (within : ExitsWithin (length old) exits) (q : ℕ) (calls : Calls) (back : Back)
    (run : Execution)
    (comes : (k : Kept) (left : ℕ) → code_run calls back mid q k left ≡
    on_value (run left k.state) (flow_to (rests calls back old) back exits k)) where
  through-next : (k : Kept) (flow : Flow) (m : ℕ)
      → flow_to (rests calls back mid) back (with_next exits q) k flow m ≡
      on_value (on_next run flow m) (flow_to (rests calls back old) back exits k)
  through-next k (Next s) m =
      comes (with_state k s) m ∙ on_value-same (run m s) _ _
      (λ flow n. flow-state (rests calls back old) back exits k s flow n)
  through-next k (Break s) m =
      stays old more mid longer exits.broken within.broken calls back (with_state k s) m
  through-next k (Continue s) m =
      stays old more mid longer exits.continued within.continued calls back (with_state k s) m
  through-next k (Return x) m = refl

  pub then-next : (k : Kept) (r : Run Flow)
      → on_value r (flow_to (rests calls back mid) back (with_next exits q) k) ≡
      on_value (on_value r (on_next run)) (flow_to (rests calls back old) back exits k)
  then-next k r =
      on_value-same r _ _ (through-next k) ∙ sym
      (on_value-on_value r (on_next run) (flow_to (rests calls back old) back exits k))

-- a statement before others
pub sequence-leads : (old mid new : List Op) (exits : Exits) → ExitsWithin (length old) exits →
    (t : Stmt) (ts : List Stmt) (q p : ℕ)
    → Leads old mid q (sequence_run old exits ts) →
    Leads mid new p (stmt_run mid (with_next exits q) t)
    → Leads old new p (sequence_run old exits (t ∷ ts))
sequence-leads old mid new exits within t ts q p rest one =
    leads-on old mid new q p (sequence_run old exits ts) (stmt_run mid (with_next exits q) t)
    (sequence_run old exits (t ∷ ts)) rest one
    (λ calls back k left. then-next old rest.more mid rest.longer exits within q calls back
    (in_order (map (stmt calls) ts)) (rest.comes calls back) k
    (stmt calls t left k.state))

scope-comes : (old m1 m2 new : List Op) (exits inner : Exits) → ExitsWithin (length old) exits →
    inner.scopes ≡ exits.scopes + 1
    → (one : Leads old m1 inner.next (λ calls back.
    op_to calls back (rests calls back old) (op.Leave exits.next)))
    → (two : Leads m1 m2 inner.broken (λ calls back.
    op_to calls back (rests calls back m1) (op.Leave exits.broken)))
    → (three : Leads m2 new inner.continued (λ calls back.
    op_to calls back (rests calls back m2) (op.Leave exits.continued)))
    → (after_one : Leads m1 new inner.continued
    (λ calls back. op_to calls back (rests calls back m2) (op.Leave exits.continued)))
    → (first : Leads old m2 inner.broken (λ calls back.
    op_to calls back (rests calls back m1) (op.Leave exits.broken)))
    → (calls : Calls) (back : Back) (k : Kept) (count left : ℕ) (flow : Flow)
    → flow_to (rests calls back new) back inner
    (let j : Kept = record {
      values = k.values;
      below = k.below;
      state = k.state;
      scopes =
          count ∷ k.scopes;
    } in j) flow left
    ≡ on_value (leave count flow left) (flow_to (rests calls back old) back exits k)
scope-comes old m1 m2 new exits inner within deeper one two three after_one first calls back k count
    left (Next s) =
    stays m1 after_one.more new after_one.longer inner.next one.within calls back _ left ∙
    one.comes calls back _ left
scope-comes old m1 m2 new exits inner within deeper one two three after_one first calls back k count
    left (Break s) =
    stays m2 three.more new three.longer inner.broken two.within calls back _ left
    ∙ (two.comes calls back _ left ∙ stays old one.more m1 one.longer exits.broken within.broken
    calls back _ left)
scope-comes old m1 m2 new exits inner within deeper one two three after_one first calls back k count
    left (Continue s) =
    three.comes calls back _ left ∙ stays old first.more m2 first.longer exits.continued
    within.continued calls back _ left
scope-comes old m1 m2 new exits inner within deeper one two three after_one first calls back k count
    left (Return x) =
    ap (λ (n : ℕ). back x (let j : Kept = record
    { values = k.values; below = k.below; state = []; scopes = drop n (count ∷ k.scopes) } in j)
    left)
    (deeper ∙ add-one exits.scopes)

-- the end of a scope at each exit
pub scope-leads : (old m1 m2 new : List Op) (exits inner : Exits) → ExitsWithin (length old) exits →
    inner.scopes ≡ exits.scopes + 1
    → Leads old m1 inner.next (λ calls back. op_to calls back (rests calls back old)
    (op.Leave exits.next))
    → Leads m1 m2 inner.broken (λ calls back.
    op_to calls back (rests calls back m1) (op.Leave exits.broken))
    → Leads m2 new inner.continued (λ calls back.
    op_to calls back (rests calls back m2) (op.Leave exits.continued))
    → length old < length new → ScopeLeads old new exits inner
scope-leads old m1 m2 new exits inner within deeper one two three grows =
    let first : Leads old m2 inner.broken (λ calls back.
    op_to calls back (rests calls back m1) (op.Leave exits.broken)) =
    leads-on old m1 m2 inner.next inner.broken _ _ _ one two (λ calls back k left. refl) in
    let all : Leads old new inner.continued (λ calls back.
    op_to calls back (rests calls back m2) (op.Leave exits.continued)) =
    leads-on old m2 new inner.broken inner.continued _ _ _ first three (λ calls back k left. refl)
    in
    let after_one : Leads m1 new inner.continued
    (λ calls back. op_to calls back (rests calls back m2) (op.Leave exits.continued)) =
    leads-on m1 m2 new inner.broken inner.continued _ _ _ two three (λ calls back k left. refl) in
    let le1 = longer-length m1 after_one.more new after_one.longer in
    let le2 = longer-length m2 three.more new three.longer in
    let w1 = one.within in
    let w2 = two.within in
    let w3 = three.within in
    let deep : inner.scopes ≤ length new = let low = within.scopes in omega arith in
    record {
      more = all.more;
      longer = all.longer;
      within =
          record {
            next = omega arith;
            broken = omega arith;
            continued = three.within;
            scopes =
                deep;
          };
      turns = all.turns;
      comes =
          λ calls back k count flow left. scope-comes old m1 m2 new exits inner within deeper one
          two three after_one first calls back k count left flow;
    }

module _ (old m1 : List Op) (exits inner : Exits) (scope : ScopeLeads old m1 exits inner) where
  -- what runs in a scope
  then-scope : (calls : Calls) (back : Back) (k : Kept) (r : Run Flow)
      → on_value r (flow_to (rests calls back m1) back inner (entered k)) ≡
      on_value (on_value r (leave (length k.state)))
      (flow_to (rests calls back old) back exits k)
  then-scope calls back k r =
      on_value-same r _ _ (λ flow m. scope.comes calls back k (length k.state) flow m)
      ∙ sym (on_value-on_value r (leave (length k.state))
      (flow_to (rests calls back old) back exits k))

  pub block-leads : (m2 new : List Op) (ts : List Stmt) (begun p : ℕ) →
      Leads m1 m2 begun (sequence_run m1 inner ts)
      → Leads m2 new p (λ calls back. op_to calls back (rests calls back m2) (op.Enter begun))
      → Leads old new p (stmt_run old exits (syntax.Block ts))
  block-leads m2 new ts begun p two three =
      leads-on old m2 new begun p (sequence_run m1 inner ts) _
      (stmt_run old exits (syntax.Block ts))
      (leads-after old m1 m2 scope.more scope.longer scope.turns begun (sequence_run m1 inner ts)
      (sequence_run m1 inner ts) two (λ calls back k left. refl)) three
      (λ calls back k left. two.comes calls back (entered k) left
      ∙ (then-scope calls back k (in_order (map (stmt calls) ts) left k.state)
      ∙ sym (ap (λ (r : Run Flow). on_value r (flow_to (rests calls back old) back exits k))
      (stmt-Block calls ts left k.state))))

  pub for-leads : (m2 m3 new : List Op) (whole : Stmt) (ts : List Stmt) (turn begun p : ℕ)
      → Leads m1 m2 turn (flow_run m1 inner (λ calls. loop (turn_of calls whole)))
      → Leads m2 m3 begun (sequence_run m2 (with_next inner turn) ts)
      → Leads m3 new p (λ calls back. op_to calls back (rests calls back m3) (op.Enter begun))
      → Leads old new p (flow_run old exits (λ calls. for_loop calls ts (turn_of calls whole)))
  for-leads m2 m3 new whole ts turn begun p two three four =
      leads-on old m3 new begun p (sequence_run m2 (with_next inner turn) ts) _
      (flow_run old exits (λ calls. for_loop calls ts (turn_of calls whole)))
      (leads-after old m1 m3 scope.more scope.longer scope.turns begun
      (sequence_run m2 (with_next inner turn) ts) (sequence_run m2 (with_next inner turn) ts)
      (leads-on m1 m2 m3 turn begun _ (sequence_run m2 (with_next inner turn) ts)
      (sequence_run m2 (with_next inner turn) ts) two three (λ calls back k left. refl))
      (λ calls back k left. refl)) four
      (λ calls back k left. three.comes calls back (entered k) left
      ∙ (then-next m1 two.more m2 two.longer inner scope.within turn calls back
      (loop (turn_of calls whole)) (two.comes calls back) (entered k)
      (in_order (map (stmt calls) ts) left k.state)
      ∙ then-scope calls back k (on_value (in_order (map (stmt calls) ts) left k.state)
      (on_next (loop (turn_of calls whole))))))

-- statements of one part
pub empty-leads : (old new : List Op) (exits : Exits) → ExitsWithin (length old) exits → new ≡ old →
    Leads old new exits.next (stmt_run old exits syntax.Empty)
empty-leads old new exits within none =
    leads-here old new exits.next (stmt_run old exits syntax.Empty) none within.next
    (λ calls back k left. sym (ap (λ (r : Run Flow).
    on_value r (flow_to (rests calls back old) back exits k)) (stmt-Empty calls left k.state)))

pub break-leads : (old new : List Op) (exits : Exits) (token : ℕ) → ExitsWithin (length old) exits →
    new ≡ old
    → Leads old new exits.broken (stmt_run old exits (syntax.Break token))
break-leads old new exits token within none =
    leads-here old new exits.broken (stmt_run old exits (syntax.Break token)) none within.broken
    (λ calls back k left. sym (ap (λ (r : Run Flow).
    on_value r (flow_to (rests calls back old) back exits k))
    (stmt-Break calls token left k.state)))

pub continue-leads : (old new : List Op) (exits : Exits) (token : ℕ) →
    ExitsWithin (length old) exits → new ≡ old
    → Leads old new exits.continued (stmt_run old exits (syntax.Continue token))
continue-leads old new exits token within none =
    leads-here old new exits.continued (stmt_run old exits (syntax.Continue token)) none
    within.continued
    (λ calls back k left. sym (ap (λ (r : Run Flow).
    on_value r (flow_to (rests calls back old) back exits k))
    (stmt-Continue calls token left k.state)))

pub assign-leads : (old new : List Op) (exits : Exits) (v p : ℕ) (e : Expr) →
    Leads old new p (expr_run old (destination.Assign v exits.next) e)
    → Leads old new p (stmt_run old exits (syntax.Assign v e))
assign-leads old new exits v p e leads =
    leads-as old new p (expr_run old (destination.Assign v exits.next) e)
    (stmt_run old exits (syntax.Assign v e)) leads
    (λ calls back k left. sym (ap (λ (r : Run Flow).
    on_value r (flow_to (rests calls back old) back exits k))
    (stmt-Assign calls v e left k.state)
    ∙ on_value-on_value (expr calls e left k.state) (λ x m. Value (Next (slice_set k.state v x)) m)
    (flow_to (rests calls back old) back exits k)))

pub return-leads : (old new : List Op) (exits : Exits) (p : ℕ) (e : Expr) →
    Leads old new p (expr_run old (destination.Return exits.scopes) e)
    → Leads old new p (stmt_run old exits (syntax.Return e))
return-leads old new exits p e leads =
    leads-as old new p (expr_run old (destination.Return exits.scopes) e)
    (stmt_run old exits (syntax.Return e)) leads
    (λ calls back k left. sym (ap (λ (r : Run Flow).
    on_value r (flow_to (rests calls back old) back exits k)) (stmt-Return calls e left k.state)
    ∙ on_value-on_value (expr calls e left k.state) (λ x m. Value (Return x) m)
    (flow_to (rests calls back old) back exits k)))

pub declare-leads : (old new : List Op) (exits : Exits) (v p : ℕ) (e : Expr) →
    Leads old new p (expr_run old (destination.Declare v exits.next) e)
    → Leads old new p (stmt_run old exits (syntax.Declare v (Some e)))
declare-leads old new exits v p e leads =
    leads-as old new p (expr_run old (destination.Declare v exits.next) e)
    (stmt_run old exits (syntax.Declare v (Some e))) leads
    (λ calls back k left. sym (ap (λ (r : Run Flow).
    on_value r (flow_to (rests calls back old) back exits k))
    (stmt-Declare-Some calls v e left k.state)
    ∙ on_value-on_value (expr calls e left k.state)
    (λ x m. Value (Next (take v k.state ++ x ∷ [])) m)
    (flow_to (rests calls back old) back exits k)))

pub declare-none-leads : (old new : List Op) (exits : Exits) (v p : ℕ)
    → Leads old new p (λ calls back. op_to calls back (rests calls back old)
    (op.Do (Read (Constant (pos 0))) (destination.Declare v exits.next)))
    → Leads old new p (stmt_run old exits (syntax.Declare v None))
declare-none-leads old new exits v p leads =
    leads-as old new p _ (stmt_run old exits (syntax.Declare v None)) leads
    (λ calls back k left. sym (ap (λ (r : Run Flow).
    on_value r (flow_to (rests calls back old) back exits k))
    (stmt-Declare-None calls v left k.state)))

-- `if`
if-equation : (calls : Calls) (e : Expr) (inner : Stmt) (other : Option Stmt) (left : ℕ) (s : State)
    → stmt calls (syntax.If e inner other) left s
    ≡ on_value (expr calls e left s) (λ x m. if is_zero x then
    optional (option_map (stmt calls) other) m s else stmt calls inner m s)
if-equation calls e inner None left s = stmt-If-None calls e inner left s
if-equation calls e inner (Some other) left s = stmt-If-Some calls e inner other left s

pub if-leads : (old m1 m2 new : List Op) (exits : Exits) → ExitsWithin (length old) exits →
    (e : Expr) (inner : Stmt) (other : Option Stmt) (po pt p : ℕ)
    → Leads old m1 po (flow_run old exits (λ calls. optional (option_map (stmt calls) other))) →
    Leads m1 m2 pt (stmt_run m1 exits inner)
    → Leads m2 new p (expr_run m2 (destination.Branch po pt) e) →
    Leads old new p (stmt_run old exits (syntax.If e inner other))
if-leads old m1 m2 new exits within e inner other po pt p one two three =
    leads-on old m2 new pt p (stmt_run m1 exits inner) (expr_run m2 (destination.Branch po pt) e)
    (stmt_run old exits (syntax.If e inner other))
    (leads-on old m1 m2 po pt _ _ (stmt_run m1 exits inner) one two (λ calls back k left. refl))
    three
    (λ calls back k left.
    sym (ap (λ (r : Run Flow). on_value r (flow_to (rests calls back old) back exits k))
    (if-equation calls e inner other left k.state)
    ∙ on_value-then (expr calls e left k.state)
    (λ x m. if is_zero x then optional (option_map (stmt calls) other) m k.state else
    stmt calls inner m k.state)
    (flow_to (rests calls back old) back exits k) _ (λ x m.
    elim (is_zero x) as (λ z. on_value (if z then
    optional (option_map (stmt calls) other) m k.state else stmt calls inner m k.state)
    (flow_to (rests calls back old) back exits k)
    ≡ (if z then at (rests calls back m2) po k m else at (rests calls back m2) pt k m)) [
      | true ↦ sym (stays m1 two.more m2 two.longer po one.within calls back k m ∙
          one.comes calls back k m)
      | false ↦ sym (two.comes calls back k m ∙ on_value-same (stmt calls inner m k.state) _ _
          (λ flow n. flow-stays old one.more m1 one.longer exits within calls back k flow n))
    ])))

-- what is left out does nothing
pub nothing-leads : (old new : List Op) (exits : Exits) → ExitsWithin (length old) exits → new ≡ old
    → Leads old new exits.next (flow_run old exits
    (λ calls. optional (option_map (stmt calls) None)))
nothing-leads old new exits within none =
    leads-here old new exits.next (flow_run old exits
    (λ calls. optional (option_map (stmt calls) None))) none within.next
    (λ calls back k left. refl)

-- a condition that is left out holds
pub condition-none-leads : (old new : List Op) (ended holds : ℕ) → holds < length old → new ≡ old →
    Leads old new holds (condition_run old ended holds None)
condition-none-leads old new ended holds there none =
    leads-here old new holds (condition_run old ended holds None) none there
    (λ calls back k left. refl)

pub sequence-none : (old : List Op) (exits : Exits) → ExitsWithin (length old) exits →
    Leads old old exits.next (sequence_run old exits [])
sequence-none old exits within =
    leads-here old old exits.next (sequence_run old exits []) refl within.next
    (λ calls back k left. refl)

-- a statement of another form
pub in-form : (old new : List Op) (exits : Exits) (p : ℕ) (s t : Stmt) → s ≡ t →
    Leads old new p (stmt_run old exits t) → Leads old new p (stmt_run old exits s)
in-form old new exits p s t is leads =
    subst (λ (u : Stmt). Leads old new p (stmt_run old exits u)) (sym is) leads

-- the statements from a place on
pub drop-one : (ts : List Stmt) (i : ℕ) (t : Stmt) → 0 < i → i ≤ length ts → t ≡
    get_or ts (i - 1) t → drop (i - 1) ts ≡ t ∷ drop i ts
drop-one ts i t some within is =
    let below : i - 1 < length ts = omega arith in
    let same : suc (i - 1) ≡ i = omega arith in
    drop-cons ts (i - 1) t below
    ∙ (ap (λ (x : Stmt). x ∷ drop (suc (i - 1)) ts) (sym is) ∙ ap (λ (n : ℕ). t ∷ drop n ts) same)

-- exits that are there
pub inside-within : (m n : ℕ) → m ≤ n → (exits e : Exits) (p : ℕ) → p < n → e ≡ inside exits p →
    ExitsWithin m exits → ExitsWithin n e
inside-within m n le exits e p below is within =
    let one = within.next in
    let four = within.scopes in
    let all : ExitsWithin n (inside exits p) =
    record { next = below; broken = omega arith; continued = below; scopes = omega arith } in
    subst (λ (x : Exits). ExitsWithin n x) (sym is) all

pub next-within : (m n : ℕ) → m ≤ n → (exits : Exits) (p : ℕ) → p < n → ExitsWithin m exits →
    ExitsWithin n (with_next exits p)
next-within m n le exits p below within =
    let two = within.broken in
    let three = within.continued in
    let four = within.scopes in
    record { next = below; broken = omega arith; continued = omega arith; scopes = omega arith }

-- `while`, `do` and `for` as their turns
pub while-leads : (old new : List Op) (exits : Exits) (p : ℕ) (s : Stmt) (e : Expr) (body : Stmt)
    → s ≡ syntax.While e body
    → Leads old new p (flow_run old exits (λ calls. loop (turn_of calls s))) →
    Leads old new p (stmt_run old exits s)
while-leads old new exits p s e body is leads =
    in-form old new exits p s (syntax.While e body) is
    (leads-as old new p _ (stmt_run old exits (syntax.While e body))
    (subst (λ (t : Stmt). Leads old new p (flow_run old exits (λ calls. loop (turn_of calls t))))
    is leads)
    (λ calls back k left. sym (ap (λ (r : Run Flow).
    on_value r (flow_to (rests calls back old) back exits k))
    (stmt-While calls e body left k.state
    ∙ ap (λ (t : ℕ → State → Run Turn). loop t left k.state) (sym (turn-While calls e body))))))

pub do-leads : (old new : List Op) (exits : Exits) (p : ℕ) (s : Stmt) (e : Expr) (body : Stmt)
    → s ≡ syntax.DoWhile body e
    → Leads old new p (flow_run old exits (λ calls. loop (turn_of calls s))) →
    Leads old new p (stmt_run old exits s)
do-leads old new exits p s e body is leads =
    in-form old new exits p s (syntax.DoWhile body e) is
    (leads-as old new p _ (stmt_run old exits (syntax.DoWhile body e))
    (subst (λ (t : Stmt). Leads old new p (flow_run old exits (λ calls. loop (turn_of calls t))))
    is leads)
    (λ calls back k left. sym (ap (λ (r : Run Flow).
    on_value r (flow_to (rests calls back old) back exits k))
    (stmt-DoWhile calls body e left k.state
    ∙ ap (λ (t : ℕ → State → Run Turn). loop t left k.state) (sym (turn-DoWhile calls body e))))))

for-equation : (calls : Calls) (first : List Stmt) (test : Option Expr) (change : Option Stmt)
    (body : Stmt) (left : ℕ) (s : State)
    → stmt calls (syntax.For first test change body) left s ≡
    for_loop calls first (turn_of calls (syntax.For first test change body)) left s
for-equation calls first test None body left s =
    stmt-For-None calls first test body left s ∙
    ap (λ (t : ℕ → State → Run Turn). for_loop calls first t left s)
    (sym (turn-For calls first test None body))
for-equation calls first test (Some change) body left s =
    stmt-For-Some calls first test change body left s ∙
    ap (λ (t : ℕ → State → Run Turn). for_loop calls first t left s)
    (sym (turn-For calls first test (Some change) body))

pub for-all-leads : (old new : List Op) (exits : Exits) (p : ℕ) (first : List Stmt)
    (test : Option Expr) (change : Option Stmt) (body : Stmt)
    → Leads old new p (flow_run old exits (λ calls.
    for_loop calls first (turn_of calls (syntax.For first test change body))))
    → Leads old new p (stmt_run old exits (syntax.For first test change body))
for-all-leads old new exits p first test change body leads =
    leads-as old new p _ (stmt_run old exits (syntax.For first test change body)) leads
    (λ calls back k left. sym (ap (λ (r : Run Flow).
    on_value r (flow_to (rests calls back old) back exits k))
    (for-equation calls first test change body left k.state)))

-- one op more
pub one-longer : (old new : List Op) (o : Op) → new ≡ old ++ o ∷ [] → length new ≡ length old + 1
one-longer old new o is = ap (λ (ops : List Op). length ops) is ∙ length-append old (o ∷ [])
