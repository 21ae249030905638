-- How runs end, and what whole runs come to.
use Rattle.std.proofs.Common.{◌≡◌, ℕ, zero, suc, ◌-◌, ◌<◌, ◌≤◌, ℤ, pos, Option, Some, None, List, [], ◌∷◌, length, refl, ap, ◌∙◌, sym, arith}
use Rattle.std.specs.Prelude.{Err, slice_get}
use Rattle.std.proofs.lemmas.Option.{slice_get_within, slice_get_past}
use Rattle.c_ast.specs.declared.expr.Expr.{Expr}
use Rattle.c_ast.specs.declared.program.Function.{Function}
use Rattle.c_ast.specs.declared.program.Resolved.{Resolved}
use Rattle.c_meaning.specs.Outcomes.{State}
use Rattle.c_meaning.specs.Counted.{body_run, counted, outcome_of}
use Rattle.c_machine.specs.Ends.{Ends, EndsBy}
use Rattle.c_meaning.specs.Runs.{Run, Value, DivisionError, More, Over, on_value}
use Rattle.c_meaning.specs.CountedExpressions.{expr}
use Rattle.c_code.specs.Stores.{Kept}
use Rattle.c_code.specs.Flat.{FunctionsAreRight, WholeIsRight}
use Rattle.c_machine.specs.Machines.{back_to, machine_run}
use Rattle.c_machine.specs.Preconditions.{precondition_at}
use Rattle.c_code.specs.declared.code.Op.{Op}
use Rattle.c_machine.specs.declared.machine.Caller.{Caller}
use Rattle.c_meaning.specs.declared.outcomes.Outcome.TheVariants as outcome
use Rattle.c_machine.specs.declared.stop.Stop.{Stop}
use Rattle.c_machine.specs.declared.stop.Stop.TheVariants as stop
use Rattle.c_meaning.proofs.Bounds.{counted_call}
use Rattle.c_machine.proofs.RunningCode.{function-found}

-- what is the same ends in the same way
pub ends_same : (e : Stop) (run other : Run ℤ) → run ≡ other → EndsBy e other → EndsBy e run
ends_same stop.DivisionError run other same is = same ∙ is
ends_same stop.More run other same is = same ∙ is
ends_same stop.Over run other same is = same ∙ is
ends_same stop.NoMemory run other same is = tt

-- a run that has ended has an outcome
pub ends_by : (e : Stop) (run : Run ℤ) → EndsBy e run → Ends run (Err e)
ends_by stop.DivisionError run is = ap outcome_of is
ends_by stop.More run is = ap outcome_of is
ends_by stop.Over run is = ap outcome_of is
ends_by stop.NoMemory run is = tt

on_value-Value : (r : Run ℤ) → on_value r (λ x m. Value x m) ≡ r
on_value-Value (Value x m) = refl
on_value-Value DivisionError = refl
on_value-Value More = refl
on_value-Value Over = refl

-- what is kept as a run begins
abbrev pub fresh : List ℤ → Kept
fresh state = record { values = []; below = []; state = state; scopes = [] }

-- a whole call
pub whole-call : (program : Resolved) (ops : List Op) (callers : List Caller) (entries : List ℕ)
    (rounds f entry : ℕ) (args : List ℤ) (k : Kept)
    → FunctionsAreRight ops entries program.functions → slice_get entries f ≡ Some entry → 0 <
    rounds → callers ≡ [] → k ≡ fresh args
    → machine_run program ops callers entry k (rounds - 1) ≡ counted program rounds f args
whole-call program ops callers entries rounds f entry args k right found some none is =
    let below = slice_get_within entries f entry found in
    let count = right.count in
    let there = function-found program.functions f (omega arith) in
    let same : rounds ≡ suc (rounds - 1) = omega arith in
    let function = right.each f entry there.0 there.1 found in
    rw (none, is) (function.comes (counted program) (back_to (counted program) ops []) (fresh args)
    (rounds - 1)
    ∙ (on_value-Value (body_run (Some there.0) (counted program) (rounds - 1) args)
    ∙ sym (ap (λ (n : ℕ). counted program n f args) same ∙ (counted_call program (rounds - 1) f args
    ∙ ap (λ (o : Option Function). body_run o (counted program) (rounds - 1) args) there.1))))

entries-past : (entries : List ℕ) (p : ℕ) → slice_get entries p ≡ None → length entries ≤ p
entries-past [] p is = omega arith
entries-past (x ∷ entries) zero is = absurd (cc)
entries-past (x ∷ entries) (suc p) is = let rec = entries-past entries p is in omega arith

-- there is no such function
pub no-call : (program : Resolved) (ops : List Op) (entries : List ℕ) (rounds f : ℕ) (args : List ℤ)
    → FunctionsAreRight ops entries program.functions
    → slice_get entries f ≡ None → 0 < rounds → outcome_of (counted program rounds f args) ≡
    outcome.More
no-call program ops entries rounds f args right none some =
    let past = entries-past entries f none in
    let count = right.count in
    let same : rounds ≡ suc (rounds - 1) = omega arith in
    ap outcome_of (ap (λ (n : ℕ). counted program n f args) same ∙
    (counted_call program (rounds - 1) f args
    ∙ ap (λ (o : Option Function). body_run o (counted program) (rounds - 1) args)
    (slice_get_past program.functions f (omega arith))))

-- a whole expression
pub whole-expr : (program : Resolved) (ops : List Op) (callers : List Caller) (whole : Option Expr)
    (start : Option ℕ) (p rounds : ℕ) (state : State) (k : Kept)
    → WholeIsRight ops whole start → start ≡ Some p → callers ≡ [] → k ≡ fresh state
    → outcome_of (machine_run program ops callers p k rounds) ≡
    precondition_at program whole rounds state
whole-expr program ops callers None None p rounds state k right there none is = absurd (cc)
whole-expr program ops callers None (Some q) p rounds state k right there none is = absurd right
whole-expr program ops callers (Some e) None p rounds state k right there none is = absurd right
whole-expr program ops callers (Some e) (Some q) p rounds state k right there none is =
    let same : q ≡ p = cc in
    rw (none, is) (ap outcome_of (ap (λ (n : ℕ). machine_run program ops [] n (fresh state) rounds)
    (sym same)
    ∙ (right (counted program) (back_to (counted program) ops []) (fresh state) rounds
    ∙ on_value-Value (expr (counted program) e rounds state))))

-- there is no expression
pub no-whole-expr : (program : Resolved) (ops : List Op) (whole : Option Expr) (start : Option ℕ)
    (rounds : ℕ) (state : State)
    → WholeIsRight ops whole start → start ≡ None → outcome.Value (pos 1) ≡
    precondition_at program whole rounds state
no-whole-expr program ops None None rounds state right none = refl
no-whole-expr program ops None (Some q) rounds state right none = absurd right
no-whole-expr program ops (Some e) None rounds state right none = absurd right
no-whole-expr program ops (Some e) (Some q) rounds state right none = absurd (cc)
