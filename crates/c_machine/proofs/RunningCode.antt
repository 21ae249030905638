-- What a run of code comes to at each op.
use Rattle.std.proofs.Common.{◌≡◌, ℕ, zero, suc, ◌+◌, ◌-◌, ◌<◌, ◌≤◌, Bor, Option, Some, None, List, [], ◌∷◌, ◌++◌, ℤ, map, length, refl, ap, ◌∙◌, sym, subst, arith, inl, inr}
use Rattle.std.specs.Prelude.{slice_get, take, drop, reverse, Ok, Err, Result, OnOk, IfOk, OnErr, IfErr, ◌*◌}
use Rattle.std.specs.Option.{option_map}
use Rattle.std.proofs.Math.Nat.{mul-le-mul_right}
use Rattle.std.proofs.Math.Seq.{take-append_seam, drop-append_seam}
use Rattle.std.proofs.lemmas.List.{take-append-drop, get_or_past, take_all}
use Rattle.std.proofs.lemmas.List.Sums.{fold-append}
use Rattle.std.proofs.lemmas.Option.{slice_get_within}
use Rattle.c_ast.specs.declared.stmt.Stmt.{Stmt}
use Rattle.c_ast.specs.declared.stmt.Stmt.TheOpen.{Stmt-F}
use Rattle.c_ast.specs.declared.stmt.Stmt.TheViews.{out-Stmt}
use Rattle.c_ast.specs.declared.program.Function.{Function}
use Rattle.c_ast.specs.declared.program.Resolved.{Resolved}
use Rattle.c_meaning.specs.Outcomes.{Flow, Next, Break, Continue, Return}
use Rattle.c_meaning.specs.Statements.{Turn, Again, Ends}
use Rattle.c_meaning.specs.Counted.{returned, body_run, counted}
use Rattle.c_machine.specs.Ends.{EndsBy, GivesNumber}
use Rattle.c_meaning.specs.Runs.{Run, Value, More, on_value}
use Rattle.c_meaning.specs.CountedExpressions.{Calls}
use Rattle.c_meaning.specs.CountedStatements.{optional, in_order, on_again, loop, stmt}
use Rattle.c_code.specs.Stores.{Kept, with_state, with_values, pushed, ended, called}
use Rattle.c_code.specs.Flat.{Rest, Back, lost, at, op_to, rests, code_run, flow_to, turn_to, turn_level, turn_of, destination_to}
use Rattle.c_code.specs.Flat.{TurnIsRight, FunctionIsRight}
use Rattle.c_machine.specs.Machines.{done, resumed, back_to, machine_run, Steps}
use Rattle.c_code.specs.declared.code.Exits.{Exits}
use Rattle.c_code.specs.declared.code.Op.{Op}
use Rattle.c_code.specs.declared.code.Op.TheVariants as op
use Rattle.c_machine.specs.declared.machine.Caller.{Caller}
use Rattle.c_code.specs.declared.code.Destination.{Destination}
use Rattle.c_machine.specs.declared.machine.Reached.{Reached}
use Rattle.c_machine.specs.declared.machine.Reached.TheVariants as reached
use Rattle.c_machine.specs.declared.stop.Stop.{Stop}
use Rattle.c_machine.specs.declared.stop.Stop.TheVariants as stop
use Rattle.c_meaning.proofs.Bounds.{FromEach, Leaves, Waits, counted_agree, counted_call, loop_turn, stmt_agrees, while_turn_agrees, do_turn_agrees}
use Rattle.c_code.proofs.Positions.{le_or_less, at-stays, at-split, length-rests}
use Rattle.c_code.proofs.StatementCode.{flow-state}
use Rattle.c_meaning.proofs.Runs.{on_value-same, on_value-then}

-- one caller more, one less
pub back-pushed : (calls : Calls) (ops : List Op) (old new : List Caller) (c : Caller) → new ≡
    old ++ c ∷ []
    → back_to calls ops new ≡ resumed calls ops (back_to calls ops old) c
back-pushed calls ops old new c is =
    ap (back_to calls ops) is ∙ fold-append (resumed calls ops) done old (c ∷ [])

split-at : (ops : List Op) (p : ℕ) (o : Op) → slice_get ops p ≡ Some o → ops ≡ take p ops ++ o ∷
    drop (suc p) ops
split-at [] p o is = absurd (cc)
split-at (x ∷ ops) zero o is = let same : x ≡ o = cc in rw same refl
split-at (x ∷ ops) (suc p) o is = ap (λ (xs : List Op). x ∷ xs) (split-at ops p o is)

length-split : (ops : List Op) (p : ℕ) → p < length ops → length (take p ops) ≡ p
length-split [] p below = absurd (omega arith)
length-split (x ∷ ops) zero below = refl
length-split (x ∷ ops) (suc p) below = ap suc (length-split ops p (omega arith))

length-most : (ops : List Op) (p : ℕ) → length (take p ops) ≤ p
length-most [] zero = omega arith
length-most [] (suc p) = omega arith
length-most (x ∷ ops) zero = omega arith
length-most (x ∷ ops) (suc p) = let rec = length-most ops p in omega arith

module _ (calls : Calls) (back : Back) (ops : List Op) (p : ℕ) where
  -- the op at a position, from the ops before it
  pub op-found : (o : Op) → slice_get ops p ≡ Some o → at (rests calls back ops) p ≡
      op_to calls back (rests calls back (take p ops)) o
  op-found o is =
      let below = slice_get_within ops p o is in
      ap (λ (all : List Op). at (rests calls back all) p) (split-at ops p o is)
      ∙ (ap (λ (n : ℕ). at (rests calls back (take p ops ++ o ∷ drop (suc p) ops)) n)
      (sym (length-split ops p below))
      ∙ at-split calls back (take p ops) (drop (suc p) ops) o)

  -- a lower position
  pub lower-found : (q : ℕ) → q < p → p < length ops → at (rests calls back (take p ops)) q ≡
      at (rests calls back ops) q
  lower-found q lower below =
      let many = length-split ops p below in
      let there : q < length (take p ops) = omega arith in
      sym (at-stays calls back (take p ops) (drop p ops) ops q (sym (take-append-drop p ops)) there)

  -- a lower position, whether the op is there or not
  pub lower-kept : (q : ℕ) → q < p → at (rests calls back (take p ops)) q ≡
      at (rests calls back ops) q
  lower-kept q lower =
      elim (le_or_less (length ops) p) [
        | inr there ↦ lower-found q lower there
        | inl all ↦ ap (λ (xs : List Op). at (rests calls back xs) q) (take_all p ops all)
      ]

  -- what is no lower position is lost
  pub lost-above : (q : ℕ) → p ≤ q → at (rests calls back (take p ops)) q ≡ lost
  lost-above q above =
      let few = length-rests calls back (take p ops) in
      let le = length-most ops p in
      get_or_past (rests calls back (take p ops)) q lost (omega arith)

  -- past all ops nothing is found
  pub lost-past : length ops ≤ p → at (rests calls back ops) p ≡ lost
  lost-past past =
      let few = length-rests calls back ops in
      get_or_past (rests calls back ops) p lost (omega arith)

-- what a loop executes leaves no more rounds than there were
module _ (program : Resolved) (n : ℕ) where
  optional-agrees : (change : Option Stmt) → FromEach n
      (optional (option_map (stmt (counted program)) change))
      (optional (option_map (stmt (counted program)) change))
  optional-agrees None m below s = Leaves (omega arith)
  optional-agrees (Some change) m below s =
      stmt_agrees (counted program) (counted program) n (counted_agree program n) change m below s

  turn-agrees : (t : Stmt-F Stmt) → FromEach n (turn_level (counted program) t)
      (turn_level (counted program) t)
  turn-agrees (Stmt-F.While e body) =
      while_turn_agrees (counted program) (counted program) n (counted_agree program n) (Some e) _ _
      _ _
      (optional-agrees None) (stmt_agrees (counted program) (counted program) n
      (counted_agree program n) body)
  turn-agrees (Stmt-F.DoWhile body e) =
      do_turn_agrees (counted program) (counted program) n (counted_agree program n) e _ _
      (stmt_agrees (counted program) (counted program) n (counted_agree program n) body)
  turn-agrees (Stmt-F.For first test change body) =
      while_turn_agrees (counted program) (counted program) n (counted_agree program n) test _ _ _ _
      (optional-agrees change) (stmt_agrees (counted program) (counted program) n
      (counted_agree program n) body)
  turn-agrees Stmt-F.Empty = λ m below s. Waits
  turn-agrees (Stmt-F.Declare v e) = λ m below s. Waits
  turn-agrees (Stmt-F.Assign v e) = λ m below s. Waits
  turn-agrees (Stmt-F.If e a b) = λ m below s. Waits
  turn-agrees (Stmt-F.Break v) = λ m below s. Waits
  turn-agrees (Stmt-F.Continue v) = λ m below s. Waits
  turn-agrees (Stmt-F.Return e) = λ m below s. Waits
  turn-agrees (Stmt-F.Block ts) = λ m below s. Waits

-- a turn is begun
module _ (program : Resolved) (back : Back) (ops : List Op) (turn : ℕ) (whole : Bor Stmt)
    (exits : Exits) (begin : ℕ)
    (right : TurnIsRight ops turn whole.now exits begin)
    (found : slice_get ops turn ≡ Some (op.Turn whole exits begin)) (k : Kept) where
  leads-there : (flow : Flow) (m : ℕ) → flow_to (rests (counted program) back (take turn ops)) back
      exits k flow m ≡ flow_to (rests (counted program) back ops) back exits k flow m
  leads-there (Next s) m = ap (λ (r : Rest). r (with_state k s) m)
      (lower-found (counted program) back ops turn exits.next right.leads.next
      (slice_get_within ops turn (op.Turn whole exits begin) found))
  leads-there (Break s) m = ap (λ (r : Rest). r (with_state k s) m)
      (lower-found (counted program) back ops turn exits.broken right.leads.broken
      (slice_get_within ops turn (op.Turn whole exits begin) found))
  leads-there (Continue s) m = ap (λ (r : Rest). r (with_state k s) m)
      (lower-found (counted program) back ops turn exits.continued right.leads.continued
      (slice_get_within ops turn (op.Turn whole exits begin) found))
  leads-there (Return x) m = refl

  after-turn : (t : Turn) (m : ℕ)
      → on_value (on_again (loop (turn_of (counted program) whole.now)) t m)
      (flow_to (rests (counted program) back (take turn ops)) back exits k)
      ≡ turn_to (rests (counted program) back ops) back turn exits k t m
  after-turn (Again s) m =
      sym (ap (λ (r : Rest). r (with_state k s) m)
      (op-found (counted program) back ops turn (op.Turn whole exits begin) found)
      ∙ on_value-same (loop (turn_of (counted program) whole.now) m s) _ _
      (λ flow n. flow-state (rests (counted program) back (take turn ops)) back exits k s flow n))
  after-turn (Ends flow) m = leads-there flow m

  pub turn-begun : (left : ℕ) → code_run (counted program) back ops turn k (suc left) ≡
      code_run (counted program) back ops begin k left
  turn-begun left =
      ap (λ (r : Rest). r k (suc left)) (op-found (counted program) back ops turn
      (op.Turn whole exits begin) found)
      ∙ (ap (λ (r : Run Flow). on_value r (flow_to (rests (counted program) back (take turn ops))
      back exits k))
      (loop_turn (turn_of (counted program) whole.now) left
      (turn-agrees program left (out-Stmt whole.now)) k.state)
      ∙ (on_value-then (turn_of (counted program) whole.now left k.state)
      (on_again (loop (turn_of (counted program) whole.now)))
      (flow_to (rests (counted program) back (take turn ops)) back exits k) _ after-turn
      ∙ sym (right.turns (counted program) back k left)))

-- no round is left
pub turn-out : (program : Resolved) (back : Back) (rs : List Rest) (whole : Bor Stmt)
    (exits : Exits) (begin : ℕ) (k : Kept)
    → op_to (counted program) back rs (op.Turn whole exits begin) k 0 ≡ More
turn-out program back rs whole exits begin k = refl

pub call-out : (program : Resolved) (back : Back) (rs : List Rest) (f count next : ℕ) (k : Kept)
    → op_to (counted program) back rs (op.Call f count next) k 0 ≡ More
call-out program back rs f count next k = refl

-- a call of a function that isn't there
pub not-there : (program : Resolved) (back : Back) (rs : List Rest) (f count next : ℕ) (k : Kept)
    (left : ℕ) → slice_get program.functions f ≡ None
    → op_to (counted program) back rs (op.Call f count next) k (suc left) ≡ More
not-there program back rs f count next k left none =
    ap (λ (r : Run ℤ). on_value r (λ x. at rs next
    (pushed (with_values k (drop count k.values)) x)))
    (counted_call program left f (reverse (take count k.values)) ∙
    ap (λ (o : Option Function). body_run o (counted program) left
    (reverse (take count k.values))) none)

-- where a caller goes on
pub caller-found : (calls : Calls) (back : Back) (ops : List Op) (p next waits : ℕ) →
    (next < p → waits ≡ next) → (p ≤ next → waits ≡ length ops)
    → at (rests calls back (take p ops)) next ≡ at (rests calls back ops) waits
caller-found calls back ops p next waits low high =
    elim (le_or_less p next) [
      | inr lower ↦ lower-kept calls back ops p next lower ∙
          ap (λ (q : ℕ). at (rests calls back ops) q) (sym (low lower))
      | inl above ↦
          let many = length-rests calls back ops in
          let end = high above in
          lost-above calls back ops p next above ∙
          sym (get_or_past (rests calls back ops) waits lost (omega arith))
    ]

-- a call of a function begins it
module _ (program : Resolved) (back : Back) (ops : List Op) (p f count next waits base : ℕ)
    (k : Kept)
    (found-next : at (rests (counted program) back (take p ops)) next ≡
    at (rests (counted program) back ops) waits) (is : base ≡ length k.below) where
  caller-waits : (x : ℤ) (m : ℕ)
      → at (rests (counted program) back (take p ops)) next
      (pushed (with_values k (drop count k.values)) x) m
      ≡ resumed (counted program) ops back (record { next = waits; base = base }) x
      (ended (called k count) 0) m
  caller-waits x m =
      ap (λ (r : Rest). r (pushed (with_values k (drop count k.values)) x) m) found-next
      ∙ sym (rw (is, take-append_seam k.below k.state, drop-append_seam k.below k.state) refl)

  pub call-begun : (entry left : ℕ) (function : Function) → slice_get program.functions f ≡
      Some function → FunctionIsRight ops entry function
      → op_to (counted program) back (rests (counted program) back (take p ops))
      (op.Call f count next) k (suc left)
      ≡ code_run (counted program) (resumed (counted program) ops back
      (record { next = waits; base = base })) ops entry (called k count) left
  call-begun entry left function found right =
      ap (λ (r : Run ℤ). on_value r (λ x. at (rests (counted program) back (take p ops)) next
      (pushed (with_values k (drop count k.values)) x)))
      (counted_call program left f (reverse (take count k.values)) ∙
      ap (λ (o : Option Function). body_run o (counted program) left
      (reverse (take count k.values))) found)
      ∙ (on_value-same (on_value (in_order (map (stmt (counted program)) function.body) left
      (reverse (take count k.values))) returned) _ _ caller-waits
      ∙ sym (right.comes (counted program) (resumed (counted program) ops back
      (record { next = waits; base = base })) (called k count) left))

-- a function at a place that is there
pub function-found : (functions : List Function) (f : ℕ) → f < length functions → (g : Function) ×
    (slice_get functions f ≡ Some g)
function-found [] f below = absurd (omega arith)
function-found (g ∷ functions) zero below = (g, refl)
function-found (g ∷ functions) (suc f) below = function-found functions f (omega arith)

-- what goes on from a number
pub gives-then : (run : ℕ → Run ℤ) (f : ℤ → ℕ → Run ℤ) (x : ℤ) (result : Result ℤ Stop) →
    ((left : ℕ) → run left ≡ Value x left)
    → GivesNumber (f x) result → GivesNumber (λ left. on_value (run left) f) result
gives-then run f x (Ok y) first given =
    λ left. ap (λ (r : Run ℤ). on_value r f) (first left) ∙ given left
gives-then run f x (Err stop.DivisionError) first given =
    λ left. ap (λ (r : Run ℤ). on_value r f) (first left) ∙ given left
gives-then run f x (Err stop.More) first given =
    λ left. ap (λ (r : Run ℤ). on_value r f) (first left) ∙ given left
gives-then run f x (Err stop.Over) first given =
    λ left. ap (λ (r : Run ℤ). on_value r f) (first left) ∙ given left
gives-then run f x (Err stop.NoMemory) first given = given

-- what goes on from a number that isn't there ends
pub ends-with : (e : Stop) (run : ℕ → Run ℤ) (f : ℤ → ℕ → Run ℤ) (all : Run ℤ) (left : ℕ)
    → GivesNumber run (Err e) → all ≡ on_value (run left) f → EndsBy e all
ends-with stop.DivisionError run f all left given same =
    same ∙ ap (λ (r : Run ℤ). on_value r f) (given left)
ends-with stop.More run f all left given same =
    same ∙ ap (λ (r : Run ℤ). on_value r f) (given left)
ends-with stop.Over run f all left given same =
    same ∙ ap (λ (r : Run ℤ). on_value r f) (given left)
ends-with stop.NoMemory run f all left given same = tt

-- a value that is made goes to its destination
pub made-to : (rs : List Rest) (back : Back) (s : Destination) (run : ℕ → Run ℤ) (x y : ℤ)
    (kept new : Kept) (left : ℕ)
    → GivesNumber run (Ok x) → y ≡ x → new ≡ kept →
    on_value (run left) (destination_to rs back s kept) ≡ destination_to rs back s new y left
made-to rs back s run x y kept new left given plain same =
    ap (λ (r : Run ℤ). on_value r (destination_to rs back s kept)) (given left)
    ∙ rw (plain, same) refl

-- what is kept after a value is made is what its destination finds
pub kept-same : (x : Result ℤ Stop) (run : ℕ → Run ℤ) (rs : List Rest) (back : Back)
    (s : Destination)
    (kept new : Kept) (left : ℕ)
    → GivesNumber run x → OnOk x (new ≡ kept) →
    on_value (run left) (destination_to rs back s kept) ≡ on_value (run left)
    (destination_to rs back s new)
kept-same (Ok x) run rs back s kept new left given same =
    ap (λ (k : Kept). on_value (run left) (destination_to rs back s k)) (sym same)
kept-same (Err stop.DivisionError) run rs back s kept new left given same = rw (given left) refl
kept-same (Err stop.More) run rs back s kept new left given same = rw (given left) refl
kept-same (Err stop.Over) run rs back s kept new left given same = rw (given left) refl
kept-same (Err stop.NoMemory) run rs back s kept new left given same = absurd given

-- what is the same leads to the same
pub steps-same : (here : ℕ) (program : Resolved) (ops : List Op) (run other : Run ℤ)
    (result : Result Reached Stop) (callers : List Caller) (k : Kept) (left : ℕ)
    → run ≡ other → Steps here program ops other result callers k left →
    Steps here program ops run result callers k left
steps-same here program ops run other (Ok (reached.On p)) callers k left same is = same ∙ is
steps-same here program ops run other (Ok (reached.Round p)) callers k left same is = same ∙ is
steps-same here program ops run other (Ok (reached.Back p)) callers k left same is = same ∙ is
steps-same here program ops run other (Ok (reached.Ended x)) callers k left same is = same ∙ is
steps-same here program ops run other (Err stop.DivisionError) callers k left same is = same ∙ is
steps-same here program ops run other (Err stop.More) callers k left same is = same ∙ is
steps-same here program ops run other (Err stop.Over) callers k left same is = same ∙ is
steps-same here program ops run other (Err stop.NoMemory) callers k left same is = tt

-- a step by an op leads where the op's run leads
pub op-steps : (program : Resolved) (ops : List Op) (callers : List Caller) (here : ℕ) (o p : Op)
    (k : Kept) (left : ℕ) (run : Run ℤ) (result : Result Reached Stop) (waiting : List Caller)
    (new : Kept)
    → slice_get ops here ≡ Some o → o ≡ p
    → op_to (counted program) (back_to (counted program) ops callers)
    (rests (counted program) (back_to (counted program) ops callers) (take here ops)) p k left ≡ run
    → Steps here program ops run result waiting new left →
    Steps here program ops (machine_run program ops callers here k left) result waiting new left
op-steps program ops callers here o p k left run result waiting new found is same steps =
    let back : Back = back_to (counted program) ops callers in
    let there = found ∙ ap (λ (q : Op). Some q) is in
    steps-same here program ops _ run result waiting new left
    (ap (λ (r : Rest). r k left) (op-found (counted program) back ops here p there) ∙ same) steps

-- how much is left to do: rounds and callers count more than positions
abbrev pub left_to_do : (rounds callers size p : ℕ) → ℕ
left_to_do rounds callers size p = (2 * rounds + callers) * (size + 1) + (p - (p - size))

falls-by : (a b size m n : ℕ) → a + 1 ≤ b → m ≤ size → a * (size + 1) + m < b * (size + 1) + n
falls-by a b size m n le small =
    let more : (a + 1) * (size + 1) ≤ b * (size + 1) = mul-le-mul_right (size + 1) le in
    omega arith

pub falls-round : (rounds old new size p q : ℕ) → 0 < rounds → new ≤ old + 1 →
    left_to_do (rounds - 1) new size q < left_to_do rounds old size p
falls-round rounds old new size p q some le =
    falls-by (2 * (rounds - 1) + new) (2 * rounds + old) size (q - (q - size)) (p - (p - size))
    (omega arith) (omega arith)

pub falls-back : (rounds old new size p q : ℕ) → new + 1 ≡ old → left_to_do rounds new size q <
    left_to_do rounds old size p
falls-back rounds old new size p q less =
    falls-by (2 * rounds + new) (2 * rounds + old) size (q - (q - size)) (p - (p - size))
    (omega arith) (omega arith)

pub falls-on : (rounds old new size p q : ℕ) → q < p → p < size → new ≡ old →
    left_to_do rounds new size q < left_to_do rounds old size p
falls-on rounds old new size p q lower there same =
    rw same (let less : q - (q - size) < p - (p - size) = omega arith in omega arith)

-- a turn is begun, if a round is left
pub turn-steps : (program : Resolved) (ops : List Op) (callers : List Caller) (turn : ℕ)
    (whole : Bor Stmt) (exits : Exits) (begin : ℕ)
    → TurnIsRight ops turn whole.now exits begin → slice_get ops turn ≡
    Some (op.Turn whole exits begin)
    → (result : Result Reached Stop) (k : Kept) (left : ℕ)
    → OnOk result (0 < left) → IfOk result (λ r. r ≡ reached.Round begin) →
    OnErr result (left ≡ 0) → IfErr result (λ e. e ≡ stop.More)
    → Steps turn program ops (machine_run program ops callers turn k left) result callers k left
turn-steps program ops callers turn whole exits begin right found (Ok r) k left some is none more =
    let same : left ≡ suc (left - 1) = omega arith in
    let P : Reached → Type 0 = λ q.
    Steps turn program ops (machine_run program ops callers turn k left)
    (Ok q) callers k left in
    subst P (sym is) (ap (λ (n : ℕ). machine_run program ops callers turn k n) same
    ∙ turn-begun program (back_to (counted program) ops callers) ops turn whole exits begin right
    found k (left - 1))
turn-steps program ops callers turn whole exits begin right found (Err e) k left some is none more =
    let P : Stop → Type 0 = λ q.
    Steps turn program ops (machine_run program ops callers turn k left)
    (Err q) callers k left in
    subst P (sym more) (ap (λ (n : ℕ). machine_run program ops callers turn k n) none
    ∙ (ap (λ (r : Rest). r k 0) (op-found (counted program) (back_to (counted program) ops callers)
    ops turn (op.Turn whole exits begin) found)
    ∙ turn-out program (back_to (counted program) ops callers)
    (rests (counted program) (back_to (counted program) ops callers) (take turn ops)) whole
    exits begin k))
