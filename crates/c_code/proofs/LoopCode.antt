-- The code of a loop, from the code of a turn.
use Rattle.std.proofs.Common.{◌≡◌, ℕ, zero, suc, ◌<◌, ◌≤◌, Bor, true, false, if◌then◌else◌, Option, Some, None, List, [], ◌∷◌, ◌++◌, length, refl, ap, ◌∙◌, sym, subst, arith, inl, inr, ◌⊎◌}
use Rattle.std.specs.Prelude.{slice_get, slice_set}
use Rattle.std.specs.Option.{option_map}
use Rattle.std.proofs.Math.ListN.{length-append}
use Rattle.std.proofs.lemmas.List.{append_assoc}
use Rattle.c_ast.specs.declared.expr.Expr.{Expr}
use Rattle.c_ast.specs.declared.stmt.Stmt.{Stmt}
use Rattle.c_meaning.specs.Outcomes.{State, Flow, Next, Break, Continue, Return}
use Rattle.c_meaning.specs.Expressions.{is_zero}
use Rattle.c_meaning.specs.Statements.{Turn, Again, Ends}
use Rattle.c_meaning.specs.Runs.{Run, Value, on_value}
use Rattle.c_meaning.specs.CountedExpressions.{Calls, expr}
use Rattle.c_meaning.specs.CountedStatements.{optional, loop, after_body, after_change, condition, while_turn, do_turn, stmt}
use Rattle.c_code.specs.Stores.{Kept, with_state}
use Rattle.c_code.specs.Flat.{Rest, Back, at, rests, code_run, flow_to, turn_to, turn_of}
use Rattle.c_code.specs.Flat.{ExitsWithin, TurnIsRight, TurnsFrom, Leads, expr_run, flow_run, stmt_run, condition_run}
use Rattle.c_code.specs.declared.code.Destination.TheVariants as destination
use Rattle.c_code.specs.declared.code.Exits.{Exits}
use Rattle.c_code.specs.declared.code.Op.{Op}
use Rattle.c_code.specs.declared.code.Op.TheVariants as op
use Rattle.c_code.proofs.Positions.{le_or_less, at-split, rests-changed}
use Rattle.c_meaning.proofs.Runs.{on_value-on_value, on_value-same, on_value-then}
use Rattle.c_code.proofs.StatementCode.{with_next, inside}
use Rattle.c_code.proofs.Leading.{stays, turn-stays, exits-below, longer-length, leads-on, leads-here}

-- where a turn leads: to its run, and then to the next turn or out of the loop
abbrev pub turn_run : List Op → ℕ → Exits → Stmt → Calls → Back → Rest
turn_run ops turn exits whole calls back k left =
    on_value (turn_of calls whole left k.state) (turn_to (rests calls back ops) back turn exits k)

right-same : (first second : List Op) (turn : ℕ) (whole : Stmt) (exits : Exits) (begin : ℕ) →
    length first ≡ length second
    → ((calls : Calls) (back : Back) → rests calls back second ≡ rests calls back first)
    → TurnIsRight first turn whole exits begin → TurnIsRight second turn whole exits begin
right-same first second turn whole exits begin many same right =
    let begins = right.begins in
    record {
      begins = omega arith;
      leads = right.leads;
      turns =
          λ calls back k left. let P : List Rest → Type 0 = λ rs. at rs begin k left ≡
          on_value (turn_of calls whole left k.state) (turn_to rs back turn exits k) in
          subst P (sym (same calls back)) (right.turns calls back k left);
    }

set-seam : (old more : List Op) (first second : Op) →
    slice_set (old ++ first ∷ more) (length old) second ≡ old ++ second ∷ more
set-seam [] more first second = refl
set-seam (x ∷ old) more first second =
    ap (λ (ops : List Op). x ∷ ops) (set-seam old more first second)

length-seam : (old more : List Op) (first second : Op) → length (old ++ first ∷ more) ≡
    length (old ++ second ∷ more)
length-seam old more first second =
    length-append old (first ∷ more) ∙ sym (length-append old (second ∷ more))

get-seam : (old more : List Op) (o : Op) → slice_get (old ++ o ∷ more) (length old) ≡ Some o
get-seam [] more o = refl
get-seam (x ∷ old) more o = get-seam old more o

get-later : (old more : List Op) (first second : Op) (p : ℕ) → length old < p →
    slice_get (old ++ first ∷ more) p ≡ slice_get (old ++ second ∷ more) p
get-later [] more first second zero later = absurd (omega arith)
get-later [] more first second (suc p) later = refl
get-later (x ∷ old) more first second zero later = absurd (omega arith)
get-later (x ∷ old) more first second (suc p) later =
    get-later old more first second p (omega arith)

at_or_later : (m n : ℕ) → m ≤ n → (n ≡ m) ⊎ (m < n)
at_or_later m n le = elim (le_or_less n m) [ inl most ↦ inl (omega arith) | inr less ↦ inr less ]

module _ (old m1 m3 new : List Op) (whole : Bor Stmt) (exits : Exits)
    (within : ExitsWithin (length old) exits) (turn begin : ℕ)
    (here : turn ≡ length old) (opened : m1 ≡ old ++ op.Turn whole exits 0 ∷ [])
    (turned : Leads m1 m3 begin (turn_run m1 turn exits whole.now))
    (closed : new ≡ slice_set m3 turn (op.Turn whole exits begin)) where
  before-it : m3 ≡ old ++ op.Turn whole exits 0 ∷ turned.more
  before-it =
      turned.longer ∙ (ap (λ (ops : List Op). ops ++ turned.more) opened ∙
      append_assoc old (op.Turn whole exits 0 ∷ []) turned.more)

  after-it : new ≡ old ++ op.Turn whole exits begin ∷ turned.more
  after-it =
      closed ∙ (rw (here, before-it) (set-seam old turned.more (op.Turn whole exits 0)
      (op.Turn whole exits begin)))

  many-ops : length m3 ≡ length new
  many-ops =
      ap (λ (ops : List Op). length ops) before-it ∙
      (length-seam old turned.more (op.Turn whole exits 0) (op.Turn whole exits begin)
      ∙ sym (ap (λ (ops : List Op). length ops) after-it))

  same-rests : (calls : Calls) (back : Back) → rests calls back new ≡ rests calls back m3
  same-rests calls back =
      ap (rests calls back) after-it
      ∙ (rests-changed calls back old turned.more (op.Turn whole exits begin)
      (op.Turn whole exits 0) refl
      ∙ sym (ap (rests calls back) before-it))

  turn-there : turn < length m1
  turn-there =
      let one = ap (λ (ops : List Op). length ops) opened ∙
      length-append old (op.Turn whole exits 0 ∷ []) in omega arith

  more-than-old : length old ≤ length m1
  more-than-old = longer-length old (op.Turn whole exits 0 ∷ []) m1 opened

  right-here : TurnIsRight m3 turn whole.now exits begin
  right-here = record {
    begins = turned.within;
    leads = exits-below (length old) turn (omega arith) exits within;
    turns =
        λ calls back k left. turned.comes calls back k left ∙
        sym (on_value-same (turn_of calls whole.now left k.state) _ _
        (λ t m. turn-stays m1 turned.more m3 turned.longer turn turn-there exits
        (exits-below (length old) (length m1) more-than-old exits within) calls back k t m));
  }

  all-right : TurnsFrom (length old) new
  all-right t w e b from is =
      elim (at_or_later (length old) t from) [
        | inl same ↦
            let found : Some (op.Turn whole exits begin) ≡ Some (op.Turn w e b) =
            sym (get-seam old turned.more (op.Turn whole exits begin)) ∙
            (ap (λ (ops : List Op). slice_get ops (length old)) (sym after-it) ∙
            (ap (slice_get new) (sym same) ∙ is)) in
            let one : whole ≡ w = cc in
            let two : exits ≡ e = cc in
            let three : begin ≡ b = cc in
            let P : Bor Stmt → Exits → ℕ → ℕ → Type 0 = λ x y z n. TurnIsRight new n x.now y z in
            subst (λ (x : Bor Stmt). TurnIsRight new t x.now e b) one
            (subst (λ (y : Exits). TurnIsRight new t whole.now y b) two
            (subst (λ (z : ℕ). TurnIsRight new t whole.now exits z) three
            (subst (λ (n : ℕ). TurnIsRight new n whole.now exits begin) (here ∙ sym same)
            (right-same m3 new turn whole.now exits begin many-ops same-rests right-here))))
        | inr later ↦
            let many = ap (λ (ops : List Op). length ops) opened ∙
            length-append old (op.Turn whole exits 0 ∷ []) in
            let there : length m1 ≤ t = omega arith in
            right-same m3 new t w.now e b many-ops same-rests
            (turned.turns t w e b there
            (ap (λ (ops : List Op). slice_get ops t) before-it ∙
            (get-later old turned.more (op.Turn whole exits 0) (op.Turn whole exits begin) t
            later
            ∙ (ap (λ (ops : List Op). slice_get ops t) (sym after-it) ∙ is))))
      ]

  pub loop-leads : Leads old new turn (flow_run old exits (λ calls. loop (turn_of calls whole.now)))
  loop-leads = record {
    more = op.Turn whole exits begin ∷ turned.more;
    longer = after-it;
    within =
        let le = longer-length m1 turned.more m3 turned.longer in let there = turn-there in
        let many = many-ops in omega arith;
    turns = all-right;
    comes =
        λ calls back k left. rw (here, after-it)
        (ap (λ (r : Rest). r k left) (at-split calls back old turned.more
        (op.Turn whole exits begin)));
  }

-- a turn of a `while` or a `for`
module _ (m1 m2 m3 m4 : List Op) (turn : ℕ) (exits : Exits) (within : ExitsWithin (length m1) exits)
    (test : Option Expr) (change : Option Stmt) (body whole : Stmt)
    (parts : (calls : Calls) → turn_of calls whole ≡
    while_turn calls test (optional (option_map (stmt calls) change)) (stmt calls body))
    (changed holds begin : ℕ)
    (one : Leads m1 m2 changed (flow_run m1 (with_next exits turn)
    (λ calls. optional (option_map (stmt calls) change))))
    (two : Leads m2 m3 holds (stmt_run m2 (inside exits changed) body))
    (three : Leads m3 m4 begin (condition_run m3 exits.next holds test)) where
  after-change : (calls : Calls) (back : Back) (k : Kept) (s : State) (flow : Flow) (m : ℕ)
      → flow_to (rests calls back m1) back (with_next exits turn) (with_state k s) flow m
      ≡ on_value (after_change flow m) (turn_to (rests calls back m1) back turn exits k)
  after-change calls back k s (Next t) m = refl
  after-change calls back k s (Break t) m = refl
  after-change calls back k s (Continue t) m = refl
  after-change calls back k s (Return x) m = refl

  goes-on : (calls : Calls) (back : Back) (k : Kept) (s : State) (m : ℕ)
      → code_run calls back m2 changed (with_state k s) m
      ≡ on_value (on_value (optional (option_map (stmt calls) change) m s) after_change)
      (turn_to (rests calls back m1) back turn exits k)
  goes-on calls back k s m =
      one.comes calls back (with_state k s) m
      ∙ (on_value-same (optional (option_map (stmt calls) change) m s) _ _
      (after-change calls back k s)
      ∙ sym (on_value-on_value (optional (option_map (stmt calls) change) m s) after_change
      (turn_to (rests calls back m1) back turn exits k)))

  through-body : (calls : Calls) (back : Back) (k : Kept) (flow : Flow) (m : ℕ)
      → flow_to (rests calls back m2) back (inside exits changed) k flow m
      ≡ on_value (after_body (λ n t. on_value (optional (option_map (stmt calls) change) n t)
      after_change) flow m) (turn_to (rests calls back m1) back turn exits k)
  through-body calls back k (Next s) m = goes-on calls back k s m
  through-body calls back k (Continue s) m = goes-on calls back k s m
  through-body calls back k (Break s) m =
      stays m1 one.more m2 one.longer exits.next within.next calls back (with_state k s) m
  through-body calls back k (Return x) m = refl

  body-run : (calls : Calls) (back : Back) (k : Kept) (m : ℕ)
      → code_run calls back m3 holds k m
      ≡ on_value (on_value (stmt calls body m k.state)
      (after_body (λ n t. on_value (optional (option_map (stmt calls) change) n t)
      after_change)))
      (turn_to (rests calls back m1) back turn exits k)
  body-run calls back k m =
      two.comes calls back k m
      ∙ (on_value-same (stmt calls body m k.state) _ _ (through-body calls back k)
      ∙ sym (on_value-on_value (stmt calls body m k.state)
      (after_body (λ n t. on_value (optional (option_map (stmt calls) change) n t)
      after_change))
      (turn_to (rests calls back m1) back turn exits k)))

  both-parts : Leads m1 m3 holds (stmt_run m2 (inside exits changed) body)
  both-parts =
      leads-on m1 m2 m3 changed holds _ (stmt_run m2 (inside exits changed) body)
      (stmt_run m2 (inside exits changed) body) one two (λ calls back k left. refl)

  turn-equation : (calls : Calls) (back : Back) (k : Kept) (left : ℕ) →
      condition_run m3 exits.next holds test calls back k left
      ≡ turn_run m1 turn exits whole calls back k left
  turn-equation calls back k left =
      sym (ap (λ (t : ℕ → State → Run Turn). on_value (t left k.state)
      (turn_to (rests calls back m1) back turn exits k)) (parts calls)
      ∙ on_value-then (condition calls test left k.state) _
      (turn_to (rests calls back m1) back turn exits k) _ (λ x m.
      elim (is_zero x) as (λ z. on_value (if z then Value (Ends (Next k.state)) m
      else on_value (stmt calls body m k.state)
      (after_body (λ n t. on_value (optional (option_map (stmt calls) change) n t)
      after_change)))
      (turn_to (rests calls back m1) back turn exits k)
      ≡ (if z then at (rests calls back m3) exits.next k m else at (rests calls back m3) holds k m)) [
        | true ↦ sym (stays m1 both-parts.more m3 both-parts.longer exits.next within.next calls
            back k m)
        | false ↦ sym (body-run calls back k m)
      ]))

  pub while-turn-leads : Leads m1 m4 begin (turn_run m1 turn exits whole)
  while-turn-leads =
      leads-on m1 m3 m4 holds begin (stmt_run m2 (inside exits changed) body)
      (condition_run m3 exits.next holds test) (turn_run m1 turn exits whole)
      both-parts three turn-equation

-- nothing is executed after a turn
pub no-change : (m1 : List Op) (turn : ℕ) (exits : Exits) → turn < length m1
    → Leads m1 m1 turn (flow_run m1 (with_next exits turn)
    (λ calls. optional (option_map (stmt calls) None)))
no-change m1 turn exits there =
    leads-here m1 m1 turn (flow_run m1 (with_next exits turn)
    (λ calls. optional (option_map (stmt calls) None))) refl there
    (λ calls back k left. refl)

-- a turn of a `do`
module _ (m1 m2 m3 : List Op) (turn : ℕ) (there : turn < length m1) (exits : Exits)
    (within : ExitsWithin (length m1) exits) (test : Expr) (body whole : Stmt)
    (parts : (calls : Calls) → turn_of calls whole ≡ do_turn calls test (stmt calls body))
    (tested begin : ℕ)
    (one : Leads m1 m2 tested (expr_run m1 (destination.Branch exits.next turn) test))
    (two : Leads m2 m3 begin (stmt_run m2 (inside exits tested) body)) where
  is-tested : (calls : Calls) (back : Back) (k : Kept) (s : State) (m : ℕ)
      → code_run calls back m2 tested (with_state k s) m
      ≡ on_value (on_value (expr calls test m s)
      (λ x n. if is_zero x then Value (Ends (Next s)) n else Value (Again s) n))
      (turn_to (rests calls back m1) back turn exits k)
  is-tested calls back k s m =
      one.comes calls back (with_state k s) m
      ∙ sym (on_value-then (expr calls test m s)
      (λ x n. if is_zero x then Value (Ends (Next s)) n else Value (Again s) n)
      (turn_to (rests calls back m1) back turn exits k) _
      (λ x n. elim (is_zero x) as (λ z. on_value
      (if z then Value (Ends (Next s)) n else Value (Again s) n)
      (turn_to (rests calls back m1) back turn exits k)
      ≡ (if z then at (rests calls back m1) exits.next (with_state k s) n else
      at (rests calls back m1) turn (with_state k s) n)) [ true ↦ refl | false ↦ refl ]))

  through-do-body : (calls : Calls) (back : Back) (k : Kept) (flow : Flow) (m : ℕ)
      → flow_to (rests calls back m2) back (inside exits tested) k flow m
      ≡ on_value (after_body (λ n t. on_value (expr calls test n t)
      (λ x q. if is_zero x then Value (Ends (Next t)) q else Value (Again t) q)) flow m)
      (turn_to (rests calls back m1) back turn exits k)
  through-do-body calls back k (Next s) m = is-tested calls back k s m
  through-do-body calls back k (Continue s) m = is-tested calls back k s m
  through-do-body calls back k (Break s) m =
      stays m1 one.more m2 one.longer exits.next within.next calls back (with_state k s) m
  through-do-body calls back k (Return x) m = refl

  pub do-turn-leads : Leads m1 m3 begin (turn_run m1 turn exits whole)
  do-turn-leads =
      leads-on m1 m2 m3 tested begin (expr_run m1 (destination.Branch exits.next turn) test)
      (stmt_run m2 (inside exits tested) body) (turn_run m1 turn exits whole) one two
      (λ calls back k left. on_value-same (stmt calls body left k.state) _ _
      (through-do-body calls back k)
      ∙ (sym (on_value-on_value (stmt calls body left k.state)
      (after_body (λ n t. on_value (expr calls test n t)
      (λ x q. if is_zero x then Value (Ends (Next t)) q else Value (Again t) q)))
      (turn_to (rests calls back m1) back turn exits k))
      ∙ sym (ap (λ (t : ℕ → State → Run Turn). on_value (t left k.state)
      (turn_to (rests calls back m1) back turn exits k)) (parts calls))))
