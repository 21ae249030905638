-- Code that is added in parts.
use Rattle.std.proofs.Common.{◌≡◌, ℕ, zero, suc, ◌<◌, ◌≤◌, true, false, Some, None, List, [], ◌∷◌, ◌++◌, ℤ, length, refl, ap, ◌∙◌, sym, subst, arith, inl, inr, if◌then◌else◌}
use Rattle.std.specs.Prelude.{slice_get, Result, Ok, Err, IfOk, OnOk}
use Rattle.std.proofs.Math.ListN.{length-append}
use Rattle.std.proofs.lemmas.List.{append-nil, append_assoc}
use Rattle.std.proofs.lemmas.Option.{slice_get_past}
use Rattle.c_ast.specs.declared.stmt.Stmt.{Stmt}
use Rattle.c_meaning.specs.Outcomes.{Flow, Next, Break, Continue, Return}
use Rattle.c_meaning.specs.Expressions.{is_zero}
use Rattle.c_meaning.specs.Statements.{Turn, Again, Ends}
use Rattle.c_meaning.specs.CountedExpressions.{Calls}
use Rattle.c_code.specs.Stores.{Kept}
use Rattle.c_code.specs.Flat.{Rest, Back, at, op_to, rests, code_run, destination_to, flow_to, turn_to, turn_of}
use Rattle.c_code.specs.Flat.{IsPlain, DestinationWithin, ExitsWithin, TurnIsRight, TurnsFrom, Leads}
use Rattle.c_code.specs.declared.code.Destination.{Destination}
use Rattle.c_code.specs.declared.code.Destination.TheVariants as destination
use Rattle.c_code.specs.declared.code.Exits.{Exits}
use Rattle.c_code.specs.declared.code.Op.{Op}
use Rattle.c_code.specs.declared.code.Op.TheVariants as op
use Rattle.c_code.proofs.Positions.{le_or_less, at-stays, at-added}
use Rattle.c_meaning.proofs.Runs.{on_value-same}

-- a position that is there stays
pub stays : (old more new : List Op) → new ≡ old ++ more → (p : ℕ) → p < length old
    → (calls : Calls) (back : Back) (k : Kept) (left : ℕ) → code_run calls back new p k left ≡
    code_run calls back old p k left
stays old more new longer p below calls back k left =
    ap (λ (r : Rest). r k left) (at-stays calls back old more new p longer below)

-- and so does where a destination leads
pub destination-stays : (old more new : List Op) → new ≡ old ++ more → (s : Destination) →
    DestinationWithin (length old) s
    → (calls : Calls) (back : Back) (k : Kept) (x : ℤ) (left : ℕ) →
    destination_to (rests calls back new) back s k x left ≡
    destination_to (rests calls back old) back s k x left
destination-stays old more new longer (destination.Push p) below calls back k x left =
    stays old more new longer p below calls back _ left
destination-stays old more new longer (destination.Branch if_zero other) below calls back k x left =
    elim (is_zero x) as (λ b. (if b then at (rests calls back new) if_zero k left else
    at (rests calls back new) other k left)
    ≡ (if b then at (rests calls back old) if_zero k left else
    at (rests calls back old) other k left)) [
      | true ↦ stays old more new longer if_zero below.0 calls back k left
      | false ↦ stays old more new longer other below.1 calls back k left
    ]
destination-stays old more new longer (destination.Declare v p) below calls back k x left =
    stays old more new longer p below calls back _ left
destination-stays old more new longer (destination.Assign v p) below calls back k x left =
    stays old more new longer p below calls back _ left
destination-stays old more new longer (destination.Return scopes) below calls back k x left = refl

-- and where a statement leads
pub flow-stays : (old more new : List Op) → new ≡ old ++ more → (exits : Exits) →
    ExitsWithin (length old) exits
    → (calls : Calls) (back : Back) (k : Kept) (flow : Flow) (left : ℕ)
    → flow_to (rests calls back new) back exits k flow left ≡
    flow_to (rests calls back old) back exits k flow left
flow-stays old more new longer exits below calls back k (Next s) left =
    stays old more new longer exits.next below.next calls back _ left
flow-stays old more new longer exits below calls back k (Break s) left =
    stays old more new longer exits.broken below.broken calls back _ left
flow-stays old more new longer exits below calls back k (Continue s) left =
    stays old more new longer exits.continued below.continued calls back _ left
flow-stays old more new longer exits below calls back k (Return x) left = refl

pub turn-stays : (old more new : List Op) → new ≡ old ++ more → (turn : ℕ) → turn < length old →
    (exits : Exits) → ExitsWithin (length old) exits
    → (calls : Calls) (back : Back) (k : Kept) (t : Turn) (left : ℕ)
    → turn_to (rests calls back new) back turn exits k t left ≡
    turn_to (rests calls back old) back turn exits k t left
turn-stays old more new longer turn there exits below calls back k (Again s) left =
    stays old more new longer turn there calls back _ left
turn-stays old more new longer turn there exits below calls back k (Ends flow) left =
    flow-stays old more new longer exits below calls back k flow left

-- what is there is below a greater number too
pub exits-below : (m n : ℕ) → m ≤ n → (exits : Exits) → ExitsWithin m exits → ExitsWithin n exits
exits-below m n le exits below =
    let one = below.next in
    let two = below.broken in
    let three = below.continued in
    let four = below.scopes in
    record {
      next = omega arith;
      broken = omega arith;
      continued = omega arith;
      scopes =
          omega arith;
    }

pub destination-below : (m n : ℕ) → m ≤ n → (s : Destination) → DestinationWithin m s →
    DestinationWithin n s
destination-below m n le (destination.Push p) below = omega arith
destination-below m n le (destination.Branch if_zero other) below = (omega arith, omega arith)
destination-below m n le (destination.Declare v p) below = omega arith
destination-below m n le (destination.Assign v p) below = omega arith
destination-below m n le (destination.Return scopes) below = tt

pub longer-length : (old more new : List Op) → new ≡ old ++ more → length old ≤ length new
longer-length old more new longer =
    let one = ap (λ (ops : List Op). length ops) longer ∙ length-append old more in
    omega arith

-- a loop that is right stays so
pub right-stays : (old more new : List Op) → new ≡ old ++ more → (turn : ℕ) → turn < length old →
    (whole : Stmt) (exits : Exits) (begin : ℕ)
    → TurnIsRight old turn whole exits begin → TurnIsRight new turn whole exits begin
right-stays old more new longer turn there whole exits begin right =
    let le = longer-length old more new longer in
    let begins = right.begins in
    let under : turn ≤ length old = omega arith in
    record {
      begins = omega arith;
      leads = right.leads;
      turns = λ calls back k left. stays old more new longer begin right.begins calls back k left
          ∙ (right.turns calls back k left ∙ sym
          (on_value-same (turn_of calls whole left k.state) _ _
          (λ t m. turn-stays old more new longer turn there exits
          (exits-below turn (length old) under exits right.leads) calls back k t m)));
    }

slice_get-old : (old more : List Op) (p : ℕ) → p < length old → slice_get (old ++ more) p ≡
    slice_get old p
slice_get-old [] more p below = absurd (omega arith)
slice_get-old (op ∷ old) more zero below = refl
slice_get-old (op ∷ old) more (suc p) below = slice_get-old old more p (omega arith)

-- loops that are right, in two parts
pub turns-joined : (first : ℕ) (mid more new : List Op) → new ≡ mid ++ more → TurnsFrom first mid →
    TurnsFrom (length mid) new → TurnsFrom first new
turns-joined first mid more new longer one two turn whole exits begin from is =
    elim (le_or_less (length mid) turn) [
      | inr there ↦ right-stays mid more new longer turn there whole.now exits begin
          (one turn whole exits begin from (sym (slice_get-old mid more turn there) ∙
          (ap (λ (ops : List Op). slice_get ops turn) (sym longer) ∙ is)))
      | inl later ↦ two turn whole exits begin later is
    ]

-- where nothing is added there are no loops
pub no-turns : (ops new : List Op) → new ≡ ops → TurnsFrom (length ops) new
no-turns ops new same turn whole exits begin from is =
    let none = slice_get_past ops turn from in
    let other = ap (λ (all : List Op). slice_get all turn) (sym same) ∙ is in
    absurd (let wrong : None ≡ Some (op.Turn whole exits begin) = sym none ∙ other in cc)

slice_get-added : (old : List Op) (o : Op) (p : ℕ) (found : Op) → length old ≤ p →
    slice_get (old ++ o ∷ []) p ≡ Some found → found ≡ o
slice_get-added [] o zero found from is = cc
slice_get-added [] o (suc p) found from is = absurd (cc)
slice_get-added (x ∷ old) o zero found from is = absurd (omega arith)
slice_get-added (x ∷ old) o (suc p) found from is = slice_get-added old o p found (omega arith) is

pub plain-turns : (old new : List Op) (o : Op) → new ≡ old ++ o ∷ [] → IsPlain o →
    TurnsFrom (length old) new
plain-turns old new o longer plain turn whole exits begin from is =
    let found = slice_get-added old o turn (op.Turn whole exits begin) from
    (ap (λ (ops : List Op). slice_get ops turn) (sym longer) ∙ is) in
    absurd (subst (λ (q : Op). IsPlain q) (sym found) plain)

-- an op that is added
pub emitted : (old new : List Op) (o : Op) (p : ℕ) → p ≡ length old → new ≡ old ++ o ∷ [] →
    IsPlain o
    → Leads old new p (λ calls back. op_to calls back (rests calls back old) o)
emitted old new o p here longer plain =
    let one = ap (λ (ops : List Op). length ops) longer ∙ length-append old (o ∷ []) in
    record {
      more = o ∷ [];
      longer = longer;
      within = omega arith;
      turns = plain-turns old new o longer plain;
      comes =
          λ calls back k left. rw (here, longer)
          (ap (λ (r : Rest). r k left) (at-added calls back old o));
    }

-- what is added after what was added
pub leads-after : (old mid new more : List Op) → mid ≡ old ++ more → TurnsFrom (length old) mid →
    (q : ℕ) (other want : Calls → Back → Rest)
    → Leads mid new q other → ((calls : Calls) (back : Back) (k : Kept) (left : ℕ) →
    other calls back k left ≡ want calls back k left) → Leads old new q want
leads-after old mid new more longer turns q other want second same = record {
  more = more ++ second.more;
  longer =
      second.longer ∙ (ap (λ (ops : List Op). ops ++ second.more) longer ∙
      append_assoc old more second.more);
  within = second.within;
  turns = turns-joined (length old) mid second.more new second.longer turns second.turns;
  comes = λ calls back k left. second.comes calls back k left ∙ same calls back k left;
}

pub leads-on : (old mid new : List Op) (p q : ℕ) (run other want : Calls → Back → Rest) →
    Leads old mid p run → Leads mid new q other
    → ((calls : Calls) (back : Back) (k : Kept) (left : ℕ) → other calls back k left ≡
    want calls back k left) → Leads old new q want
leads-on old mid new p q run other want first second same =
    leads-after old mid new first.more first.longer first.turns q other want second same

-- what comes to the same
pub leads-as : (old new : List Op) (p : ℕ) (run want : Calls → Back → Rest) → Leads old new p run
    → ((calls : Calls) (back : Back) (k : Kept) (left : ℕ) → run calls back k left ≡
    want calls back k left) → Leads old new p want
leads-as old new p run want leads same = record {
  more = leads.more;
  longer = leads.longer;
  within = leads.within;
  turns = leads.turns;
  comes = λ calls back k left. leads.comes calls back k left ∙ same calls back k left;
}

-- a position that was there
pub leads-here : (old new : List Op) (p : ℕ) (want : Calls → Back → Rest) → new ≡ old → p <
    length old
    → ((calls : Calls) (back : Back) (k : Kept) (left : ℕ) → code_run calls back old p k left ≡
    want calls back k left) → Leads old new p want
leads-here old new p want none there same = record {
  more = [];
  longer = none ∙ sym (append-nil old);
  within = rw none there;
  turns = no-turns old new none;
  comes =
      λ calls back k left. ap (λ (ops : List Op). code_run calls back ops p k left) none ∙
      same calls back k left;
}

-- a position, if there is one
pub if_ok-mapped : {E : Type 0} (r : Result ℕ E) (P Q : ℕ → Type 0) → ((p : ℕ) → P p → Q p) →
    IfOk r P → IfOk r Q
if_ok-mapped (Ok p) P Q each is = each p is
if_ok-mapped (Err e) P Q each is = tt

pub emit-then : {E : Type 0} (r : Result ℕ E) (old new : List Op) (o : Op) (Q : ℕ → Type 0) →
    IsPlain o
    → ((p : ℕ) → Leads old new p (λ calls back. op_to calls back (rests calls back old) o) → Q p)
    → IfOk r (λ p. p ≡ length old) → OnOk r (new ≡ old ++ o ∷ []) → IfOk r Q
emit-then (Ok p) old new o Q plain each here longer = each p (emitted old new o p here longer plain)
emit-then (Err e) old new o Q plain each here longer = tt
