-- The code of functions and of whole programs.
use Rattle.std.proofs.Common.{◌≡◌, ℕ, zero, suc, ◌+◌, ◌<◌, Some, None, List, [], ◌∷◌, ◌++◌, pos, map, length, refl, ap, ◌∙◌, sym, arith, add-one, get_or, take, inl, inr, ◌⊎◌}
use Rattle.std.specs.Prelude.{slice_get}
use Rattle.std.proofs.Math.ListN.{length-append}
use Rattle.std.proofs.lemmas.List.{append-nil, append_assoc}
use Rattle.std.proofs.lemmas.Option.{slice_get_within}
use Rattle.c_ast.specs.declared.expr.Expr.{Expr}
use Rattle.c_ast.specs.declared.program.Function.{Function}
use Rattle.c_meaning.specs.Outcomes.{Flow, Next, Break, Continue, Return}
use Rattle.c_meaning.specs.Counted.{returned}
use Rattle.c_meaning.specs.Runs.{on_value}
use Rattle.c_meaning.specs.CountedExpressions.{Calls}
use Rattle.c_meaning.specs.CountedStatements.{in_order, stmt}
use Rattle.c_code.specs.Stores.{Kept, with_state, ended}
use Rattle.c_code.specs.Flat.{Back, op_to, rests, flow_to, expr_run, sequence_run, function_run}
use Rattle.c_code.specs.Flat.{Leads, FunctionIsRight, FunctionsAreRight, FunctionsLead, WholeLeads, IsCode}
use Rattle.c_code.specs.declared.code.Operand.TheVariants.{Constant}
use Rattle.c_code.specs.declared.code.Work.TheVariants.{Read}
use Rattle.c_code.specs.declared.code.Destination.TheVariants as destination
use Rattle.c_code.specs.declared.code.Exits.{Exits}
use Rattle.c_code.specs.declared.code.Code.{Code}
use Rattle.std.specs.Option.{option_copied}
use Rattle.c_code.specs.declared.code.Op.{Op}
use Rattle.c_code.specs.declared.code.Op.TheVariants as op
use Rattle.c_meaning.proofs.Runs.{on_value-then}
use Rattle.c_code.proofs.Leading.{stays, leads-on, longer-length, turns-joined, no-turns}

-- exits that all lead to one position, with no scope begun
abbrev pub all_to : ℕ → Exits
all_to p = record { next = p; broken = p; continued = p; scopes = 0 }

-- a function
module _ (old m1 new : List Op) (function : Function) (end p : ℕ)
    (one : Leads old m1 end (λ calls back. op_to calls back (rests calls back old)
    (op.Do (Read (Constant (pos 0))) (destination.Return 0))))
    (two : Leads m1 new p (sequence_run m1 (all_to end) function.body)) where
  through-end : (calls : Calls) (back : Back) (k : Kept) (flow : Flow) (m : ℕ)
      → on_value (returned flow m) (λ x. back x (ended k 0)) ≡
      flow_to (rests calls back m1) back (all_to end) k flow m
  through-end calls back k (Next s) m = sym (one.comes calls back (with_state k s) m)
  through-end calls back k (Break s) m = sym (one.comes calls back (with_state k s) m)
  through-end calls back k (Continue s) m = sym (one.comes calls back (with_state k s) m)
  through-end calls back k (Return x) m = refl

  pub function-leads : Leads old new p (function_run function)
  function-leads =
      leads-on old m1 new end p _ (sequence_run m1 (all_to end) function.body)
      (function_run function) one two
      (λ calls back k left. sym (on_value-then
      (in_order (map (stmt calls) function.body) left k.state) returned
      (λ x. back x (ended k 0)) _ (through-end calls back k)))

-- functions that are right stay so
function-stays : (old more new : List Op) → new ≡ old ++ more → (p : ℕ) (function : Function) →
    FunctionIsRight old p function → FunctionIsRight new p function
function-stays old more new longer p function right =
    let le = longer-length old more new longer in
    let below = right.within in
    record {
      within = omega arith;
      comes =
          λ calls back k left. stays old more new longer p right.within calls back k left ∙
          right.comes calls back k left;
    }

pub functions-stay : (old more new : List Op) → new ≡ old ++ more →
    (entries : List ℕ) (functions : List Function)
    → FunctionsAreRight old entries functions → FunctionsAreRight new entries functions
functions-stay old more new longer entries functions right = record {
  count = right.count;
  each =
      λ f entry function is at. function-stays old more new longer entry function
      (right.each f entry function is at);
}

slice_get-last : (A : Type 0) (xs : List A) (x found : A) (p : ℕ) → slice_get (xs ++ x ∷ []) p ≡
    Some found
    → (slice_get xs p ≡ Some found) ⊎ ((p ≡ length xs) × (found ≡ x))
slice_get-last A [] x found zero is = inr (refl, cc)
slice_get-last A [] x found (suc p) is = absurd (cc)
slice_get-last A (y ∷ xs) x found zero is = inl is
slice_get-last A (y ∷ xs) x found (suc p) is =
    elim (slice_get-last A xs x found p is) [
      | inl there ↦ inl there
      | inr last ↦ inr (ap suc last.0, last.1)
    ]

pub no-functions : (ops new : List Op) (entries : List ℕ) → new ≡ ops → entries ≡ [] →
    FunctionsLead ops new entries []
no-functions ops new entries same none = record {
  more = [];
  longer = same ∙ sym (append-nil ops);
  turns = no-turns ops new same;
  right = record { count = ap length none; each = λ f entry function is at. absurd (cc) };
}

-- one function more
pub one-function : (old mid new : List Op) (entries all : List ℕ) (functions both : List Function)
    (function : Function) (p : ℕ)
    → FunctionsLead old mid entries functions → Leads mid new p (function_run function) → all ≡
    entries ++ p ∷ [] → both ≡ functions ++ function ∷ []
    → FunctionsLead old new all both
one-function old mid new entries all functions both function p rest one more-entries more-functions
    =
    let count = rest.right.count in
    let here : FunctionIsRight new p function = record { within = one.within; comes = one.comes } in
    record {
      more = rest.more ++ one.more;
      longer =
          one.longer ∙ (ap (λ (ops : List Op). ops ++ one.more) rest.longer ∙
          append_assoc old rest.more one.more);
      turns = turns-joined (length old) mid one.more new one.longer rest.turns one.turns;
      right = record {
        count =
            ap length more-entries ∙ (length-append entries (p ∷ []) ∙ (ap (λ (n : ℕ). n + 1) count
            ∙ sym (ap length more-functions ∙ length-append functions (function ∷ []))));
        each = λ f entry other is at.
            elim (slice_get-last Function functions function other f
            (ap (λ (fs : List Function). slice_get fs f) (sym more-functions) ∙ is)) [
              | inl there ↦
                  elim (slice_get-last ℕ entries p entry f
                  (ap (λ (es : List ℕ). slice_get es f) (sym more-entries) ∙ at)) [
                    | inl old_one ↦ function-stays mid one.more new one.longer entry other
                        (rest.right.each f entry other there old_one)
                    | inr last ↦ absurd (let below = slice_get_within functions f other there in
                        let place = last.0 in omega arith)
                  ]
              | inr last ↦
                  elim (slice_get-last ℕ entries p entry f
                  (ap (λ (es : List ℕ). slice_get es f) (sym more-entries) ∙ at)) [
                    | inl old_one ↦ absurd (let below = slice_get_within entries f entry old_one in
                        let place = last.0 in omega arith)
                    | inr both_last ↦ rw (both_last.1, last.1) here
                  ]
            ];
      };
    }

-- an expression whose value ends the run
pub whole-leads : (old new : List Op) (e : Expr) (p : ℕ) →
    Leads old new p (expr_run old (destination.Return 0) e) → WholeLeads old new (Some e) (Some p)
whole-leads old new e p leads =
    record { more = leads.more; longer = leads.longer; turns = leads.turns; right = leads.comes }

pub no-whole : (old new : List Op) → new ≡ old → WholeLeads old new None None
no-whole old new same =
    record {
      more = [];
      longer = same ∙ sym (append-nil old);
      turns = no-turns old new same;
      right =
          tt;
    }

taken-one : (A : Type 0) (xs : List A) (i : ℕ) (x : A) → i < length xs → x ≡ get_or xs i x →
    take (suc i) xs ≡ take i xs ++ x ∷ []
taken-one A [] i x below is = absurd (omega arith)
taken-one A (y ∷ xs) zero x below is = let same : x ≡ y = is in rw same refl
taken-one A (y ∷ xs) (suc i) x below is =
    ap (λ (ys : List A). y ∷ ys) (taken-one A xs i x (omega arith) is)

-- one function more of those that are there
pub take-one : (A : Type 0) (xs : List A) (i : ℕ) (x : A) → i < length xs → x ≡ get_or xs i x →
    take (i + 1) xs ≡ take i xs ++ x ∷ []
take-one A xs i x below is = rw (add-one i) (taken-one A xs i x below is)

-- the code of a program and of an expression
pub is-code : (code : Code) (empty mid : List Op) → empty ≡ [] →
    FunctionsLead empty mid code.entries.items code.program.now.functions
    → WholeLeads mid code.ops.items (option_copied code.whole) code.start → IsCode code
is-code code empty mid none functions whole = record {
  turns = λ turn of exits begin from is.
      turns-joined (length empty) mid whole.more code.ops.items whole.longer functions.turns
      whole.turns turn of exits begin
      (rw none from) is;
  functions =
      functions-stay mid whole.more code.ops.items whole.longer code.entries.items
      code.program.now.functions functions.right;
  whole = whole.right;
}
