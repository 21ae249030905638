-- The code of an expression, from the code of its parts.
use Rattle.std.proofs.Common.{◌≡◌, ℕ, suc, ◌<◌, ◌≤◌, true, false, if◌then◌else◌, Option, Some, None, List, [], ◌∷◌, ◌++◌, ℤ, pos, map, length, refl, ap, ◌∙◌, sym, subst, arith, get_or, ◌-◌}
use Rattle.std.specs.Prelude.{take, drop, reverse}
use Rattle.std.proofs.Math.Seq.{take-append_seam, drop-append_seam, drop-cons}
use Rattle.std.proofs.lemmas.List.{append-nil, append_assoc, reverse-append, reverse-reverse, length-reverse}
use Rattle.c_ast.specs.declared.expr.UnOp.{UnOp}
use Rattle.c_ast.specs.declared.expr.BinOp.{BinOp}
use Rattle.c_ast.specs.declared.expr.BinOp.TheVariants.{AndAlso, OrElse}
use Rattle.c_ast.specs.declared.expr.Expr.{Expr}
use Rattle.c_ast.specs.declared.expr.Expr.TheOpen.{Expr-F}
use Rattle.c_ast.specs.declared.expr.Expr.TheViews.{out-Expr}
use Rattle.c_ast.specs.declared.expr.Expr.TheFolds.{map-Expr, fold_out-Expr}
use Rattle.c_ast.specs.declared.expr.Expr.TheVariants.{Lit, Var, Unary, Binary, Choose, Apply}
use Rattle.c_meaning.specs.Outcomes.{State}
use Rattle.c_meaning.specs.Expressions.{is_zero}
use Rattle.c_meaning.specs.Runs.{Run, Value, DivisionError, More, Over, on_value}
use Rattle.c_meaning.specs.CountedExpressions.{Calls, Evaluation, unary, apply, short_circuit, unless_known, with_left, values, expr_level, expr}
use Rattle.c_code.specs.Stores.{Kept, with_values, pushed}
use Rattle.c_code.specs.Flat.{Back, at, read, after, before, operand_level, operand_of, op_to, rests, code_run, destination_to}
use Rattle.c_code.specs.Flat.{Leads, TopLeads, DestinationWithin, expr_run, operand_run, right_run, binary_run, arguments_run}
use Rattle.c_code.specs.declared.code.Operand.{Operand}
use Rattle.c_code.specs.declared.code.Operand.TheVariants.{Constant, Slot, Popped}
use Rattle.c_code.specs.declared.code.Work.TheVariants.{Read, Before, Between}
use Rattle.c_code.specs.declared.code.Destination.{Destination}
use Rattle.c_code.specs.declared.code.Destination.TheVariants as destination
use Rattle.c_code.specs.declared.code.Op.{Op}
use Rattle.c_code.specs.declared.code.Op.TheVariants as op
use Rattle.c_meaning.proofs.CountedEquations.{expr-Lit, expr-Var, expr-Unary, expr-Binary, expr-Choose, expr-Apply}
use Rattle.c_meaning.proofs.Runs.{on_value-on_value, on_value-same, on_value-then}
use Rattle.c_code.proofs.Leading.{stays, destination-stays, leads-on, leads-as, leads-after, no-turns}

module _ (calls : Calls) (k : Kept) (left : ℕ) where
  -- the value of an expression, read where it is, is its value
  read-level : (y : Expr-F Expr) (f : ℤ → Kept → ℕ → Run ℤ)
      → (let run : Run ℤ = expr_level calls (map-Expr Expr Evaluation (expr calls) y) left k.state
      in
      on_value run (λ x m. f (read (operand_level y) (before (operand_level y) k x))
      (after (operand_level y) (before (operand_level y) k x)) m)
      ≡ on_value run (λ x m. f x k m))
  read-level (Expr-F.Lit c) f = refl
  read-level (Expr-F.Var v) f = refl
  read-level (Expr-F.Unary g a) f = refl
  read-level (Expr-F.Binary g a b) f = refl
  read-level (Expr-F.Choose c a b) f = refl
  read-level (Expr-F.Apply g es) f = refl

  pub read-operand : (e : Expr) (f : ℤ → Kept → ℕ → Run ℤ)
      → on_value (expr calls e left k.state) (λ x m.
      f (read (operand_of e) (before (operand_of e) k x))
      (after (operand_of e) (before (operand_of e) k x)) m)
      ≡ on_value (expr calls e left k.state) (λ x m. f x k m)
  read-operand e f =
      let P : Evaluation → Type 0 = λ v. on_value (v left k.state)
      (λ x m. f (read (operand_of e) (before (operand_of e) k x))
      (after (operand_of e) (before (operand_of e) k x)) m)
      ≡ on_value (v left k.state) (λ x m. f x k m) in
      subst P (sym (fold_out-Expr Evaluation (expr_level calls) e)) (read-level (out-Expr e) f)

  -- what is read from a literal or a slot needs no code
  leaf-level : (y : Expr-F Expr) (g : Kept → ℕ → Run ℤ) → (operand_level y ≡ Popped → ⊥)
      → g k left ≡ on_value (expr_level calls (map-Expr Expr Evaluation (expr calls) y) left
      k.state) (λ x. g (before (operand_level y) k x))
  leaf-level (Expr-F.Lit c) g other = refl
  leaf-level (Expr-F.Var v) g other = refl
  leaf-level (Expr-F.Unary h a) g other = absurd (other refl)
  leaf-level (Expr-F.Binary h a b) g other = absurd (other refl)
  leaf-level (Expr-F.Choose c a b) g other = absurd (other refl)
  leaf-level (Expr-F.Apply h es) g other = absurd (other refl)

  pub read-leaf : (e : Expr) (g : Kept → ℕ → Run ℤ) → (operand_of e ≡ Popped → ⊥)
      → g k left ≡ on_value (expr calls e left k.state) (λ x. g (before (operand_of e) k x))
  read-leaf e g other =
      let P : Evaluation → Type 0 = λ v. g k left ≡
      on_value (v left k.state) (λ x. g (before (operand_of e) k x)) in
      subst P (sym (fold_out-Expr Evaluation (expr_level calls) e))
      (leaf-level (out-Expr e) g other)

-- an operand that waits on top
pub operand-popped : (old new : List Op) (p next : ℕ) (e : Expr) → operand_of e ≡ Popped
    → Leads old new p (expr_run old (destination.Push next) e) → Leads old new p
    (operand_run old next e)
operand-popped old new p next e is leads =
    leads-as old new p (expr_run old (destination.Push next) e) (operand_run old next e) leads
    (λ calls back k left. ap (λ (o : Operand).
    on_value (expr calls e left k.state) (λ x. code_run calls back old next (before o k x)))
    (sym is))

-- the right operand of an operator, before the operator itself
pub right-leads : (old m1 new : List Op) (s : Destination) (f : BinOp) (a : Operand) (b : Expr)
    (both p : ℕ)
    → Leads old m1 both (λ calls back. op_to calls back (rests calls back old)
    (op.Do (Between f a (operand_of b)) s))
    → Leads m1 new p (operand_run m1 both b) → Leads old new p (right_run old s f a b)
right-leads old m1 new s f a b both p one two =
    leads-on old m1 new both p _ (operand_run m1 both b) (right_run old s f a b) one two
    (λ calls back k left. on_value-same (expr calls b left k.state) _ _
    (λ y n. one.comes calls back (before (operand_of b) k y) n)
    ∙ read-operand calls k left b (λ y j n. on_value (apply f (read a j) y n)
    (destination_to (rests calls back old) back s (after a j))))

-- an operator that always needs both operands
module _ (old m1 new : List Op) (s : Destination) (f : BinOp) (a b : Expr) (right p : ℕ)
    (one : Leads old m1 right (right_run old s f (operand_of a) b))
    (two : Leads m1 new p (operand_run m1 right a))
    (none : (x : ℤ) → short_circuit f x ≡ None) where
  strict-left : (calls : Calls) (back : Back) (k : Kept) (x : ℤ) (m : ℕ)
      → on_value (with_left f x (λ n. expr calls b n k.state) m)
      (destination_to (rests calls back old) back s k)
      ≡ on_value (expr calls b m k.state) (λ y n.
      on_value (apply f x y n) (destination_to (rests calls back old) back s k))
  strict-left calls back k x m =
      ap (λ (o : Option ℤ). on_value (unless_known o
      (λ n. on_value (expr calls b n k.state) (apply f x)) m)
      (destination_to (rests calls back old) back s k)) (none x)
      ∙ on_value-on_value (expr calls b m k.state) (apply f x)
      (destination_to (rests calls back old) back s k)

  strict-run : (calls : Calls) (back : Back) (k : Kept) (left : ℕ) →
      operand_run m1 right a calls back k left ≡ binary_run old s f a b calls back k left
  strict-run calls back k left =
      on_value-same (expr calls a left k.state) _ _
      (λ x m. one.comes calls back (before (operand_of a) k x) m)
      ∙ (read-operand calls k left a (λ x j m.
      on_value (expr calls b m k.state) (λ y n.
      on_value (apply f x y n) (destination_to (rests calls back old) back s j)))
      ∙ sym (on_value-then (expr calls a left k.state)
      (λ x. with_left f x (λ m. expr calls b m k.state))
      (destination_to (rests calls back old) back s k) _
      (strict-left calls back k)))

  pub strict-leads : Leads old new p (binary_run old s f a b)
  strict-leads =
      leads-on old m1 new right p _ (operand_run m1 right a) (binary_run old s f a b) one two
      strict-run

-- the truth of the right operand of `&&` and `||`
module _ (old m1 m2 : List Op) (s : Destination) (within : DestinationWithin (length old) s)
    (f : BinOp)
    (b : Expr) (known right : ℕ) (c d : ℤ)
    (value : Leads old m1 known (λ calls back.
    op_to calls back (rests calls back old) (op.Do (Read (Constant c)) s)))
    (truth_of : Leads m1 m2 right (right_run m1 s f (Constant d) b)) where
  known-there : (calls : Calls) (back : Back) (k : Kept) (m : ℕ) →
      code_run calls back m2 known k m ≡ destination_to (rests calls back old) back s k c m
  known-there calls back k m =
      stays m1 truth_of.more m2 truth_of.longer known value.within calls back k m ∙
      value.comes calls back k m

  go-on : (calls : Calls) (back : Back) (k : Kept) (x : ℤ) (m : ℕ) →
      ((y : ℤ) (n : ℕ) → apply f d y n ≡ apply f x y n)
      → code_run calls back m2 right k m ≡ on_value (on_value (expr calls b m k.state) (apply f x))
      (destination_to (rests calls back old) back s k)
  go-on calls back k x m same =
      truth_of.comes calls back k m
      ∙ (on_value-same (expr calls b m k.state) _ _ (λ y n. on_value-same (apply f d y n) _ _
      (λ z q. destination-stays old value.more m1 value.longer s within calls back k z q))
      ∙ sym (on_value-then (expr calls b m k.state) (apply f x)
      (destination_to (rests calls back old) back s k) _
      (λ y n. ap (λ (r : Run ℤ). on_value r (destination_to (rests calls back old) back s k))
      (sym (same y n)))))

-- `&&`
pub both-leads : (old m1 m2 new : List Op) (s : Destination) → DestinationWithin (length old) s →
    (a b : Expr) (known right p : ℕ)
    → Leads old m1 known (λ calls back. op_to calls back (rests calls back old)
    (op.Do (Read (Constant (pos 0))) s))
    → Leads m1 m2 right (right_run m1 s AndAlso (Constant (pos 1)) b)
    → Leads m2 new p (expr_run m2 (destination.Branch known right) a)
    → Leads old new p (binary_run old s AndAlso a b)
both-leads old m1 m2 new s within a b known right p value truth_of last =
    leads-on old m2 new right p (right_run m1 s AndAlso (Constant (pos 1)) b)
    (expr_run m2 (destination.Branch known right) a) (binary_run old s AndAlso a b)
    (leads-on old m1 m2 known right _ _ (right_run m1 s AndAlso (Constant (pos 1)) b) value truth_of
    (λ calls back k left. refl)) last
    (λ calls back k left. sym (on_value-then (expr calls a left k.state)
    (λ x. with_left AndAlso x (λ m. expr calls b m k.state))
    (destination_to (rests calls back old) back s k) _ (λ x m.
    elim (is_zero x) as (λ z. on_value (unless_known (if z then Some (pos 0) else None)
    (λ n. on_value (expr calls b n k.state) (apply AndAlso x)) m)
    (destination_to (rests calls back old) back s k)
    ≡ (if z then at (rests calls back m2) known k m else at (rests calls back m2) right k m)) [
      | true ↦ sym (known-there old m1 m2 s within AndAlso b known right (pos 0) (pos 1) value
          truth_of calls back k m)
      | false ↦ sym (go-on old m1 m2 s within AndAlso b known right (pos 0) (pos 1) value truth_of
          calls back k x m (λ y n. refl))
    ])))

-- `||`
pub either-leads : (old m1 m2 new : List Op) (s : Destination) → DestinationWithin (length old) s →
    (a b : Expr) (known right p : ℕ)
    → Leads old m1 known (λ calls back. op_to calls back (rests calls back old)
    (op.Do (Read (Constant (pos 1))) s))
    → Leads m1 m2 right (right_run m1 s OrElse (Constant (pos 0)) b)
    → Leads m2 new p (expr_run m2 (destination.Branch right known) a)
    → Leads old new p (binary_run old s OrElse a b)
either-leads old m1 m2 new s within a b known right p value truth_of last =
    leads-on old m2 new right p (right_run m1 s OrElse (Constant (pos 0)) b)
    (expr_run m2 (destination.Branch right known) a) (binary_run old s OrElse a b)
    (leads-on old m1 m2 known right _ _ (right_run m1 s OrElse (Constant (pos 0)) b) value truth_of
    (λ calls back k left. refl)) last
    (λ calls back k left. sym (on_value-then (expr calls a left k.state)
    (λ x. with_left OrElse x (λ m. expr calls b m k.state))
    (destination_to (rests calls back old) back s k) _ (λ x m.
    elim (is_zero x) as (λ z. on_value (unless_known (if z then None else Some (pos 1))
    (λ n. on_value (expr calls b n k.state) (apply OrElse x)) m)
    (destination_to (rests calls back old) back s k)
    ≡ (if z then at (rests calls back m2) right k m else at (rests calls back m2) known k m)) [
      | true ↦ sym (go-on old m1 m2 s within OrElse b known right (pos 1) (pos 0) value truth_of
          calls back k x m (λ y n. refl))
      | false ↦ sym (known-there old m1 m2 s within OrElse b known right (pos 1) (pos 0) value
          truth_of calls back k m)
    ])))

-- an operator before its operand
pub unary-leads : (old m1 new : List Op) (s : Destination) (f : UnOp) (a : Expr) (next p : ℕ)
    → Leads old m1 next (λ calls back. op_to calls back (rests calls back old)
    (op.Do (Before f (operand_of a)) s))
    → Leads m1 new p (operand_run m1 next a) → Leads old new p (expr_run old s (Unary f a))
unary-leads old m1 new s f a next p one two =
    leads-on old m1 new next p _ (operand_run m1 next a) (expr_run old s (Unary f a)) one two
    (λ calls back k left. on_value-same (expr calls a left k.state) _ _
    (λ x m. one.comes calls back (before (operand_of a) k x) m)
    ∙ (read-operand calls k left a (λ x j m. on_value (unary f x m)
    (destination_to (rests calls back old) back s j))
    ∙ sym (ap (λ (r : Run ℤ). on_value r (destination_to (rests calls back old) back s k))
    (expr-Unary calls f a left k.state)
    ∙ on_value-on_value (expr calls a left k.state) (unary f)
    (destination_to (rests calls back old) back s k))))

pub binary-leads : (old new : List Op) (s : Destination) (f : BinOp) (a b : Expr) (p : ℕ)
    → Leads old new p (binary_run old s f a b) → Leads old new p (expr_run old s (Binary f a b))
binary-leads old new s f a b p leads =
    leads-as old new p (binary_run old s f a b) (expr_run old s (Binary f a b)) leads
    (λ calls back k left. sym (ap (λ (r : Run ℤ).
    on_value r (destination_to (rests calls back old) back s k))
    (expr-Binary calls f a b left k.state)))

-- a literal and a variable
pub lit-leads : (old new : List Op) (s : Destination) (c : ℤ) (p : ℕ)
    → Leads old new p (λ calls back. op_to calls back (rests calls back old)
    (op.Do (Read (Constant c)) s)) → Leads old new p (expr_run old s (Lit c))
lit-leads old new s c p leads = leads-as old new p _ (expr_run old s (Lit c)) leads
    (λ calls back k left. sym (ap (λ (r : Run ℤ).
    on_value r (destination_to (rests calls back old) back s k)) (expr-Lit calls c left k.state)))

pub var-leads : (old new : List Op) (s : Destination) (v : ℕ) (p : ℕ)
    → Leads old new p (λ calls back. op_to calls back (rests calls back old)
    (op.Do (Read (Slot v)) s)) → Leads old new p (expr_run old s (Var v))
var-leads old new s v p leads = leads-as old new p _ (expr_run old s (Var v)) leads
    (λ calls back k left. sym (ap (λ (r : Run ℤ).
    on_value r (destination_to (rests calls back old) back s k)) (expr-Var calls v left k.state)))

-- a choice
pub choose-leads : (old m1 m2 new : List Op) (s : Destination) → DestinationWithin (length old) s →
    (c a b : Expr) (other taken p : ℕ)
    → Leads old m1 other (expr_run old s b) → Leads m1 m2 taken (expr_run m1 s a) →
    Leads m2 new p (expr_run m2 (destination.Branch other taken) c)
    → Leads old new p (expr_run old s (Choose c a b))
choose-leads old m1 m2 new s within c a b other taken p one two three =
    leads-on old m2 new taken p (expr_run m1 s a) (expr_run m2 (destination.Branch other taken) c)
    (expr_run old s (Choose c a b))
    (leads-on old m1 m2 other taken _ _ (expr_run m1 s a) one two (λ calls back k left. refl)) three
    (λ calls back k left.
    sym (ap (λ (r : Run ℤ). on_value r (destination_to (rests calls back old) back s k))
    (expr-Choose calls c a b left k.state)
    ∙ on_value-then (expr calls c left k.state)
    (λ x m. if is_zero x then expr calls b m k.state else expr calls a m k.state)
    (destination_to (rests calls back old) back s k) _ (λ x m.
    elim (is_zero x) as (λ z. on_value (if z then expr calls b m k.state else
    expr calls a m k.state) (destination_to (rests calls back old) back s k)
    ≡ (if z then at (rests calls back m2) other k m else at (rests calls back m2) taken k m)) [
      | true ↦ sym (stays m1 two.more m2 two.longer other one.within calls back k m ∙
          one.comes calls back k m)
      | false ↦ sym (two.comes calls back k m ∙ on_value-same (expr calls a m k.state) _ _
          (λ y n. destination-stays old one.more m1 one.longer s within calls back k y n))
    ])))

-- as many values as arguments
on_value-found : {A B : Type 0} (r : Run A) (f g : A → ℕ → Run B) →
    ((x : A) (m : ℕ) → r ≡ Value x m → f x m ≡ g x m) → on_value r f ≡ on_value r g
on_value-found (Value x m) f g same = same x m refl
on_value-found DivisionError f g same = refl
on_value-found More f g same = refl
on_value-found Over f g same = refl

length-one : (r : Run (List ℤ)) (x : ℤ) (n : ℕ) →
    ((ys : List ℤ) (m : ℕ) → r ≡ Value ys m → length ys ≡ n)
    → (xs : List ℤ) (q : ℕ) → on_value r (λ ys m. Value (x ∷ ys) m) ≡ Value xs q → length xs ≡ suc n
length-one (Value ys m) x n each xs q is =
    let one = each ys m refl in let same : xs ≡ x ∷ ys = cc in rw same (ap suc one)
length-one DivisionError x n each xs q is = absurd (cc)
length-one More x n each xs q is = absurd (cc)
length-one Over x n each xs q is = absurd (cc)

length-first : (r : Run ℤ) (rest : ℕ → Run (List ℤ)) (n : ℕ) →
    ((m : ℕ) (ys : List ℤ) (q : ℕ) → rest m ≡ Value ys q → length ys ≡ n)
    → (xs : List ℤ) (q : ℕ) → on_value r (λ x m. on_value (rest m) (λ ys p. Value (x ∷ ys) p)) ≡
    Value xs q → length xs ≡ suc n
length-first (Value x m) rest n each xs q is = length-one (rest m) x n (each m) xs q is
length-first DivisionError rest n each xs q is = absurd (cc)
length-first More rest n each xs q is = absurd (cc)
length-first Over rest n each xs q is = absurd (cc)

length-values : (es : List Evaluation) (left : ℕ) (s : State) (xs : List ℤ) (q : ℕ) →
    values es left s ≡ Value xs q → length xs ≡ length es
length-values [] left s xs q is = let same : xs ≡ [] = cc in rw same refl
length-values (e ∷ es) left s xs q is =
    length-first (e left s) (λ m. values es m s) (length es) (λ m ys p. length-values es m s ys p)
    xs q is

length-map : (A B : Type 0) (f : A → B) (xs : List A) → length (map f xs) ≡ length xs
length-map A B f [] = refl
length-map A B f (x ∷ xs) = ap suc (length-map A B f xs)

-- a call
module _ (old m1 m2 new : List Op) (s : Destination) (f : ℕ) (es : List Expr) (after_it call p : ℕ)
    (one : TopLeads old m1 after_it s)
    (two : Leads m1 m2 call (λ calls back. op_to calls back (rests calls back m1)
    (op.Call f (length es) after_it)))
    (three : Leads m2 new p (arguments_run m2 call es)) where
  called-with : (calls : Calls) (back : Back) (k : Kept) (xs : List ℤ) (m : ℕ) → length xs ≡
      length es
      → code_run calls back m2 call (with_values k (reverse xs ++ k.values)) m
      ≡ on_value (calls m f xs) (destination_to (rests calls back old) back s k)
  called-with calls back k xs m many =
      let count : length es ≡ length (reverse xs) = sym (length-reverse xs ∙ many) in
      two.comes calls back (with_values k (reverse xs ++ k.values)) m
      ∙ (ap (λ (n : ℕ). on_value (calls m f (reverse (take n (reverse xs ++ k.values))))
      (λ x. code_run calls back m1 after_it (with_values k (x ∷ drop n (reverse xs ++ k.values)))))
      count
      ∙ (rw (
        take-append_seam (reverse xs) k.values,
        drop-append_seam (reverse xs) k.values,
        reverse-reverse xs,
      )
      (on_value-same (calls m f xs) _ _ (λ x q. one.comes calls back k x q))))

  pub call-leads : Leads old new p (expr_run old s (Apply f es))
  call-leads =
      leads-on old m2 new call p _ (arguments_run m2 call es) (expr_run old s (Apply f es))
      (leads-after old m1 m2 one.more one.longer one.turns call _ _ two (λ calls back k left. refl))
      three
      (λ calls back k left.
      on_value-found (values (map (expr calls) es) left k.state) _ _
      (λ xs m is. called-with calls back k xs m
      (length-values (map (expr calls) es) left k.state xs m is ∙
      length-map Expr Evaluation (expr calls) es))
      ∙ sym (ap (λ (r : Run ℤ). on_value r (destination_to (rests calls back old) back s k))
      (expr-Apply calls f es left k.state)
      ∙ on_value-on_value (values (map (expr calls) es) left k.state) (λ xs m. calls m f xs)
      (destination_to (rests calls back old) back s k)))

-- one argument before others
pub argument-leads : (old mid new : List Op) (e : Expr) (es : List Expr) (next q p : ℕ) →
    Leads old mid q (arguments_run old next es)
    → Leads mid new p (expr_run mid (destination.Push q) e) →
    Leads old new p (arguments_run old next (e ∷ es))
argument-leads old mid new e es next q p one two =
    leads-on old mid new q p (arguments_run old next es) (expr_run mid (destination.Push q) e)
    (arguments_run old next (e ∷ es)) one two
    (λ calls back k left. sym (on_value-then (expr calls e left k.state)
    (λ x m. on_value (values (map (expr calls) es) m k.state) (λ xs n. Value (x ∷ xs) n))
    (λ xs. code_run calls back old next (with_values k (reverse xs ++ k.values))) _ (λ x m.
    on_value-then (values (map (expr calls) es) m k.state) (λ xs n. Value (x ∷ xs) n)
    (λ xs. code_run calls back old next (with_values k (reverse xs ++ k.values))) _
    (λ xs n. ap (λ (ys : List ℤ). code_run calls back old next (with_values k ys) n)
    (rw (reverse-append (x ∷ []) xs) (append_assoc (reverse xs) (x ∷ []) k.values)))
    ∙ sym (one.comes calls back (pushed k x) m))))

-- an expression of another form
pub in-form : (old new : List Op) (s : Destination) (p : ℕ) (e f : Expr) → e ≡ f →
    Leads old new p (expr_run old s f) → Leads old new p (expr_run old s e)
in-form old new s p e f is leads =
    subst (λ (g : Expr). Leads old new p (expr_run old s g)) (sym is) leads

-- the arguments from a place on
pub drop-one : (es : List Expr) (i : ℕ) (e : Expr) → 0 < i → i ≤ length es → e ≡
    get_or es (i - 1) e → drop (i - 1) es ≡ e ∷ drop i es
drop-one es i e some within is =
    let below : i - 1 < length es = omega arith in
    let same : suc (i - 1) ≡ i = omega arith in
    drop-cons es (i - 1) e below
    ∙ (ap (λ (x : Expr). x ∷ drop (suc (i - 1)) es) (sym is) ∙ ap (λ (n : ℕ). e ∷ drop n es) same)

-- operators that always need both operands
pub strict-op : (f : BinOp) (x : ℤ) → (f ≡ AndAlso → ⊥) → (f ≡ OrElse → ⊥) → short_circuit f x ≡
    None
strict-op AndAlso x one two = absurd (one refl)
strict-op OrElse x one two = absurd (two refl)
strict-op _ x one two = refl

-- the value on top after a call
pub top-here : (old : List Op) (n : ℕ) → n < length old → TopLeads old old n (destination.Push n)
top-here old n there =
    record {
      more = [];
      longer = sym (append-nil old);
      within = there;
      turns =
          no-turns old old refl;
      comes = λ calls back k x left. refl;
    }

pub top-added : (old new : List Op) (p : ℕ) (s : Destination) →
    Leads old new p (λ calls back. op_to calls back (rests calls back old) (op.Do (Read Popped) s))
    → TopLeads old new p s
top-added old new p s leads = record {
  more = leads.more;
  longer = leads.longer;
  within = leads.within;
  turns = leads.turns;
  comes = λ calls back k x left. leads.comes calls back (pushed k x) left;
}
