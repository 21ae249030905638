-- The code of an expression whose value is made at once.
use Rattle.std.proofs.Common.{◌≡◌, ℕ, Bool, true, false, if◌then◌else◌, Option, Some, None, IfSome, ℤ, List, ap, refl, ◌∙◌, sym, arith}
use Rattle.std.proofs.lemmas.Bool.Decides.{nat_tests}
use Rattle.std.specs.Prelude.{not, int_lt, int_le, pos, negsuc}
use Rattle.c_meaning.specs.Expressions.{is_zero, truth}
use Rattle.c_ast.specs.declared.expr.BinOp.{BinOp}
use Rattle.c_ast.specs.declared.expr.BinOp.TheVariants.{Lt, Le, Gt, Ge}
use Rattle.c_ast.specs.declared.expr.Expr.{Expr}
use Rattle.c_ast.specs.declared.expr.Expr.TheVariants.{Binary}
use Rattle.c_meaning.specs.Runs.{Run, Value, on_value}
use Rattle.c_meaning.specs.CountedExpressions.{Calls, apply, short_circuit, unless_known, with_left, expr}
use Rattle.c_code.specs.Stores.{Kept}
use Rattle.c_code.specs.Flat.{Rest, Back, at, read, after, leaf_value, inner_run, made, do_to, less_to, op_to, rests, destination_to}
use Rattle.c_code.specs.Flat.{IsInner, IsLeaf, IsOp, Leads, Makes, expr_run, right_run}
use Rattle.c_code.specs.declared.code.Leaf.{Leaf}
use Rattle.c_code.specs.declared.code.Inner.{Inner}
use Rattle.c_code.specs.declared.code.Operand.{Operand}
use Rattle.c_code.specs.declared.code.Work.{Work}
use Rattle.c_code.specs.declared.code.Work.TheVariants.{Alone, Left, Right}
use Rattle.c_code.specs.declared.code.Destination.{Destination}
use Rattle.c_code.specs.declared.code.Destination.TheVariants as destination
use Rattle.c_code.specs.declared.code.Op.{Op}
use Rattle.c_code.specs.declared.code.Op.TheVariants as op
use Rattle.c_meaning.proofs.CountedEquations.{expr-Binary}
use Rattle.c_code.proofs.Leading.{leads-as}
use Rattle.c_meaning.proofs.Runs.{on_value-on_value, on_value-same}

-- after the left operand of an operator that needs both
strict-after : (f : BinOp) (x : ℤ) → short_circuit f x ≡ None → (right : ℕ → Run ℤ) (m : ℕ) →
    with_left f x right m ≡ on_value (right m) (apply f x)
strict-after f x none right m =
    ap (λ (o : Option ℤ). unless_known o (λ n. on_value (right n) (apply f x)) m) none

module _ (e a b : Expr) (f : BinOp) (is : e ≡ Binary f a b)
    (strict : (x : ℤ) → short_circuit f x ≡ None) (leaf : Leaf) (right : IsLeaf b leaf) where
  -- a leaf as the right operand
  to-leaf : (run : Run ℤ) (k : Kept) (calls : Calls)
      → on_value run (λ x. with_left f x (λ m. expr calls b m k.state)) ≡
      on_value run (λ x. apply f x (leaf_value leaf k))
  to-leaf run k calls =
      on_value-same run _ _ (λ x m. strict-after f x (strict x) (λ n. expr calls b n k.state) m
      ∙ ap (λ (r : Run ℤ). on_value r (apply f x)) (right calls k m))

  with-leaf : (calls : Calls) (k : Kept) (m : ℕ) (run : Run ℤ) → expr calls a m k.state ≡ run
      → expr calls e m k.state ≡ on_value run (λ x. apply f x (leaf_value leaf k))
  with-leaf calls k m run left =
      ap (λ (x : Expr). expr calls x m k.state) is
      ∙ (expr-Binary calls f a b m k.state
      ∙ (to-leaf (expr calls a m k.state) k calls
      ∙ ap (λ (r : Run ℤ). on_value r (λ x. apply f x (leaf_value leaf k))) left))

  pub inner-is : (first : Leaf) → IsLeaf a first →
      IsInner e (record { op = f; left = first; right = leaf })
  inner-is first left calls k m =
      with-leaf calls k m (Value (leaf_value first k) m) (left calls k m)

  pub left-makes : (inner : Inner) → IsInner a inner → Makes e (Left f inner leaf)
  left-makes inner left calls k m =
      (with-leaf calls k m (inner_run inner k m) (left calls k m), refl)

-- the op that makes the value of an expression
pub work-leads : (old new : List Op) (s : Destination) (work : Work) (e : Expr) (p : ℕ) → Makes e
    work
    → Leads old new p (λ calls back. op_to calls back (rests calls back old) (op.Do work s))
    → Leads old new p (expr_run old s e)
work-leads old new s work e p makes leads =
    leads-as old new p _ (expr_run old s e) leads (λ calls back k left.
    ap (λ (j : Kept). on_value (made work k left) (destination_to (rests calls back old) back s j))
    (makes calls k left).1
    ∙ ap (λ (r : Run ℤ). on_value r (destination_to (rests calls back old) back s k))
    (sym (makes calls k left).0))

-- the op of an operator whose right operand is an inner one
pub right-inner-leads : (old new : List Op) (s : Destination) (f : BinOp) (a : Operand) (b : Expr)
    (inner : Inner) (p : ℕ)
    → IsInner b inner
    → Leads old new p (λ calls back. op_to calls back (rests calls back old)
    (op.Do (Right f a inner) s)) → Leads old new p (right_run old s f a b)
right-inner-leads old new s f a b inner p is leads =
    leads-as old new p _ (right_run old s f a b) leads (λ calls back k left.
    on_value-on_value (inner_run inner k left) (apply f (read a k))
    (destination_to (rests calls back old) back s (after a k))
    ∙ ap (λ (r : Run ℤ). on_value r (λ y n. on_value (apply f (read a k) y n)
    (destination_to (rests calls back old) back s (after a k)))) (sym (is calls k left)))

-- where a run goes on after the test of a truth value
test-holds : (b : Bool) (rs : List Rest) (fails holds : ℕ) (k : Kept) (left : ℕ) →
    at rs (if b then holds else fails) k left ≡
    (if is_zero (truth b) then at rs fails k left else at rs holds k left)
test-holds true rs fails holds k left = refl
test-holds false rs fails holds k left = refl

test-not : (b : Bool) (rs : List Rest) (fails holds : ℕ) (k : Kept) (left : ℕ) →
    at rs (if b then fails else holds) k left ≡
    (if is_zero (truth (not b)) then at rs fails k left else at rs holds k left)
test-not true rs fails holds k left = refl
test-not false rs fails holds k left = refl

not-less : (x y : ℤ) → not (int_lt x y) ≡ int_le y x
not-less (pos a) (pos b) = grind (arith, nat_tests)
not-less (pos a) (negsuc b) = refl
not-less (negsuc a) (pos b) = refl
not-less (negsuc a) (negsuc b) = grind (arith, nat_tests)

-- the same, where the value is 0 just when the first number is less
test-fails : (x y : ℤ) (rs : List Rest) (fails holds : ℕ) (k : Kept) (left : ℕ) →
    at rs (if int_lt x y then fails else holds) k left ≡
    (if is_zero (truth (int_le y x)) then at rs fails k left else at rs holds k left)
test-fails x y rs fails holds k left =
    test-not (int_lt x y) rs fails holds k left
    ∙ ap (λ (b : Bool). if is_zero (truth b) then at rs fails k left else at rs holds k left)
    (not-less x y)

-- the op that compares two leaves tests an operator between them, where both go on alike
test-op : (r : Option Op) (inner : Inner) (f : BinOp) (x y : Leaf) (less more fails holds : ℕ) →
    inner.op ≡ f
    → ((rs : List Rest) (back : Back) (k : Kept) (left : ℕ) → less_to rs x y less more k left ≡
    on_value (apply f (leaf_value inner.left k) (leaf_value inner.right k) left)
    (destination_to rs back (destination.Branch fails holds) k))
    → IfSome r (λ o. IsOp o (λ calls back rs. less_to rs x y less more))
    → IfSome r (λ o. IsOp o (λ calls back rs.
    do_to rs back (Alone inner) (destination.Branch fails holds)))
test-op None inner f x y less more fails holds is same found = tt
test-op (Some o) inner f x y less more fails holds is same found = record {
  plain = found.plain;
  comes = λ calls back rs k left. found.comes calls back rs k left ∙ (same rs back k left ∙
      ap (λ (g : BinOp).
      on_value (apply g (leaf_value inner.left k) (leaf_value inner.right k) left)
      (destination_to rs back (destination.Branch fails holds) k)) (sym is));
}

pub less-op : (r : Option Op) (inner : Inner) (fails holds : ℕ) → inner.op ≡ Lt →
    IfSome r (λ o. IsOp o (λ calls back rs. less_to rs inner.left inner.right holds fails))
    → IfSome r (λ o. IsOp o (λ calls back rs.
    do_to rs back (Alone inner) (destination.Branch fails holds)))
less-op r inner fails holds is found =
    test-op r inner Lt inner.left inner.right holds fails fails holds is
    (λ rs back k left. test-holds (int_lt (leaf_value inner.left k) (leaf_value inner.right k)) rs
    fails holds k left) found

pub greater-op : (r : Option Op) (inner : Inner) (fails holds : ℕ) → inner.op ≡ Gt →
    IfSome r (λ o. IsOp o (λ calls back rs. less_to rs inner.right inner.left holds fails))
    → IfSome r (λ o. IsOp o (λ calls back rs.
    do_to rs back (Alone inner) (destination.Branch fails holds)))
greater-op r inner fails holds is found =
    test-op r inner Gt inner.right inner.left holds fails fails holds is
    (λ rs back k left. test-holds (int_lt (leaf_value inner.right k) (leaf_value inner.left k)) rs
    fails holds k left) found

pub at_least-op : (r : Option Op) (inner : Inner) (fails holds : ℕ) → inner.op ≡ Ge →
    IfSome r (λ o. IsOp o (λ calls back rs. less_to rs inner.left inner.right fails holds))
    → IfSome r (λ o. IsOp o (λ calls back rs.
    do_to rs back (Alone inner) (destination.Branch fails holds)))
at_least-op r inner fails holds is found =
    test-op r inner Ge inner.left inner.right fails holds fails holds is
    (λ rs back k left. test-fails (leaf_value inner.left k) (leaf_value inner.right k) rs
    fails holds k left) found

pub at_most-op : (r : Option Op) (inner : Inner) (fails holds : ℕ) → inner.op ≡ Le →
    IfSome r (λ o. IsOp o (λ calls back rs. less_to rs inner.right inner.left fails holds))
    → IfSome r (λ o. IsOp o (λ calls back rs.
    do_to rs back (Alone inner) (destination.Branch fails holds)))
at_most-op r inner fails holds is found =
    test-op r inner Le inner.right inner.left fails holds fails holds is
    (λ rs back k left. test-fails (leaf_value inner.right k) (leaf_value inner.left k) rs
    fails holds k left) found
