-- Whether each form of tree is in order, by its parts, one equation for each.
use Rattle.std.proofs.Common.{◌≡◌, ◌∙◌, ap, refl, ℕ, ◌+◌, ℤ, Bool, true, ◌&&◌, Option, Some, None, List, length, map, option_map}
use Rattle.std.specs.Prelude.{nat_eq, nat_lt, slice_get}
use Rattle.std.specs.List.{list_all}
use Rattle.std.specs.Option.{option_and_then}
use Rattle.std.proofs.lemmas.List.{length-map}
use Rattle.std.proofs.lemmas.List.Folds.{list_all-map}
use Rattle.c_ast.specs.declared.expr.UnOp.{UnOp}
use Rattle.c_ast.specs.declared.expr.BinOp.{BinOp}
use Rattle.c_ast.specs.declared.expr.Expr.{Expr}
use Rattle.c_ast.specs.declared.expr.Expr.TheVariants.{Lit, Var, Unary, Binary, Choose, Apply, outs-Lit, outs-Var, outs-Unary, outs-Binary, outs-Choose, outs-Apply}
use Rattle.c_ast.specs.declared.expr.Expr.TheFolds.{fold_out-Expr}
use Rattle.c_ast.specs.declared.stmt.Stmt.{Stmt}
use Rattle.c_ast.specs.declared.stmt.Stmt.TheVariants as Syntax
use Rattle.c_ast.specs.declared.stmt.Stmt.TheFolds.{fold_out-Stmt}
use Rattle.c_ast.specs.Scoped.{passes_if_there, takes, SlotStep, slots_in_order, is_fine, is_fine_turn, only_if, is_scoped_level, is_scoped_expr, slots_level, slots_after}

module _ (counts : List ℕ) (n : ℕ) where
  -- a literal is
  pub scoped-Lit : (k : ℤ) → is_scoped_expr counts n (Lit k) ≡ true
  scoped-Lit k = fold_out-Expr Bool (is_scoped_level counts n) (Lit k) ∙ rw (outs-Lit k) refl

  -- a variable is where its slot is in scope
  pub scoped-Var : (v : ℕ) → is_scoped_expr counts n (Var v) ≡ nat_lt v n
  scoped-Var v = fold_out-Expr Bool (is_scoped_level counts n) (Var v) ∙ rw (outs-Var v) refl

  -- an operator with its operands
  pub scoped-Unary : (op : UnOp) (a : Expr) → is_scoped_expr counts n (Unary op a) ≡
      is_scoped_expr counts n a
  scoped-Unary op a =
      fold_out-Expr Bool (is_scoped_level counts n) (Unary op a) ∙ rw (outs-Unary op a) refl

  pub scoped-Binary : (op : BinOp) (a b : Expr) → is_scoped_expr counts n (Binary op a b) ≡
      (is_scoped_expr counts n a && is_scoped_expr counts n b)
  scoped-Binary op a b =
      fold_out-Expr Bool (is_scoped_level counts n) (Binary op a b) ∙ rw (outs-Binary op a b) refl

  -- a choice with its three parts
  pub scoped-Choose : (c a b : Expr) → is_scoped_expr counts n (Choose c a b) ≡
      (is_scoped_expr counts n c && (is_scoped_expr counts n a && is_scoped_expr counts n b))
  scoped-Choose c a b =
      fold_out-Expr Bool (is_scoped_level counts n) (Choose c a b) ∙ rw (outs-Choose c a b) refl

  -- a call with its arguments, where the function takes as many
  pub scoped-Apply : (f : ℕ) (arguments : List Expr) → is_scoped_expr counts n (Apply f arguments) ≡
      (takes (slice_get counts f) (length arguments) &&
      list_all (is_scoped_expr counts n) arguments)
  scoped-Apply f arguments =
      fold_out-Expr Bool (is_scoped_level counts n) (Apply f arguments)
      ∙ rw (outs-Apply f arguments) (λ i. takes (slice_get counts f)
      (length-map arguments (is_scoped_expr counts n) i) &&
      list_all-map (λ a. a) (is_scoped_expr counts n) arguments i)

-- what both sides of an equation between steps give from n slots
from_slots : {s t : SlotStep} → s ≡ t → (n : ℕ) → s n ≡ t n
from_slots e n = ap (λ (t : SlotStep). t n) e

module _ (counts : List ℕ) where
  pub slots-Empty : (n : ℕ) → slots_after counts Syntax.Empty n ≡ Some n
  slots-Empty =
      from_slots (fold_out-Stmt SlotStep (slots_level counts) Syntax.Empty ∙
      rw Syntax.outs-Empty refl)

  -- a declaration takes the next slot
  pub slots-Declare : (slot : ℕ) (value : Option Expr) (n : ℕ) →
      slots_after counts (Syntax.Declare slot value) n
      ≡ only_if (nat_eq slot n && passes_if_there (is_scoped_expr counts n) value) (n + 1)
  slots-Declare slot None =
      from_slots (fold_out-Stmt SlotStep (slots_level counts) (Syntax.Declare slot None) ∙
      rw (Syntax.outs-Declare slot None) refl)
  slots-Declare slot (Some e) =
      from_slots (fold_out-Stmt SlotStep (slots_level counts) (Syntax.Declare slot (Some e)) ∙
      rw (Syntax.outs-Declare slot (Some e)) refl)

  pub slots-Assign : (slot : ℕ) (value : Expr) (n : ℕ) →
      slots_after counts (Syntax.Assign slot value) n ≡
      only_if (nat_lt slot n && is_scoped_expr counts n value) n
  slots-Assign slot value =
      from_slots (fold_out-Stmt SlotStep (slots_level counts) (Syntax.Assign slot value) ∙
      rw (Syntax.outs-Assign slot value) refl)

  -- the branches of an `if` declare nothing for what follows
  pub slots-If : (test : Expr) (inner : Stmt) (other : Option Stmt) (n : ℕ) →
      slots_after counts (Syntax.If test inner other) n
      ≡ only_if (is_scoped_expr counts n test &&
      (is_fine (slots_after counts inner) n &&
      passes_if_there (λ t. is_fine t n) (option_map (slots_after counts) other))) n
  slots-If test inner None =
      from_slots (fold_out-Stmt SlotStep (slots_level counts) (Syntax.If test inner None) ∙
      rw (Syntax.outs-If test inner None) refl)
  slots-If test inner (Some other) =
      from_slots (fold_out-Stmt SlotStep (slots_level counts) (Syntax.If test inner (Some other)) ∙
      rw (Syntax.outs-If test inner (Some other)) refl)

  pub slots-While : (test : Expr) (inner : Stmt) (n : ℕ) →
      slots_after counts (Syntax.While test inner) n ≡
      only_if (is_scoped_expr counts n test && is_fine (slots_after counts inner) n) n
  slots-While test inner =
      from_slots (fold_out-Stmt SlotStep (slots_level counts) (Syntax.While test inner) ∙
      rw (Syntax.outs-While test inner) refl)

  pub slots-DoWhile : (inner : Stmt) (test : Expr) (n : ℕ) →
      slots_after counts (Syntax.DoWhile inner test) n ≡
      only_if (is_fine (slots_after counts inner) n && is_scoped_expr counts n test) n
  slots-DoWhile inner test =
      from_slots (fold_out-Stmt SlotStep (slots_level counts) (Syntax.DoWhile inner test) ∙
      rw (Syntax.outs-DoWhile inner test) refl)

  -- a `for`, whose first part declares for the others
  pub slots-For : (first : List Stmt) (test : Option Expr) (change : Option Stmt) (inner : Stmt)
      (n : ℕ) → slots_after counts (Syntax.For first test change inner) n
      ≡ option_and_then (λ i. only_if (is_fine_turn counts test
      (option_map (slots_after counts) change) (slots_after counts inner) i) n)
      (slots_in_order (map (slots_after counts) first) n)
  slots-For first test None inner =
      from_slots (fold_out-Stmt SlotStep (slots_level counts) (Syntax.For first test None inner) ∙
      rw (Syntax.outs-For first test None inner) refl)
  slots-For first test (Some change) inner =
      from_slots (fold_out-Stmt SlotStep (slots_level counts)
      (Syntax.For first test (Some change) inner) ∙
      rw (Syntax.outs-For first test (Some change) inner) refl)

  pub slots-Break : (token n : ℕ) → slots_after counts (Syntax.Break token) n ≡ Some n
  slots-Break token =
      from_slots (fold_out-Stmt SlotStep (slots_level counts) (Syntax.Break token) ∙
      rw (Syntax.outs-Break token) refl)

  pub slots-Continue : (token n : ℕ) → slots_after counts (Syntax.Continue token) n ≡ Some n
  slots-Continue token =
      from_slots (fold_out-Stmt SlotStep (slots_level counts) (Syntax.Continue token) ∙
      rw (Syntax.outs-Continue token) refl)

  pub slots-Return : (value : Expr) (n : ℕ) → slots_after counts (Syntax.Return value) n ≡
      only_if (is_scoped_expr counts n value) n
  slots-Return value =
      from_slots (fold_out-Stmt SlotStep (slots_level counts) (Syntax.Return value) ∙
      rw (Syntax.outs-Return value) refl)

  -- what a block declares is gone after it
  pub slots-Block : (inner : List Stmt) (n : ℕ) → slots_after counts (Syntax.Block inner) n ≡
      only_if (is_fine (slots_in_order (map (slots_after counts) inner)) n) n
  slots-Block inner =
      from_slots (fold_out-Stmt SlotStep (slots_level counts) (Syntax.Block inner) ∙
      rw (Syntax.outs-Block inner) refl)

-- all of these
pub ruleset scoped_equations = (
  scoped-Lit,
  scoped-Var,
  scoped-Unary,
  scoped-Binary,
  scoped-Choose,
  scoped-Apply,
  slots-Empty,
  slots-Declare,
  slots-Assign,
  slots-If,
  slots-While,
  slots-DoWhile,
  slots-For,
  slots-Break,
  slots-Continue,
  slots-Return,
  slots-Block,
)
