-- The first variable that an expression reads where it may have no value, by the parts of the
-- expression.
use Rattle.std.proofs.Common.{◌≡◌, ◌∙◌, ap, ℕ, suc, ◌+◌, ◌<◌, ◌≤◌, length, drop, get_or, drop_of_length-le, arith, Bool, true, false, refl, sym, List, [], ◌∷◌, ◌++◌, map, Option, Some, None, if◌then◌else◌, ℤ}
use Rattle.std.proofs.Math.Seq.{drop-cons}
use Rattle.std.specs.List.{concat}
use Rattle.std.specs.Option.{option_or}
use Rattle.c_ast.specs.Variables.{variables}
use Rattle.c_ast.proofs.Equations.{variables-Lit, variables-Var, variables-Unary, variables-Binary, variables-Choose, variables-Apply}
use Rattle.c_ast.specs.declared.expr.UnOp.{UnOp}
use Rattle.c_ast.specs.declared.expr.BinOp.{BinOp}
use Rattle.c_ast.specs.declared.expr.Expr.{Expr}
use Rattle.c_ast.specs.declared.expr.Expr.TheVariants.{Lit, Var, Unary, Binary, Choose, Apply}
use Rattle.c_assigned.specs.Sets.{Assigned, is_readable, first_unset}

module _ (names scope : List ℕ) (set : Assigned) (own : Option ℕ) where
  abbrev unset : List ℕ → Option ℕ
  unset = first_unset names scope set own

  or_first : (x y z : Option ℕ) → option_or (option_or x y) z ≡ option_or x (option_or y z)
  or_first None y z = refl
  or_first (Some x) y z = refl

  by_first : (b : Bool) (t : ℕ) (xs ys : List ℕ) → unset (xs ++ ys) ≡
      option_or (unset xs) (unset ys) → (if b then unset (xs ++ ys) else Some t) ≡
      option_or (if b then unset xs else Some t) (unset ys)
  by_first true t xs ys e = e
  by_first false t xs ys e = refl

  -- the first of two lists of variables decides, where it has one
  pub unset-append : (xs ys : List ℕ) → unset (xs ++ ys) ≡ option_or (unset xs) (unset ys)
  unset-append [] ys = refl
  unset-append (t ∷ xs) ys =
      by_first (is_readable names scope set own t) t xs ys (unset-append xs ys)

  pub unset_Lit : (n : ℤ) → first_unset names scope set own (variables (Lit n)) ≡ None
  unset_Lit n = ap unset (variables-Lit n)

  pub unset_Var : (t : ℕ) → first_unset names scope set own (variables (Var t)) ≡
      (if is_readable names scope set own t then None else Some t)
  unset_Var t = ap unset (variables-Var t)

  pub unset_Unary : (op : UnOp) (a : Expr) → first_unset names scope set own
      (variables (Unary op a)) ≡ first_unset names scope set own (variables a)
  unset_Unary op a = ap unset (variables-Unary op a)

  pub unset_Binary : (op : BinOp) (a b : Expr) →
      first_unset names scope set own (variables (Binary op a b)) ≡
      option_or (first_unset names scope set own (variables a))
      (first_unset names scope set own (variables b))
  unset_Binary op a b =
      ap unset (variables-Binary op a b) ∙ unset-append (variables a) (variables b)

  pub unset_Choose : (c a b : Expr) → first_unset names scope set own (variables (Choose c a b)) ≡
      option_or (first_unset names scope set own (variables c))
      (option_or (first_unset names scope set own (variables a))
      (first_unset names scope set own (variables b)))
  unset_Choose c a b =
      ap unset (variables-Choose c a b) ∙ unset-append (variables c ++ variables a) (variables b)
      ∙ ap (λ o. option_or o (unset (variables b))) (unset-append (variables c) (variables a))
      ∙ or_first (unset (variables c)) (unset (variables a)) (unset (variables b))

  -- of arguments, those of the first, and else of the others
  pub unset_arguments : (e : Expr) (es : List Expr) →
      first_unset names scope set own (concat (map variables (e ∷ es))) ≡
      option_or (first_unset names scope set own (variables e))
      (first_unset names scope set own (concat (map variables es)))
  unset_arguments e es = unset-append (variables e) (concat (map variables es))

  pub unset_Apply : (name : ℕ) (arguments : List Expr) →
      first_unset names scope set own (variables (Apply name arguments)) ≡
      first_unset names scope set own (concat (map variables arguments))
  unset_Apply name arguments = ap unset (variables-Apply name arguments)

  -- one turn of a walk along arguments: the next one decides, where it reads a variable unset, and
  -- else those after it
  pub unset_turn : (items : List Expr) (i : ℕ) (item : Expr) → i < length items → item ≡
      get_or items i item → first_unset names scope set own (concat (map variables (drop i items)))
      ≡ option_or (first_unset names scope set own (variables item))
      (first_unset names scope set own (concat (map variables (drop (i + 1) items))))
  unset_turn items i item h is =
      ap (λ es. unset (concat (map variables es))) (drop-cons items i item h)
      ∙ unset_arguments (get_or items i item) (drop (suc i) items)
      ∙ (λ k. option_or (unset (variables (sym is k)))
      (unset (concat (map variables (drop (suc i) items)))))
      ∙ (let next : suc i ≡ i + 1 = omega arith in
      ap (λ k. option_or (unset (variables item))
      (unset (concat (map variables (drop k items))))) next)

  -- and where nothing is left, nothing is read unset
  pub unset_end : (items : List Expr) (i : ℕ) → length items ≤ i →
      first_unset names scope set own (concat (map variables (drop i items))) ≡ None
  unset_end items i h = ap (λ es. unset (concat (map variables es))) (drop_of_length-le items h)
