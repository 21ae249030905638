-- The rows of a precondition hold exactly where its value isn't 0.
use Rattle.std.proofs.Common.{◌≡◌, ◌≢◌, ◌∙◌, ap, sym, subst, refl, Bool, true, false, true≢false, ◌&&◌, List, [], ◌∷◌, ◌++◌, ℤ, pos, negsuc, ◌+ℤ◌, ◌-ℤ◌, ◌*ℤ◌, neg_ℤ, arith}
use Rattle.std.proofs.lemmas.Bool.{and_parts}
use Rattle.std.proofs.lemmas.Int.{ints}
use Rattle.std.proofs.lemmas.List.Elements.{All-append, All-cons, All-head, All-nil}
use Rattle.rx_poly.specs.Limits.{body_sum, scaled_by}
use Rattle.rx_poly.specs.Products.{body_product}
use Rattle.rx_poly.specs.Value.{value}
use Rattle.rx_poly.specs.declared.body.Body.{Body}
use Rattle.rx_poly.proofs.Constants.{value-number, value-variable}
use Rattle.rx_poly.proofs.PolyLaws.{value-body_sum, value-scaled_by}
use Rattle.rx_poly.proofs.ProductLaws.{value-body_product}
use Rattle.rx_row.specs.Holds.{AllHold, RowHolds}
use Rattle.rx_row.specs.declared.row.Row.{Row}
use Rattle.rx_term.specs.Assigned.{assigned}
use Rattle.c_ast.specs.Forms.{is_sum_or_product}
use Rattle.c_ast.specs.RowForms.{Forms, forms, is_row_form, row_of}
use Rattle.c_ast.specs.declared.expr.UnOp.TheVariants as un
use Rattle.c_ast.specs.declared.expr.BinOp.{BinOp}
use Rattle.c_ast.specs.declared.expr.BinOp.TheVariants as bin
use Rattle.c_ast.specs.declared.expr.Expr.{Expr}
use Rattle.c_ast.specs.declared.expr.Expr.TheVariants as expr
use Rattle.c_ast.specs.declared.program.Resolved.{Resolved}
use Rattle.c_ast.proofs.FormEquations.{forms-Lit, forms-Var, forms-Unary, forms-Binary, forms-Choose, forms-Apply}
use Rattle.c_ast.specs.declared.integers.Integers.TheVariants.{Unbounded}
use Rattle.c_meaning.specs.Outcomes.{Value, State, on_value}
use Rattle.c_meaning.specs.Expressions.{Calls, binary, truth}
use Rattle.c_meaning.specs.Expressions as means
use Rattle.c_meaning.specs.Programs.{rounds}
use Rattle.c_meaning.specs.Statements.{calls_with}
use Rattle.c_meaning.proofs.Equations.{expr-Lit, expr-Var, expr-Unary, expr-Binary}
use Rattle.rx_code.specs.Codes as code
use Rattle.rx_code.specs.Codes.{IsComparison}
use Rattle.rx_code.specs.Expressions as table
use Rattle.rx_code.specs.Preconditions.{Read, pre_rows, read_expr}
use Rattle.rx_code.proofs.ReadEquations.{read-Lit, read-Var, read-Unary, read-Binary}
use Rattle.rx_code.proofs.Elements.{all_left, all_right}
use Rattle.rx_code.proofs.Trees as tree
use Rattle.rx_code.proofs.Trees.{ExprTree, expr_tree}
use Rattle.rx_agreement.specs.Agreement.{MeansItsRows}
use Rattle.rx_agreement.proofs.Values.{value-difference}
use Rattle.rx_agreement.proofs.Comparisons.{comparison_tests, comparison_value, test_of}

never : {A : Type 0} → false ≡ true → A
never is = absurd (true≢false (sym is))

module _ (s : State) where
  abbrev polynomial : Expr → Body
  polynomial e = (read_expr e).value.form

  abbrev rows : Expr → List Row
  rows e = (read_expr e).rows.form

  -- a straight expression has the value of its polynomial
  abbrev HasValue : Expr → Type 0
  HasValue e =
      (calls : Calls) → means.expr Unbounded calls e s ≡ Value (value (assigned s) (polynomial e))

  sum_has : (op : BinOp) (e f : Expr) (p : Body) (h : ℤ → ℤ → ℤ) →
      ((x y : ℤ) → binary Unbounded op (Value x) (Value y) ≡ Value (h x y)) →
      polynomial (expr.Binary op e f) ≡ p
      → value (assigned s) p ≡ h (value (assigned s) (polynomial e))
      (value (assigned s) (polynomial f)) → HasValue e → HasValue f →
      HasValue (expr.Binary op e f)
  sum_has op e f p h computes is adds left right calls =
      expr-Binary Unbounded calls op e f s ∙ (λ i. binary Unbounded op (left calls i)
      (right calls i))
      ∙ computes (value (assigned s) (polynomial e)) (value (assigned s) (polynomial f)) ∙
      ap Value (sym adds ∙ ap (value (assigned s)) (sym is))

  joined_value : (op : BinOp) (e f : Expr) → is_sum_or_product op ≡ true → HasValue e → HasValue f →
      HasValue (expr.Binary op e f)
  joined_value bin.Add e f is left right =
      sum_has bin.Add e f (body_sum (polynomial e) (polynomial f)) ◌+ℤ◌ (λ x y. refl)
      (ap (λ (r : Read). r.value.form) (read-Binary bin.Add e f))
      (value-body_sum (assigned s) (polynomial e) (polynomial f)) left right
  joined_value bin.Sub e f is left right =
      sum_has bin.Sub e f (body_sum (polynomial e) (scaled_by (negsuc 0) (polynomial f))) ◌-ℤ◌
      (λ x y. refl) (ap (λ (r : Read). r.value.form) (read-Binary bin.Sub e f))
      (value-difference (assigned s) (polynomial e) (polynomial f)) left right
  joined_value bin.Mul e f is left right =
      sum_has bin.Mul e f (body_product (polynomial e) (polynomial f)) ◌*ℤ◌ (λ x y. refl)
      (ap (λ (r : Read). r.value.form) (read-Binary bin.Mul e f))
      (value-body_product (assigned s) (polynomial e) (polynomial f)) left right
  joined_value bin.Div e f is left right = never is
  joined_value bin.Rem e f is left right = never is
  joined_value bin.Lt e f is left right = never is
  joined_value bin.Le e f is left right = never is
  joined_value bin.Gt e f is left right = never is
  joined_value bin.Ge e f is left right = never is
  joined_value bin.Eq e f is left right = never is
  joined_value bin.Ne e f is left right = never is
  joined_value bin.AndAlso e f is left right = never is
  joined_value bin.OrElse e f is left right = never is

  straight_value : (e : Expr) → ExprTree e → (forms e).straight ≡ true → HasValue e
  straight_value e (tree.Literal k) is calls =
      expr-Lit Unbounded calls k s ∙ ap Value (sym (value-number (assigned s) k) ∙
      ap (λ p. value (assigned s) p) (sym (ap (λ (r : Read). r.value.form) (read-Lit k))))
  straight_value e (tree.Variable v) is calls =
      expr-Var Unbounded calls v s ∙ ap Value (sym (value-variable (assigned s) v) ∙
      ap (λ p. value (assigned s) p) (sym (ap (λ (r : Read). r.value.form) (read-Var v))))
  straight_value e (tree.OneOperand un.Plus f inner) is calls =
      let h = straight_value f inner (sym (ap (λ (r : Forms). r.straight) (forms-Unary un.Plus f)) ∙
      is) calls in
      expr-Unary Unbounded calls un.Plus f s ∙
      ap (λ o. on_value o (means.unary Unbounded un.Plus)) h ∙
      ap (λ p. Value (value (assigned s) p))
      (sym (ap (λ (r : Read). r.value.form) (read-Unary un.Plus f)))
  straight_value e (tree.OneOperand un.Minus f inner) is calls =
      let h = straight_value f inner (sym (ap (λ (r : Forms). r.straight) (forms-Unary un.Minus f))
      ∙ is) calls in
      let x = value (assigned s) (polynomial f) in
      let g = value-scaled_by (assigned s) (negsuc 0) (polynomial f) in
      let opposite : neg_ℤ x ≡ value (assigned s) (scaled_by (negsuc 0) (polynomial f)) =
      omega (arith, ints, g) in
      expr-Unary Unbounded calls un.Minus f s ∙
      ap (λ o. on_value o (means.unary Unbounded un.Minus)) h ∙
      ap Value opposite
      ∙ ap (λ p. Value (value (assigned s) p))
      (sym (ap (λ (r : Read). r.value.form) (read-Unary un.Minus f)))
  straight_value e (tree.OneOperand un.Not f inner) is calls =
      never (sym (ap (λ (r : Forms). r.straight) (forms-Unary un.Not f)) ∙ is)
  straight_value e (tree.TwoOperands op f g left right) is calls =
      let both = sym (ap (λ (r : Forms). r.straight) (forms-Binary op f g)) ∙ is in
      joined_value op f g (and_parts (is_sum_or_product op)
      ((forms f).straight && (forms g).straight) both).0
      (straight_value f left (and_parts (forms f).straight (forms g).straight
      (and_parts (is_sum_or_product op) ((forms f).straight && (forms g).straight) both).1).0)
      (straight_value g right (and_parts (forms f).straight (forms g).straight
      (and_parts (is_sum_or_product op) ((forms f).straight && (forms g).straight) both).1).1)
      calls
  straight_value e (tree.Chosen c f g test left right) is calls =
      never (sym (ap (λ (r : Forms). r.straight) (forms-Choose c f g)) ∙ is)
  straight_value e (tree.Applied f es inner) is calls =
      never (sym (ap (λ (r : Forms). r.straight) (forms-Apply f es)) ∙ is)

  -- a precondition has the truth of its rows as its value
  record HasTruth (e : Expr) : Type 0 where
    truth_is : Bool
    outcome : (calls : Calls) → means.expr Unbounded calls e s ≡ Value (truth truth_is)
    hold : truth_is ≡ true → AllHold (assigned s) (rows e)
    fail : truth_is ≡ false → AllHold (assigned s) (rows e) → ⊥

  compared : (op : BinOp) (e f : Expr) (row : Row) →
      IsComparison op (polynomial e) (polynomial f) row → rows (expr.Binary op e f) ≡ row ∷ [] →
      HasValue e → HasValue f → HasTruth (expr.Binary op e f)
  compared op e f row is rows_are left right =
      let α = assigned s in
      let x = value α (polynomial e) in
      let y = value α (polynomial f) in
      let tests = comparison_tests op (polynomial e) (polynomial f) row is α in
      record {
        truth_is = test_of op x y;
        outcome =
            λ calls. expr-Binary Unbounded calls op e f s ∙
            (λ i. binary Unbounded op (left calls i) (right calls i)) ∙
            comparison_value Unbounded op (polynomial e) (polynomial f) row is x y;
        hold =
            λ yes. subst (AllHold α) (sym rows_are)
            (All-cons (RowHolds α) row [] (tests.holds yes) (All-nil (RowHolds α)));
        fail =
            λ not_so all. tests.fails not_so (All-head (RowHolds α) row []
            (subst (AllHold α) rows_are all));
      }

  both_hold : (e f : Expr) → HasTruth e → HasTruth f → HasTruth (expr.Binary bin.AndAlso e f)
  both_hold e f left right =
      let α = assigned s in
      let rows_are : rows (expr.Binary bin.AndAlso e f) ≡ rows e ++ rows f =
      ap (λ (r : Read). r.rows.form) (read-Binary bin.AndAlso e f) in
      record {
        truth_is = left.truth_is && right.truth_is;
        outcome =
            λ calls. expr-Binary Unbounded calls bin.AndAlso e f s ∙
            (λ i. binary Unbounded bin.AndAlso (left.outcome calls i) (right.outcome calls i)) ∙
            and_truth left.truth_is right.truth_is;
        hold = λ yes.
            let both = and_parts left.truth_is right.truth_is yes in
            subst (AllHold α) (sym rows_are) (All-append (RowHolds α) (rows e) (rows f)
            (left.hold both.0) (right.hold both.1));
        fail = λ not_so all.
            let both = subst (AllHold α) rows_are all in
            one_fails left.truth_is right.truth_is not_so
            (λ first. left.fail first (all_left (RowHolds α) (rows e) (rows f) both))
            (λ second. right.fail second (all_right (RowHolds α) (rows e) (rows f) both));
      }
    where
      and_truth : (a b : Bool) → binary Unbounded bin.AndAlso (Value (truth a)) (Value (truth b)) ≡
          Value (truth (a && b))
      and_truth true true = refl
      and_truth true false = refl
      and_truth false b = refl

      one_fails : (a b : Bool) → (a && b) ≡ false → (a ≡ false → ⊥) → (b ≡ false → ⊥) → ⊥
      one_fails true b is first second = second is
      one_fails false b is first second = first refl

  by_sides : (op : BinOp) (e f : Expr) → ExprTree e → ExprTree f →
      (forms (expr.Binary op e f)).row ≡ true → (row_of op (forms e) (forms f)) ≡
      ((forms e).straight && (forms f).straight)
      → IsComparison op (polynomial e) (polynomial f)
      (table.test_of op (polynomial e) (polynomial f)).form → rows (expr.Binary op e f) ≡
      (table.test_of op (polynomial e) (polynomial f)).form ∷ [] → HasTruth (expr.Binary op e f)
  by_sides op e f left right is sides comparison rows_are =
      let both = and_parts (forms e).straight (forms f).straight
      (sym sides ∙ sym (ap (λ (r : Forms). r.row) (forms-Binary op e f)) ∙ is) in
      compared op e f (table.test_of op (polynomial e) (polynomial f)).form comparison rows_are
      (straight_value e left both.0) (straight_value f right both.1)

  row_truth : (e : Expr) → ExprTree e → (forms e).row ≡ true → HasTruth e
  row_truth e (tree.Literal k) is = never (sym (ap (λ (r : Forms). r.row) (forms-Lit k)) ∙ is)
  row_truth e (tree.Variable v) is = never (sym (ap (λ (r : Forms). r.row) (forms-Var v)) ∙ is)
  row_truth e (tree.OneOperand op f inner) is =
      never (sym (ap (λ (r : Forms). r.row) (forms-Unary op f)) ∙ is)
  row_truth e (tree.TwoOperands bin.AndAlso f g left right) is =
      let both = and_parts (forms f).row (forms g).row
      (sym (ap (λ (r : Forms). r.row) (forms-Binary bin.AndAlso f g)) ∙ is) in
      both_hold f g (row_truth f left both.0) (row_truth g right both.1)
  row_truth e (tree.TwoOperands bin.Lt f g left right) is =
      by_sides bin.Lt f g left right is refl (code.less _ _)
      (ap (λ (r : Read). r.rows.form) (read-Binary bin.Lt f g))
  row_truth e (tree.TwoOperands bin.Le f g left right) is =
      by_sides bin.Le f g left right is refl (code.at_most _ _)
      (ap (λ (r : Read). r.rows.form) (read-Binary bin.Le f g))
  row_truth e (tree.TwoOperands bin.Gt f g left right) is =
      by_sides bin.Gt f g left right is refl (code.greater _ _)
      (ap (λ (r : Read). r.rows.form) (read-Binary bin.Gt f g))
  row_truth e (tree.TwoOperands bin.Ge f g left right) is =
      by_sides bin.Ge f g left right is refl (code.at_least _ _)
      (ap (λ (r : Read). r.rows.form) (read-Binary bin.Ge f g))
  row_truth e (tree.TwoOperands bin.Eq f g left right) is =
      by_sides bin.Eq f g left right is refl (code.equal _ _)
      (ap (λ (r : Read). r.rows.form) (read-Binary bin.Eq f g))
  row_truth e (tree.TwoOperands bin.Ne f g left right) is =
      by_sides bin.Ne f g left right is refl (code.unequal _ _)
      (ap (λ (r : Read). r.rows.form) (read-Binary bin.Ne f g))
  row_truth e (tree.TwoOperands bin.Add f g left right) is =
      never (sym (ap (λ (r : Forms). r.row) (forms-Binary bin.Add f g)) ∙ is)
  row_truth e (tree.TwoOperands bin.Sub f g left right) is =
      never (sym (ap (λ (r : Forms). r.row) (forms-Binary bin.Sub f g)) ∙ is)
  row_truth e (tree.TwoOperands bin.Mul f g left right) is =
      never (sym (ap (λ (r : Forms). r.row) (forms-Binary bin.Mul f g)) ∙ is)
  row_truth e (tree.TwoOperands bin.Div f g left right) is =
      never (sym (ap (λ (r : Forms). r.row) (forms-Binary bin.Div f g)) ∙ is)
  row_truth e (tree.TwoOperands bin.Rem f g left right) is =
      never (sym (ap (λ (r : Forms). r.row) (forms-Binary bin.Rem f g)) ∙ is)
  row_truth e (tree.TwoOperands bin.OrElse f g left right) is =
      never (sym (ap (λ (r : Forms). r.row) (forms-Binary bin.OrElse f g)) ∙ is)
  row_truth e (tree.Chosen c f g test left right) is =
      never (sym (ap (λ (r : Forms). r.row) (forms-Choose c f g)) ∙ is)
  row_truth e (tree.Applied f es inner) is =
      never (sym (ap (λ (r : Forms). r.row) (forms-Apply f es)) ∙ is)

-- a precondition means its rows
pub means_its_rows : (program : Resolved) (pre : Expr) (arguments : List ℤ) → is_row_form pre ≡
    true → MeansItsRows program pre arguments
means_its_rows program pre arguments is =
    let h = row_truth arguments pre (expr_tree pre) is in
    record {
      value = truth h.truth_is;
      outcome = λ n. h.outcome (calls_with (rounds Unbounded program n));
      rows = (holds_where h.truth_is h.fail, fails_where h.truth_is h.hold);
    }
  where
    holds_where : (b : Bool) → (b ≡ false → AllHold (assigned arguments) (pre_rows pre).form → ⊥) →
        AllHold (assigned arguments) (pre_rows pre).form → truth b ≢ pos 0
    holds_where true fail all zero = let no : ⊥ = cc in absurd no
    holds_where false fail all zero = fail refl all

    fails_where : (b : Bool) → (b ≡ true → AllHold (assigned arguments) (pre_rows pre).form) →
        truth b ≢ pos 0 → AllHold (assigned arguments) (pre_rows pre).form
    fails_where true hold other = hold refl
    fails_where false hold other = absurd (other refl)
