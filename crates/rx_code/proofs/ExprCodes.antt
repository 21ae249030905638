-- What the table writes down for an expression is its code.
use Rattle.std.proofs.Common.{◌≡◌, ◌∙◌, ap, sym, subst, refl, ℕ, suc, ◌+◌, ◌≤◌, List, [], ◌∷◌, length, map, pos, arith}
use Rattle.std.specs.Prelude.{Contains}
use Rattle.std.proofs.lemmas.List.{length-map}
use Rattle.std.proofs.lemmas.List.Elements.{Contains-append_left, Contains-append_right}
use Rattle.rx_poly.specs.Constants.{number}
use Rattle.rx_poly.specs.declared.body.Body.{Body}
use Rattle.rx_row.specs.declared.row.Row.TheVariants.{Ne}
use Rattle.rx_plain.proofs.Kept.{first_one}
use Rattle.c_ast.specs.declared.integers.Integers.{Integers}
use Rattle.c_ast.specs.declared.integers.Integers.TheVariants.{Unbounded, Bits32}
use Rattle.c_ast.specs.declared.expr.UnOp.{UnOp}
use Rattle.c_ast.specs.declared.expr.UnOp.TheVariants as un
use Rattle.c_ast.specs.declared.expr.BinOp.{BinOp}
use Rattle.c_ast.specs.declared.expr.BinOp.TheVariants as bin
use Rattle.c_ast.specs.declared.expr.Expr.{Expr}
use Rattle.c_ast.specs.declared.expr.Expr.TheVariants as expr
use Rattle.rx_code.specs.Codes as code
use Rattle.rx_code.specs.Codes.{IsArithmetic, IsComparison, IsDivision, IsLogical, IsRanged, IsValue, AreValues, IsCondition}
use Rattle.rx_code.specs.Expressions.{Asked, Condition, Value, above, arguments, arithmetic, arithmetic_of, below, binary_code, call, choice, comparison, conjunction, disjunction, division, expr_code, kind_of, of_condition, of_value, range_tests, ranged, test_of, tested_by, unary_code}
use Rattle.rx_code.specs.Pieces.{append_code, after, does, point}
use Rattle.rx_code.specs.Points.{Actions}
use Rattle.rx_code.specs.declared.action.Action.{Action}
use Rattle.rx_code.specs.declared.action.Action.TheVariants.{Set, Test, Exclude, Divide, Call, Resume}
use Rattle.rx_code.specs.declared.action.Instruction.{Instruction}
use Rattle.rx_code.specs.declared.action.Division.{Division}
use Rattle.rx_code.specs.declared.action.Division.TheVariants.{Quotient, Remainder}
use Rattle.rx_code.specs.declared.code.Code.{Code}
use Rattle.rx_code.specs.declared.point.Point.{Point}
use Rattle.rx_code.proofs.ExprEquations.{code-Lit, code-Var, code-Unary, code-Binary, code-Choose, code-Apply}
use Rattle.rx_code.proofs.Scoped as scope
use Rattle.rx_code.proofs.Scoped.{IsExpr, AreExprs}

-- each argument has a value
pub count_values : (xs : List Asked) (a : Point) (next : ℕ) → length (arguments xs a next).values ≡
    length xs
count_values [] a next = refl
count_values (x ∷ xs) a next =
    let v = x.value a next in ap suc (count_values xs v.at (after next v.code))

module _ (acts : Actions) where
  -- all that is written down is done
  abbrev pub Written : Code → Type 0
  Written c = (d : Instruction) → Contains c.instructions d → acts d.at d.action

  pub written_left : (c d : Code) → Written (append_code c d) → Written c
  written_left c d written x there = written x (Contains-append_left c.instructions d.instructions x
      there)

  pub written_right : (c d : Code) → Written (append_code c d) → Written d
  written_right c d written x there = written x (Contains-append_right c.instructions d.instructions
      x there)

  pub written_instruction : (a : Point) (x : Action) → Written (does a x) → acts a x
  written_instruction a x written =
      let d : Instruction = record { at = a; action = x } in written d (first_one d [])

  range_coded : (p : Body) (a : Point) (next : ℕ) → Written (range_tests p a next).code →
      IsRanged acts Bits32 p a (range_tests p a next).at
  range_coded p a next written =
      let h = point next a.width in
      let b = point (next + 1) a.width in
      let over = Exclude (above p).form h in
      let under = Exclude (below p).form b in
      code.tested p a h b
      (written_instruction a over (written_left (does a over) (does h under) written))
      (written_instruction h under (written_right (does a over) (does h under) written)) refl refl

  module _ (integers : Integers) (callable : ℕ → ℕ → Type 0) (n : ℕ) where
    -- the compiled expression is its code, as a value and as a condition
    pub record CodesExpr (e : Expr) (x : Asked) : Type 0 where
      pub value : (a : Point) (next : ℕ) → Written (x.value a next).code →
          IsValue integers acts callable n e a (x.value a next).at (x.value a next).value
      pub condition : (a y w : Point) (next : ℕ) → y.width ≤ a.width → w.width ≤ a.width →
          Written (x.condition a y w next).form → IsCondition integers acts callable n e a y w

    by_value : (e : Expr) (value : Value) → ((a : Point) (next : ℕ) → Written (value a next).code →
        IsValue integers acts callable n e a (value a next).at (value a next).value) →
        CodesExpr e (of_value value)
    by_value e value is = record {
      value = is;
      condition = λ a y w next fits_y fits_w written.
          let v = value a next in
          let test = does v.at (Test (Ne v.value) y w) in
          code.tested e a v.at y w v.value (is a next (written_left v.code test written))
          (written_instruction v.at (Test (Ne v.value) y w) (written_right v.code test written))
          fits_y
          fits_w;
    }

    by_condition : (e : Expr) (condition : Condition) → IsLogical e
        → ((a y w : Point) (next : ℕ) → y.width ≤ a.width → w.width ≤ a.width →
        Written (condition a y w next).form → IsCondition integers acts callable n e a y w) →
        CodesExpr e (of_condition condition)
    by_condition e condition logical is = record {
      value = λ a next written.
          let y = point next a.width in
          let w = point (next + 1) a.width in
          let b = point (next + 2) (a.width + 1) in
          let c = (condition a y w (next + 3)).form in
          let yes = Set a.width (number (pos 1)) b in
          let no = Set a.width (number (pos 0)) b in
          let ends = written_right c (append_code (does y yes) (does w no)) written in
          code.truth e a y w b logical (record { first = refl; second = refl; both = omega arith })
          (is a y w (next + 3) (omega arith) (omega arith)
          (written_left c (append_code (does y yes) (does w no)) written))
          (written_instruction y yes (written_left (does y yes) (does w no) ends))
          (written_instruction w no (written_right (does y yes) (does w no) ends));
      condition = is;
    }

    -- a value that is tested is the code of what it is without the tests
    ranged_coded : (kind : Integers) (e : Expr) (value : Value) → ((a z : Point) (next : ℕ) →
        Written (value a next).code → IsRanged acts kind (value a next).value (value a next).at z
        → IsValue integers acts callable n e a z (value a next).value) → (a : Point) (next : ℕ)
        → Written (ranged kind value a next).code →
        IsValue integers acts callable n e a (ranged kind value a next).at
        (ranged kind value a next).value
    ranged_coded Unbounded e value is a next written =
        let v = value a next in is a v.at next written (code.untested v.value v.at)
    ranged_coded Bits32 e value is a next written =
        let v = value a next in
        let t = range_tests v.value v.at (after next v.code) in
        is a t.at next (written_left v.code t.code written)
        (range_coded v.value v.at (after next v.code) (written_right v.code t.code written))

    arithmetic_coded : (op : BinOp) (e f : Expr) (l r : Asked) →
        ((p q : Body) → IsArithmetic op p q (arithmetic_of op p q).form) → CodesExpr e l →
        CodesExpr f r → CodesExpr (expr.Binary op e f) (arithmetic integers op l r)
    arithmetic_coded op e f l r is left right =
        by_value (expr.Binary op e f) _ (ranged_coded integers (expr.Binary op e f) _
        (λ a z next written tested.
        let x = l.value a next in let y = r.value x.at (after next x.code) in
        code.arithmetic op e f a x.at y.at z x.value y.value _ (is x.value y.value)
        (left.value a next (written_left x.code y.code written))
        (right.value x.at (after next x.code) (written_right x.code y.code written)) tested))

    division_coded : (op : BinOp) (d : Division) (e f : Expr) (l r : Asked) → IsDivision op d →
        CodesExpr e l → CodesExpr f r → CodesExpr (expr.Binary op e f) (division integers d l r)
    division_coded op d e f l r is left right =
        by_value (expr.Binary op e f) _ (ranged_coded (tested_by integers d) (expr.Binary op e f) _
        (λ a z next written tested.
        let x = l.value a next in let y = r.value x.at (after next x.code) in
        let both = append_code x.code y.code in
        let b = point (after next both) (y.at.width + 1) in
        let instruction = does y.at (Divide d x.value y.value b) in
        let operands_written = written_left both instruction written in
        code.division op d e f a x.at y.at b z x.value y.value is
        (left.value a next (written_left x.code y.code operands_written))
        (right.value x.at (after next x.code) (written_right x.code y.code operands_written))
        (written_instruction y.at (Divide d x.value y.value b) (written_right both instruction
        written))
        (omega arith) tested))

    comparison_coded : (op : BinOp) (e f : Expr) (l r : Asked) →
        ((p q : Body) → IsComparison op p q (test_of op p q).form) → CodesExpr e l → CodesExpr f r →
        CodesExpr (expr.Binary op e f) (comparison op l r)
    comparison_coded op e f l r is left right =
        let zero = number (pos 0) in
        by_condition (expr.Binary op e f) _ (code.comparison op e f zero zero _ (is zero zero))
        (λ a y w next fits_y fits_w written.
        let p = l.value a next in let q = r.value p.at (after next p.code) in
        let both = append_code p.code q.code in
        let action = Test (test_of op p.value q.value).form y w in
        let operands_written = written_left both (does q.at action) written in
        code.compared op e f a p.at q.at y w p.value q.value _ (is p.value q.value)
        (left.value a next (written_left p.code q.code operands_written))
        (right.value p.at (after next p.code) (written_right p.code q.code operands_written))
        (written_instruction q.at action (written_right both (does q.at action) written)) fits_y
        fits_w)

    conjunction_coded : (e f : Expr) (l r : Asked) → CodesExpr e l → CodesExpr f r →
        CodesExpr (expr.Binary bin.AndAlso e f) (conjunction l r)
    conjunction_coded e f l r left right =
        by_condition (expr.Binary bin.AndAlso e f) _ (code.conjunction e f)
        (λ a y w next fits_y fits_w written.
        let m = point next a.width in
        let c = (l.condition a m w (next + 1)).form in
        let d = (r.condition m y w (after (next + 1) c)).form in
        code.both e f a m y w refl (left.condition a m w (next + 1) (omega arith) fits_w
        (written_left c d written))
        (right.condition m y w (after (next + 1) c) fits_y fits_w (written_right c d written)))

    disjunction_coded : (e f : Expr) (l r : Asked) → CodesExpr e l → CodesExpr f r →
        CodesExpr (expr.Binary bin.OrElse e f) (disjunction l r)
    disjunction_coded e f l r left right =
        by_condition (expr.Binary bin.OrElse e f) _ (code.disjunction e f)
        (λ a y w next fits_y fits_w written.
        let m = point next a.width in
        let c = (l.condition a y m (next + 1)).form in
        let d = (r.condition m y w (after (next + 1) c)).form in
        code.either e f a m y w refl (left.condition a y m (next + 1) fits_y (omega arith)
        (written_left c d written))
        (right.condition m y w (after (next + 1) c) fits_y fits_w (written_right c d written)))

    choice_coded : (c e f : Expr) (x l r : Asked) → CodesExpr c x → CodesExpr e l → CodesExpr f r →
        CodesExpr (expr.Choose c e f) (choice x l r)
    choice_coded c e f x l r test left right = by_value (expr.Choose c e f) _ (λ a next written.
        let y = point next a.width in
        let w = point (next + 1) a.width in
        let b = point (next + 2) (a.width + 1) in
        let t = (x.condition a y w (next + 3)).form in
        let p = l.value y (after (next + 3) t) in
        let q = r.value w (after (after (next + 3) t) p.code) in
        let last = does q.at (Set a.width q.value b) in
        let second = append_code q.code last in
        let middle = does p.at (Set a.width p.value b) in
        let from_middle = append_code middle second in
        let from_first = append_code p.code from_middle in
        let values = written_right t from_first written in
        let rest = written_right p.code from_middle values in
        let other = written_right middle second rest in
        code.choice c e f a y p.at w q.at b p.value q.value
        (record { first = refl; second = refl; both = omega arith })
        (test.condition a y w (next + 3) (omega arith) (omega arith)
        (written_left t from_first written))
        (left.value y (after (next + 3) t) (written_left p.code from_middle values))
        (written_instruction p.at (Set a.width p.value b) (written_left middle second rest))
        (right.value w (after (after (next + 3) t) p.code) (written_left q.code last other))
        (written_instruction q.at (Set a.width q.value b) (written_right q.code last other)))

    unary_coded : (op : UnOp) (e : Expr) (x : Asked) → CodesExpr e x →
        CodesExpr (expr.Unary op e) (unary_code integers op x)
    unary_coded un.Plus e x is =
        by_value (expr.Unary un.Plus e) _ (λ a next written.
        code.plus e a _ _ (is.value a next written))
    unary_coded un.Minus e x is =
        by_value (expr.Unary un.Minus e) _ (ranged_coded integers (expr.Unary un.Minus e) _
        (λ a z next written tested.
        let v = x.value a next in
        code.minus e a v.at z v.value (is.value a next written) tested))
    unary_coded un.Not e x is =
        by_condition (expr.Unary un.Not e) _ (code.negation e)
        (λ a y w next fits_y fits_w written. code.negated e a y w
        (is.condition a w y next fits_w fits_y written))

    binary_coded : (op : BinOp) (e f : Expr) (l r : Asked) → CodesExpr e l → CodesExpr f r →
        CodesExpr (expr.Binary op e f) (binary_code integers (kind_of op) op l r)
    binary_coded bin.Add e f l r left right = arithmetic_coded bin.Add e f l r code.sum left right
    binary_coded bin.Sub e f l r left right =
        arithmetic_coded bin.Sub e f l r code.difference left right
    binary_coded bin.Mul e f l r left right =
        arithmetic_coded bin.Mul e f l r code.product left right
    binary_coded bin.Div e f l r left right =
        division_coded bin.Div Quotient e f l r code.of_quotient left right
    binary_coded bin.Rem e f l r left right =
        division_coded bin.Rem Remainder e f l r code.of_remainder left right
    binary_coded bin.Lt e f l r left right = comparison_coded bin.Lt e f l r code.less left right
    binary_coded bin.Le e f l r left right = comparison_coded bin.Le e f l r code.at_most left right
    binary_coded bin.Gt e f l r left right = comparison_coded bin.Gt e f l r code.greater left right
    binary_coded bin.Ge e f l r left right =
        comparison_coded bin.Ge e f l r code.at_least left right
    binary_coded bin.Eq e f l r left right = comparison_coded bin.Eq e f l r code.equal left right
    binary_coded bin.Ne e f l r left right = comparison_coded bin.Ne e f l r code.unequal left right
    binary_coded bin.AndAlso e f l r left right = conjunction_coded e f l r left right
    binary_coded bin.OrElse e f l r left right = disjunction_coded e f l r left right

    call_coded : (f : ℕ) (es : List Expr) → callable f (length es)
        → ((a : Point) (next : ℕ) → let xs = arguments (map (expr_code integers) es) a next in
        Written xs.code → AreValues integers acts callable n es a xs.at xs.values) →
        CodesExpr (expr.Apply f es) (call f (map (expr_code integers) es))
    call_coded f es may each = by_value (expr.Apply f es) _ (λ a next written.
        let xs = arguments (map (expr_code integers) es) a next in
        let m = after next xs.code in
        let r = point m xs.at.width in
        let b = point (m + 1) (xs.at.width + 1) in
        let enter = does xs.at (Call f xs.values r) in
        let resume = does r (Resume b) in
        let ends = append_code enter resume in
        let instructions = written_right xs.code ends written in
        let counted : length es ≡ length xs.values =
        sym (count_values (map (expr_code integers) es) a next ∙
        length-map es (expr_code integers)) in
        code.call f es a xs.at r b xs.values (subst (callable f) counted may)
        (each a next (written_left xs.code ends written))
        (written_instruction xs.at (Call f xs.values r) (written_left enter resume instructions))
        refl
        (written_instruction r (Resume b) (written_right enter resume instructions)) (omega arith))

    mutual
      -- what the table says of an expression in order is its code
      pub expr_coded : (e : Expr) → IsExpr callable n e → CodesExpr e (expr_code integers e)
      expr_coded e (scope.literal k) =
          subst (CodesExpr e) (sym (code-Lit integers k))
          (by_value (expr.Lit k) _ (λ a next written. code.literal k a))
      expr_coded e (scope.variable_of v below) =
          subst (CodesExpr e) (sym (code-Var integers v))
          (by_value (expr.Var v) _ (λ a next written. code.variable_of v a below))
      expr_coded e (scope.one_operand op f inner) =
          subst (CodesExpr e) (sym (code-Unary integers op f))
          (unary_coded op f (expr_code integers f) (expr_coded f inner))
      expr_coded e (scope.two_operands op f g left right) =
          subst (CodesExpr e) (sym (code-Binary integers op f g))
          (binary_coded op f g (expr_code integers f) (expr_code integers g) (expr_coded f left)
          (expr_coded g right))
      expr_coded e (scope.chosen c f g test left right) =
          subst (CodesExpr e) (sym (code-Choose integers c f g))
          (choice_coded c f g (expr_code integers c) (expr_code integers f) (expr_code integers g)
          (expr_coded c test)
          (expr_coded f left) (expr_coded g right))
      expr_coded e (scope.applied f es may inner) =
          subst (CodesExpr e) (sym (code-Apply integers f es))
          (call_coded f es may (exprs_coded es inner))

      exprs_coded : (es : List Expr) → AreExprs callable n es → (a : Point) (next : ℕ)
          → let xs =
          arguments (map (expr_code integers) es) a next in Written xs.code →
          AreValues integers acts callable n es a xs.at xs.values
      exprs_coded es scope.no_expr a next written = code.no_value a
      exprs_coded es (scope.one_more e fs first rest) a next written =
          let x = (expr_code integers e).value a next in
          let xs = arguments (map (expr_code integers) fs) x.at (after next x.code) in
          code.one_value e fs a x.at xs.at x.value xs.values
          ((expr_coded e first).value a next (written_left x.code xs.code written))
          (exprs_coded fs rest x.at (after next x.code) (written_right x.code xs.code written))
