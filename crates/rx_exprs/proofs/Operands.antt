-- An operator after its operands: what is compiled for these, and then for the operator, is
-- compiled for the whole.
use Rattle.std.proofs.Common.{◌≡◌, ◌≢◌, ◌∙◌, refl, sym, ap, subst, ◌&&◌, true, false, Result, Ok, length, negsuc}
use Rattle.std.proofs.lemmas.Bool.{and_from, and_left}
use Rattle.rx_plain.specs.Formed.{Formed, Forms, kept}
use Rattle.rx_poly.specs.Limits.{is_within, scaled_by}
use Rattle.rx_poly.specs.declared.body.Body.{Body}
use Rattle.rx_poly.specs.declared.poly_end.PolyEnd.{PolyEnd}
use Rattle.rx_poly.specs.declared.poly_end.PolyEnd.TheVariants.{Large}
use Rattle.rx_row.specs.declared.row.Row.{Row}
use Rattle.c_ast.specs.declared.integers.Integers.{Integers}
use Rattle.c_ast.specs.declared.expr.BinOp.{BinOp}
use Rattle.c_ast.specs.declared.expr.UnOp.{UnOp}
use Rattle.c_ast.specs.declared.expr.UnOp.TheVariants as unary
use Rattle.c_ast.specs.declared.expr.Expr.{Expr}
use Rattle.c_ast.specs.declared.expr.Expr.TheVariants.{Binary, Unary, outs-Binary}
use Rattle.rx_code.specs.Expressions.{Asked, Operands, Value, Valued, arithmetic_of, binary_code, decides, division_of, expr_code, is_logical, is_logical_level, kind_of, operands, test_of, tested_by}
use Rattle.rx_code.specs.Pieces.{after, append_code, does}
use Rattle.rx_code.specs.declared.action.Action.TheVariants.{Test}
use Rattle.rx_code.specs.declared.code.Code.{Code}
use Rattle.rx_code.specs.declared.kind.OpKind.{OpKind}
use Rattle.rx_code.specs.declared.kind.OpKind.TheVariants.{Arithmetic, Dividing, Comparing, Conjunction, Disjunction}
use Rattle.rx_code.specs.declared.point.Point.{Point}
use Rattle.rx_code.proofs.ExprEquations.{code-Binary, code-Unary}
use Rattle.rx_exprs.specs.Compiles.{CompilesCode, CompilesValue, arithmetic_at, condition_at, divided_at, division_at, formed_at, negated_at, value_at}
use Rattle.rx_exprs.proofs.Following.{after_code, append-no_code, append_code_assoc, opened-append, second_false}
use Rattle.rx_exprs.proofs.Ranged.{then_ranged, value_not}

-- the kinds that are left
arithmetic_left : (k : OpKind) → decides k ≡ false → k ≢ Dividing → k ≡ Arithmetic
arithmetic_left Arithmetic is other = refl
arithmetic_left Dividing is other = absurd (other refl)
arithmetic_left Comparing is other = absurd cc
arithmetic_left Conjunction is other = absurd cc
arithmetic_left Disjunction is other = absurd cc

pub kind_left : (e : Expr) (op : BinOp) (l r : Expr) → e ≡ Binary op l r → is_logical e ≡ false →
    kind_of op ≢ Dividing → kind_of op ≡ Arithmetic
kind_left e op l r is plain other =
    arithmetic_left (kind_of op) (sym (ap is_logical is ∙ ap is_logical_level (outs-Binary op l r))
    ∙ plain) other

-- an operator between equal parts, and before them
pub same_parts : (op : BinOp) (l m r q : Expr) → l ≡ m → r ≡ q → Binary op l r ≡ Binary op m q
same_parts op l m r q first second i = Binary op (first i) (second i)

pub same_part : (op kind : UnOp) (l m : Expr) → op ≡ kind → l ≡ m → Unary op l ≡ Unary kind m
same_part op kind l m first second i = Unary (first i) (second i)

module _ (integers : Integers) where
  -- the two operands, from a point on
  abbrev pub both : Expr → Expr → Point → Code → Operands
  both l r a old =
      operands (expr_code integers l) (expr_code integers r) a (length old.opened)

  -- what is compiled for them
  pub record OperandsAre (l r : Expr) (old two : Code) (a at : Point) (p q : Body) : Type 0 where
    pub code : two ≡ append_code old (both l r a old).code
    pub at_is : at ≡ (both l r a old).at
    pub left_is : p ≡ (both l r a old).left
    pub right_is : q ≡ (both l r a old).right
    pub within : (both l r a old).within ≡ true
    pub count : length two.opened ≡ after (length old.opened) (both l r a old).code

  pub operands_are : (l r : Expr) (old one two : Code) (a middle at : Point) (p q : Body)
      → CompilesValue old one (Ok (middle, p)) (value_at integers l a old) →
      CompilesValue one two (Ok (at, q)) (value_at integers r middle one)
      → OperandsAre l r old two a at p q
  operands_are l r old one two a middle at p q first second =
      let n = length old.opened in
      let x = (expr_code integers l).value a n in
      let y = (expr_code integers r).value x.at (after n x.code) in
      let count : length one.opened ≡ after n x.code =
      ap (λ (c : Code). length c.opened) first.0 ∙ opened-append old x.code in
      let same : (expr_code integers r).value middle (length one.opened) ≡ y = λ i.
      (expr_code integers r).value (first.1 i) (count i) in
      let code : two ≡ append_code old (append_code x.code y.code) =
      second.0 ∙ ap (λ (v : Valued). append_code one v.code) same ∙
      ap (λ (c : Code). append_code c y.code) first.0 ∙ append_code_assoc old x.code y.code in
      record {
        code = code;
        at_is = second.1 ∙ ap (λ (v : Valued). v.at) same;
        left_is = first.2;
        right_is = second.2 ∙ ap (λ (v : Valued). v.value) same;
        within =
            and_from x.within y.within first.3
            (sym (ap (λ (v : Valued). v.within) same) ∙ second.3);
        count =
            ap (λ (c : Code). length c.opened) code ∙
            opened-append old (append_code x.code y.code);
      }

  -- the code of an operator of a kind
  code_of_kind : (e : Expr) (op : BinOp) (l r : Expr) (k : OpKind) → e ≡ Binary op l r →
      kind_of op ≡ k
      → expr_code integers e ≡ binary_code integers k op (expr_code integers l)
      (expr_code integers r)
  code_of_kind e op l r k is kind =
      ap (expr_code integers) is ∙ code-Binary integers op l r ∙
      ap (λ k. binary_code integers k op (expr_code integers l) (expr_code integers r)) kind

  -- what is tested: a sum, difference or product, and the result of a division
  abbrev whole_sum : BinOp → Expr → Expr → Value
  whole_sum op l r a next =
      let t = operands (expr_code integers l) (expr_code integers r) a next in
      let v = arithmetic_of op t.left t.right in
      record { code = t.code; at = t.at; value = v.form; within = t.within && v.within }

  abbrev whole_division : BinOp → Expr → Expr → Value
  whole_division op l r a next =
      let t = operands (expr_code integers l) (expr_code integers r) a next in
      after_code t.code t.within (division_at op t.left t.right t.at (after next t.code))

  -- the second operand is beyond the limits
  kind_fails : (k : OpKind) (op : BinOp) (l r : Expr) (old : Code) (a : Point) → decides k ≡ false →
      (both l r a old).within ≡ false
      → ((binary_code integers k op (expr_code integers l) (expr_code integers r)).value a
      (length old.opened)).within ≡ false
  kind_fails Arithmetic op l r old a plain large =
      let t = both l r a old in
      value_not integers (whole_sum op l r) a (length old.opened)
      (and_left t.within (arithmetic_of op t.left t.right).within large)
  kind_fails Dividing op l r old a plain large =
      let t = both l r a old in
      let next = after (length old.opened) t.code in
      value_not (tested_by integers (division_of op)) (whole_division op l r) a (length old.opened)
      (and_left t.within (division_at op t.left t.right t.at next).within large)
  kind_fails Comparing op l r old a plain large = absurd cc
  kind_fails Conjunction op l r old a plain large = absurd cc
  kind_fails Disjunction op l r old a plain large = absurd cc

  pub right_fails : (e : Expr) (op : BinOp) (l r : Expr) (old one : Code) (a middle : Point)
      (p : Body) → e ≡ Binary op l r → is_logical e ≡ false
      → CompilesValue old one (Ok (middle, p)) (value_at integers l a old) →
      (value_at integers r middle one).within ≡ false → (value_at integers e a old).within ≡ false
  right_fails e op l r old one a middle p is plain first large =
      let n = length old.opened in
      let x = (expr_code integers l).value a n in
      let y = (expr_code integers r).value x.at (after n x.code) in
      let count : length one.opened ≡ after n x.code =
      ap (λ (c : Code). length c.opened) first.0 ∙ opened-append old x.code in
      let same : value_at integers r middle one ≡ y = λ i.
      (expr_code integers r).value (first.1 i) (count i) in
      let beyond : (both l r a old).within ≡ false =
      second_false x.within y.within first.3 (sym (ap (λ (v : Valued). v.within) same) ∙ large) in
      let kind : decides (kind_of op) ≡ false =
      sym (ap is_logical is ∙ ap is_logical_level (outs-Binary op l r)) ∙ plain in
      ap (λ (b : Asked). (b.value a n).within) (code_of_kind e op l r (kind_of op) is refl)
      ∙ kind_fails (kind_of op) op l r old a kind beyond

  -- ---- comparisons

  pub comparison_compiled : (e : Expr) (op : BinOp) (l r : Expr) (old one two new : Code)
      (a middle at y w : Point) (p q : Body) (row : Row)
      → e ≡ Binary op l r → kind_of op ≡ Comparing
      → CompilesValue old one (Ok (middle, p)) (value_at integers l a old) →
      CompilesValue one two (Ok (at, q)) (value_at integers r middle one)
      → Forms Large (Ok row) (test_of op p q) → new ≡ append_code two (does at (Test row y w))
      → CompilesCode old new (Ok tt) (condition_at integers e a y w old)
  comparison_compiled e op l r old one two new a middle at y w p q row is kind first second formed
      made =
      let o = operands_are l r old one two a middle at p q first second in
      let n = length old.opened in
      let t = both l r a old in
      let tests : test_of op p q ≡ test_of op t.left t.right = λ i.
      test_of op (o.left_is i) (o.right_is i) in
      let tested = test_of op t.left t.right in
      let row_is : row ≡ tested.form = formed.0 ∙ ap (λ (f : Formed Row). f.form) tests in
      let kept_too : tested.within ≡ true =
      sym (ap (λ (f : Formed Row). f.within) tests) ∙ formed.1 in
      subst (λ (b : Asked). CompilesCode old new (Ok tt) (b.condition a y w n))
      (sym (code_of_kind e op l r Comparing is kind)) (
        made ∙ (λ i. append_code (o.code i) (does (o.at_is i) (Test (row_is i) y w))) ∙
            append_code_assoc old t.code (does t.at (Test tested.form y w)),
        and_from t.within tested.within o.within kept_too,
      )

  -- ---- `+`, `-` and `*`

  pub arithmetic_compiled : (e : Expr) (op : BinOp) (l r : Expr) (old one two new : Code)
      (a middle at : Point) (p q : Body) (result : Result (Point × Body) PolyEnd)
      → e ≡ Binary op l r → kind_of op ≡ Arithmetic
      → CompilesValue old one (Ok (middle, p)) (value_at integers l a old) →
      CompilesValue one two (Ok (at, q)) (value_at integers r middle one)
      → CompilesValue two new result (arithmetic_at integers op p q at (length two.opened)) →
      CompilesValue old new result (value_at integers e a old)
  arithmetic_compiled e op l r old one two new a middle at p q result is kind first second joined =
      let o = operands_are l r old one two a middle at p q first second in
      let n = length old.opened in
      let t = both l r a old in
      let same : whole_sum op l r a n ≡ after_code t.code t.within
      (formed_at (arithmetic_of op p q) at (length two.opened)) = λ i. record {
        code = sym (append-no_code t.code) i;
        at = sym o.at_is i;
        value = (arithmetic_of op (sym o.left_is i) (sym o.right_is i)).form;
        within = t.within && (arithmetic_of op (sym o.left_is i) (sym o.right_is i)).within;
      } in
      subst (λ (b : Asked). CompilesValue old new result (b.value a n))
      (sym (code_of_kind e op l r Arithmetic is kind))
      (then_ranged integers (whole_sum op l r) (formed_at (arithmetic_of op p q)) old two new t.code
      t.within a at
      result same o.code o.within joined)

  -- ---- `/` and `%`

  pub division_compiled : (e : Expr) (op : BinOp) (l r : Expr) (old one two new : Code)
      (a middle at : Point) (p q : Body) (result : Result (Point × Body) PolyEnd)
      → e ≡ Binary op l r → kind_of op ≡ Dividing
      → CompilesValue old one (Ok (middle, p)) (value_at integers l a old) →
      CompilesValue one two (Ok (at, q)) (value_at integers r middle one)
      → CompilesValue two new result (divided_at integers op p q at (length two.opened)) →
      CompilesValue old new result (value_at integers e a old)
  division_compiled e op l r old one two new a middle at p q result is kind first second divided =
      let o = operands_are l r old one two a middle at p q first second in
      let n = length old.opened in
      let t = both l r a old in
      let same : whole_division op l r a n ≡
      after_code t.code t.within (division_at op p q at (length two.opened)) = λ i.
      after_code t.code t.within
      (division_at op (sym o.left_is i) (sym o.right_is i) (sym o.at_is i) (sym o.count i)) in
      subst (λ (b : Asked). CompilesValue old new result (b.value a n))
      (sym (code_of_kind e op l r Dividing is kind))
      (then_ranged (tested_by integers (division_of op)) (whole_division op l r)
      (division_at op p q) old two new
      t.code t.within a at result same o.code o.within divided)

  -- ---- unary minus

  pub negation_compiled : (e f : Expr) (old two new : Code) (a at : Point) (p : Body)
      (result : Result (Point × Body) PolyEnd)
      → e ≡ Unary unary.Minus f → CompilesValue old two (Ok (at, p)) (value_at integers f a old)
      → CompilesValue two new result (negated_at integers p at (length two.opened)) →
      CompilesValue old new result (value_at integers e a old)
  negation_compiled e f old two new a at p result is known negated =
      let n = length old.opened in
      let negative : Body → Formed Body = λ q. kept is_within (scaled_by (negsuc 0) q) in
      let whole : Value = λ b next.
      let v = (expr_code integers f).value b next in
      record {
        code = v.code;
        at = v.at;
        value = (negative v.value).form;
        within = v.within && (negative v.value).within;
      } in
      let v = value_at integers f a old in
      let same : whole a n ≡ after_code v.code v.within
      (formed_at (negative p) at (length two.opened)) = λ i. record {
        code = sym (append-no_code v.code) i;
        at = sym known.1 i;
        value = (negative (sym known.2 i)).form;
        within = v.within && (negative (sym known.2 i)).within;
      } in
      subst (λ (b : Asked). CompilesValue old new result (b.value a n))
      (sym (ap (expr_code integers) is ∙ code-Unary integers unary.Minus f))
      (then_ranged integers whole (formed_at (negative p)) old two new v.code v.within a at result
      same known.0 known.3 negated)
