-- The code of expressions: what is opened and done from a point on, to have an expression's value,
-- or to go to one of two points by whether it is 0. Of 32-bit integers, the results of `+`, `-`,
-- `*` and `/` are tested for being one.
use Rattle.std.specs.Prelude.{ℕ, ◌+◌, Bool, true, false, ◌&&◌, List, [], ◌∷◌, Option, Some, None, pos, negsuc}
use Rattle.rx_plain.specs.Formed.{Formed, pure, kept, ◌>>=◌, ◌<$>◌}
use Rattle.rx_poly.specs.Constants.{number, variable}
use Rattle.rx_poly.specs.Limits.{body_sum, scaled_by, body_difference, is_within}
use Rattle.rx_poly.specs.Products.{product_formed}
use Rattle.rx_poly.specs.declared.body.Body.{Body}
use Rattle.rx_row.specs.declared.row.Row.{Row}
use Rattle.rx_row.specs.declared.row.Row.TheVariants as row
use Rattle.c_ast.specs.declared.integers.Integers.{Integers}
use Rattle.c_ast.specs.declared.integers.Integers.TheVariants.{Unbounded, Bits32}
use Rattle.c_ast.specs.declared.expr.UnOp.{UnOp}
use Rattle.c_ast.specs.declared.expr.UnOp.TheVariants as unary
use Rattle.c_ast.specs.declared.expr.BinOp.{BinOp}
use Rattle.c_ast.specs.declared.expr.BinOp.TheVariants as binary
use Rattle.c_ast.specs.declared.expr.Expr.{Expr}
use Rattle.c_ast.specs.declared.expr.Expr.TheOpen.{Expr-F}
use Rattle.c_ast.specs.declared.expr.Expr.TheFolds.{fold-Expr}
use Rattle.c_ast.specs.declared.expr.Expr.TheViews.{out-Expr}
use Rattle.rx_code.specs.Pieces.{no_code, append_code, after, point, a_point, a_frame, opens, does, is_room}
use Rattle.rx_code.specs.declared.action.Action.TheVariants.{Set, Test, Exclude, Divide, Call, Resume}
use Rattle.rx_code.specs.declared.action.Division.{Division}
use Rattle.rx_code.specs.declared.action.Division.TheVariants.{Quotient, Remainder}
use Rattle.rx_code.specs.declared.code.Code.{Code}
use Rattle.rx_code.specs.declared.kind.OpKind.{OpKind}
use Rattle.rx_code.specs.declared.kind.OpKind.TheVariants.{Arithmetic, Dividing, Comparing, Conjunction, Disjunction}
use Rattle.rx_code.specs.declared.point.Point.{Point}

-- ---- operators on polynomials

-- the polynomial of `+`, `-` or `*`; a difference adds what is scaled by -1
abbrev pub arithmetic_of : BinOp → Body → Body → Formed Body
arithmetic_of binary.Add p q = kept is_within (body_sum p q)
arithmetic_of binary.Sub p q = do
  r ← kept is_within (scaled_by (negsuc 0) q)
  kept is_within (body_sum p r)
arithmetic_of binary.Mul p q = product_formed p q
-- other operators aren't asked
arithmetic_of _ p q = pure p

-- p - q - 1
abbrev pub one_less : Body → Body → Formed Body
one_less p q = do
  d ← kept is_within (body_difference p q)
  kept is_within (body_difference d (number (pos 1)))

-- the row of a comparison
abbrev pub test_of : BinOp → Body → Body → Formed Row
test_of binary.Lt p q = row.Ge <$> one_less q p
test_of binary.Le p q = row.Ge <$> kept is_within (body_difference q p)
test_of binary.Gt p q = row.Ge <$> one_less p q
test_of binary.Ge p q = row.Ge <$> kept is_within (body_difference p q)
test_of binary.Eq p q = row.Eq <$> kept is_within (body_difference p q)
-- `!=`; other operators aren't asked
test_of _ p q = row.Ne <$> kept is_within (body_difference p q)

-- p - 2147483648 >= 0: the value is above every 32-bit integer
abbrev pub above : Body → Formed Row
above p = row.Ge <$> kept is_within (body_difference p (number (pos 2147483648)))

-- -p - 2147483649 >= 0: the value is below every one
abbrev pub below : Body → Formed Row
below p = do
  q ← kept is_within (scaled_by (negsuc 0) p)
  row.Ge <$> kept is_within (body_difference q (number (pos 2147483649)))

-- ---- what a compiled expression is

-- the code, the point at which the value is known, the value there, and whether all that is formed
-- and opened keeps the limits
pub record Valued : Type 0 where
  pub code : Code
  pub at : Point
  pub value : Body
  pub within : Bool

-- a value is compiled from a point on, given the number of the next symbol
abbrev pub Value : Type 0
Value = Point → ℕ → Valued

-- a condition is compiled from a point on to two others, the one where it holds and the one where
-- it doesn't
abbrev pub Condition : Type 0
Condition = Point → Point → Point → ℕ → Formed Code

-- an expression is compiled as either
pub record Asked : Type 0 where
  pub value : Value
  pub condition : Condition

-- a value is tested for not being 0
abbrev pub of_value : Value → Asked
of_value value = record {
  value = value;
  condition = λ a y w next.
      let v = value a next in
      record {
        form = append_code v.code (does v.at (Test (row.Ne v.value) y w));
        within =
            v.within;
      };
}

-- a condition has the value 1 or 0
abbrev pub of_condition : Condition → Asked
of_condition condition = record {
  value = λ a next.
      let y = point next a.width in
      let w = point (next + 1) a.width in
      let b = point (next + 2) (a.width + 1) in
      let c = condition a y w (next + 3) in
      record {
        code = append_code (opens (a_point a.width ∷ a_point a.width ∷ a_point (a.width + 1) ∷ []))
            (append_code c.form
            (append_code (does y (Set a.width (number (pos 1)) b))
            (does w (Set a.width (number (pos 0)) b))));
        at = b;
        value = variable a.width;
        within =
            is_room next a.width && (is_room (next + 1) a.width &&
            (is_room (next + 2) (a.width + 1) && c.within));
      };
  condition = condition;
}

-- ---- results that may be out of range

-- from a point on a value is tested for being a 32-bit integer: two new points have it, the first
-- where it isn't above these, the second where it isn't below them either
abbrev pub range_tests : Body → Point → ℕ → Valued
range_tests p a next =
    let h = point next a.width in
    let b = point (next + 1) a.width in
    let over = above p in
    let under = below p in
    record {
      code = append_code (opens (a_point a.width ∷ a_point a.width ∷ []))
          (append_code (does a (Exclude over.form h)) (does h (Exclude under.form b)));
      at = b;
      value = p;
      within = is_room next a.width
          && (is_room (next + 1) a.width && (over.within && under.within));
    }

-- the value of an operator: of 32-bit integers it is tested
abbrev pub ranged : Integers → Value → Value
ranged Unbounded value a next = value a next
ranged Bits32 value a next =
    let v = value a next in
    let t = range_tests v.value v.at (after next v.code) in
    record {
      code = append_code v.code t.code;
      at = t.at;
      value = t.value;
      within = v.within && t.within;
    }

-- a quotient is tested; a remainder isn't, since of two 32-bit integers it is one
abbrev pub tested_by : Integers → Division → Integers
tested_by integers Quotient = integers
tested_by integers Remainder = Unbounded

-- ---- operators

-- two operands, from left to right
pub record Operands : Type 0 where
  pub code : Code
  pub at : Point
  pub left : Body
  pub right : Body
  pub within : Bool

abbrev pub operands : Asked → Asked → Point → ℕ → Operands
operands l r a next =
    let x = l.value a next in
    let y = r.value x.at (after next x.code) in
    record {
      code = append_code x.code y.code;
      at = y.at;
      left = x.value;
      right = y.value;
      within =
          x.within && y.within;
    }

-- a comparison tests its row
abbrev pub comparison : BinOp → Asked → Asked → Asked
comparison op l r = of_condition (λ a y w next.
    let t = operands l r a next in
    let tested = test_of op t.left t.right in
    record {
      form = append_code t.code (does t.at (Test tested.form y w));
      within = t.within &&
          tested.within;
    })

-- `&&`: the second operand is tested at a new point, where the first holds
abbrev pub conjunction : Asked → Asked → Asked
conjunction l r = of_condition (λ a y w next.
    let m = point next a.width in
    let c = l.condition a m w (next + 1) in
    let d = r.condition m y w (after (next + 1) c.form) in
    record {
      form = append_code (opens (a_point a.width ∷ [])) (append_code c.form d.form);
      within = is_room next a.width && (c.within && d.within);
    })

-- `||`: where the first doesn't hold
abbrev pub disjunction : Asked → Asked → Asked
disjunction l r = of_condition (λ a y w next.
    let m = point next a.width in
    let c = l.condition a y m (next + 1) in
    let d = r.condition m y w (after (next + 1) c.form) in
    record {
      form = append_code (opens (a_point a.width ∷ [])) (append_code c.form d.form);
      within = is_room next a.width && (c.within && d.within);
    })

-- operators that are compiled alike
abbrev pub kind_of : BinOp → OpKind
kind_of binary.Add = Arithmetic
kind_of binary.Sub = Arithmetic
kind_of binary.Mul = Arithmetic
kind_of binary.Div = Dividing
kind_of binary.Rem = Dividing
kind_of binary.AndAlso = Conjunction
kind_of binary.OrElse = Disjunction
kind_of binary.Lt = Comparing
kind_of binary.Le = Comparing
kind_of binary.Gt = Comparing
kind_of binary.Ge = Comparing
kind_of binary.Eq = Comparing
kind_of binary.Ne = Comparing

-- which result of a division `/` or `%` takes
abbrev pub division_of : BinOp → Division
division_of binary.Div = Quotient
-- `%`; other operators aren't asked
division_of _ = Remainder

-- arguments, from left to right
pub record Arguments : Type 0 where
  pub code : Code
  pub at : Point
  pub values : List Body
  pub within : Bool

abbrev pub arguments : List Asked → Point → ℕ → Arguments
arguments [] a next = record { code = no_code; at = a; values = []; within = true }
arguments (e ∷ es) a next =
    let x = e.value a next in
    let xs = arguments es x.at (after next x.code) in
    record {
      code = append_code x.code xs.code;
      at = xs.at;
      values = x.value ∷ xs.values;
      within =
          x.within && xs.within;
    }

-- `c ? e : f`: the value of one of two becomes one variable more of a new point
abbrev pub choice : Asked → Asked → Asked → Asked
choice c e f = of_value (λ a next.
    let y = point next a.width in
    let w = point (next + 1) a.width in
    let b = point (next + 2) (a.width + 1) in
    let test = c.condition a y w (next + 3) in
    let p = e.value y (after (next + 3) test.form) in
    let q = f.value w (after (after (next + 3) test.form) p.code) in
    record {
      code = append_code (opens (a_point a.width ∷ a_point a.width ∷ a_point (a.width + 1) ∷ []))
          (append_code test.form
          (append_code p.code
          (append_code (does p.at (Set a.width p.value b))
          (append_code q.code (does q.at (Set a.width q.value b))))));
      at = b;
      value = variable a.width;
      within = is_room next a.width
          && (is_room (next + 1) a.width
          && (is_room (next + 2) (a.width + 1) && (test.within && (p.within && q.within))));
    })

-- a call: a new frame waits for what is returned, which becomes one variable more of a new point
abbrev pub call : ℕ → List Asked → Asked
call f es = of_value (λ a next.
    let xs = arguments es a next in
    let n = after next xs.code in
    let r = point n xs.at.width in
    let b = point (n + 1) (xs.at.width + 1) in
    record {
      code = append_code xs.code
          (append_code (opens (a_frame xs.at.width ∷ a_point (xs.at.width + 1) ∷ []))
          (append_code (does xs.at (Call f xs.values r)) (does r (Resume b))));
      at = b;
      value = variable xs.at.width;
      within = xs.within && (is_room n xs.at.width && is_room (n + 1) (xs.at.width + 1));
    })

-- ---- expressions, by the kind of integers

module _ (integers : Integers) where
  -- `+`, `-` and `*`
  abbrev pub arithmetic : BinOp → Asked → Asked → Asked
  arithmetic op l r = of_value (ranged integers (λ a next.
      let t = operands l r a next in
      let v = arithmetic_of op t.left t.right in
      record { code = t.code; at = t.at; value = v.form; within = t.within && v.within }))

  -- `/` and `%`: a new point has the result as one variable more
  abbrev pub division : Division → Asked → Asked → Asked
  division d l r = of_value (ranged (tested_by integers d) (λ a next.
      let t = operands l r a next in
      let b = point (after next t.code) (t.at.width + 1) in
      record {
        code =
            append_code t.code (append_code (opens (a_point (t.at.width + 1) ∷ []))
            (does t.at (Divide d t.left t.right b)));
        at = b;
        value = variable t.at.width;
        within = t.within && is_room (after next t.code) (t.at.width + 1);
      }))

  -- an operator before its operand; `!` exchanges the two points
  abbrev pub unary_code : UnOp → Asked → Asked
  unary_code unary.Plus e = of_value e.value
  unary_code unary.Minus e = of_value (ranged integers (λ a next.
      let v = e.value a next in
      record {
        code = v.code;
        at = v.at;
        value = scaled_by (negsuc 0) v.value;
        within = v.within && is_within (scaled_by (negsuc 0) v.value);
      }))
  unary_code unary.Not e = of_condition (λ a y w next. e.condition a w y next)

  -- an operator between its operands
  abbrev pub binary_code : OpKind → BinOp → Asked → Asked → Asked
  binary_code Arithmetic op l r = arithmetic op l r
  binary_code Dividing op l r = division (division_of op) l r
  binary_code Comparing op l r = comparison op l r
  binary_code Conjunction op l r = conjunction l r
  binary_code Disjunction op l r = disjunction l r

  -- an expression, from its parts
  abbrev pub expr_level : Expr-F Asked → Asked
  expr_level (Expr-F.Lit k) =
      of_value (λ a next. record { code = no_code; at = a; value = number k; within = true })
  expr_level (Expr-F.Var v) =
      of_value (λ a next. record { code = no_code; at = a; value = variable v; within = true })
  expr_level (Expr-F.Unary op e) = unary_code op e
  expr_level (Expr-F.Binary op l r) = binary_code (kind_of op) op l r
  expr_level (Expr-F.Choose c e f) = choice c e f
  expr_level (Expr-F.Apply f es) = call f es

  -- the code of an expression
  abbrev pub expr_code : Expr → Asked
  expr_code = fold-Expr Asked expr_level

-- ---- which expressions are conditions, for the crates that compile

-- operators whose value is that of a condition
abbrev pub decides : OpKind → Bool
decides Arithmetic = false
decides Dividing = false
decides _ = true

abbrev pub is_logical_level : Expr-F Expr → Bool
is_logical_level (Expr-F.Unary unary.Not e) = true
is_logical_level (Expr-F.Binary op l r) = decides (kind_of op)
is_logical_level _ = false

-- a comparison, `!`, `&&` or `||`
abbrev pub is_logical : Expr → Bool
is_logical e = is_logical_level (out-Expr e)

-- the kind of the operator between two operands, where the expression is one
abbrev pub kind_level : Expr-F Expr → Option OpKind
kind_level (Expr-F.Binary op l r) = Some (kind_of op)
kind_level _ = None

abbrev pub kind_at : Expr → Option OpKind
kind_at e = kind_level (out-Expr e)
