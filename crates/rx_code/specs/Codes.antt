-- What it means that points carry the code of an expression or a statement, without numbers: each
-- line of the table of compiled forms has a constructor. More is allowed than the table gives: that
-- points are new isn't asked, and a comparison may be tested by its value too.
use Rattle.std.specs.Prelude.{◌≡◌, ℕ, suc, ◌≤◌, ◌<◌, List, [], ◌∷◌, Option, Some, None, ℤ, pos, negsuc, length}
use Rattle.rx_poly.specs.Constants.{number, variable}
use Rattle.rx_poly.specs.Limits.{body_sum, scaled_by, body_difference}
use Rattle.rx_poly.specs.Products.{body_product}
use Rattle.rx_poly.specs.declared.body.Body.{Body}
use Rattle.rx_row.specs.declared.row.Row.{Row}
use Rattle.rx_row.specs.declared.row.Row.TheVariants as row
use Rattle.c_ast.specs.declared.integers.Integers.{Integers}
use Rattle.c_ast.specs.declared.integers.Integers.TheVariants.{Unbounded, Bits32}
use Rattle.c_ast.specs.declared.expr.UnOp.TheVariants as unary
use Rattle.c_ast.specs.declared.expr.BinOp.{BinOp}
use Rattle.c_ast.specs.declared.expr.BinOp.TheVariants as binary
use Rattle.c_ast.specs.declared.expr.Expr.{Expr}
use Rattle.c_ast.specs.declared.expr.Expr.TheVariants as expr
use Rattle.c_ast.specs.declared.program.Function.{Function}
use Rattle.c_ast.specs.declared.stmt.Stmt.{Stmt}
use Rattle.c_ast.specs.declared.stmt.Stmt.TheVariants as stmt
use Rattle.rx_code.specs.Expressions.{above, below, tested_by}
use Rattle.rx_code.specs.Points.{Actions}
use Rattle.rx_code.specs.declared.action.Action.TheVariants.{Go, Set, Test, Exclude, Divide, Call, Resume, Return}
use Rattle.rx_code.specs.declared.action.Division.{Division}
use Rattle.rx_code.specs.declared.action.Division.TheVariants.{Quotient, Remainder}
use Rattle.rx_code.specs.declared.point.Point.{Point}

-- the row that a comparison tests, of the values of its two sides
pub data IsComparison : BinOp → Body → Body → Row → Type 0 where
  less : (p q : Body) → IsComparison binary.Lt p q
      (row.Ge (body_difference (body_difference q p) (number (pos 1))))
  at_most : (p q : Body) → IsComparison binary.Le p q (row.Ge (body_difference q p))
  greater : (p q : Body) → IsComparison binary.Gt p q
      (row.Ge (body_difference (body_difference p q) (number (pos 1))))
  at_least : (p q : Body) → IsComparison binary.Ge p q (row.Ge (body_difference p q))
  equal : (p q : Body) → IsComparison binary.Eq p q (row.Eq (body_difference p q))
  unequal : (p q : Body) → IsComparison binary.Ne p q (row.Ne (body_difference p q))

-- the polynomial of an operator, of the values of its two sides; a difference adds what is scaled
-- by -1
pub data IsArithmetic : BinOp → Body → Body → Body → Type 0 where
  sum : (p q : Body) → IsArithmetic binary.Add p q (body_sum p q)
  difference : (p q : Body) → IsArithmetic binary.Sub p q (body_sum p (scaled_by (negsuc 0) q))
  product : (p q : Body) → IsArithmetic binary.Mul p q (body_product p q)

-- which result of a division an operator takes
pub data IsDivision : BinOp → Division → Type 0 where
  of_quotient : IsDivision binary.Div Quotient
  of_remainder : IsDivision binary.Rem Remainder

-- an expression whose value is 0 or 1
pub data IsLogical : Expr → Type 0 where
  comparison : (op : BinOp) (e f : Expr) (p q : Body) (r : Row) → IsComparison op p q r →
      IsLogical (expr.Binary op e f)
  negation : (e : Expr) → IsLogical (expr.Unary unary.Not e)
  conjunction : (e f : Expr) → IsLogical (expr.Binary binary.AndAlso e f)
  disjunction : (e f : Expr) → IsLogical (expr.Binary binary.OrElse e f)

-- two points with as many variables as the first, and one with one more
pub record Forks (a y w b : Point) : Type 0 where
  pub first : y.width ≡ a.width
  pub second : w.width ≡ a.width
  pub both : b.width ≡ suc a.width

-- a missing test is 1
abbrev pub test_or_one : Option Expr → Expr
test_or_one None = expr.Lit (pos 1)
test_or_one (Some e) = e

-- `acts` says what is done at points
module _ (acts : Actions) where
  -- from the point a on the value is tested by the kind of integers; at b it is one of them
  pub data IsRanged : Integers → Body → Point → Point → Type 0 where
    untested : (p : Body) (a : Point) → IsRanged Unbounded p a a
    tested : (p : Body) (a h b : Point) → acts a (Exclude (above p).form h)
        → acts h (Exclude (below p).form b) → h.width ≡ a.width → b.width ≡ a.width →
        IsRanged Bits32 p a b

-- `acts` says what is done at points; `callable` says of a function, by its place, whether it takes
-- n arguments
module _ (integers : Integers) (acts : Actions) (callable : ℕ → ℕ → Type 0) where
  -- expressions, where n slots are in scope
  module _ (n : ℕ) where
    mutual
      -- from the point a on the expression is computed; at the point b its value is the polynomial
      pub data IsValue : Expr → Point → Point → Body → Type 0 where
        literal : (k : ℤ) (a : Point) → IsValue (expr.Lit k) a a (number k)
        variable_of : (v : ℕ) (a : Point) → v < n → IsValue (expr.Var v) a a (variable v)
        plus : (e : Expr) (a b : Point) (p : Body) → IsValue e a b p →
            IsValue (expr.Unary unary.Plus e) a b p
        minus : (e : Expr) (a b c : Point) (p : Body) → IsValue e a b p →
            IsRanged acts integers (scaled_by (negsuc 0) p) b c →
            IsValue (expr.Unary unary.Minus e) a c (scaled_by (negsuc 0) p)
        arithmetic : (op : BinOp) (e f : Expr) (a b c z : Point) (p q r : Body) →
            IsArithmetic op p q r → IsValue e a b p → IsValue f b c q
            → IsRanged acts integers r c z → IsValue (expr.Binary op e f) a z r
        division : (op : BinOp) (d : Division) (e f : Expr) (a b c y z : Point) (p q : Body) →
            IsDivision op d → IsValue e a b p → IsValue f b c q
            → acts c (Divide d p q y) → y.width ≡ suc c.width
            → IsRanged acts (tested_by integers d) (variable c.width) y z →
            IsValue (expr.Binary op e f) a z (variable c.width)
        -- the frame has as many variables as the point of the call, and what is returned is the
        -- next one
        call : (f : ℕ) (es : List Expr) (a b r z : Point) (ps : List Body) →
            callable f (length ps) → AreValues es a b ps
            → acts b (Call f ps r) → r.width ≡ b.width → acts r (Resume z) → z.width ≡ suc b.width →
            IsValue (expr.Apply f es) a z (variable b.width)
        truth : (e : Expr) (a y w b : Point) → IsLogical e → Forks a y w b → IsCondition e a y w
            → acts y (Set a.width (number (pos 1)) b) → acts w (Set a.width (number (pos 0)) b) →
            IsValue e a b (variable a.width)
        choice : (c e f : Expr) (a y s w t b : Point) (p q : Body) → Forks a y w b →
            IsCondition c a y w
            → IsValue e y s p → acts s (Set a.width p b) → IsValue f w t q →
            acts t (Set a.width q b)
            → IsValue (expr.Choose c e f) a b (variable a.width)

      -- the same of arguments, from left to right
      pub data AreValues : List Expr → Point → Point → List Body → Type 0 where
        no_value : (a : Point) → AreValues [] a a []
        one_value : (e : Expr) (es : List Expr) (a b c : Point) (p : Body) (ps : List Body) →
            IsValue e a b p → AreValues es b c ps
            → AreValues (e ∷ es) a c (p ∷ ps)

      -- from the point a on the expression is tested: where it isn't 0, y comes next, otherwise w
      pub data IsCondition : Expr → Point → Point → Point → Type 0 where
        compared : (op : BinOp) (e f : Expr) (a b c y w : Point) (p q : Body) (r : Row) →
            IsComparison op p q r → IsValue e a b p → IsValue f b c q
            → acts c (Test r y w) → y.width ≤ a.width → w.width ≤ a.width →
            IsCondition (expr.Binary op e f) a y w
        negated : (e : Expr) (a y w : Point) → IsCondition e a w y →
            IsCondition (expr.Unary unary.Not e) a y w
        both : (e f : Expr) (a m y w : Point) → m.width ≡ a.width → IsCondition e a m w →
            IsCondition f m y w → IsCondition (expr.Binary binary.AndAlso e f) a y w
        either : (e f : Expr) (a m y w : Point) → m.width ≡ a.width → IsCondition e a y m →
            IsCondition f m y w → IsCondition (expr.Binary binary.OrElse e f) a y w
        tested : (e : Expr) (a b y w : Point) (p : Body) → IsValue e a b p →
            acts b (Test (row.Ne p) y w) → y.width ≤ a.width → w.width ≤ a.width
            → IsCondition e a y w

  mutual
    -- from the point a on the statement is executed; next comes z, after a `break` B, after a
    -- `continue` K; n slots are in scope before it, and k after it
    pub data IsStatement : ℕ → Stmt → ℕ → Point → Point → Point → Point → Type 0 where
      empty : (n : ℕ) (a z B K : Point) → acts a (Go z) → z.width ≤ n →
          IsStatement n stmt.Empty n a z B K
      unset : (n : ℕ) (a z B K : Point) → acts a (Set n (number (pos 0)) z) → z.width ≤ suc n →
          IsStatement n (stmt.Declare n None) (suc n) a z B K
      declared : (n : ℕ) (e : Expr) (a b z B K : Point) (p : Body) → IsValue n e a b p →
          acts b (Set n p z) → z.width ≤ suc n
          → IsStatement n (stmt.Declare n (Some e)) (suc n) a z B K
      assigned_to : (n v : ℕ) (e : Expr) (a b z B K : Point) (p : Body) → v < n →
          IsValue n e a b p → acts b (Set v p z) → z.width ≤ n
          → IsStatement n (stmt.Assign v e) n a z B K
      if_alone : (n k : ℕ) (e : Expr) (t : Stmt) (a y z B K : Point) → y.width ≡ n → z.width ≤ n →
          IsCondition n e a y z → IsStatement n t k y z B K
          → IsStatement n (stmt.If e t None) n a z B K
      if_else : (n k l : ℕ) (e : Expr) (t u : Stmt) (a y x z B K : Point) → y.width ≡ n → x.width ≡
          n → z.width ≤ n → IsCondition n e a y x
          → IsStatement n t k y z B K → IsStatement n u l x z B K →
          IsStatement n (stmt.If e t (Some u)) n a z B K
      while_loop : (n k : ℕ) (e : Expr) (t : Stmt) (a y z B K : Point) → y.width ≡ n → z.width ≤ n →
          IsCondition n e a y z → IsStatement n t k y a z a
          → IsStatement n (stmt.While e t) n a z B K
      do_loop : (n k : ℕ) (e : Expr) (t : Stmt) (a c z B K : Point) → c.width ≡ n → z.width ≤ n →
          IsStatement n t k a c z c → IsCondition n e c a z
          → IsStatement n (stmt.DoWhile t e) n a z B K
      for_loop : (n i k : ℕ) (first : List Stmt) (test : Option Expr) (change : Option Stmt)
          (t : Stmt) (a h y c z B K : Point) → n ≤ i → h.width ≡ i → y.width ≡ i → z.width ≤ n
          → IsBegun n first i a h B K → IsCondition i (test_or_one test) h y z →
          IsStatement i t k y c z c → IsChange i change c h B K
          → IsStatement n (stmt.For first test change t) n a z B K
      break_out : (n token : ℕ) (a z B K : Point) → acts a (Go B) →
          IsStatement n (stmt.Break token) n a z B K
      go_on : (n token : ℕ) (a z B K : Point) → acts a (Go K) →
          IsStatement n (stmt.Continue token) n a z B K
      returned : (n : ℕ) (e : Expr) (a b z B K : Point) (p : Body) → IsValue n e a b p →
          acts b (Return p) → IsStatement n (stmt.Return e) n a z B K
      block : (n i : ℕ) (ts : List Stmt) (a z B K : Point) → n ≤ i → z.width ≤ n →
          IsList n ts i a z B K → IsStatement n (stmt.Block ts) n a z B K

    -- a list of statements
    pub data IsList : ℕ → List Stmt → ℕ → Point → Point → Point → Point → Type 0 where
      nothing : (n : ℕ) (a z B K : Point) → acts a (Go z) → z.width ≤ n → IsList n [] n a z B K
      last : (n k : ℕ) (t : Stmt) (a z B K : Point) → IsStatement n t k a z B K →
          IsList n (t ∷ []) k a z B K
      more : (n k l : ℕ) (t u : Stmt) (us : List Stmt) (a c z B K : Point) → n ≤ k → c.width ≡ k →
          IsStatement n t k a c B K → IsList k (u ∷ us) l c z B K
          → IsList n (t ∷ u ∷ us) l a z B K

    -- the first part of a `for`
    pub data IsBegun : ℕ → List Stmt → ℕ → Point → Point → Point → Point → Type 0 where
      no_first : (n : ℕ) (a B K : Point) → IsBegun n [] n a a B K
      some_first : (n i : ℕ) (t : Stmt) (ts : List Stmt) (a h B K : Point) →
          IsList n (t ∷ ts) i a h B K → IsBegun n (t ∷ ts) i a h B K

    -- its last part
    pub data IsChange : ℕ → Option Stmt → Point → Point → Point → Point → Type 0 where
      no_change : (n : ℕ) (h B K : Point) → IsChange n None h h B K
      some_change : (n k : ℕ) (t : Stmt) (c h B K : Point) → c.width ≡ n →
          IsStatement n t k c h B K → IsChange n (Some t) c h B K

  -- the symbol carries the code of the function: its body leads from there to a point that returns
  -- 0, also by a `break` or `continue` outside loops, which no well-formed program has
  pub record HasCode (f : Function) (symbol : ℕ) : Type 0 where
    pub slots : ℕ
    pub end : Point
    pub no_variables : end.width ≡ 0
    pub returns_zero : acts end (Return (number (pos 0)))
    pub body : IsList (length f.params) f.body slots
        (record { symbol = symbol; width = length f.params }) end end end
