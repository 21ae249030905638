-- Each symbol that is opened has one instruction: what a piece of code does at a symbol, counted. A
-- piece also has no entries but those of functions.
use Rattle.std.proofs.Common.{◌≡◌, ◌∙◌, ap, sym, subst, refl, Bool, if◌then◌else◌, ℕ, zero, suc, ◌+◌, List, [], ◌∷◌, ◌++◌, length, map, pos, arith, length-append}
use Rattle.std.specs.Prelude.{nat_eq}
use Rattle.rx_poly.specs.Constants.{number}
use Rattle.rx_poly.specs.declared.body.Body.{Body}
use Rattle.rx_row.specs.declared.row.Row.TheVariants.{Ne}
use Rattle.c_ast.specs.declared.integers.Integers.{Integers}
use Rattle.c_ast.specs.declared.integers.Integers.TheVariants.{Unbounded, Bits32}
use Rattle.c_ast.specs.declared.expr.UnOp.{UnOp}
use Rattle.c_ast.specs.declared.expr.UnOp.TheVariants as un
use Rattle.c_ast.specs.declared.expr.BinOp.{BinOp}
use Rattle.c_ast.specs.declared.expr.BinOp.TheVariants as bin
use Rattle.c_ast.specs.declared.expr.Expr.{Expr}
use Rattle.rx_code.specs.Expressions.{Asked, Condition, Value, above, arguments, arithmetic, below, binary_code, call, choice, comparison, conjunction, disjunction, division, expr_code, kind_of, of_condition, of_value, operands, range_tests, ranged, test_of, tested_by, unary_code}
use Rattle.rx_code.specs.Pieces.{a_frame, a_point, append_code, after, does, opens, point}
use Rattle.rx_code.specs.declared.action.Action.{Action}
use Rattle.rx_code.specs.declared.action.Action.TheVariants.{Set, Test, Exclude, Divide, Call, Resume}
use Rattle.rx_code.specs.declared.action.Instruction.{Instruction}
use Rattle.rx_code.specs.declared.action.Division.{Division}
use Rattle.rx_code.specs.declared.action.Division.TheVariants.{Quotient, Remainder}
use Rattle.rx_code.specs.declared.code.Code.{Code}
use Rattle.rx_code.specs.declared.point.Point.{Point}
use Rattle.rx_code.proofs.ExprEquations.{code-Lit, code-Var, code-Unary, code-Binary, code-Choose, code-Apply}
use Rattle.rx_code.proofs.Trees as tree
use Rattle.rx_code.proofs.Trees.{ExprTree, ExprTrees}

-- 1 for true
abbrev pub one_if : Bool → ℕ
one_if b = if b then 1 else 0

-- whether a symbol is x
abbrev pub at_symbol : ℕ → ℕ → ℕ
at_symbol x y = one_if (nat_eq y x)

-- the instructions at x
abbrev pub instructions_at : ℕ → List Instruction → ℕ
instructions_at x [] = 0
instructions_at x (d ∷ ds) = at_symbol x d.at.symbol + instructions_at x ds

-- how often x is among n symbols from that number on
abbrev pub among_from : ℕ → ℕ → ℕ → ℕ
among_from next zero x = 0
among_from next (suc k) x = at_symbol x next + among_from (next + 1) k x

instructions-append : (x : ℕ) (ds es : List Instruction) → instructions_at x (ds ++ es) ≡
    instructions_at x ds + instructions_at x es
instructions-append x [] es = omega arith
instructions-append x (d ∷ ds) es = let h = instructions-append x ds es in omega (arith, h)

among-append : (next j k x : ℕ) → among_from next (j + k) x ≡ among_from next j x +
    among_from (next + j) k x
among-append next zero k x =
    let e : 0 + k ≡ k = omega arith in let f : next + 0 ≡ next = omega arith in
    let g = ap (λ i. among_from i k x) f in let h = ap (λ i. among_from next i x) e in
    omega (arith, g, h)
among-append next (suc j) k x =
    let e : suc j + k ≡ suc (j + k) = omega arith in let f : (next + 1) + j ≡ next + suc j =
    omega arith in
    let h = among-append (next + 1) j k x in let g = ap (λ i. among_from i k x) f in
    ap (λ i. among_from next i x) e ∙ omega (arith, h, g)

-- two and three symbols
pub two_from : (next x : ℕ) → among_from next 2 x ≡ at_symbol x next + at_symbol x (next + 1)
two_from next x = omega arith

pub three_from : (next x : ℕ) → among_from next 3 x ≡ at_symbol x next +
    (at_symbol x (next + 1) + at_symbol x (next + 2))
three_from next x =
    let e : (next + 1) + 1 ≡ next + 2 = omega arith in let f = ap (at_symbol x) e in
    omega (arith, f)

-- a piece and then another
pub record Joined (x next : ℕ) (c d : Code) : Type 0 where
  pub instructions : instructions_at x (append_code c d).instructions ≡ instructions_at x
      c.instructions + instructions_at x d.instructions
  pub symbols : among_from next (length (append_code c d).opened) x ≡
      among_from next (length c.opened) x + among_from (after next c) (length d.opened) x

pub joined : (x next : ℕ) (c d : Code) → Joined x next c d
joined x next c d = record {
  instructions = instructions-append x c.instructions d.instructions;
  symbols =
      ap (λ i. among_from next i x) (length-append c.opened d.opened) ∙
      among-append next (length c.opened) (length d.opened) x;
}

-- what a piece takes over from a point, which has no instruction before, and what it does to the
-- symbols that it opens
pub record Closed (x next : ℕ) (a : Point) (c : Code) : Type 0 where
  pub counts : instructions_at x c.instructions ≡ at_symbol x a.symbol + among_from next
      (length c.opened) x
  pub entries : c.entries ≡ []

-- the same of a piece that leads on to a point without an instruction
pub record Open (x next : ℕ) (a b : Point) (c : Code) : Type 0 where
  pub counts : instructions_at x c.instructions + at_symbol x b.symbol ≡ at_symbol x a.symbol +
      among_from next (length c.opened) x
  pub entries : c.entries ≡ []

pub no_entries : (c d : Code) → c.entries ≡ [] → d.entries ≡ [] → (append_code c d).entries ≡ []
no_entries c d first second i = first i ++ second i

-- one piece after another
pub open_open : (x next : ℕ) (a b z : Point) (c d : Code) → Open x next a b c →
    Open x (after next c) b z d → Open x next a z (append_code c d)
open_open x next a b z c d first second =
    let j = joined x next c d in
    record {
      counts =
          let h = first.counts in let k = second.counts in let l = j.instructions in let m =
          j.symbols in
          omega (arith, h, k, l, m);
      entries = no_entries c d first.entries second.entries;
    }

pub open_closed : (x next : ℕ) (a b : Point) (c d : Code) → Open x next a b c →
    Closed x (after next c) b d → Closed x next a (append_code c d)
open_closed x next a b c d first second =
    let j = joined x next c d in
    record {
      counts =
          let h = first.counts in let k = second.counts in let l = j.instructions in let m =
          j.symbols in
          omega (arith, h, k, l, m);
      entries = no_entries c d first.entries second.entries;
    }

pub does_closed : (x next : ℕ) (a : Point) (y : Action) → Closed x next a (does a y)
does_closed x next a y = record { counts = omega arith; entries = refl }

module _ (x : ℕ) where
  pub record CountsExpr (y : Asked) : Type 0 where
    pub value : (a : Point) (next : ℕ) → Open x next a (y.value a next).at (y.value a next).code
    pub condition : (a p q : Point) (next : ℕ) → Closed x next a (y.condition a p q next).form

  by_value : (value : Value) → ((a : Point) (next : ℕ) →
      Open x next a (value a next).at (value a next).code) → CountsExpr (of_value value)
  by_value value is = record {
    value = is;
    condition =
        λ a p q next. let v = value a next in
        open_closed x next a v.at v.code (does v.at (Test (Ne v.value) p q)) (is a next)
        (does_closed x (after next v.code) v.at (Test (Ne v.value) p q));
  }

  by_condition : (condition : Condition) → ((a p q : Point) (next : ℕ) →
      Closed x next a (condition a p q next).form) → CountsExpr (of_condition condition)
  by_condition condition is = record {
    value = λ a next.
        let y = point next a.width in
        let w = point (next + 1) a.width in
        let b = point (next + 2) (a.width + 1) in
        let c = (condition a y w (next + 3)).form in
        let os = a_point a.width ∷ a_point a.width ∷ a_point (a.width + 1) ∷ [] in
        let yes = does y (Set a.width (number (pos 1)) b) in
        let no = does w (Set a.width (number (pos 0)) b) in
        let rest = append_code c (append_code yes no) in
        let h = is a y w (next + 3) in
        let one = joined x next (opens os) rest in
        let two = joined x (next + 3) c (append_code yes no) in
        let three = joined x (after (next + 3) c) yes no in
        let s = three_from next x in
        record {
          counts =
              let c0 = h.counts in let d1 = one.instructions in let s1 = one.symbols in let d2 =
              two.instructions in let s2 = two.symbols in let d3 = three.instructions in let s3 =
              three.symbols in
              omega (arith, c0, d1, s1, d2, s2, d3, s3, s);
          entries = no_entries c (append_code yes no) h.entries refl;
        };
    condition = is;
  }

  operands_open : (l r : Asked) → CountsExpr l → CountsExpr r → (a : Point) (next : ℕ) →
      Open x next a (operands l r a next).at (operands l r a next).code
  operands_open l r left right a next =
      let p = l.value a next in let q = r.value p.at (after next p.code) in
      open_open x next a p.at q.at p.code q.code (left.value a next)
      (right.value p.at (after next p.code))

  -- a new point after an instruction
  opened_after : (next : ℕ) (a b : Point) (c : Code) (width : ℕ) (y : Action) → Open x next a b c
      → Open x next a (point (after next c) width)
      (append_code c (append_code (opens (a_point width ∷ [])) (does b y)))
  opened_after next a b c width y is =
      let os = a_point width ∷ [] in
      let one = joined x next c (append_code (opens os) (does b y)) in
      let two = joined x (after next c) (opens os) (does b y) in
      record {
        counts =
            let c0 = is.counts in let d1 = one.instructions in let s1 = one.symbols in let d2 =
            two.instructions in let s2 = two.symbols in omega (arith, c0, d1, s1, d2, s2);
        entries = no_entries c (append_code (opens os) (does b y)) is.entries refl;
      }

  comparison_counted : (op : BinOp) (l r : Asked) → CountsExpr l → CountsExpr r →
      CountsExpr (comparison op l r)
  comparison_counted op l r left right = by_condition _ (λ a p q next.
      let t = operands l r a next in
      let action = Test (test_of op t.left t.right).form p q in
      open_closed x next a t.at t.code (does t.at action) (operands_open l r left right a next)
      (does_closed x (after next t.code) t.at action))

  -- one opened point, and two pieces of which the second begins there
  pub one_opened : (next : ℕ) (a : Point) (width : ℕ) (c d : Code) → Closed x (next + 1) a c →
      Closed x (after (next + 1) c) (point next width) d
      → Closed x next a (append_code (opens (a_point width ∷ [])) (append_code c d))
  one_opened next a width c d first second =
      let os = a_point width ∷ [] in
      let one = joined x next (opens os) (append_code c d) in
      let two = joined x (next + 1) c d in
      record {
        counts =
            let c0 = first.counts in let c1 = second.counts in let d1 = one.instructions in let s1 =
            one.symbols in let d2 = two.instructions in let s2 = two.symbols in
            omega (arith, c0, c1, d1, s1, d2, s2);
        entries = no_entries c d first.entries second.entries;
      }

  conjunction_counted : (l r : Asked) → CountsExpr l → CountsExpr r → CountsExpr (conjunction l r)
  conjunction_counted l r left right = by_condition _ (λ a y w next.
      let m = point next a.width in
      let c = (l.condition a m w (next + 1)).form in
      one_opened next a a.width c (r.condition m y w (after (next + 1) c)).form
      (left.condition a m w (next + 1)) (right.condition m y w (after (next + 1) c)))

  disjunction_counted : (l r : Asked) → CountsExpr l → CountsExpr r → CountsExpr (disjunction l r)
  disjunction_counted l r left right = by_condition _ (λ a y w next.
      let m = point next a.width in
      let c = (l.condition a y m (next + 1)).form in
      one_opened next a a.width c (r.condition m y w (after (next + 1) c)).form
      (left.condition a y m (next + 1)) (right.condition m y w (after (next + 1) c)))

  choice_counted : (t l r : Asked) → CountsExpr t → CountsExpr l → CountsExpr r →
      CountsExpr (choice t l r)
  choice_counted t l r test left right = by_value _ (λ a next.
      let y = point next a.width in
      let w = point (next + 1) a.width in
      let b = point (next + 2) (a.width + 1) in
      let c = (t.condition a y w (next + 3)).form in
      let p = l.value y (after (next + 3) c) in
      let q = r.value w (after (after (next + 3) c) p.code) in
      let os = a_point a.width ∷ a_point a.width ∷ a_point (a.width + 1) ∷ [] in
      let set_p = does p.at (Set a.width p.value b) in
      let set_q = does q.at (Set a.width q.value b) in
      let last = append_code q.code set_q in
      let middle = append_code set_p last in
      let values = append_code p.code middle in
      let rest = append_code c values in
      let one = joined x next (opens os) rest in
      let two = joined x (next + 3) c values in
      let three = joined x (after (next + 3) c) p.code middle in
      let four = joined x (after (after (next + 3) c) p.code) set_p last in
      let five = joined x (after (after (next + 3) c) p.code) q.code set_q in
      let s = three_from next x in
      let tested = test.condition a y w (next + 3) in
      let first = left.value y (after (next + 3) c) in
      let second = right.value w (after (after (next + 3) c) p.code) in
      record {
        counts =
            let h = tested.counts in let i = first.counts in let j = second.counts in
            let d1 = one.instructions in let d2 = two.instructions in let d3 = three.instructions in
            let d4 =
            four.instructions in let d5 = five.instructions in
            let s1 = one.symbols in let s2 = two.symbols in let s3 = three.symbols in let s4 =
            four.symbols in let s5 = five.symbols in
            omega (arith, h, i, j, d1, d2, d3, d4, d5, s1, s2, s3, s4, s5, s);
        entries =
            no_entries c values tested.entries
            (no_entries p.code middle first.entries (no_entries q.code set_q second.entries refl));
      })

  call_counted : (f : ℕ) (ys : List Asked) → ((a : Point) (next : ℕ) →
      Open x next a (arguments ys a next).at (arguments ys a next).code) → CountsExpr (call f ys)
  call_counted f ys each = by_value _ (λ a next.
      let xs = arguments ys a next in
      let m = after next xs.code in
      let r = point m xs.at.width in
      let b = point (m + 1) (xs.at.width + 1) in
      let os = a_frame xs.at.width ∷ a_point (xs.at.width + 1) ∷ [] in
      let enter = does xs.at (Call f xs.values r) in
      let resume = does r (Resume b) in
      let ends = append_code enter resume in
      let one = joined x next xs.code (append_code (opens os) ends) in
      let two = joined x m (opens os) ends in
      let three = joined x (after m (opens os)) enter resume in
      let s = two_from m x in
      let is = each a next in
      record {
        counts =
            let h = is.counts in let d1 = one.instructions in let d2 = two.instructions in let d3 =
            three.instructions in
            let s1 = one.symbols in let s2 = two.symbols in let s3 = three.symbols in
            omega (arith, h, d1, d2, d3, s1, s2, s3, s);
        entries = no_entries xs.code (append_code (opens os) ends) is.entries refl;
      })

  -- a value that is tested, and what is tested at once
  range_counted : (p : Body) (a : Point) (next : ℕ) →
      Open x next a (range_tests p a next).at (range_tests p a next).code
  range_counted p a next =
      let h = point next a.width in
      let b = point (next + 1) a.width in
      let os = a_point a.width ∷ a_point a.width ∷ [] in
      let over = does a (Exclude (above p).form h) in
      let under = does h (Exclude (below p).form b) in
      let one = joined x next (opens os) (append_code over under) in
      let two = joined x (next + 2) over under in
      let s = two_from next x in
      record {
        counts =
            let d1 = one.instructions in let s1 = one.symbols in let d2 = two.instructions in
            let s2 = two.symbols in omega (arith, d1, s1, d2, s2, s);
        entries = refl;
      }

  ranged_counted : (integers : Integers) (value : Value) → ((a : Point) (next : ℕ) →
      Open x next a (value a next).at (value a next).code) → (a : Point) (next : ℕ)
      → Open x next a (ranged integers value a next).at (ranged integers value a next).code
  ranged_counted Unbounded value is a next = is a next
  ranged_counted Bits32 value is a next =
      let v = value a next in
      let t = range_tests v.value v.at (after next v.code) in
      open_open x next a v.at t.at v.code t.code (is a next)
      (range_counted v.value v.at (after next v.code))

  module _ (integers : Integers) where
    arithmetic_counted : (op : BinOp) (l r : Asked) → CountsExpr l → CountsExpr r →
        CountsExpr (arithmetic integers op l r)
    arithmetic_counted op l r left right =
        by_value _ (ranged_counted integers _ (λ a next. operands_open l r left right a next))

    division_counted : (d : Division) (l r : Asked) → CountsExpr l → CountsExpr r →
        CountsExpr (division integers d l r)
    division_counted d l r left right =
        by_value _ (ranged_counted (tested_by integers d) _ (λ a next.
        let t = operands l r a next in
        opened_after next a t.at t.code (t.at.width + 1)
        (Divide d t.left t.right (point (after next t.code) (t.at.width + 1)))
        (operands_open l r left right a next)))

    unary_counted : (op : UnOp) (y : Asked) → CountsExpr y → CountsExpr (unary_code integers op y)
    unary_counted un.Plus y is = by_value _ is.value
    unary_counted un.Minus y is = by_value _ (ranged_counted integers _ is.value)
    unary_counted un.Not y is = by_condition _ (λ a p q next. is.condition a q p next)

    binary_counted : (op : BinOp) (l r : Asked) → CountsExpr l → CountsExpr r →
        CountsExpr (binary_code integers (kind_of op) op l r)
    binary_counted bin.Add l r left right = arithmetic_counted bin.Add l r left right
    binary_counted bin.Sub l r left right = arithmetic_counted bin.Sub l r left right
    binary_counted bin.Mul l r left right = arithmetic_counted bin.Mul l r left right
    binary_counted bin.Div l r left right = division_counted Quotient l r left right
    binary_counted bin.Rem l r left right = division_counted Remainder l r left right
    binary_counted bin.Lt l r left right = comparison_counted bin.Lt l r left right
    binary_counted bin.Le l r left right = comparison_counted bin.Le l r left right
    binary_counted bin.Gt l r left right = comparison_counted bin.Gt l r left right
    binary_counted bin.Ge l r left right = comparison_counted bin.Ge l r left right
    binary_counted bin.Eq l r left right = comparison_counted bin.Eq l r left right
    binary_counted bin.Ne l r left right = comparison_counted bin.Ne l r left right
    binary_counted bin.AndAlso l r left right = conjunction_counted l r left right
    binary_counted bin.OrElse l r left right = disjunction_counted l r left right

    mutual
      expr_tree_counted : (e : Expr) → ExprTree e → CountsExpr (expr_code integers e)
      expr_tree_counted e (tree.Literal k) =
          subst CountsExpr (sym (code-Lit integers k)) (by_value _
          (λ a next. record { counts = omega arith; entries = refl }))
      expr_tree_counted e (tree.Variable v) =
          subst CountsExpr (sym (code-Var integers v)) (by_value _
          (λ a next. record { counts = omega arith; entries = refl }))
      expr_tree_counted e (tree.OneOperand op f inner) =
          subst CountsExpr (sym (code-Unary integers op f))
          (unary_counted op (expr_code integers f) (expr_tree_counted f inner))
      expr_tree_counted e (tree.TwoOperands op f g left right) =
          subst CountsExpr (sym (code-Binary integers op f g))
          (binary_counted op (expr_code integers f) (expr_code integers g)
          (expr_tree_counted f left)
          (expr_tree_counted g right))
      expr_tree_counted e (tree.Chosen c f g test left right) =
          subst CountsExpr (sym (code-Choose integers c f g))
          (choice_counted (expr_code integers c) (expr_code integers f) (expr_code integers g)
          (expr_tree_counted c test)
          (expr_tree_counted f left) (expr_tree_counted g right))
      expr_tree_counted e (tree.Applied f es inner) =
          subst CountsExpr (sym (code-Apply integers f es))
          (call_counted f (map (expr_code integers) es) (expr_trees_counted es inner))

      expr_trees_counted : (es : List Expr) → ExprTrees es → (a : Point) (next : ℕ) →
          Open x next a (arguments (map (expr_code integers) es) a next).at
          (arguments (map (expr_code integers) es) a next).code
      expr_trees_counted es tree.NoTree a next = record { counts = omega arith; entries = refl }
      expr_trees_counted es (tree.OneMore e fs first rest) a next =
          let v = (expr_code integers e).value a next in
          let xs = arguments (map (expr_code integers) fs) v.at (after next v.code) in
          open_open x next a v.at xs.at v.code xs.code ((expr_tree_counted e first).value a next)
          (expr_trees_counted fs rest v.at (after next v.code))

    -- the code of each expression is so
    pub expr_counted : (e : Expr) → CountsExpr (expr_code integers e)
    expr_counted e = expr_tree_counted e (tree.expr_tree e)
