-- Small programs, and the rules that they are compiled to. A rule is written like `s4(v0,v1) ->
-- s5(v0)`: `s` is the call of a symbol.
use Rattle.std.specs.Prelude.{ℕ, Bool, true, false, Some, None, List, [], ◌∷◌, ◌++◌, pos, negsuc}
use Rattle.std.specs.List.{range_with_len}
use Rattle.rx_poly.specs.Constants.{number, variable}
use Rattle.rx_poly.specs.Division.{quotient_of, remainder_of}
use Rattle.rx_poly.specs.Limits.{body_sum, scaled_by, body_difference}
use Rattle.rx_poly.specs.Products.{body_product}
use Rattle.rx_poly.specs.declared.body.Body.{Body}
use Rattle.rx_row.specs.Negation.{minus_one_more}
use Rattle.rx_row.specs.declared.row.Row.{Row}
use Rattle.rx_row.specs.declared.row.Row.TheVariants.{Ge, Eq, Ne}
use Rattle.c_ast.specs.declared.expr.BinOp.TheVariants as binary
use Rattle.c_ast.specs.declared.expr.UnOp.TheVariants as unary
use Rattle.c_ast.specs.declared.expr.Expr.{Expr}
use Rattle.c_ast.specs.declared.expr.Expr.TheVariants.{Lit, Var, Unary, Binary, Choose, Apply}
use Rattle.c_ast.specs.declared.program.Function.{Function}
use Rattle.c_ast.specs.declared.program.Resolved.{Resolved}
use Rattle.c_ast.specs.declared.stmt.Stmt.TheVariants as stmt
use Rattle.rx_term.specs.declared.rule.Rule.{Rule}
use Rattle.rx_term.specs.declared.rule_set.RuleParts.{RuleParts}
use Rattle.rx_term.specs.declared.rule_set.SymInfo.{SymInfo}
use Rattle.rx_term.specs.declared.term.Term.{Term}
use Rattle.rx_term.specs.declared.term.Term.TheVariants.{Call, Fail, Frame, Return}
use Rattle.rx_code.specs.Rules.{always, symbol, where_holds}

abbrev v0 : Body
v0 = variable 0

abbrev v1 : Body
v1 = variable 1

abbrev v2 : Body
v2 = variable 2

abbrev v3 : Body
v3 = variable 3

abbrev v4 : Body
v4 = variable 4

abbrev v5 : Body
v5 = variable 5

abbrev s : ℕ → List Body → Term
s n ps = Call (symbol n) ps

-- a symbol: the number of its variables, whether it is a frame, an entry, a head
abbrev info : ℕ → Bool → Bool → Bool → SymInfo
info arity frame entry head = record { arity = arity; frame = frame; entry = entry; head = head }

abbrev program : List Function → Resolved
program functions = record { functions = functions }

-- ---- a loop and a recursion: thirteen symbols, sixteen rules

-- int up(int n) { int s = 0; for (int i = 1; i <= n; i++) s += i; return s; }
abbrev pub up : Function
up = record {
  name = 1;
  params = 0 ∷ [];
  body = stmt.Declare 1 (Some (Lit (pos 0)))
      ∷ stmt.For
      ((stmt.Declare 2 (Some (Lit (pos 1)))) ∷ []) (Some (Binary binary.Le (Var 2) (Var 0)))
      (Some (stmt.Assign 2 (Binary binary.Add (Var 2) (Lit (pos 1)))))
      (stmt.Assign 1 (Binary binary.Add (Var 1) (Var 2)))
      ∷ stmt.Return (Var 1)
      ∷ [];
}

-- int rec(int n) { if (n <= 0) return 0; return n + rec(n - 1); }
abbrev pub rec : Function
rec = record {
  name = 2;
  params = 0 ∷ [];
  body = stmt.If (Binary binary.Le (Var 0) (Lit (pos 0))) (stmt.Return (Lit (pos 0))) None
      ∷ stmt.Return (Binary binary.Add (Var 0)
      (Apply 1 ((Binary binary.Sub (Var 0) (Lit (pos 1))) ∷ [])))
      ∷ [];
}

abbrev pub sums : Resolved
sums = program (up ∷ rec ∷ [])

abbrev sums_symbols : List SymInfo
sums_symbols =
    info 1 false true false
    ∷ info 0 false false false
    ∷ info 2 false false false
    ∷ info 2 false false false
    ∷ info 3 false false true
    ∷ info 3 false false false
    ∷ info 3 false false false
    ∷ info 1 false true false
    ∷ info 0 false false false
    ∷ info 1 false false false
    ∷ info 1 false false false
    ∷ info 1 true false false
    ∷ info 2 false false false
    ∷ []

abbrev sums_rules : List Rule
sums_rules =
    always (s 0 (v0 ∷ [])) (s 2 (v0 ∷ number (pos 0) ∷ []))
    ∷ always (s 1 []) (Return (number (pos 0)))
    ∷ always (s 2 (v0 ∷ v1 ∷ [])) (s 4 (v0 ∷ v1 ∷ number (pos 1) ∷ []))
    ∷ always (s 3 (v0 ∷ v1 ∷ [])) (Return v1)
    ∷ where_holds (Ge (body_difference v0 v2)) (s 4 (v0 ∷ v1 ∷ v2 ∷ [])) (s 5 (v0 ∷ v1 ∷ v2 ∷ []))
    ∷ where_holds (Ge (minus_one_more (body_difference v0 v2))) (s 4 (v0 ∷ v1 ∷ v2 ∷ []))
    (s 3 (v0 ∷ v1 ∷ []))
    ∷ always (s 5 (v0 ∷ v1 ∷ v2 ∷ [])) (s 6 (v0 ∷ body_sum v1 v2 ∷ v2 ∷ []))
    ∷ always (s 6 (v0 ∷ v1 ∷ v2 ∷ [])) (s 4 (v0 ∷ v1 ∷ body_sum v2 (number (pos 1)) ∷ []))
    ∷ where_holds (Ge (body_difference (number (pos 0)) v0)) (s 7 (v0 ∷ [])) (s 10 (v0 ∷ []))
    ∷ where_holds (Ge (minus_one_more (body_difference (number (pos 0)) v0))) (s 7 (v0 ∷ []))
    (s 9 (v0 ∷ []))
    ∷ always (s 8 []) (Return (number (pos 0)))
    ∷ always (s 9 (v0 ∷ [])) (Frame (symbol 11) (v0 ∷ [])
    (s 7 (body_sum v0 (scaled_by (negsuc 0) (number (pos 1))) ∷ [])))
    ∷ always (s 10 (v0 ∷ [])) (Return (number (pos 0)))
    ∷ always (Frame (symbol 11) (v0 ∷ []) (Return v1)) (s 12 (v0 ∷ v1 ∷ []))
    ∷ always (Frame (symbol 11) (v0 ∷ []) (Fail 1)) (Fail 1)
    ∷ always (s 12 (v0 ∷ v1 ∷ [])) (Return (body_sum v0 v1))
    ∷ []

abbrev pub sums_parts : RuleParts
sums_parts = record { symbols = sums_symbols; domains = []; rules = sums_rules; fails = 1 }

-- ---- a division that may fail: five symbols, six rules

-- int dropped(int x) { return 0 * (1 / x); }
abbrev pub dropped : Function
dropped = record {
  name = 1;
  params = 0 ∷ [];
  body = stmt.Return (Binary binary.Mul (Lit (pos 0)) (Binary binary.Div (Lit (pos 1)) (Var 0)))
      ∷ [];
}

-- int zero(int x) { return 0; }
abbrev pub zero : Function
zero = record {
  name = 2;
  params = 0 ∷ [];
  body = stmt.Return (Lit (pos 0))
      ∷ [];
}

abbrev pub division : Resolved
division = program (dropped ∷ zero ∷ [])

abbrev division_symbols : List SymInfo
division_symbols =
    info 1 false true false
    ∷ info 0 false false false
    ∷ info 2 false false false
    ∷ info 1 false true false
    ∷ info 0 false false false
    ∷ []

abbrev division_rules : List Rule
division_rules =
    where_holds (Eq v0) (s 0 (v0 ∷ [])) (Fail 1)
    ∷ where_holds (Ne v0) (s 0 (v0 ∷ [])) (s 2 (v0 ∷ quotient_of (number (pos 1)) v0 ∷ []))
    ∷ always (s 1 []) (Return (number (pos 0)))
    ∷ always (s 2 (v0 ∷ v1 ∷ [])) (Return (body_product (number (pos 0)) v1))
    ∷ always (s 3 (v0 ∷ [])) (Return (number (pos 0)))
    ∷ always (s 4 []) (Return (number (pos 0)))
    ∷ []

abbrev pub division_parts : RuleParts
division_parts =
    record { symbols = division_symbols; domains = []; rules = division_rules; fails = 1 }

-- ---- most of the other forms: 26 symbols, 37 rules

-- int mixed(int x, int y) {
--   do {
--     if (!(x < y) || x == 3) break; else x %= y;
--     while (x > 0 && y) { int k = -x; y = k; if (y >= x) continue; }
--   } while (x ? y != 1 : (x < 2) - y);
--   return +(x > y);
-- }
abbrev pub mixed : Function
mixed = record {
  name = 1;
  params = 0 ∷ 1 ∷ [];
  body = stmt.DoWhile
      (stmt.Block
      ((stmt.If (Binary binary.OrElse (Unary unary.Not (Binary binary.Lt (Var 0) (Var 1)))
      (Binary binary.Eq (Var 0) (Lit (pos 3))))
      (stmt.Break 25)
      (Some (stmt.Assign 0 (Binary binary.Rem (Var 0) (Var 1))))) ∷
      (stmt.While (Binary binary.AndAlso (Binary binary.Gt (Var 0) (Lit (pos 0))) (Var 1))
      (stmt.Block
      ((stmt.Declare 2 (Some (Unary unary.Minus (Var 0)))) ∷
      (stmt.Assign 1 (Var 2)) ∷
      (stmt.If (Binary binary.Ge (Var 1) (Var 0))
      (stmt.Continue 57) None) ∷ []))) ∷ []))
      (Choose (Var 0) (Binary binary.Ne (Var 1) (Lit (pos 1)))
      (Binary binary.Sub (Binary binary.Lt (Var 0) (Lit (pos 2))) (Var 1)))
      ∷ stmt.Return (Unary unary.Plus (Binary binary.Gt (Var 0) (Var 1)))
      ∷ [];
}

abbrev pub forms : Resolved
forms = program (mixed ∷ [])

abbrev forms_symbols : List SymInfo
forms_symbols =
    info 2 false true true
    ∷ info 0 false false false
    ∷ info 2 false false false
    ∷ info 2 false false false
    ∷ info 2 false false true
    ∷ info 2 false false false
    ∷ info 2 false false false
    ∷ info 2 false false false
    ∷ info 3 false false false
    ∷ info 2 false false false
    ∷ info 2 false false false
    ∷ info 3 false false false
    ∷ info 3 false false false
    ∷ info 3 false false false
    ∷ info 2 false false false
    ∷ info 2 false false false
    ∷ info 3 false false false
    ∷ info 2 false false false
    ∷ info 2 false false false
    ∷ info 3 false false false
    ∷ info 2 false false false
    ∷ info 2 false false false
    ∷ info 3 false false false
    ∷ info 2 false false false
    ∷ info 2 false false false
    ∷ info 3 false false false
    ∷ []

abbrev forms_rules : List Rule
forms_rules =
    where_holds (Ge (body_difference (body_difference v1 v0) (number (pos 1)))) (s 0 (v0 ∷ v1 ∷ []))
    (s 7 (v0 ∷ v1 ∷ []))
    ∷ where_holds (Ge (minus_one_more (body_difference (body_difference v1 v0) (number (pos 1)))))
    (s 0 (v0 ∷ v1 ∷ [])) (s 5 (v0 ∷ v1 ∷ []))
    ∷ always (s 1 []) (Return (number (pos 0)))
    ∷ where_holds (Ge (body_difference (body_difference v0 v1) (number (pos 1))))
    (s 2 (v0 ∷ v1 ∷ []))
    (s 23 (v0 ∷ v1 ∷ []))
    ∷ where_holds (Ge (minus_one_more (body_difference (body_difference v0 v1) (number (pos 1)))))
    (s 2 (v0 ∷ v1 ∷ [])) (s 24 (v0 ∷ v1 ∷ []))
    ∷ where_holds (Ne v0) (s 3 (v0 ∷ v1 ∷ [])) (s 14 (v0 ∷ v1 ∷ []))
    ∷ where_holds (Eq v0) (s 3 (v0 ∷ v1 ∷ [])) (s 15 (v0 ∷ v1 ∷ []))
    ∷ where_holds (Ge (body_difference (body_difference v0 (number (pos 0))) (number (pos 1))))
    (s 4 (v0 ∷ v1 ∷ [])) (s 10 (v0 ∷ v1 ∷ []))
    ∷ where_holds (Ge (minus_one_more (body_difference (body_difference v0 (number (pos 0)))
    (number (pos 1))))) (s 4 (v0 ∷ v1 ∷ [])) (s 3 (v0 ∷ v1 ∷ []))
    ∷ always (s 5 (v0 ∷ v1 ∷ [])) (s 2 (v0 ∷ v1 ∷ []))
    ∷ where_holds (Eq v1) (s 6 (v0 ∷ v1 ∷ [])) (Fail 1)
    ∷ where_holds (Ne v1) (s 6 (v0 ∷ v1 ∷ [])) (s 8 (v0 ∷ v1 ∷ remainder_of v0 v1 ∷ []))
    ∷ where_holds (Eq (body_difference v0 (number (pos 3)))) (s 7 (v0 ∷ v1 ∷ []))
    (s 5 (v0 ∷ v1 ∷ []))
    ∷ where_holds (Ne (body_difference v0 (number (pos 3)))) (s 7 (v0 ∷ v1 ∷ []))
    (s 6 (v0 ∷ v1 ∷ []))
    ∷ always (s 8 (v0 ∷ v1 ∷ v2 ∷ [])) (s 4 (v2 ∷ v1 ∷ []))
    ∷ always (s 9 (v0 ∷ v1 ∷ [])) (s 11 (v0 ∷ v1 ∷ scaled_by (negsuc 0) v0 ∷ []))
    ∷ where_holds (Ne v1) (s 10 (v0 ∷ v1 ∷ [])) (s 9 (v0 ∷ v1 ∷ []))
    ∷ where_holds (Eq v1) (s 10 (v0 ∷ v1 ∷ [])) (s 3 (v0 ∷ v1 ∷ []))
    ∷ always (s 11 (v0 ∷ v1 ∷ v2 ∷ [])) (s 12 (v0 ∷ v2 ∷ v2 ∷ []))
    ∷ where_holds (Ge (body_difference v1 v0)) (s 12 (v0 ∷ v1 ∷ v2 ∷ [])) (s 13 (v0 ∷ v1 ∷ v2 ∷ []))
    ∷ where_holds (Ge (minus_one_more (body_difference v1 v0))) (s 12 (v0 ∷ v1 ∷ v2 ∷ []))
    (s 4 (v0 ∷ v1 ∷ []))
    ∷ always (s 13 (v0 ∷ v1 ∷ v2 ∷ [])) (s 4 (v0 ∷ v1 ∷ []))
    ∷ where_holds (Ne (body_difference v1 (number (pos 1)))) (s 14 (v0 ∷ v1 ∷ []))
    (s 17 (v0 ∷ v1 ∷ []))
    ∷ where_holds (Eq (body_difference v1 (number (pos 1)))) (s 14 (v0 ∷ v1 ∷ []))
    (s 18 (v0 ∷ v1 ∷ []))
    ∷ where_holds (Ge (body_difference (body_difference (number (pos 2)) v0) (number (pos 1))))
    (s 15 (v0 ∷ v1 ∷ [])) (s 20 (v0 ∷ v1 ∷ []))
    ∷ where_holds (Ge (minus_one_more (body_difference (body_difference (number (pos 2)) v0)
    (number (pos 1))))) (s 15 (v0 ∷ v1 ∷ [])) (s 21 (v0 ∷ v1 ∷ []))
    ∷ where_holds (Ne v2) (s 16 (v0 ∷ v1 ∷ v2 ∷ [])) (s 0 (v0 ∷ v1 ∷ []))
    ∷ where_holds (Eq v2) (s 16 (v0 ∷ v1 ∷ v2 ∷ [])) (s 2 (v0 ∷ v1 ∷ []))
    ∷ always (s 17 (v0 ∷ v1 ∷ [])) (s 19 (v0 ∷ v1 ∷ number (pos 1) ∷ []))
    ∷ always (s 18 (v0 ∷ v1 ∷ [])) (s 19 (v0 ∷ v1 ∷ number (pos 0) ∷ []))
    ∷ always (s 19 (v0 ∷ v1 ∷ v2 ∷ [])) (s 16 (v0 ∷ v1 ∷ v2 ∷ []))
    ∷ always (s 20 (v0 ∷ v1 ∷ [])) (s 22 (v0 ∷ v1 ∷ number (pos 1) ∷ []))
    ∷ always (s 21 (v0 ∷ v1 ∷ [])) (s 22 (v0 ∷ v1 ∷ number (pos 0) ∷ []))
    ∷ always (s 22 (v0 ∷ v1 ∷ v2 ∷ [])) (s 16
    (v0 ∷ v1 ∷ body_sum v2 (scaled_by (negsuc 0) v1) ∷ []))
    ∷ always (s 23 (v0 ∷ v1 ∷ [])) (s 25 (v0 ∷ v1 ∷ number (pos 1) ∷ []))
    ∷ always (s 24 (v0 ∷ v1 ∷ [])) (s 25 (v0 ∷ v1 ∷ number (pos 0) ∷ []))
    ∷ always (s 25 (v0 ∷ v1 ∷ v2 ∷ [])) (Return v2)
    ∷ []

abbrev pub forms_parts : RuleParts
forms_parts = record { symbols = forms_symbols; domains = []; rules = forms_rules; fails = 1 }

-- ---- what the first three leave out; the first function is not reached: 35 symbols, 49 rules

-- int idle(int x) { return idle(x); }
abbrev pub idle : Function
idle = record {
  name = 1;
  params = 0 ∷ [];
  body = stmt.Return (Apply 0 ((Var 0) ∷ []))
      ∷ [];
}

-- int walk(int a, int b) {
--   int k; k = (a && b);
--   for (;;) {
--     ; if (a && !b) break;
--     for (k = 0; k < b; k = k + 1) { if (k == a) continue; int t = k; }
--     do { if (b) continue; } while (a || b);
--     a = add(a - 1, add(b, (a || b)));
--   }
--   return k;
-- }
abbrev pub walk : Function
walk = record {
  name = 2;
  params = 0 ∷ 1 ∷ [];
  body = stmt.Declare 2 None
      ∷ stmt.Assign 2 (Binary binary.AndAlso (Var 0) (Var 1))
      ∷ stmt.For [] None None
      (stmt.Block
      (stmt.Empty ∷
      (stmt.If (Binary binary.AndAlso (Var 0) (Unary unary.Not (Var 1)))
      (stmt.Break 51) None) ∷
      (stmt.For
      ((stmt.Assign 2 (Lit (pos 0))) ∷ []) (Some (Binary binary.Lt (Var 2) (Var 1)))
      (Some (stmt.Assign 2 (Binary binary.Add (Var 2) (Lit (pos 1)))))
      (stmt.Block
      ((stmt.If (Binary binary.Eq (Var 2) (Var 0))
      (stmt.Continue 76) None) ∷
      (stmt.Declare 3 (Some (Var 2))) ∷ []))) ∷
      (stmt.DoWhile
      (stmt.Block
      ((stmt.If (Var 1)
      (stmt.Continue 90) None) ∷ [])) (Binary binary.OrElse (Var 0) (Var 1))) ∷
      (stmt.Assign 0 (Apply 2 ((Binary binary.Sub (Var 0) (Lit (pos 1))) ∷
      (Apply 2 ((Var 1) ∷ (Binary binary.OrElse (Var 0) (Var 1)) ∷ [])) ∷ []))) ∷ []))
      ∷ stmt.Return (Var 2)
      ∷ [];
}

-- int add(int x, int y) { {} return x + y; }
abbrev pub add : Function
add = record {
  name = 3;
  params = 0 ∷ 1 ∷ [];
  body = stmt.Block []
      ∷ stmt.Return (Binary binary.Add (Var 0) (Var 1))
      ∷ [];
}

abbrev pub walks : Resolved
walks = program (idle ∷ walk ∷ add ∷ [])

abbrev walks_symbols : List SymInfo
walks_symbols =
    info 2 false true false
    ∷ info 0 false false false
    ∷ info 3 false false false
    ∷ info 3 false false true
    ∷ info 3 false false false
    ∷ info 3 false false false
    ∷ info 4 false false false
    ∷ info 3 false false false
    ∷ info 3 false false false
    ∷ info 3 false false false
    ∷ info 3 false false false
    ∷ info 3 false false false
    ∷ info 3 false false false
    ∷ info 3 false false false
    ∷ info 3 false false true
    ∷ info 3 false false true
    ∷ info 3 false false false
    ∷ info 3 false false false
    ∷ info 3 false false false
    ∷ info 3 false false false
    ∷ info 3 false false false
    ∷ info 3 false false false
    ∷ info 3 false false false
    ∷ info 3 false false false
    ∷ info 3 false false false
    ∷ info 3 false false false
    ∷ info 4 false false false
    ∷ info 3 false false false
    ∷ info 4 true false false
    ∷ info 5 false false false
    ∷ info 5 true false false
    ∷ info 6 false false false
    ∷ info 2 false true false
    ∷ info 0 false false false
    ∷ info 2 false false false
    ∷ []

abbrev walks_rules : List Rule
walks_rules =
    always (s 0 (v0 ∷ v1 ∷ [])) (s 2 (v0 ∷ v1 ∷ number (pos 0) ∷ []))
    ∷ always (s 1 []) (Return (number (pos 0)))
    ∷ where_holds (Ne v0) (s 2 (v0 ∷ v1 ∷ v2 ∷ [])) (s 7 (v0 ∷ v1 ∷ v2 ∷ []))
    ∷ where_holds (Eq v0) (s 2 (v0 ∷ v1 ∷ v2 ∷ [])) (s 5 (v0 ∷ v1 ∷ v2 ∷ []))
    ∷ where_holds (Ne (number (pos 1))) (s 3 (v0 ∷ v1 ∷ v2 ∷ [])) (s 9 (v0 ∷ v1 ∷ v2 ∷ []))
    ∷ where_holds (Eq (number (pos 1))) (s 3 (v0 ∷ v1 ∷ v2 ∷ [])) (s 8 (v0 ∷ v1 ∷ v2 ∷ []))
    ∷ always (s 4 (v0 ∷ v1 ∷ v2 ∷ [])) (s 6 (v0 ∷ v1 ∷ v2 ∷ number (pos 1) ∷ []))
    ∷ always (s 5 (v0 ∷ v1 ∷ v2 ∷ [])) (s 6 (v0 ∷ v1 ∷ v2 ∷ number (pos 0) ∷ []))
    ∷ always (s 6 (v0 ∷ v1 ∷ v2 ∷ v3 ∷ [])) (s 3 (v0 ∷ v1 ∷ v3 ∷ []))
    ∷ where_holds (Ne v1) (s 7 (v0 ∷ v1 ∷ v2 ∷ [])) (s 4 (v0 ∷ v1 ∷ v2 ∷ []))
    ∷ where_holds (Eq v1) (s 7 (v0 ∷ v1 ∷ v2 ∷ [])) (s 5 (v0 ∷ v1 ∷ v2 ∷ []))
    ∷ always (s 8 (v0 ∷ v1 ∷ v2 ∷ [])) (Return v2)
    ∷ always (s 9 (v0 ∷ v1 ∷ v2 ∷ [])) (s 10 (v0 ∷ v1 ∷ v2 ∷ []))
    ∷ where_holds (Ne v0) (s 10 (v0 ∷ v1 ∷ v2 ∷ [])) (s 13 (v0 ∷ v1 ∷ v2 ∷ []))
    ∷ where_holds (Eq v0) (s 10 (v0 ∷ v1 ∷ v2 ∷ [])) (s 11 (v0 ∷ v1 ∷ v2 ∷ []))
    ∷ always (s 11 (v0 ∷ v1 ∷ v2 ∷ [])) (s 15 (v0 ∷ v1 ∷ number (pos 0) ∷ []))
    ∷ always (s 12 (v0 ∷ v1 ∷ v2 ∷ [])) (s 8 (v0 ∷ v1 ∷ v2 ∷ []))
    ∷ where_holds (Ne v1) (s 13 (v0 ∷ v1 ∷ v2 ∷ [])) (s 11 (v0 ∷ v1 ∷ v2 ∷ []))
    ∷ where_holds (Eq v1) (s 13 (v0 ∷ v1 ∷ v2 ∷ [])) (s 12 (v0 ∷ v1 ∷ v2 ∷ []))
    ∷ where_holds (Ne v1) (s 14 (v0 ∷ v1 ∷ v2 ∷ [])) (s 22 (v0 ∷ v1 ∷ v2 ∷ []))
    ∷ where_holds (Eq v1) (s 14 (v0 ∷ v1 ∷ v2 ∷ [])) (s 21 (v0 ∷ v1 ∷ v2 ∷ []))
    ∷ where_holds (Ge (body_difference (body_difference v1 v2) (number (pos 1))))
    (s 15 (v0 ∷ v1 ∷ v2 ∷ []))
    (s 16 (v0 ∷ v1 ∷ v2 ∷ []))
    ∷ where_holds (Ge (minus_one_more (body_difference (body_difference v1 v2) (number (pos 1)))))
    (s 15 (v0 ∷ v1 ∷ v2 ∷ [])) (s 14 (v0 ∷ v1 ∷ v2 ∷ []))
    ∷ where_holds (Eq (body_difference v2 v0)) (s 16 (v0 ∷ v1 ∷ v2 ∷ [])) (s 19 (v0 ∷ v1 ∷ v2 ∷ []))
    ∷ where_holds (Ne (body_difference v2 v0)) (s 16 (v0 ∷ v1 ∷ v2 ∷ [])) (s 18 (v0 ∷ v1 ∷ v2 ∷ []))
    ∷ always (s 17 (v0 ∷ v1 ∷ v2 ∷ [])) (s 15 (v0 ∷ v1 ∷ body_sum v2 (number (pos 1)) ∷ []))
    ∷ always (s 18 (v0 ∷ v1 ∷ v2 ∷ [])) (s 17 (v0 ∷ v1 ∷ v2 ∷ []))
    ∷ always (s 19 (v0 ∷ v1 ∷ v2 ∷ [])) (s 17 (v0 ∷ v1 ∷ v2 ∷ []))
    ∷ where_holds (Ne v0) (s 20 (v0 ∷ v1 ∷ v2 ∷ [])) (s 24 (v0 ∷ v1 ∷ v2 ∷ []))
    ∷ where_holds (Eq v0) (s 20 (v0 ∷ v1 ∷ v2 ∷ [])) (s 27 (v0 ∷ v1 ∷ v2 ∷ []))
    ∷ where_holds (Ne v0) (s 21 (v0 ∷ v1 ∷ v2 ∷ [])) (s 14 (v0 ∷ v1 ∷ v2 ∷ []))
    ∷ where_holds (Eq v0) (s 21 (v0 ∷ v1 ∷ v2 ∷ [])) (s 23 (v0 ∷ v1 ∷ v2 ∷ []))
    ∷ always (s 22 (v0 ∷ v1 ∷ v2 ∷ [])) (s 21 (v0 ∷ v1 ∷ v2 ∷ []))
    ∷ where_holds (Ne v1) (s 23 (v0 ∷ v1 ∷ v2 ∷ [])) (s 14 (v0 ∷ v1 ∷ v2 ∷ []))
    ∷ where_holds (Eq v1) (s 23 (v0 ∷ v1 ∷ v2 ∷ [])) (s 20 (v0 ∷ v1 ∷ v2 ∷ []))
    ∷ always (s 24 (v0 ∷ v1 ∷ v2 ∷ [])) (s 26 (v0 ∷ v1 ∷ v2 ∷ number (pos 1) ∷ []))
    ∷ always (s 25 (v0 ∷ v1 ∷ v2 ∷ [])) (s 26 (v0 ∷ v1 ∷ v2 ∷ number (pos 0) ∷ []))
    ∷ always (s 26 (v0 ∷ v1 ∷ v2 ∷ v3 ∷ [])) (Frame (symbol 28) (v0 ∷ v1 ∷ v2 ∷ v3 ∷ [])
    (s 32 (v1 ∷ v3 ∷ [])))
    ∷ where_holds (Ne v1) (s 27 (v0 ∷ v1 ∷ v2 ∷ [])) (s 24 (v0 ∷ v1 ∷ v2 ∷ []))
    ∷ where_holds (Eq v1) (s 27 (v0 ∷ v1 ∷ v2 ∷ [])) (s 25 (v0 ∷ v1 ∷ v2 ∷ []))
    ∷ always (Frame (symbol 28) (v0 ∷ v1 ∷ v2 ∷ v3 ∷ []) (Return v4))
    (s 29 (v0 ∷ v1 ∷ v2 ∷ v3 ∷ v4 ∷ []))
    ∷ always (Frame (symbol 28) (v0 ∷ v1 ∷ v2 ∷ v3 ∷ []) (Fail 1)) (Fail 1)
    ∷ always (s 29 (v0 ∷ v1 ∷ v2 ∷ v3 ∷ v4 ∷ []))
    (Frame (symbol 30) (v0 ∷ v1 ∷ v2 ∷ v3 ∷ v4 ∷ [])
    (s 32 (body_sum v0 (scaled_by (negsuc 0) (number (pos 1))) ∷ v4 ∷ [])))
    ∷ always (Frame (symbol 30) (v0 ∷ v1 ∷ v2 ∷ v3 ∷ v4 ∷ []) (Return v5))
    (s 31 (v0 ∷ v1 ∷ v2 ∷ v3 ∷ v4 ∷ v5 ∷ []))
    ∷ always (Frame (symbol 30) (v0 ∷ v1 ∷ v2 ∷ v3 ∷ v4 ∷ []) (Fail 1)) (Fail 1)
    ∷ always (s 31 (v0 ∷ v1 ∷ v2 ∷ v3 ∷ v4 ∷ v5 ∷ [])) (s 3 (v5 ∷ v1 ∷ v2 ∷ []))
    ∷ always (s 32 (v0 ∷ v1 ∷ [])) (s 34 (v0 ∷ v1 ∷ []))
    ∷ always (s 33 []) (Return (number (pos 0)))
    ∷ always (s 34 (v0 ∷ v1 ∷ [])) (Return (body_sum v0 v1))
    ∷ []

abbrev pub walks_parts : RuleParts
walks_parts = record { symbols = walks_symbols; domains = []; rules = walks_rules; fails = 1 }

-- ---- a call and a test; the first function is not reached: eight symbols, ten rules

-- int unused(int x) { return called(x); }
abbrev pub unused : Function
unused = record { name = 1; params = 0 ∷ []; body = stmt.Return (Apply 2 (Var 0 ∷ [])) ∷ [] }

-- int caller(int x) { return called(x); }
abbrev pub caller : Function
caller = record { name = 2; params = 0 ∷ []; body = stmt.Return (Apply 2 (Var 0 ∷ [])) ∷ [] }

-- int called(int x) { if (x) return x; return 1; }
abbrev pub called : Function
called = record {
  name = 3;
  params = 0 ∷ [];
  body = stmt.If (Var 0) (stmt.Return (Var 0)) None ∷ stmt.Return (Lit (pos 1)) ∷ [];
}

abbrev pub calls : Resolved
calls = program (unused ∷ caller ∷ called ∷ [])

abbrev calls_symbols : List SymInfo
calls_symbols =
    info 1 false true false
    ∷ info 0 false false false
    ∷ info 1 true false false
    ∷ info 2 false false false
    ∷ info 1 false true false
    ∷ info 0 false false false
    ∷ info 1 false false false
    ∷ info 1 false false false
    ∷ []

abbrev calls_rules : List Rule
calls_rules =
    always (s 0 (v0 ∷ [])) (Frame (symbol 2) (v0 ∷ []) (s 4 (v0 ∷ [])))
    ∷ always (s 1 []) (Return (number (pos 0)))
    ∷ always (Frame (symbol 2) (v0 ∷ []) (Return v1)) (s 3 (v0 ∷ v1 ∷ []))
    ∷ always (Frame (symbol 2) (v0 ∷ []) (Fail 1)) (Fail 1)
    ∷ always (s 3 (v0 ∷ v1 ∷ [])) (Return v1)
    ∷ where_holds (Ne v0) (s 4 (v0 ∷ [])) (s 7 (v0 ∷ []))
    ∷ where_holds (Eq v0) (s 4 (v0 ∷ [])) (s 6 (v0 ∷ []))
    ∷ always (s 5 []) (Return (number (pos 0)))
    ∷ always (s 6 (v0 ∷ [])) (Return (number (pos 1)))
    ∷ always (s 7 (v0 ∷ [])) (Return v0)
    ∷ []

abbrev pub calls_parts : RuleParts
calls_parts = record { symbols = calls_symbols; domains = []; rules = calls_rules; fails = 1 }

-- of 32-bit integers one failure more is handed on
abbrev ranged_calls_rules : List Rule
ranged_calls_rules =
    always (s 0 (v0 ∷ [])) (Frame (symbol 2) (v0 ∷ []) (s 4 (v0 ∷ [])))
    ∷ always (s 1 []) (Return (number (pos 0)))
    ∷ always (Frame (symbol 2) (v0 ∷ []) (Return v1)) (s 3 (v0 ∷ v1 ∷ []))
    ∷ always (Frame (symbol 2) (v0 ∷ []) (Fail 1)) (Fail 1)
    ∷ always (Frame (symbol 2) (v0 ∷ []) (Fail 2)) (Fail 2)
    ∷ always (s 3 (v0 ∷ v1 ∷ [])) (Return v1)
    ∷ where_holds (Ne v0) (s 4 (v0 ∷ [])) (s 7 (v0 ∷ []))
    ∷ where_holds (Eq v0) (s 4 (v0 ∷ [])) (s 6 (v0 ∷ []))
    ∷ always (s 5 []) (Return (number (pos 0)))
    ∷ always (s 6 (v0 ∷ [])) (Return (number (pos 1)))
    ∷ always (s 7 (v0 ∷ [])) (Return v0)
    ∷ []

abbrev pub ranged_calls_parts : RuleParts
ranged_calls_parts =
    record { symbols = calls_symbols; domains = []; rules = ranged_calls_rules; fails = 2 }

-- ---- results that are tested for being 32-bit integers: fourteen symbols, 24 rules

-- int halves(int x, int y) { return -x / 2 + y % 3; }
abbrev pub halves : Function
halves = record {
  name = 1;
  params = 0 ∷ 1 ∷ [];
  body = stmt.Return (Binary binary.Add
      (Binary binary.Div (Unary unary.Minus (Var 0)) (Lit (pos 2)))
      (Binary binary.Rem (Var 1) (Lit (pos 3))))
      ∷ [];
}

-- int again(int x, int y) { return halves(y, x); }
abbrev pub again : Function
again = record {
  name = 2;
  params = 0 ∷ 1 ∷ [];
  body = stmt.Return (Apply 0 ((Var 1) ∷ (Var 0) ∷ [])) ∷ [];
}

abbrev pub ranges : Resolved
ranges = program (halves ∷ again ∷ [])

abbrev ranges_symbols : List SymInfo
ranges_symbols =
    info 2 false true false
    ∷ info 0 false false false
    ∷ info 2 false false false
    ∷ info 2 false false false
    ∷ info 3 false false false
    ∷ info 3 false false false
    ∷ info 3 false false false
    ∷ info 4 false false false
    ∷ info 4 false false false
    ∷ info 4 false false false
    ∷ info 2 false true false
    ∷ info 0 false false false
    ∷ info 2 true false false
    ∷ info 3 false false false
    ∷ []

-- p - 2147483648, which is 0 or more above the greatest 32-bit integer, and -p - 2147483649, which
-- is below the least
abbrev above_all : Body → Body
above_all p = body_difference p (number (pos 2147483648))

abbrev below_all : Body → Body
below_all p = body_difference (scaled_by (negsuc 0) p) (number (pos 2147483649))

-- the rules at a symbol that fails by the range error where the first is 0 or more
abbrev fails_or : Body → Term → Term → List Rule
fails_or p at on =
    where_holds (Ge p) at (Fail 2) ∷ where_holds (Ge (minus_one_more p)) at on ∷ []

abbrev ranges_rules : List Rule
ranges_rules =
    let minus = scaled_by (negsuc 0) v0 in
    let two = v0 ∷ v1 ∷ [] in
    let three = v0 ∷ v1 ∷ v2 ∷ [] in
    let four = v0 ∷ v1 ∷ v2 ∷ v3 ∷ [] in
    fails_or (above_all minus) (s 0 two) (s 2 two)
    ++ always (s 1 []) (Return (number (pos 0)))
    ∷ fails_or (below_all minus) (s 2 two) (s 3 two)
    ++ where_holds (Eq (number (pos 2))) (s 3 two) (Fail 1)
    ∷ where_holds (Ne (number (pos 2))) (s 3 two)
    (s 4 (v0 ∷ v1 ∷ quotient_of minus (number (pos 2)) ∷ []))
    ∷ fails_or (above_all v2) (s 4 three) (s 5 three)
    ++ fails_or (below_all v2) (s 5 three) (s 6 three)
    ++ where_holds (Eq (number (pos 3))) (s 6 three) (Fail 1)
    ∷ where_holds (Ne (number (pos 3))) (s 6 three)
    (s 7 (v0 ∷ v1 ∷ v2 ∷ remainder_of v1 (number (pos 3)) ∷ []))
    ∷ fails_or (above_all (body_sum v2 v3)) (s 7 four) (s 8 four)
    ++ fails_or (below_all (body_sum v2 v3)) (s 8 four) (s 9 four)
    ++ always (s 9 four) (Return (body_sum v2 v3))
    ∷ always (s 10 two) (Frame (symbol 12) two (s 0 (v1 ∷ v0 ∷ [])))
    ∷ always (s 11 []) (Return (number (pos 0)))
    ∷ always (Frame (symbol 12) two (Return v2)) (s 13 three)
    ∷ always (Frame (symbol 12) two (Fail 1)) (Fail 1)
    ∷ always (Frame (symbol 12) two (Fail 2)) (Fail 2)
    ∷ always (s 13 three) (Return v2)
    ∷ []

abbrev pub ranges_parts : RuleParts
ranges_parts = record { symbols = ranges_symbols; domains = []; rules = ranges_rules; fails = 2 }

-- ---- one function of more parameters than a symbol may have variables

abbrev pub crowded : Resolved
crowded = program (record { name = 1; params = range_with_len 0 129; body = [] } ∷ [])

-- ---- a precondition: x >= 0 && x <= -1

abbrev pub between : Expr
between = Binary binary.AndAlso
    (Binary binary.Ge (Var 0) (Lit (pos 0)))
    (Binary binary.Le (Var 0) (Unary unary.Minus (Lit (pos 1))))

abbrev pub between_rows : List Row
between_rows =
    Ge (body_difference v0 (number (pos 0)))
    ∷ Ge (body_difference (scaled_by (negsuc 0) (number (pos 1))) v0) ∷ []
