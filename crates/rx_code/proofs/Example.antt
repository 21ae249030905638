-- What the programs of the example are compiled to.
use Rattle.std.proofs.Common.{◌≡◌, ◌∙◌, ap, ℕ, ◌&&◌, true, pos, List, [], ◌∷◌, length}
use Rattle.c_ast.specs.declared.expr.UnOp.TheVariants as un
use Rattle.c_ast.specs.declared.expr.BinOp.TheVariants as bin
use Rattle.c_ast.specs.declared.expr.Expr.TheVariants.{Lit, Var, Unary, Binary}
use Rattle.c_ast.specs.declared.program.Function.{Function}
use Rattle.rx_plain.specs.Formed.{Formed, pure}
use Rattle.rx_poly.specs.Constants.{number, variable}
use Rattle.c_ast.specs.declared.integers.Integers.{Integers}
use Rattle.c_ast.specs.declared.integers.Integers.TheVariants.{Unbounded, Bits32}
use Rattle.rx_code.specs.Example.{again, halves, ranges, ranges_parts, walks, walks_parts, idle, walk, add, sums, sums_parts, division, division_parts, forms, forms_parts, up, rec, dropped, zero, mixed, between, between_rows}
use Rattle.rx_code.specs.Pieces.{no_code, append_code, after}
use Rattle.rx_code.specs.Preconditions.{Read, of_polynomial, unary_read, binary_read, read_expr, pre_rows}
use Rattle.rx_code.specs.Programs.{body_code, places_code, program_code}
use Rattle.rx_code.specs.Rules.{parts_of}
use Rattle.rx_code.specs.Statements.{Compiled}
use Rattle.rx_code.specs.declared.code.Code.{Code}
use Rattle.rx_code.specs.declared.kind.OpKind.TheVariants.{Comparing}
use Rattle.rx_code.proofs.ReadEquations.{read-Lit, read-Var, read-Unary, read_of}
use Rattle.rx_code.proofs.Computing.{StmtsAre, declare_zero, empty, for_ever, lit, var, unary, binary, choose, apply, no_argument, argument, declare, assign, returns, breaks, continues, no_part, part, if_else, while_loop, do_loop, for_loop, block, no_statement, statement}

-- a program of one function, and of two, from the statements of their bodies
abbrev one : ℕ → List Compiled → Code
one n ts = append_code (body_code 0 n ts 0).form no_code

abbrev two : ℕ → List Compiled → ℕ → List Compiled → Code
two n ts m us =
    let c = (body_code 0 n ts 0).form in
    append_code c (append_code (body_code 1 m us (after 0 c)).form no_code)

-- two functions at places 1 and 2
abbrev pair : ℕ → List Compiled → ℕ → List Compiled → Formed Code
pair n ts m us =
    let c = body_code 1 n ts 0 in
    let d = body_code 2 m us (after 0 c.form) in
    record {
      form = append_code c.form (append_code d.form no_code);
      within = c.within &&
          (d.within && true);
    }

one_of : (f : Function) {ts : List Compiled} → StmtsAre Unbounded f.body ts →
    parts_of Unbounded (places_code Unbounded (f ∷ []) (0 ∷ []) 0).form ≡
    parts_of Unbounded (one (length f.params) ts)
one_of f p i = parts_of Unbounded (one (length f.params) (p.are i))

two_of : (integers : Integers) (f g : Function) {ts us : List Compiled} →
    StmtsAre integers f.body ts → StmtsAre integers g.body us
    → parts_of integers (places_code integers (f ∷ g ∷ []) (0 ∷ 1 ∷ []) 0).form ≡
    parts_of integers (two (length f.params) ts (length g.params) us)
two_of integers f g p q i =
    parts_of integers (two (length f.params) (p.are i) (length g.params) (q.are i))

-- of three functions the last two
pub last_two : (integers : Integers) (e f g : Function) {ts us : List Compiled} →
    StmtsAre integers f.body ts → StmtsAre integers g.body us
    → places_code integers (e ∷ f ∷ g ∷ []) (1 ∷ 2 ∷ []) 0 ≡
    pair (length f.params) ts (length g.params) us
last_two integers e f g p q i = pair (length f.params) (p.are i) (length g.params) (q.are i)

pub division_compiled : parts_of Unbounded (program_code Unbounded division (0 ∷ 1 ∷ [])).form ≡
    division_parts
division_compiled =
    two_of Unbounded dropped zero (statement (returns (binary bin.Mul (lit (pos 0))
    (binary bin.Div (lit (pos 1)) (var 0)))) no_statement)
    (statement (returns (lit (pos 0))) no_statement)

pub sums_compiled : parts_of Unbounded (program_code Unbounded sums (0 ∷ 1 ∷ [])).form ≡ sums_parts
sums_compiled =
    two_of Unbounded up rec (statement (declare 1 (lit (pos 0)))
    (statement (for_loop (statement (declare 2 (lit (pos 1))) no_statement)
    (binary bin.Le (var 2) (var 0)) (part (assign 2 (binary bin.Add (var 2) (lit (pos 1)))))
    (assign 1 (binary bin.Add (var 1) (var 2)))) (statement (returns (var 1)) no_statement)))
    (statement (if_else (binary bin.Le (var 0) (lit (pos 0))) (returns (lit (pos 0))) no_part)
    (statement (returns (binary bin.Add (var 0)
    (apply 1 (argument (binary bin.Sub (var 0) (lit (pos 1))) no_argument)))) no_statement))

pub forms_compiled : parts_of Unbounded (program_code Unbounded forms (0 ∷ [])).form ≡ forms_parts
forms_compiled =
    one_of mixed (statement (do_loop (block (statement
    (if_else (binary bin.OrElse (unary un.Not (binary bin.Lt (var 0) (var 1)))
    (binary bin.Eq (var 0) (lit (pos 3)))) (breaks 25)
    (part (assign 0 (binary bin.Rem (var 0) (var 1)))))
    (statement (while_loop (binary bin.AndAlso (binary bin.Gt (var 0) (lit (pos 0))) (var 1))
    (block (statement (declare 2 (unary un.Minus (var 0)))
    (statement (assign 1 (var 2)) (statement (if_else (binary bin.Ge (var 1) (var 0)) (continues 57)
    no_part) no_statement))))) no_statement)))
    (choose (var 0) (binary bin.Ne (var 1) (lit (pos 1)))
    (binary bin.Sub (binary bin.Lt (var 0) (lit (pos 2))) (var 1))))
    (statement (returns (unary un.Plus (binary bin.Gt (var 0) (var 1)))) no_statement))

pub walks_compiled : parts_of Unbounded (program_code Unbounded walks (1 ∷ 2 ∷ [])).form ≡
    walks_parts
walks_compiled i = parts_of Unbounded (last_two Unbounded idle walk add
    (statement (declare_zero 2) (statement (assign 2 (binary bin.AndAlso (var 0) (var 1)))
    (statement (for_ever no_statement no_part
    (block (statement empty (statement (if_else
    (binary bin.AndAlso (var 0) (unary un.Not (var 1))) (breaks 51) no_part)
    (statement (for_loop (statement (assign 2 (lit (pos 0))) no_statement)
    (binary bin.Lt (var 2) (var 1)) (part (assign 2 (binary bin.Add (var 2) (lit (pos 1)))))
    (block (statement (if_else (binary bin.Eq (var 2) (var 0)) (continues 76) no_part)
    (statement (declare 3 (var 2)) no_statement))))
    (statement (do_loop (block (statement (if_else (var 1) (continues 90) no_part)
    no_statement)) (binary bin.OrElse (var 0) (var 1)))
    (statement (assign 0 (apply 2 (argument (binary bin.Sub (var 0) (lit (pos 1)))
    (argument (apply 2 (argument (var 1) (argument (binary bin.OrElse (var 0) (var 1))
    no_argument))) no_argument)))) no_statement)))))))
    (statement (returns (var 2)) no_statement))))
    (statement (block no_statement) (statement (returns (binary bin.Add (var 0) (var 1)))
    no_statement)) i).form

pub ranges_compiled : parts_of Bits32 (program_code Bits32 ranges (0 ∷ 1 ∷ [])).form ≡
    ranges_parts
ranges_compiled =
    two_of Bits32 halves again (statement (returns (binary bin.Add
    (binary bin.Div (unary un.Minus (var 0)) (lit (pos 2)))
    (binary bin.Rem (var 1) (lit (pos 3))))) no_statement)
    (statement (returns (apply 0 (argument (var 1) (argument (var 0) no_argument)))) no_statement)

pub between_read : (pre_rows between).form ≡ between_rows
between_read =
    let zero_of = of_polynomial (pure (number (pos 0))) in
    let one_of = of_polynomial (pure (number (pos 1))) in
    let x = of_polynomial (pure (variable 0)) in
    let minus = unary_read un.Minus one_of in
    let minus_is : read_expr (Unary un.Minus (Lit (pos 1))) ≡ minus =
    read-Unary un.Minus (Lit (pos 1)) ∙ ap (unary_read un.Minus) (read-Lit (pos 1)) in
    let below = read_of bin.Ge (Var 0) (Lit (pos 0)) x zero_of (read-Var 0) (read-Lit (pos 0)) in
    let above = read_of bin.Le (Var 0) (Unary un.Minus (Lit (pos 1))) x minus (read-Var 0) minus_is
    in
    ap (λ (r : Read). r.rows.form) (read_of bin.AndAlso (Binary bin.Ge (Var 0) (Lit (pos 0)))
    (Binary bin.Le (Var 0) (Unary un.Minus (Lit (pos 1))))
    (binary_read Comparing bin.Ge x zero_of) (binary_read Comparing bin.Le x minus) below above)
