-- A `for` and an `if` after their parts.
use Rattle.std.proofs.Common.{◌≡◌, ◌∙◌, refl, sym, ap, subst, ◌&&◌, ℕ, ◌+◌, Option, Some, Result, Ok, Err, List, [], ◌∷◌, length, map, option_map, arith}
use Rattle.std.proofs.lemmas.Bool.{and_from}
use Rattle.rx_plain.proofs.Naturals.{one_moved}
use Rattle.rx_plain.proofs.Booleans.{and_assoc}
use Rattle.rx_plain.specs.Formed.{Formed}
use Rattle.rx_poly.specs.declared.poly_end.PolyEnd.{PolyEnd}
use Rattle.c_ast.specs.declared.integers.Integers.{Integers}
use Rattle.c_ast.specs.declared.expr.Expr.{Expr}
use Rattle.c_ast.specs.declared.stmt.Stmt.{Stmt}
use Rattle.c_ast.specs.declared.stmt.Stmt.TheVariants.{For, If}
use Rattle.rx_code.specs.Codes.{test_or_one}
use Rattle.rx_code.specs.Expressions.{Asked, expr_code}
use Rattle.rx_code.specs.Pieces.{a_point, after, append_code, is_room, marks_head, opens, point}
use Rattle.rx_code.specs.Statements as table
use Rattle.rx_code.specs.Statements.{Compiled, change_turn_code, for_code, list_code, loop_code, slots_after_all, stmt_code}
use Rattle.rx_code.specs.declared.code.Code.{Code}
use Rattle.rx_code.specs.declared.point.Point.{Point}
use Rattle.rx_code.proofs.StmtEquations.{code-For, code-If}
use Rattle.rx_exprs.specs.Compiles.{CompilesCode, condition_at}
use Rattle.rx_exprs.proofs.Choices.{IsOpened, one_more}
use Rattle.rx_exprs.proofs.Following.{append_code_assoc, failed, followed, opened-append, then}
use Rattle.rx_stmts.specs.Statements.{CompilesHead, CompilesTurn, Headed, as_places, head_at, head_code, stmt_at}
use Rattle.rx_stmts.specs.declared.places.Places.{Places}

-- how many symbols there are after a piece
pub symbols_after : (old one : Code) (c : Formed Code) (next : ℕ) → CompilesCode old one (Ok tt) c →
    length old.opened ≡ next → length one.opened ≡ after next c.form
symbols_after old one c next is count =
    ap (λ (x : Code). length x.opened) is.0 ∙ opened-append old c.form ∙
    ap (λ k. k + length c.form.opened) count

-- ---- a `for` is its first part, and then its loop

abbrev headed : Headed → Formed Code
headed x = record { form = x.code; within = x.within }

add_none : (n : ℕ) → n + 0 ≡ n
add_none n = omega arith

for_is : (ss : List Compiled) (e : Asked) (u : Option Compiled) (t : Compiled) (at : table.Places)
    (next : ℕ)
    → for_code ss e u t at next ≡ followed (headed (head_code ss at next))
    (loop_code e u t (head_code ss at next).at at (after next (head_code ss at next).code))
for_is [] e u t at next = ap (loop_code e u t at.at at) (sym (add_none next))
for_is (s ∷ ss) e u t at next =
    let n = slots_after_all (s ∷ ss) at.at.width in
    let h = point next n in
    let o = opens (a_point n ∷ []) in
    let c = list_code (s ∷ ss) (record at { to = h }) (next + 1) in
    let d = loop_code e u t h at (after (next + 1) c.form) in
    let d0 = loop_code e u t h at (after next (append_code o c.form)) in
    let same : d ≡ d0 = ap (loop_code e u t h at) (one_moved next (length c.form.opened)) in
    (λ i. record {
      form = sym (append_code_assoc o c.form d.form) i;
      within =
          sym (and_assoc (is_room next n) c.within d.within) i;
    })
    ∙ ap (followed (record { form = append_code o c.form; within = is_room next n && c.within }))
    same

-- the loop after the first part
pub for_compiled : (integers : Integers) (s : Stmt) (first : List Stmt) (test : Option Expr)
    (change : Option Stmt)
    (inner : Stmt) (old one new : Code) (p : Places) (h : Point)
    (result : Result (Unit {0}) PolyEnd)
    → s ≡ For first test change inner → CompilesHead old one (Ok h) (head_at integers first p old)
    → CompilesCode one new result (loop_code (expr_code integers (test_or_one test))
    (option_map (stmt_code integers) change) (stmt_code integers inner) h (as_places p)
    (length one.opened))
    → CompilesCode old new result (stmt_at integers s p old)
for_compiled integers s first test change inner old one new p h result is begun compiled =
    let n = length old.opened in
    let e = expr_code integers (test_or_one test) in
    let u = option_map (stmt_code integers) change in
    let t = stmt_code integers inner in
    let x = head_at integers first p old in
    let rest = loop_code e u t x.at (as_places p) (after n x.code) in
    let count : length one.opened ≡ after n x.code = ap (λ (c : Code). length c.opened) begun.0 ∙
    opened-append old x.code in
    let moves : loop_code e u t h (as_places p) (length one.opened) ≡ rest = λ i.
    loop_code e u t (begun.1 i) (as_places p) (count i) in
    let whole : stmt_at integers s p old ≡ followed (headed x) rest =
    ap (λ (v : Stmt). stmt_at integers v p old) is ∙ ap (λ (c : Compiled). c.code (as_places p) n)
    (code-For integers first test change inner)
    ∙ for_is (map (stmt_code integers) first) e u t (as_places p) n in
    subst (λ (c : Formed Code). CompilesCode old new result c) (sym whole)
    (then old one new (headed x) rest result (begun.0, begun.2)
    (subst (λ (c : Formed Code). CompilesCode one new result c) moves compiled))

-- ---- a turn with a change

-- the points of the turn, its test, its body and its change
module _ (e : Asked) (u t : Compiled) (h : Point) (at : table.Places) (next : ℕ) where
  abbrev pub y : Point
  y = point next h.width

  abbrev pub k : Point
  k = point (next + 1) h.width

  abbrev pub points : Formed Code
  points =
      record {
        form = append_code (marks_head h.symbol)
            (opens (a_point h.width ∷ a_point h.width ∷ []));
        within = is_room next h.width &&
            is_room (next + 1) h.width;
      }

  abbrev pub tests : Formed Code
  tests = e.condition h y at.to (next + 2)

  abbrev pub body : Formed Code
  body =
      t.code (record { at = y; to = k; break_to = at.to; continue_to = k })
      (after (next + 2) tests.form)

  abbrev pub changes : Formed Code
  changes = u.code (record at { at = k; to = h }) (after (after (next + 2) tests.form) body.form)

  pub turn_is : change_turn_code e u t h at next ≡
      followed points (followed tests (followed body changes))
  turn_is i = record {
    form =
        sym (append_code_assoc (marks_head h.symbol)
        (opens (a_point h.width ∷ a_point h.width ∷ []))
        (followed tests (followed body changes)).form) i;
    within =
        sym (and_assoc (is_room next h.width) (is_room (next + 1) h.width)
        (followed tests (followed body changes)).within) i;
  }

-- what is known after the points of a turn: the test, and after it the body, and after that the
-- change are those of the turn
module _ (integers : Integers) (test : Option Expr) (change inner : Stmt) (one two : Code)
    (p : Places) (h y1 k1 : Point)
    (marked : CompilesTurn one two (Ok (y1, k1)) h) where
  abbrev e : Asked
  e = expr_code integers (test_or_one test)

  abbrev n : ℕ
  n = length one.opened

  abbrev the_tests : Formed Code
  the_tests = tests e (stmt_code integers change) (stmt_code integers inner) h (as_places p) n

  abbrev the_body : Formed Code
  the_body = body e (stmt_code integers change) (stmt_code integers inner) h (as_places p) n

  abbrev the_changes : Formed Code
  the_changes = changes e (stmt_code integers change) (stmt_code integers inner) h (as_places p) n

  abbrev the_points : Formed Code
  the_points = points e (stmt_code integers change) (stmt_code integers inner) h (as_places p) n

  turn : Formed Code
  turn = change_turn_code e (stmt_code integers change) (stmt_code integers inner) h (as_places p) n

  two_more : (m : ℕ) → m + 2 ≡ m + 2
  two_more m = refl

  counted : length two.opened ≡ n + 2
  counted = ap (λ (c : Code). length c.opened) marked.0 ∙ opened-append one the_points.form

  tests_are : condition_at integers (test_or_one test) h y1 p.to two ≡ the_tests
  tests_are i = e.condition h (marked.1 i) p.to (counted i)

  -- from there on
  from_points : (new : Code) (result : Result (Unit {0}) PolyEnd) →
      CompilesCode two new result (followed the_tests (followed the_body the_changes))
      → CompilesCode one new result (change_turn_code e (stmt_code integers change)
      (stmt_code integers inner) h
      (as_places p) n)
  from_points new result compiled =
      subst (λ (c : Formed Code). CompilesCode one new result c)
      (sym (turn_is e (stmt_code integers change) (stmt_code integers inner) h (as_places p) n))
      (then one two new the_points (followed the_tests (followed the_body the_changes)) result
      (marked.0, marked.3) compiled)

  pub test_fails : (new : Code) (r : PolyEnd) →
      CompilesCode two new (Err r) (condition_at integers (test_or_one test) h y1 p.to two)
      → CompilesCode one new (Err r) (change_turn_code e (stmt_code integers change)
      (stmt_code integers inner) h
      (as_places p) n)
  test_fails new r compiled =
      from_points new (Err r) (failed two new the_tests (followed the_body the_changes) r
      (λ large. sym (ap (λ (c : Formed Code). c.within) tests_are) ∙ compiled large))

  module _ (three : Code) (tested : CompilesCode two three (Ok tt)
      (condition_at integers (test_or_one test) h y1 p.to two)) where
    tested_so : CompilesCode two three (Ok tt) the_tests
    tested_so = subst (λ (c : Formed Code). CompilesCode two three (Ok tt) c) tests_are tested

    abbrev in_turn : Places
    in_turn = record { at = y1; to = k1; break_to = p.to; continue_to = k1 }

    counted_three : length three.opened ≡ after (n + 2) the_tests.form
    counted_three = symbols_after two three the_tests (n + 2) tested_so counted

    body_is : stmt_at integers inner in_turn three ≡ the_body
    body_is i =
        (stmt_code integers inner).code (record {
          at = marked.1 i;
          to = marked.2 i;
          break_to = p.to;
          continue_to = marked.2 i;
        }) (counted_three i)

    pub body_fails : (new : Code) (r : PolyEnd) →
        CompilesCode three new (Err r) (stmt_at integers inner in_turn three)
        → CompilesCode one new (Err r) (change_turn_code e (stmt_code integers change)
        (stmt_code integers inner) h
        (as_places p) n)
    body_fails new r compiled =
        from_points new (Err r) (then two three new the_tests (followed the_body the_changes)
        (Err r) tested_so
        (failed three new the_body the_changes r
        (λ large. sym (ap (λ (c : Formed Code). c.within) body_is) ∙ compiled large)))

    pub turned : (four new : Code) (result : Result (Unit {0}) PolyEnd) →
        CompilesCode three four (Ok tt) (stmt_at integers inner in_turn three)
        → CompilesCode four new result (stmt_at integers change
        (record { at = k1; to = h; break_to = p.break_to; continue_to = p.continue_to }) four)
        → CompilesCode one new result (change_turn_code e (stmt_code integers change)
        (stmt_code integers inner) h
        (as_places p) n)
    turned four new result bodied compiled =
        let bodied_so : CompilesCode three four (Ok tt) the_body =
        subst (λ (c : Formed Code). CompilesCode three four (Ok tt) c) body_is bodied in
        let count : length four.opened ≡ after (after (n + 2) the_tests.form) the_body.form =
        symbols_after three four the_body (after (n + 2) the_tests.form) bodied_so counted_three
        in
        let changes_are : stmt_at integers change (record
        { at = k1; to = h; break_to = p.break_to; continue_to = p.continue_to }) four ≡
        the_changes =
        λ i. (stmt_code integers change).code (record {
          at = marked.2 i;
          to = h;
          break_to = p.break_to;
          continue_to = p.continue_to;
        }) (count i) in
        from_points new result (then two three new the_tests (followed the_body the_changes) result
        tested_so
        (then three four new the_body the_changes result bodied_so
        (subst (λ (c : Formed Code). CompilesCode four new result c) changes_are compiled)))

-- ---- `if` with `else`

pub if_else_compiled : (integers : Integers) (s : Stmt) (test : Expr) (inner other : Stmt)
    (old one two three four new : Code) (p : Places) (y1 w1 : Point)
    (result : Result (Unit {0}) PolyEnd)
    → s ≡ If test inner (Some other) → IsOpened old one y1 p.at.width →
    IsOpened one two w1 p.at.width
    → CompilesCode two three (Ok tt) (condition_at integers test p.at y1 w1 two)
    → CompilesCode three four (Ok tt) (stmt_at integers inner
    (record { at = y1; to = p.to; break_to = p.break_to; continue_to = p.continue_to }) three)
    → CompilesCode four new result (stmt_at integers other
    (record { at = w1; to = p.to; break_to = p.break_to; continue_to = p.continue_to }) four)
    → CompilesCode old new result (stmt_at integers s p old)
if_else_compiled integers s test inner other old one two three four new p y1 w1 result is opened_y
    opened_w
    tested first second =
    let n = length old.opened in
    let width = p.at.width in
    let o = opens (a_point width ∷ []) in
    let y0 = point n width in
    let w0 = point (n + 1) width in
    let rooms : Formed Code = record {
      form = opens (a_point width ∷ a_point width ∷ []);
      within =
          is_room n width && is_room (n + 1) width;
    } in
    let c = (expr_code integers test).condition p.at y0 w0 (n + 2) in
    let d = (stmt_code integers inner).code (record {
      at = y0;
      to = p.to;
      break_to = p.break_to;
      continue_to = p.continue_to;
    }) (after (n + 2) c.form) in
    let f = (stmt_code integers other).code (record {
      at = w0;
      to = p.to;
      break_to = p.break_to;
      continue_to = p.continue_to;
    }) (after (after (n + 2) c.form) d.form) in
    let count_one = one_more old one y1 width opened_y in
    let count_two : length two.opened ≡ n + 2 = let m = one_more one two w1 width opened_w in
    omega (arith, count_one, m) in
    let w_is : w1 ≡ w0 = opened_w.is ∙ ap (λ k. point k width) count_one in
    let rooms_made : CompilesCode old two (Ok tt) rooms = (
      opened_w.code ∙ ap (λ (x : Code). append_code x o) opened_y.code ∙ append_code_assoc old o o,
      and_from (is_room n width) (is_room (n + 1) width) opened_y.room
          (sym (ap (λ k. is_room k width) count_one) ∙ opened_w.room),
    ) in
    let c_same : condition_at integers test p.at y1 w1 two ≡ c = λ i.
    (expr_code integers test).condition p.at (opened_y.is i) (w_is i) (count_two i) in
    let tested_so : CompilesCode two three (Ok tt) c =
    subst (λ (x : Formed Code). CompilesCode two three (Ok tt) x) c_same tested in
    let count_three = symbols_after two three c (n + 2) tested_so count_two in
    let d_same : stmt_at integers inner (record {
      at = y1;
      to = p.to;
      break_to = p.break_to;
      continue_to =
          p.continue_to;
    }) three ≡ d =
    λ i. (stmt_code integers inner).code (record {
      at = opened_y.is i;
      to = p.to;
      break_to = p.break_to;
      continue_to = p.continue_to;
    }) (count_three i) in
    let first_so : CompilesCode three four (Ok tt) d =
    subst (λ (x : Formed Code). CompilesCode three four (Ok tt) x) d_same first in
    let count_four = symbols_after three four d (after (n + 2) c.form) first_so count_three in
    let f_same : stmt_at integers other (record {
      at = w1;
      to = p.to;
      break_to = p.break_to;
      continue_to =
          p.continue_to;
    }) four ≡ f =
    λ i. (stmt_code integers other).code (record {
      at = w_is i;
      to = p.to;
      break_to = p.break_to;
      continue_to = p.continue_to;
    }) (count_four i) in
    let whole : stmt_at integers s p old ≡ followed rooms (followed c (followed d f)) =
    ap (λ (v : Stmt). stmt_at integers v p old) is ∙ ap (λ (v : Compiled). v.code (as_places p) n)
    (code-If integers test inner (Some other))
    ∙ (λ i. record {
      form = append_code rooms.form (append_code c.form (append_code d.form f.form));
      within = sym (and_assoc (is_room n width) (is_room (n + 1) width)
          (c.within && (d.within && f.within))) i;
    }) in
    subst (λ (x : Formed Code). CompilesCode old new result x) (sym whole)
    (then old two new rooms (followed c (followed d f)) result rooms_made
    (then two three new c (followed d f) result tested_so
    (then three four new d f result first_so (subst
    (λ (x : Formed Code). CompilesCode four new result x) f_same second))))

-- an `if` and a `for` of equal parts
pub same_if : (e : Expr) (s t u v : Stmt) (o : Option Stmt) → o ≡ Some u → s ≡ t → u ≡ v →
    If e s o ≡ If e t (Some v)
same_if e s t u v o is first second = ap (If e s) is ∙ (λ i. If e (first i) (Some (second i)))

pub same_for : (first other : List Stmt) (test : Option Expr) (change more : Option Stmt)
    (inner next : Stmt) → first ≡ other → change ≡ more → inner ≡ next
    → For first test change inner ≡ For other test more next
same_for first other test change more inner next p q r i = For (p i) test (q i) (r i)
